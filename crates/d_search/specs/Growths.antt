-- What a search holds between its splits. Our own words; only calls of this crate cite the parts.
use Rattle.std.specs.Prelude.{◌≡◌, ◌⊎◌, ℕ, ◌+◌, ◌<◌, ◌≤◌, ⊤, ℤ, List, [], ◌∷◌, ◌++◌, Option, Some, None, Bool, false, length, slice_get, slice_set, option_map, MatchOption, sum_by}
use Rattle.std.specs.Vec.{vec_capacity}
use Rattle.d_box.specs.declared.space.Space.{Space}
use Rattle.d_box.specs.declared.space.Split.{Split}
use Rattle.d_box.specs.declared.space.Split.TheVariants.{Total, Peak}
use Rattle.d_box.specs.declared.slopes.Slopes.{Slopes}
use Rattle.d_bill.specs.Inputs.{Inputs}
use Rattle.d_bound.specs.declared.bounder.Bounder.{Bounder}
use Rattle.d_bound.specs.Bounders.{IsBounderOf}
use Rattle.d_bound.specs.BoxLaws.{IsAtMost}
use Rattle.d_bound.specs.Roots.{IsProblemBox}
use Rattle.d_front.specs.declared.key.Key.{Key}
use Rattle.d_search.specs.declared.growth.Growth.{Growth}
use Rattle.d_search.specs.declared.tree.TreeNode.{TreeNode}
use Rattle.d_search.specs.declared.outcome.Verdict.{Verdict}
use Rattle.d_search.specs.Rules.{Rules, IsBelow}
use Rattle.d_search.specs.Trees.{key_of, bill_at, leaf_of, split_node}
use Rattle.d_search.specs.Grown.{IsGrown}
use Rattle.d_search.specs.Outcomes.{IsKept, IsStop}
use Rattle.d_search.specs.Problems.{rules_of}

-- the list of what is there
abbrev pub one_key : Option Key → List Key
one_key None = []
one_key (Some key) = key ∷ []

-- the keys of nodes in a row, the first of which has this number
unfoldable pub open_keys : Rules → ℕ → List TreeNode → List Key
open_keys r number [] = []
open_keys r number (n ∷ nodes) = one_key (key_of r number n) ++ open_keys r (number + 1) nodes

-- these keys in some order are those of the nodes: whatever is summed over both gives the same
abbrev pub IsFrontOf : Rules → List Key → List TreeNode → Type 0
IsFrontOf r keys nodes = (f : Key → ℕ) → sum_by f keys ≡ sum_by f (open_keys r 0 nodes)

-- the least bill so far is kept, and the schedule of the first node that has it; no node has a bill where none is kept
abbrev pub IsKeptSoFar : Rules → List TreeNode → Option ℤ → List ℕ → Type 0
IsKeptSoFar r nodes None modes = (number : ℕ) → bill_at nodes number ≡ None
IsKeptSoFar r nodes (Some bill) modes = IsKept r nodes bill modes

-- each node is of a box that goes from candidate to candidate
abbrev pub AreBoxed : List (List ℤ) → List TreeNode → Type 0
AreBoxed lists nodes = (number : ℕ) (n : TreeNode) → slice_get nodes number ≡ Some n → IsProblemBox lists n.space

-- the nodes, the keys of their open leaves but the one that was taken out, the least bill and its schedule
pub record IsHeld (i : Inputs) (lists : List (List ℤ)) (g : Growth) (out : Option Key) : Type 0 where
  pub few : g.front.room ≤ 65535
  pub space : g.front.room ≤ vec_capacity g.nodes
  pub within : length g.nodes.items ≤ g.front.room
  pub front : IsFrontOf (rules_of i lists) (one_key out ++ g.front.keys) g.nodes.items
  pub least : IsKeptSoFar (rules_of i lists) g.nodes.items g.bill g.kept.items
  pub boxed : AreBoxed lists g.nodes.items
  pub kept : length g.kept.items ≡ length i.net
  pub trial : length g.trial.items ≡ length i.net

-- the key of a leaf with this bound; none where it has no bound
abbrev pub key_with : Option ℤ → Bool → ℕ → Option Key
key_with bound point number = option_map (λ (b : ℤ). record { bound = b; point = point; node = number }) bound

-- the trial took the place of what was kept, since its bill is less
pub record IsExchanged (least : Option ℤ) (kept trial : List ℕ) (bill : Option ℤ) (new_least : Option ℤ) (new_kept new_trial : List ℕ) : Type 0 where
  pub less : IsBelow bill least
  pub least_is : new_least ≡ bill
  pub kept_is : new_kept ≡ trial
  pub trial_is : new_trial ≡ kept

-- what was kept stays, since the trial's bill isn't less
pub record IsUnchanged (least : Option ℤ) (kept trial : List ℕ) (bill : Option ℤ) (new_least : Option ℤ) (new_kept new_trial : List ℕ) : Type 0 where
  pub more : IsAtMost least bill
  pub least_is : new_least ≡ least
  pub kept_is : new_kept ≡ kept
  pub trial_is : new_trial ≡ trial

-- the lesser of both bills is kept with its schedule, of equals the older
abbrev pub HasKept : Option ℤ → List ℕ → List ℕ → Option ℤ → Option ℤ → List ℕ → List ℕ → Type 0
HasKept least kept trial bill new_least new_kept new_trial =
    IsExchanged least kept trial bill new_least new_kept new_trial ⊎ IsUnchanged least kept trial bill new_least new_kept new_trial

-- why the search ends before this first leaf is split; None says that it is split
abbrev pub IsNext : ℕ → ℕ → Option ℤ → Key → Option Verdict → Type 0
IsNext budget count bill key None = IsBelow (Some key.bound) bill × (key.point ≡ false) × (count + 2 ≤ budget)
IsNext budget count bill key (Some verdict) = (least : ℤ) → bill ≡ Some least → IsStop budget count verdict (Some key) least

-- the split is that of a total, or of the peak of one of so many groups
abbrev pub IsGroupThere : ℕ → Split → Type 0
IsGroupThere count (Total index at) = ⊤
IsGroupThere count (Peak group at) = group < count

-- a split of a box, with its halves
pub record IsHalved (r : Rules) (space : Space) (split : Split) (left right : Space) : Type 0 where
  pub some : r.split_of space ≡ Some split
  pub left_is : left ≡ r.left_half space split
  pub right_is : right ≡ r.right_half space split

-- what was found for a box: a split with its halves; none where it can't be split
abbrev pub HasHalves : Rules → Space → Option Split → Space → Space → Type 0
HasHalves r space found left right = MatchOption found (r.split_of space ≡ None) (λ split. IsHalved r space split left right)

-- the node of this number was split, and its halves get the next two numbers
abbrev pub HasMark : List TreeNode → ℕ → Split → List TreeNode → Type 0
HasMark before number split after =
    (n : TreeNode) → slice_get before number ≡ Some n → after ≡ slice_set before number (split_node n split (length before))

-- one more node: that of a box whose parent has these slopes
abbrev pub HasLeaf : Inputs → List (List ℤ) → Growth → Space → Option Slopes → Growth → Type 0
HasLeaf i lists before space parent after = after.nodes.items ≡ before.nodes.items ++ leaf_of (rules_of i lists) space parent ∷ []

-- a search between two splits: its bounder is that of the problem, its nodes were grown, no key is out, and its room is that of the budget
pub record IsGrowing (i : Inputs) (b : Bounder) (budget : ℕ) (g : Growth) : Type 0 where
  pub bounder : IsBounderOf i b
  pub grown : IsGrown (rules_of i b.candidates) g.nodes.items
  pub held : IsHeld i b.candidates g None
  pub places : g.front.room ≡ budget
