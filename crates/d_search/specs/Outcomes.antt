-- What a search answers. All of it is our own rule.
use Rattle.std.specs.Prelude.{◌≡◌, ℕ, ◌+◌, ◌<◌, ◌≤◌, ⊤, ℤ, List, [], Option, Some, None, true, false, length, slice_get, option_map}
use Rattle.d_bound.specs.BoxLaws.{IsAtMost}
use Rattle.d_front.specs.declared.key.Key.{Key}
use Rattle.d_search.specs.declared.tree.TreeNode.{TreeNode}
use Rattle.d_search.specs.declared.outcome.Outcome.{Outcome}
use Rattle.d_search.specs.declared.outcome.Verdict.{Verdict}
use Rattle.d_search.specs.declared.outcome.Verdict.TheVariants.{Least, GapBudget, GapDuality, Infeasible}
use Rattle.d_search.specs.Rules.{Rules, IsBelow}
use Rattle.d_search.specs.Trees.{key_at, bound_at, bill_at, IsFirstLeaf}
use Rattle.d_search.specs.Grown.{IsGrownList}

-- the first node with the least of all bills
pub record IsEarliestLeast (nodes : List TreeNode) (number : ℕ) (bill : ℤ) : Type 0 where
  pub here : bill_at nodes number ≡ Some bill
  pub least : (other : ℕ) → IsAtMost (Some bill) (bill_at nodes other)
  pub earliest : (other : ℕ) → other < number → IsBelow (Some bill) (bill_at nodes other)

-- the bill and the schedule that are kept: those of the first node with the least bill
pub record IsKept (r : Rules) (nodes : List TreeNode) (bill : ℤ) (modes : List ℕ) : Type 0 where
  pub number : ℕ
  pub earliest : IsEarliestLeast nodes number bill
  pub node : TreeNode
  pub at : slice_get nodes number ≡ Some node
  pub schedule : modes ≡ r.schedule_of node.space node.node.slopes

-- the first leaf that has a bound; none where no leaf has one
abbrev pub IsFirstOpen : Rules → List TreeNode → Option Key → Type 0
IsFirstOpen r nodes None = (number : ℕ) → key_at r nodes number ≡ None
IsFirstOpen r nodes (Some key) = IsFirstLeaf r nodes key

-- why the search ended, with this budget, this many nodes, this first leaf and this least bill: no leaf has a bound below the bill; or else
-- the first leaf can't be split; or else its halves would be more nodes than the budget
abbrev pub IsStop : ℕ → ℕ → Verdict → Option Key → ℤ → Type 0
IsStop budget count Least None bill = ⊤
IsStop budget count Least (Some key) bill = IsAtMost (Some bill) (Some key.bound)
IsStop budget count GapDuality (Some key) bill = IsBelow (Some key.bound) (Some bill) × (key.point ≡ true)
IsStop budget count GapBudget (Some key) bill = IsBelow (Some key.bound) (Some bill) × (key.point ≡ false) × (budget < count + 2)
IsStop budget count GapDuality None bill = ⊥
IsStop budget count GapBudget None bill = ⊥
IsStop budget count Infeasible next bill = ⊥

-- the answer where the root has a bound: the least bill of all nodes with its schedule, the bound of the first leaf, and why the search ended
pub record IsVerdict (r : Rules) (budget : ℕ) (o : Outcome) : Type 0 where
  pub bill : ℤ
  pub said : o.bill ≡ Some bill
  pub kept : IsKept r o.tree bill o.schedule
  pub next : Option Key
  pub first : IsFirstOpen r o.tree next
  pub lower : o.lower ≡ option_map (λ key. key.bound) next
  pub stop : IsStop budget (length o.tree) o.verdict next bill

-- the answer where the root has no bound
pub record IsNoSchedule (o : Outcome) : Type 0 where
  pub verdict : o.verdict ≡ Infeasible
  pub bill : o.bill ≡ None
  pub lower : o.lower ≡ None
  pub schedule : o.schedule ≡ []

-- the answer, by the bound of the root
abbrev pub IsAnswer : Rules → ℕ → Outcome → Option ℤ → Type 0
IsAnswer r budget o None = IsNoSchedule o
IsAnswer r budget o (Some bound) = IsVerdict r budget o

-- the outcome of a search that may make so many nodes
pub record IsOutcome (r : Rules) (budget : ℕ) (o : Outcome) : Type 0 where
  pub grown : IsGrownList r o.tree
  pub within : length o.tree ≤ budget
  pub answer : IsAnswer r budget o (bound_at o.tree 0)
