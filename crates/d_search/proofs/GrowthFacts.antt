-- What a search holds stays so while nodes are made and marked.
use Rattle.std.proofs.Common.{◌≡◌, ℕ, ◌<◌, ◌≤◌, ℤ, List, [], ◌∷◌, ◌++◌, Option, Some, None, IfSome, length, slice_get, slice_set, option_and_then, length-append, length-set, arith, sym, refl, ap, subst, ◌∙◌}
use Rattle.std.specs.List.Sorted.{IsPermutation}
use Rattle.std.specs.Vec.{vec_capacity}
use Rattle.std.proofs.lemmas.Option.{slice_get_past, none-some}
use Rattle.d_box.specs.declared.space.Split.{Split}
use Rattle.d_bill.specs.Inputs.{Inputs}
use Rattle.d_bound.specs.Roots.{IsProblemBox}
use Rattle.d_front.specs.declared.key.Key.{Key}
use Rattle.d_search.specs.declared.growth.Growth.{Growth}
use Rattle.d_search.specs.declared.tree.TreeNode.{TreeNode}
use Rattle.d_search.specs.Rules.{Rules}
use Rattle.d_search.specs.Trees.{bill_in, key_of, split_node}
use Rattle.d_search.specs.Problems.{rules_of}
use Rattle.d_search.specs.Rooms.{IsEmpty}
use Rattle.d_search.specs.Growths.{one_key, open_keys, IsFrontOf, IsKeptSoFar, AreBoxed, HasKept, IsHeld}
use Rattle.d_search.proofs.FrontFacts.{front_added, front_marked}
use Rattle.d_search.proofs.KeptFacts.{kept_added, kept_long, kept_marked, boxed_added, boxed_marked}

-- nothing is held before the root
front_empty : (r : Rules) (keys : List Key) (nodes : List TreeNode) → keys ≡ [] → nodes ≡ [] → IsFrontOf r keys nodes
unfolding open_keys
front_empty r keys nodes none empty f = rw (none, empty) refl

kept_empty : (r : Rules) (nodes : List TreeNode) (bill : Option ℤ) (modes : List ℕ) → nodes ≡ [] → bill ≡ None → IsKeptSoFar r nodes bill modes
kept_empty r nodes None modes empty none = λ j. ap (option_and_then bill_in) (slice_get_past nodes j (omega (arith, ap length empty)))
kept_empty r nodes (Some bill) modes empty none = absurd (none-some bill (sym none))

boxed_empty : (lists : List (List ℤ)) (nodes : List TreeNode) → nodes ≡ [] → AreBoxed lists nodes
boxed_empty lists nodes empty j n at = absurd (none-some n (sym (slice_get_past nodes j (omega (arith, ap length empty))) ∙ at))

pub held_empty : (i : Inputs) (lists : List (List ℤ)) (g : Growth) → IsEmpty (length i.net) g.front.room g → g.front.room ≤ 65535 → IsHeld i lists g None
held_empty i lists g empty few = record {
  few = few;
  space = empty.space;
  within = omega (arith, ap length empty.nodes);
  front = front_empty (rules_of i lists) g.front.keys g.nodes.items empty.keys empty.nodes;
  least = kept_empty (rules_of i lists) g.nodes.items g.bill g.kept.items empty.nodes empty.bill;
  boxed = boxed_empty lists g.nodes.items empty.nodes;
  kept = empty.kept;
  trial = empty.trial;
}

-- one more node
pub record IsAdded (i : Inputs) (lists : List (List ℤ)) (before after : Growth) (n : TreeNode) : Type 0 where
  pub trial : List ℕ
  pub long : length trial ≡ length i.net
  pub written : IfSome (bill_in n) (λ bill. trial ≡ (rules_of i lists).schedule_of n.space n.node.slopes)
  pub exchange : HasKept before.bill before.kept.items trial (bill_in n) after.bill after.kept.items after.trial.items
  pub key : Option Key
  pub put : IsPermutation (one_key key ++ before.front.keys) after.front.keys
  pub key_is : key ≡ key_of (rules_of i lists) (length before.nodes.items) n
  pub nodes : after.nodes.items ≡ before.nodes.items ++ n ∷ []
  pub space : vec_capacity before.nodes ≤ vec_capacity after.nodes
  pub places : after.front.room ≡ before.front.room
  pub boxed : IsProblemBox lists n.space

pub held_added : (i : Inputs) (lists : List (List ℤ)) (before after : Growth) (n : TreeNode) → IsHeld i lists before None
    → length before.nodes.items < before.front.room → IsAdded i lists before after n → IsHeld i lists after None
held_added i lists before after n held room added =
    let long = kept_long (length i.net) before.bill before.kept.items added.trial (bill_in n) after.bill after.kept.items after.trial.items added.exchange held.kept added.long in
    record {
      few = omega (arith, held.few, added.places);
      space = omega (arith, held.space, added.space, added.places);
      within = omega (arith, ap length added.nodes, length-append before.nodes.items (n ∷ []), added.places, room);
      front = subst (IsFrontOf (rules_of i lists) after.front.keys) (sym added.nodes)
          (front_added (rules_of i lists) before.front.keys after.front.keys before.nodes.items n added.key held.front added.put added.key_is);
      least = subst (λ (l : List TreeNode). IsKeptSoFar (rules_of i lists) l after.bill after.kept.items) (sym added.nodes)
          (kept_added (rules_of i lists) before.nodes.items n before.bill before.kept.items added.trial after.bill after.kept.items after.trial.items held.least added.written added.exchange);
      boxed = subst (AreBoxed lists) (sym added.nodes) (boxed_added lists before.nodes.items n held.boxed added.boxed);
      kept = long.0;
      trial = long.1;
    }

-- a node is marked, and its key was taken out
pub record IsMarked (before after : Growth) (number : ℕ) (n : TreeNode) (split : Split) : Type 0 where
  pub at : slice_get before.nodes.items number ≡ Some n
  pub nodes : after.nodes.items ≡ slice_set before.nodes.items number (split_node n split (length before.nodes.items))
  pub space : vec_capacity before.nodes ≤ vec_capacity after.nodes
  pub front : after.front ≡ before.front
  pub kept : after.kept.items ≡ before.kept.items
  pub trial : after.trial.items ≡ before.trial.items
  pub bill : after.bill ≡ before.bill

pub held_marked : (i : Inputs) (lists : List (List ℤ)) (before after : Growth) (key : Key) (n : TreeNode) (split : Split)
    → IsHeld i lists before (Some key) → IsMarked before after key.node n split → key_of (rules_of i lists) key.node n ≡ Some key → IsHeld i lists after None
held_marked i lists before after key n split held marked has =
    let r = rules_of i lists in
    let count = length before.nodes.items in
    let places : after.front.room ≡ before.front.room = ap (λ w. w.room) marked.front in
    record {
      few = omega (arith, held.few, places);
      space = omega (arith, held.space, marked.space, places);
      within = omega (arith, held.within, places, ap length marked.nodes, length-set before.nodes.items key.node (split_node n split count));
      front = subst (IsFrontOf r after.front.keys) (sym marked.nodes)
          (subst (λ (l : List Key). IsFrontOf r l (slice_set before.nodes.items key.node (split_node n split count))) (sym (ap (λ w. w.keys) marked.front))
          (front_marked r key before.front.keys before.nodes.items key.node n (split_node n split count) held.front marked.at has refl));
      least = subst (λ (l : List TreeNode). IsKeptSoFar r l after.bill after.kept.items) (sym marked.nodes)
          (subst (λ (b : Option ℤ). IsKeptSoFar r (slice_set before.nodes.items key.node (split_node n split count)) b after.kept.items) (sym marked.bill)
          (subst (IsKeptSoFar r (slice_set before.nodes.items key.node (split_node n split count)) before.bill) (sym marked.kept)
          (kept_marked before.nodes.items key.node n split count marked.at r before.bill before.kept.items held.least)));
      boxed = subst (AreBoxed lists) (sym marked.nodes) (boxed_marked before.nodes.items key.node n split count marked.at lists held.boxed);
      kept = ap length marked.kept ∙ held.kept;
      trial = ap length marked.trial ∙ held.trial;
    }
