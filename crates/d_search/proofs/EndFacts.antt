-- A search that ends has the outcome of its tree.
use Rattle.std.proofs.Common.{◌≡◌, ℕ, ◌≤◌, ℤ, List, Option, Some, None, true, false, is_some, length, slice_get, option_map, option_and_then, sym, refl, ap, subst, ◌∙◌}
use Rattle.std.proofs.lemmas.Bool.{true≢false}
use Rattle.d_front.specs.declared.key.Key.{Key}
use Rattle.d_search.specs.declared.tree.TreeNode.{TreeNode}
use Rattle.d_search.specs.declared.outcome.Outcome.{Outcome}
use Rattle.d_search.specs.declared.outcome.Verdict.{Verdict}
use Rattle.d_search.specs.Rules.{Rules}
use Rattle.d_search.specs.Trees.{bill_in, bound_at, bill_at, IsFirstLeaf}
use Rattle.d_search.specs.Grown.{IsGrownBy, IsGrownList}
use Rattle.d_search.specs.Outcomes.{IsKept, IsFirstOpen, IsStop, IsNoSchedule, IsAnswer, IsOutcome}
use Rattle.d_search.specs.Laws.{BoundsHaveBills}
use Rattle.d_search.specs.Growths.{IsKeptSoFar}
use Rattle.d_search.proofs.PlaceFacts.{none_is_some}
use Rattle.d_search.proofs.SplitFacts.{key_parts}
use Rattle.d_search.proofs.GrownFacts.{root_only, grown_made, grown_root, root_bound}
use Rattle.d_search.proofs.StoodFacts.{list_from_grown}
use Rattle.d_search.proofs.SameFacts.{none_alone}

-- what an outcome says of the nodes, the least bill, its schedule, and why the search ended at this key
pub record IsSaid (o : Outcome) (nodes : List TreeNode) (bill : Option ℤ) (modes : List ℕ) (verdict : Verdict) (next : Option Key) : Type 0 where
  pub tree : o.tree ≡ nodes
  pub bill_is : o.bill ≡ bill
  pub schedule : o.schedule ≡ modes
  pub verdict_is : o.verdict ≡ verdict
  pub lower : o.lower ≡ option_map (λ (key : Key). key.bound) next

-- the search may end there: the verdict holds of each bill that may be the least
abbrev pub MayStop : ℕ → List TreeNode → Option ℤ → Verdict → Option Key → Type 0
MayStop budget nodes bill verdict next = (least : ℤ) → bill ≡ Some least → IsStop budget (length nodes) verdict next least

module _ (r : Rules) (complete : BoundsHaveBills r) (n : ℕ) (nodes : List TreeNode) (grown : IsGrownBy r n nodes) where
  -- a node with a bound has a bill
  bound_billed : (number : ℕ) (node : TreeNode) (bound : ℤ) → slice_get nodes number ≡ Some node → node.node.bound ≡ Some bound → bill_at nodes number ≡ None → ⊥
  bound_billed number node bound at has none =
      let made = grown_made r (λ space. Unit {0}) tt (λ space split box_is some. (tt, tt)) n nodes grown number node at in
      let unbilled : (r.node_of node.space made.parent).bill ≡ None =
      sym (ap (λ m. m.bill) made.node) ∙ (sym (ap (option_and_then bill_in) at) ∙ none) in
      none_is_some bound node.node.bound (ap (λ m. m.bound) made.node ∙ (complete node.space made.parent).1 unbilled) has

  -- so where a leaf has a bound there is a least bill
  pub least_there : (key : Key) (bill : Option ℤ) (modes : List ℕ) → IsFirstLeaf r nodes key → IsKeptSoFar r nodes bill modes → (least : ℤ) × (bill ≡ Some least)
  least_there key None modes first none =
      let has = key_parts r nodes key.node key first.here in
      absurd (bound_billed key.node has.node key.bound has.at has.bound (none key.node))
  least_there key (Some least) modes first kept = (least, refl)

  -- where the root has no bound no node has a bill
  none_billed : bound_at nodes 0 ≡ None → (bill : ℤ) (modes : List ℕ) → IsKept r nodes bill modes → ⊥
  none_billed none bill modes kept = none_is_some bill kept.node.node.bill unbilled (sym (ap (option_and_then bill_in) kept.at) ∙ kept.earliest.here)
    where
      unbound : (r.node_of r.root None).bound ≡ None
      unbound = sym (root_bound r n nodes grown) ∙ none

      alone : n ≡ 0
      alone = none_alone r n nodes grown unbound

      unbilled : kept.node.node.bill ≡ None
      unbilled =
          root_only r nodes (subst (λ (k : ℕ). IsGrownBy r k nodes) alone grown) (λ j x. x.node.bill ≡ None) ((complete r.root None).0 unbound) kept.number kept.node kept.at

  module _ (budget : ℕ) (within : length nodes ≤ budget) (o : Outcome) where
    -- the outcome where a bill is the least
    pub outcome_found : (bill : Option ℤ) (modes : List ℕ) (verdict : Verdict) (next : Option Key) → IsSaid o nodes bill modes verdict next
        → IsKeptSoFar r nodes bill modes → IsFirstOpen r nodes next → MayStop budget nodes bill verdict next → (least : ℤ) → bill ≡ Some least → IsOutcome r budget o
    outcome_found bill modes verdict next said kept first stop least is = record {
      grown = subst (IsGrownList r) (sym said.tree) (list_from_grown r n nodes grown);
      within = subst (λ (l : List TreeNode). length l ≤ budget) (sym said.tree) within;
      answer = by_root (bound_at o.tree 0) refl;
    }
      where
        kept_is : IsKept r nodes least modes
        kept_is = subst (λ (b : Option ℤ). IsKeptSoFar r nodes b modes) is kept

        by_root : (root : Option ℤ) → bound_at o.tree 0 ≡ root → IsAnswer r budget o root
        by_root None none = absurd (none_billed (sym (ap (λ (l : List TreeNode). bound_at l 0) said.tree) ∙ none) least modes kept_is)
        by_root (Some bound) has = record {
          bill = least;
          said = said.bill_is ∙ is;
          kept = subst (λ (l : List TreeNode). IsKept r l least o.schedule) (sym said.tree) (subst (IsKept r nodes least) (sym said.schedule) kept_is);
          next = next;
          first = subst (λ (l : List TreeNode). IsFirstOpen r l next) (sym said.tree) first;
          lower = said.lower;
          stop = subst (λ (v : Verdict). IsStop budget (length o.tree) v next least) (sym said.verdict_is)
              (subst (λ (l : List TreeNode). IsStop budget (length l) verdict next least) (sym said.tree) (stop least is));
        }

    -- the outcome where no node has a bill
    pub outcome_none : (bill : Option ℤ) (modes : List ℕ) → o.tree ≡ nodes → IsNoSchedule o → bill ≡ None → IsKeptSoFar r nodes bill modes → IsOutcome r budget o
    outcome_none bill modes tree none is kept = record {
      grown = subst (IsGrownList r) (sym tree) (list_from_grown r n nodes grown);
      within = subst (λ (l : List TreeNode). length l ≤ budget) (sym tree) within;
      answer = subst (IsAnswer r budget o) (sym unbound) none;
    }
      where
        no_bill : (number : ℕ) → bill_at nodes number ≡ None
        no_bill = subst (λ (b : Option ℤ). IsKeptSoFar r nodes b modes) is kept

        unbilled : (r.node_of r.root None).bill ≡ None
        unbilled = let first = grown_root r n nodes grown in sym (ap (λ m. m.bill) first.node) ∙ (sym (ap (option_and_then bill_in) first.at) ∙ no_bill 0)

        unbound : bound_at o.tree 0 ≡ None
        unbound = ap (λ (l : List TreeNode). bound_at l 0) tree ∙ (root_bound r n nodes grown ∙ (complete r.root None).1 unbilled)

-- what the test says
pub none_there : (o : Option ℤ) → is_some o ≡ false → o ≡ None
none_there None e = refl
none_there (Some x) e = absurd (true≢false e)

pub some_there : (o : Option ℤ) → is_some o ≡ true → (x : ℤ) × (o ≡ Some x)
some_there None e = absurd (true≢false (sym e))
some_there (Some x) e = (x, refl)
