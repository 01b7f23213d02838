-- A budget of twice what the root counts, less one, suffices.
use Rattle.std.proofs.Common.{◌≡◌, ◌⊎◌, inl, inr, ℕ, suc, ◌+◌, ◌*◌, ◌<◌, ◌≤◌, ℤ, List, Option, Some, None, true, false, is_none, length, option_and_then, arith, sym, refl, ap, subst, ◌∙◌}
use Rattle.std.proofs.lemmas.Bool.{true≢false}
use Rattle.d_box.specs.declared.space.Space.{Space}
use Rattle.d_box.specs.declared.space.Split.{Split}
use Rattle.d_front.specs.declared.key.Key.{Key}
use Rattle.d_bound.specs.BoxLaws.{IsAtMost}
use Rattle.d_search.specs.declared.tree.TreeNode.{TreeNode}
use Rattle.d_search.specs.declared.outcome.Verdict.{Verdict}
use Rattle.d_search.specs.declared.outcome.Verdict.TheVariants.{Least, GapBudget, GapDuality, Infeasible}
use Rattle.d_search.specs.Rules.{Rules, Meaning, IsLawful, IsCounted, IsBelow}
use Rattle.d_search.specs.Trees.{bill_in, bound_at, bill_at, IsFirstLeaf, after_split, IsSplitOnce}
use Rattle.d_search.specs.Grown.{IsGrownBy}
use Rattle.d_search.specs.Outcomes.{IsEarliestLeast, IsFirstOpen, IsStop, IsAnswer}
use Rattle.d_search.specs.Laws.{IsDecided, BudgetsSuffice}
use Rattle.d_search.proofs.OrderFacts.{at_most_trans, not_both, below_at_most}
use Rattle.d_search.proofs.SplitFacts.{key_parts}
use Rattle.d_search.proofs.GrownFacts.{boxes_made, grown_length}
use Rattle.d_search.proofs.CountFacts.{few_splits}
use Rattle.d_search.proofs.StoodFacts.{splits_of, grown_from_list}

-- what a test for none says
some_from : (o : Option Split) → is_none o ≡ false → (split : Split) × (o ≡ Some split)
some_from None e = absurd (true≢false e)
some_from (Some split) e = (split, refl)

none_from : (o : Option Split) → is_none o ≡ true → o ≡ None
none_from None e = refl
none_from (Some split) e = absurd (true≢false (sym e))

-- a first leaf that is no point, with a bound below all bills, can be split
pub can_split : (r : Rules) (nodes : List TreeNode) (key : Key) → IsFirstLeaf r nodes key → key.point ≡ false
    → ((i : ℕ) → IsBelow (Some key.bound) (bill_at nodes i)) → (next : List TreeNode) × IsSplitOnce r nodes next
can_split r nodes key first apart below =
    let has = key_parts r nodes key.node key first.here in
    let found = some_from (r.split_of has.node.space) (sym has.point ∙ apart) in (
      after_split r nodes key.node has.node found.0,
      record { key = key; first = first; below = below; parent = has.node; at = has.at; split = found.0; some = found.1; halves = refl },
    )

-- a bound below the least bill is below all
pub below_all : (nodes : List TreeNode) (number : ℕ) (bound bill : ℤ) → IsEarliestLeast nodes number bill → IsBelow (Some bound) (Some bill)
    → (i : ℕ) → IsBelow (Some bound) (bill_at nodes i)
below_all nodes number bound bill earliest less i = below_at_most bound bill (bill_at nodes i) less (earliest.least i)

module _ (r : Rules) (m : Meaning) (size : Space → ℕ) (lawful : IsLawful r m) (counted : IsCounted r m size) (n : ℕ) (nodes : List TreeNode) (grown : IsGrownBy r n nodes) where
  -- while a leaf can be split the budget isn't spent
  not_spent : (budget : ℕ) → 2 * size r.root ≤ budget + 1 → (next : List TreeNode) → IsSplitOnce r nodes next → budget < length nodes + 2 → ⊥
  not_spent budget ample next step spent =
      omega (arith, few_splits r m size lawful counted (suc n) next (nodes, grown, step), grown_length r n nodes grown)

  -- a point with a bound has no gap
  no_gap : (key : Key) → IsFirstLeaf r nodes key → key.point ≡ true → (number : ℕ) (bill : ℤ) → IsEarliestLeast nodes number bill
      → IsAtMost (Some bill) (Some key.bound)
  no_gap key first point number bill earliest =
      let has = key_parts r nodes key.node key first.here in
      let made = boxes_made r m lawful n nodes grown key.node has.node has.at in
      let met = counted.met has.node.space made.parent made.box (none_from (r.split_of has.node.space) (sym has.point ∙ point)) in
      let own = subst (λ node. IsAtMost node.bill node.bound) (sym made.node) met in
      at_most_trans (Some bill) has.node.node.bill (Some key.bound)
      (subst (IsAtMost (Some bill)) (ap (option_and_then bill_in) has.at) (earliest.least key.node))
      (subst (IsAtMost has.node.node.bill) has.bound own)

  is_decided : (budget : ℕ) → 2 * size r.root ≤ budget + 1 → (v : Verdict) (next : Option Key) (number : ℕ) (bill : ℤ)
      → IsFirstOpen r nodes next → IsEarliestLeast nodes number bill → IsStop budget (length nodes) v next bill → (v ≡ Least) ⊎ (v ≡ Infeasible)
  is_decided budget ample Least next number bill first earliest stop = inl refl
  is_decided budget ample Infeasible next number bill first earliest stop = inr refl
  is_decided budget ample GapBudget None number bill first earliest stop = absurd stop
  is_decided budget ample GapDuality None number bill first earliest stop = absurd stop
  is_decided budget ample GapBudget (Some key) number bill first earliest stop =
      let on = can_split r nodes key first stop.1 (below_all nodes number key.bound bill earliest stop.0) in
      absurd (not_spent budget ample on.0 on.1 stop.2)
  is_decided budget ample GapDuality (Some key) number bill first earliest stop =
      absurd (not_both key.bound (Some bill) stop.0 (no_gap key first stop.1 number bill earliest))

pub budget_suffices : BudgetsSuffice
budget_suffices r m size budget o lawful counted outcome ample = by_root (bound_at o.tree 0) outcome.answer
  where
    by_root : (root : Option ℤ) → IsAnswer r budget o root → IsDecided o
    by_root None a = inr a.verdict
    by_root (Some bound) a =
        is_decided r m size lawful counted (splits_of r o.tree outcome.grown) o.tree (grown_from_list r o.tree outcome.grown) budget ample
        o.verdict a.next a.kept.number a.bill a.first a.kept.earliest a.stop
