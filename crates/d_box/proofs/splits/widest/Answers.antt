use Rattle.std.proofs.Common.{◌∙◌, ◌≡◌, sym, subst, ◌≤ℤ◌}
use Rattle.d_box.specs.Splits.{gap_at}
use Rattle.d_box.proofs.FoundFacts.{widest_same, widest_more, gap_here, gt_from, not_gt}
use Rattle.d_box.proofs.splits.widest.Goals as goal
use Rattle.d_box.proofs.splits.widest.Goals.{then-gt, else-gt}

pub loop-group-preserved : goal.loop-group-preserved
loop-group-preserved c = let v : c.gap-gap.result ≡ gap_at c.args.space.now c.args.groups.now c.loop-group.group = gap_here c.args.space.now c.args.groups.now c.loop-group.group c.index-groups-group.result c.gap-gap.result c.loop-group-test.true c.index-groups-group.is c.gap-gap.ensures.value in elim c.if-gt.branch [
  | then-gt w ↦ rw (w.found-is, w.greatest-is) (widest_more c.args.space.now c.args.groups.now c.loop-group.group _ _ _ c.loop-group.invariant v (gt_from _ _ (sym c.gt.ensures ∙ w.if-gt.true)))
  | else-gt w ↦ rw (w.found-is, w.greatest-is) (widest_same c.args.space.now c.args.groups.now c.loop-group.group _ _ c.loop-group.invariant (subst (λ z. z ≤ℤ c.loop-group.greatest) v (not_gt _ _ (sym c.gt.ensures ∙ w.if-gt.false))))
]
