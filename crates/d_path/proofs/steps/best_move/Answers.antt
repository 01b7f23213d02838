use Rattle.std.proofs.Common.{◌≡◌, ◌∙◌, sym, subst, IsTrue}
use Rattle.d_num.specs.declared.pot.Pot.{Pot}
use Rattle.d_num.specs.Pot.{AtMost}
use Rattle.d_path.specs.Arcs.{arcs_of}
use Rattle.d_path.specs.Best.{cost_by}
use Rattle.d_path.proofs.StepLemmas.{read_cost, best_stays, best_moves}
use Rattle.d_path.proofs.steps.best_move.Goals as goal
use Rattle.d_path.proofs.steps.best_move.Goals.{then-not-stays, else-not-stays}

pub loop-number-preserved : goal.loop-number-preserved
loop-number-preserved c =
    let a = arcs_of c.args.ways.now in
    let f = cost_by a c.args.costs.now c.args.next.now c.args.level in
    let k = c.loop-number.number in
    let p = c.loop-number.least in
    let same : c.cost_via-cost.result ≡ f k = (rw c.get.ensures at c.cost_via-cost.ensures) ∙ read_cost a c.args.costs.now c.args.next.now c.args.level k c.index-costs-number.result _ c.loop-number-test.true c.requires.long c.index-costs-number.is in
    elim c.if-not-stays.branch [
      | then-not-stays w ↦
          rw (w.least-is, w.first-is, same)
          (best_moves f k p c.loop-number.first c.loop-number.invariant
          (λ h. let t : IsTrue c.is_at_most-stays.result = c.is_at_most-stays.ensures.1 (subst (λ (q : Pot). AtMost p q) (sym same) h) in let e = w.if-not-stays.true in cc))
      | else-not-stays w ↦
          rw (w.least-is, w.first-is)
          (best_stays f k p c.loop-number.first c.loop-number.invariant
          (subst (λ (q : Pot). AtMost p q) same (c.is_at_most-stays.ensures.0 w.if-not-stays.false)))
    ]
