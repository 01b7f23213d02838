use Rattle.std.proofs.Common.{◌≡◌, arith, subst}
use Rattle.std.proofs.lemmas.Result.{err_from_is_err_and}
use Rattle.d_urdb.specs.Checks.{Passes}
use Rattle.d_urdb.specs.Refusals.{each}
use Rattle.d_urdb.specs.Shown.{row_of}
use Rattle.d_urdb.proofs.CoincidentFacts.{by_period}
use Rattle.d_urdb.proofs.RefusalOrder.{none_yet, one_more, refused_here}
use Rattle.d_urdb.proofs.row.Record.check_coincident_periods.Goals as goal

pub loop-period-init : goal.loop-period-init
loop-period-init c = none_yet (by_period c.args.rule (row_of c.args.self.now))

pub returns-in_err-check_coincident_tiers : goal.returns-in_err-check_coincident_tiers
returns-in_err-check_coincident_tiers c =
    let p = err_from_is_err_and c.from_residual.result c.from_residual.ensures.1 in
    rw (p.1, p.2) (refused_here 36 c.loop-period.period (by_period c.args.rule (row_of c.args.self.now)) c.in_err-check_coincident_tiers.field-0.0 (omega arith)
    c.loop-period.invariant c.in_err-check_coincident_tiers.ensures)

pub loop-period-preserved : goal.loop-period-preserved
loop-period-preserved c =
    one_more c.loop-period.period (by_period c.args.rule (row_of c.args.self.now)) c.loop-period.invariant c.in_ok-check_coincident_tiers.ensures

pub returns : goal.returns
returns c =
    let all : c.loop-period.period ≡ 36 = omega arith in
    subst (λ n. Passes (λ reader. each n (by_period c.args.rule (row_of c.args.self.now) reader))) all c.loop-period.invariant
