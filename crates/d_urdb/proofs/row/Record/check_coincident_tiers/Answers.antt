use Rattle.std.proofs.Common.{◌≡◌, arith, subst}
use Rattle.std.proofs.lemmas.Result.{err_from_is_err_and}
use Rattle.d_urdb.specs.Checks.{Passes}
use Rattle.d_urdb.specs.Refusals.{each}
use Rattle.d_urdb.specs.Shown.{row_of}
use Rattle.d_urdb.proofs.CoincidentFacts.{by_tier}
use Rattle.d_urdb.proofs.RefusalOrder.{none_yet, one_more, refused_here}
use Rattle.d_urdb.proofs.row.Record.check_coincident_tiers.Goals as goal

pub loop-tier-init : goal.loop-tier-init
loop-tier-init c = none_yet (by_tier c.args.rule (row_of c.args.self.now) c.args.period)

pub returns-in_err-check_coincident_tier : goal.returns-in_err-check_coincident_tier
returns-in_err-check_coincident_tier c =
    let p = err_from_is_err_and c.from_residual.result c.from_residual.ensures.1 in
    rw (p.1, p.2) (refused_here 16 c.loop-tier.tier (by_tier c.args.rule (row_of c.args.self.now) c.args.period) c.in_err-check_coincident_tier.field-0.0 (omega arith)
    c.loop-tier.invariant c.in_err-check_coincident_tier.ensures)

pub loop-tier-preserved : goal.loop-tier-preserved
loop-tier-preserved c =
    one_more c.loop-tier.tier (by_tier c.args.rule (row_of c.args.self.now) c.args.period) c.loop-tier.invariant c.in_ok-check_coincident_tier.ensures

pub returns : goal.returns
returns c =
    let all : c.loop-tier.tier ≡ 16 = omega arith in
    subst (λ n. Passes (λ reader. each n (by_tier c.args.rule (row_of c.args.self.now) c.args.period reader))) all c.loop-tier.invariant
