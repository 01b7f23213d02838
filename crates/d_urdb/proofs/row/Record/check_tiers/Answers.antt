use Rattle.std.proofs.Common.{◌≡◌, ℕ, List, Option, arith, subst}
use Rattle.std.proofs.lemmas.Result.{err_from_is_err_and}
use Rattle.d_urdb.specs.Shown.{row_of}
use Rattle.d_urdb.specs.declared.fault.Refused.{Refused}
use Rattle.d_urdb.specs.Numbers.{CellReader}
use Rattle.d_urdb.specs.Refusals.{each}
use Rattle.d_urdb.specs.Checks.{Passes, tier_refusals}
use Rattle.d_urdb.proofs.RefusalOrder.{none_yet, one_more, refused_here}
use Rattle.d_urdb.proofs.row.Record.check_tiers.Goals as goal

pub loop-tier-init : goal.loop-tier-init
loop-tier-init c = none_yet (λ reader. tier_refusals c.args.rule reader (row_of c.args.self.now) c.args.structure c.args.period)

pub returns-in_err-check_tier : goal.returns-in_err-check_tier
returns-in_err-check_tier c =
    let p = err_from_is_err_and c.from_residual.result c.from_residual.ensures.1 in
    let list : CellReader → ℕ → List (Option Refused) = λ reader. tier_refusals c.args.rule reader (row_of c.args.self.now) c.args.structure c.args.period in
    rw (p.1, p.2) (refused_here 16 c.loop-tier.tier list c.in_err-check_tier.field-0.0 (omega arith) c.loop-tier.invariant c.in_err-check_tier.ensures)

pub loop-tier-preserved : goal.loop-tier-preserved
loop-tier-preserved c =
    let list : CellReader → ℕ → List (Option Refused) = λ reader. tier_refusals c.args.rule reader (row_of c.args.self.now) c.args.structure c.args.period in
    one_more c.loop-tier.tier list c.loop-tier.invariant c.in_ok-check_tier.ensures

pub returns : goal.returns
returns c =
    let list : CellReader → ℕ → List (Option Refused) = λ reader. tier_refusals c.args.rule reader (row_of c.args.self.now) c.args.structure c.args.period in
    let all : c.loop-tier.tier ≡ 16 = omega arith in
    subst (λ n. Passes (λ reader. each n (list reader))) all c.loop-tier.invariant
