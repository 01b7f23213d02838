use Rattle.std.proofs.Common.{arith, sym}
use Rattle.std.proofs.lemmas.Result.{err_from_is_err_and}
use Rattle.d_urdb.specs.Shown.{row_of}
use Rattle.d_columns.proofs.HoleLaws.{no_16}
use Rattle.d_urdb.proofs.PeriodChecks.{period_holes, period_numbers, period_units, period_order, period_sells, period_falls, period_passes, period_rises, period_not_falling}
use Rattle.d_urdb.proofs.EmptyPeriod.{empty_passes}
use Rattle.d_urdb.proofs.row.Record.check_period.Goals as goal

pub returns-in_err-check_holes-clause-refusals : goal.returns-in_err-check_holes-clause-refusals
returns-in_err-check_holes-clause-refusals c =
    let p = err_from_is_err_and c.from_residual.result c.from_residual.ensures.1 in
    rw (p.1, p.2) (period_holes (row_of c.args.self.now) c.args.structure c.args.period c.in_err-check_holes.field-0.0 c.in_err-check_holes.ensures)

pub returns-then-not-has_tier-clause-refusals : goal.returns-then-not-has_tier-clause-refusals
returns-then-not-has_tier-clause-refusals c =
    empty_passes (row_of c.args.self.now) c.args.structure c.args.period c.in_ok-check_holes.ensures (sym c.if-not-has_tier.ensures)

pub returns-then-not-has_tier-clause-rising : goal.returns-then-not-has_tier-clause-rising
returns-then-not-has_tier-clause-rising c = period_rises (row_of c.args.self.now) c.args.structure c.args.period (returns-then-not-has_tier-clause-refusals c)

pub returns-then-not-has_tier-clause-prices : goal.returns-then-not-has_tier-clause-prices
returns-then-not-has_tier-clause-prices c reader are tier within =
    period_not_falling (row_of c.args.self.now) c.args.structure c.args.period (returns-then-not-has_tier-clause-refusals c) reader are tier (omega (arith, within))

pub check_tiers-requires-clause-few : goal.check_tiers-requires-clause-few
check_tiers-requires-clause-few c = no_16 (row_of c.args.self.now) c.args.structure c.args.period c.in_ok-check_holes.ensures

pub returns-in_err-check_tiers-clause-refusals : goal.returns-in_err-check_tiers-clause-refusals
returns-in_err-check_tiers-clause-refusals c =
    let p = err_from_is_err_and c.from_residual-in_err-check_tiers.result c.from_residual-in_err-check_tiers.ensures.1 in
    rw (p.1, p.2) (period_numbers (row_of c.args.self.now) c.args.structure c.args.period c.in_err-check_tiers.field-0.0 c.in_ok-check_holes.ensures c.in_err-check_tiers.ensures)

pub check_tiers-requires-2-clause-few : goal.check_tiers-requires-2-clause-few
check_tiers-requires-2-clause-few c = no_16 (row_of c.args.self.now) c.args.structure c.args.period c.in_ok-check_holes.ensures

pub returns-in_err-check_tiers-2-clause-refusals : goal.returns-in_err-check_tiers-2-clause-refusals
returns-in_err-check_tiers-2-clause-refusals c =
    let p = err_from_is_err_and c.from_residual-in_err-check_tiers-2.result c.from_residual-in_err-check_tiers-2.ensures.1 in
    rw (p.1, p.2) (period_units (row_of c.args.self.now) c.args.structure c.args.period c.in_err-check_tiers-2.field-0.0 c.in_ok-check_holes.ensures c.in_ok-check_tiers.ensures c.in_err-check_tiers-2.ensures)

pub check_tiers-requires-3-clause-few : goal.check_tiers-requires-3-clause-few
check_tiers-requires-3-clause-few c = no_16 (row_of c.args.self.now) c.args.structure c.args.period c.in_ok-check_holes.ensures

pub returns-in_err-check_tiers-3-clause-refusals : goal.returns-in_err-check_tiers-3-clause-refusals
returns-in_err-check_tiers-3-clause-refusals c =
    let p = err_from_is_err_and c.from_residual-in_err-check_tiers-3.result c.from_residual-in_err-check_tiers-3.ensures.1 in
    rw (p.1, p.2) (period_order (row_of c.args.self.now) c.args.structure c.args.period c.in_err-check_tiers-3.field-0.0 c.in_ok-check_holes.ensures c.in_ok-check_tiers.ensures c.in_ok-check_tiers-2.ensures c.in_err-check_tiers-3.ensures)

pub check_tiers-requires-4-clause-few : goal.check_tiers-requires-4-clause-few
check_tiers-requires-4-clause-few c = no_16 (row_of c.args.self.now) c.args.structure c.args.period c.in_ok-check_holes.ensures

pub returns-in_err-check_tiers-4-clause-refusals : goal.returns-in_err-check_tiers-4-clause-refusals
returns-in_err-check_tiers-4-clause-refusals c =
    let p = err_from_is_err_and c.from_residual-in_err-check_tiers-4.result c.from_residual-in_err-check_tiers-4.ensures.1 in
    rw (p.1, p.2) (period_sells (row_of c.args.self.now) c.args.structure c.args.period c.in_err-check_tiers-4.field-0.0 c.in_ok-check_holes.ensures c.in_ok-check_tiers.ensures c.in_ok-check_tiers-2.ensures c.in_ok-check_tiers-3.ensures c.in_err-check_tiers-4.ensures)

pub check_tiers-requires-5-clause-few : goal.check_tiers-requires-5-clause-few
check_tiers-requires-5-clause-few c = no_16 (row_of c.args.self.now) c.args.structure c.args.period c.in_ok-check_holes.ensures

pub returns-in_err-check_tiers-5-clause-refusals : goal.returns-in_err-check_tiers-5-clause-refusals
returns-in_err-check_tiers-5-clause-refusals c =
    let p = err_from_is_err_and c.from_residual-in_err-check_tiers-5.result c.from_residual-in_err-check_tiers-5.ensures.1 in
    rw (p.1, p.2) (period_falls (row_of c.args.self.now) c.args.structure c.args.period c.in_err-check_tiers-5.field-0.0 c.in_ok-check_holes.ensures c.in_ok-check_tiers.ensures c.in_ok-check_tiers-2.ensures c.in_ok-check_tiers-3.ensures c.in_ok-check_tiers-4.ensures c.in_err-check_tiers-5.ensures)

pub returns-clause-refusals : goal.returns-clause-refusals
returns-clause-refusals c = period_passes (row_of c.args.self.now) c.args.structure c.args.period c.in_ok-check_holes.ensures c.in_ok-check_tiers.ensures c.in_ok-check_tiers-2.ensures c.in_ok-check_tiers-3.ensures c.in_ok-check_tiers-4.ensures c.in_ok-check_tiers-5.ensures

pub returns-clause-rising : goal.returns-clause-rising
returns-clause-rising c = period_rises (row_of c.args.self.now) c.args.structure c.args.period (returns-clause-refusals c)

pub returns-clause-prices : goal.returns-clause-prices
returns-clause-prices c reader are tier within =
    period_not_falling (row_of c.args.self.now) c.args.structure c.args.period (returns-clause-refusals c) reader are tier (omega (arith, within))
