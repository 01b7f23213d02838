use Rattle.std.proofs.Common.{◌≡◌}
use Rattle.d_tariff.specs.declared.charge.ChargeUnit.TheVariants.{Year}
use Rattle.std.proofs.lemmas.Result.{err_from_is_err_and}
use Rattle.d_urdb.specs.Shown.{row_of}
use Rattle.d_urdb.proofs.ChargeFacts.{zero_money, other_money, minimum_unread, minimum_none, minimum_passes, minimum_refuses, minimum_nothing, minimum_value}
use Rattle.d_urdb.proofs.row.Record.minimum_charge.Goals as goal

pub returns-in_err-minimum-clause-refusals : goal.returns-in_err-minimum-clause-refusals
returns-in_err-minimum-clause-refusals c =
    let p = err_from_is_err_and c.from_residual.result c.from_residual.ensures.1 in
    rw (p.1, p.2) (minimum_unread (row_of c.args.self.now) c.in_err-minimum.field-0.0 c.in_err-minimum.ensures.refusals)

pub returns-then-units-eq0-clause-refusals : goal.returns-then-units-eq0-clause-refusals
returns-then-units-eq0-clause-refusals c =
    let charge = c.in_ok-minimum.minimum in
    let zero = zero_money c.units.result charge.amount c.units.ensures.value c.units.ensures.range c.if-units-eq0.true in
    minimum_none (row_of c.args.self.now) charge c.in_ok-minimum.ensures.refusals c.in_ok-minimum.ensures.value zero

pub returns-then-units-eq0-clause-value : goal.returns-then-units-eq0-clause-value
returns-then-units-eq0-clause-value c = λ reader are.
    let charge = c.in_ok-minimum.minimum in
    let zero = zero_money c.units.result charge.amount c.units.ensures.value c.units.ensures.range c.if-units-eq0.true in
    minimum_nothing reader (row_of c.args.self.now) charge (c.in_ok-minimum.ensures.value reader are) zero

pub returns-then-is_year-clause-refusals : goal.returns-then-is_year-clause-refusals
returns-then-is_year-clause-refusals c =
    let charge = c.in_ok-minimum.minimum in
    let other = other_money c.units.result charge.amount c.units.ensures.value c.if-units-eq0.false in
    minimum_refuses (row_of c.args.self.now) charge c.position-column.result c.refusal.result
    c.in_ok-minimum.ensures.refusals c.in_ok-minimum.ensures.value other (c.is_year.ensures.0 c.if-is_year.true) c.refusal.ensures c.position-column.ensures.value

pub returns-clause-refusals : goal.returns-clause-refusals
returns-clause-refusals c =
    let charge = c.in_ok-minimum.minimum in
    let other = other_money c.units.result charge.amount c.units.ensures.value c.if-units-eq0.false in
    let by_month : charge.unit ≡ Year → ⊥ = λ year. let is = c.is_year.ensures.1 year in cc in
    minimum_passes (row_of c.args.self.now) charge c.in_ok-minimum.ensures.refusals c.in_ok-minimum.ensures.value other by_month

pub returns-clause-value : goal.returns-clause-value
returns-clause-value c = λ reader are.
    let charge = c.in_ok-minimum.minimum in
    let other = other_money c.units.result charge.amount c.units.ensures.value c.if-units-eq0.false in
    minimum_value reader (row_of c.args.self.now) charge (c.in_ok-minimum.ensures.value reader are) other
