use Rattle.std.proofs.Common.{◌^◌, ◌*◌, arith}
use Rattle.std.proofs.lemmas.Int.{ints}
use Rattle.d_num.specs.Amount.{IsWithin}
use Rattle.d_tariff.proofs.MonthFacts.{month_within}
use Rattle.d_tariff.proofs.charge.Charge.of_month.Goals as goal
use Rattle.d_tariff.proofs.charge.Charge.of_month.Goals.{After-units_of}

small : (c : After-units_of) → IsWithin (31 * 10 ^ 30) c.units_of.result
small c = rw c.units_of.ensures (month_within c.args.self.unit c.args.self.amount c.args.month.year c.args.month.number c.requires)

pub unwrap-requires : goal.unwrap-requires
unwrap-requires c =
    let units = small (goal.at.unwrap-requires c).After-units_of in
    c.new.ensures.range.1 (omega (arith, ints, units.0), omega (arith, ints, units.1))

pub returns-clause-size : goal.returns-clause-size
returns-clause-size c =
    let units = small (goal.at.returns-clause-size c).After-units_of in
    let value = rw c.unwrap.ensures at c.new.ensures.value in
    (omega (arith, ints, units.0, value), omega (arith, ints, units.1, value))
