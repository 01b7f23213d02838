use Rattle.d_tariff.proofs.HourFacts.{hour_there}
use Rattle.d_tariff.proofs.tariff.Tariff.period_at.Goals as goal

pub unreachable-requires : goal.unreachable-requires
unreachable-requires c =
    let month = c.args.month.in_range in
    let there = hour_there c.args.self.now.valid c.args.month.year c.args.month.number c.args.day c.args.hour month.from_january month.to_december c.requires.hour in
    let missing = rw c.in-None.is at c.period.ensures.value in
    let none = rw (← c.period_at-number.ensures.period, ← missing) at there in
    cc
