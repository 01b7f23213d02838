use Rattle.std.proofs.Common.{arith}
use Rattle.std.proofs.lemmas.Int.{ints, clamps}
use Rattle.d_tier.proofs.peak.Peak.charge.Goals as goal

pub returns-clause-size : goal.returns-clause-size
returns-clause-size c m n fair power floor =
    let a = c.value.ensures.value in
    let b = c.value-2.ensures.value in
    let at_power = c.value.ensures.range in
    let at_floor = c.value-2.ensures.range in
    c.charge.ensures.size m n fair
    (omega (arith, ints, clamps, a, b, power.0, power.1, floor.0, floor.1, at_power.0, at_power.1, at_floor.0, at_floor.1), omega (arith, ints, clamps, a, b, power.0, power.1, floor.0, floor.1, at_power.0, at_power.1, at_floor.0, at_floor.1))
