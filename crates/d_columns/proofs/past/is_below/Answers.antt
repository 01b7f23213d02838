use Rattle.std.proofs.Common.{arith}
use Rattle.d_columns.proofs.DigitFacts.{length_tells, place_tells}
use Rattle.d_columns.proofs.past.is_below.Goals as goal

pub returns-then-digits-other : goal.returns-then-digits-other
returns-then-digits-other c = length_tells c.args.digits.now c.args.other.now c.requires.digits c.requires.other c.if-digits-other.true

pub returns-then-digits-place : goal.returns-then-digits-place
returns-then-digits-place c =
    place_tells c.args.digits.now c.args.other.now c.loop-place.place c.requires.digits c.requires.other c.if-digits-other.false (omega arith)
    c.loop-place.invariant c.if-digits-place.true
