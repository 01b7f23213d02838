use Rattle.std.proofs.Common.{sym, ◌∙◌, arith}
use Rattle.d_urdb.proofs.PeriodRead.{from_front, byte_more, byte_stops, all_read}
use Rattle.d_urdb.proofs.flat_months.read_period.Goals as goal

pub loop-place-init : goal.loop-place-init
loop-place-init c = (omega arith, from_front c.args.text.now)

pub with_digit-requires : goal.with_digit-requires
with_digit-requires c = c.loop-place.invariant.0

pub returns-in-None-clause-value : goal.returns-in-None-clause-value
returns-in-None-clause-value c =
    byte_stops c.args.text.now c.loop-place.place c.loop-place.number c.loop-place-test.true c.loop-place.invariant.1
    (sym c.with_digit.ensures.value ∙ c.in-None.is)

pub loop-place-preserved : goal.loop-place-preserved
loop-place-preserved c = (
  c.in-Some.ensures.range,
  byte_more c.args.text.now c.loop-place.place c.loop-place.number c.in-Some.next c.loop-place-test.true c.loop-place.invariant.1
      (sym c.with_digit.ensures.value ∙ c.in-Some.is),
)

pub returns-clause-value : goal.returns-clause-value
returns-clause-value c =
    all_read c.args.text.now c.loop-place.place c.loop-place.number (omega (arith, c.loop-place-test.false)) c.loop-place.invariant.0 c.loop-place.invariant.1

pub returns-clause-range : goal.returns-clause-range
returns-clause-range c = c.loop-place.invariant.0
