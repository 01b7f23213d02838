use Rattle.d_columns.proofs.TextFacts.{never}
use Rattle.d_columns.proofs.PeriodFacts.{one_digit, two_digits, more_digits}
use Rattle.d_columns.proofs.reading.period_of.Goals as goal

pub returns-then-digits-eq1 : goal.returns-then-digits-eq1
returns-then-digits-eq1 c period = one_digit c.args.digits.now c.requires c.if-digits-eq1.true period

pub returns-then-digits-eq2 : goal.returns-then-digits-eq2
returns-then-digits-eq2 c period =
    let two = two_digits c.args.digits.now c.requires c.if-digits-eq2.true period in
    let within = c.period_within.ensures period in
    (λ found. two.0 (within.0 found), λ form. within.1 (two.1 form))

pub returns : goal.returns
returns c period = never period (more_digits c.args.digits.now c.if-digits-eq1.false c.if-digits-eq2.false period)
