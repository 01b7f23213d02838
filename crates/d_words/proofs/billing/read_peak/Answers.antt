use Rattle.std.proofs.Common.{ℕ, ◌≢◌, get_or, List, arith, subst}
use Rattle.d_words.proofs.PeakTexts.{few_digits, parsed_value}
use Rattle.d_words.proofs.billing.read_peak.Goals as goal

pub overflow_cast-watts : goal.overflow_cast-watts
overflow_cast-watts c =
    let text = c.args.word.now in
    let plain : get_or text 0 0 ≢ 43 = subst (λ (t : List ℕ). get_or t 0 0 ≢ 43) c.as_bytes-digits.ensures.value c.if-digits-eq43.false in
    let read = parsed_value text c.in-Ok.watts c.in-Ok.ensures.value.0 plain in
    let small = few_digits text read.0 (omega (arith, c.as_bytes-digits.ensures.len, c.if-digits-gt14.false)) in
    omega (arith, small, read.1)
