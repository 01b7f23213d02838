use Rattle.std.proofs.Common.{map, string_bytes, refl, sym, true≢false}
use Rattle.d_words.proofs.WordPlaces.{behind, no_billing_ruled, no_billing_unruled}
use Rattle.d_words.proofs.billing.read_billing.Goals as goal

pub returns-in_err-read_prior_peak : goal.returns-in_err-read_prior_peak
returns-in_err-read_prior_peak c =
    let words = c.args.words.now in
    rw c.from_residual.ensures
    (no_billing_ruled (map string_bytes words) _ (behind string_bytes 2 words) (c.if-begins_with_rule.ensures.0 refl) c.in_err-read_prior_peak.ensures)

pub returns-in_err-read_prior_peak-2 : goal.returns-in_err-read_prior_peak-2
returns-in_err-read_prior_peak-2 c =
    rw c.from_residual-in_err-read_prior_peak-2.ensures
    (no_billing_unruled (map string_bytes c.args.words.now) (λ ruled. true≢false (sym (c.if-begins_with_rule.ensures.1 ruled))) c.in_err-read_prior_peak-2.ensures)
