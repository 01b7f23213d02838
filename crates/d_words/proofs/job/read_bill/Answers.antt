use Rattle.std.proofs.Common.{map, string_bytes, refl, sym, true≢false, ◌-◌, ◌+◌, ℕ, ap, ◌∙◌, slice_index_or, []}
use Rattle.std.proofs.lemmas.List.{length-map}
use Rattle.d_words.proofs.WordPlaces.{in_front, no_schedule, no_metered, schedule_job}
use Rattle.d_words.proofs.job.read_bill.Goals as goal

pub returns-in_err-billing : goal.returns-in_err-billing
returns-in_err-billing c =
    let words = c.args.words.now in
    rw c.from_residual.ensures
    (no_schedule (map string_bytes words) _ (in_front string_bytes 4 words) (c.if-ends_in_schedule.ensures.0 refl) c.in_err-billing.ensures)

pub returns-in_ok-billing : goal.returns-in_ok-billing
returns-in_ok-billing c =
    let words = c.args.words.now in
    let count = length-map words string_bytes in
    let all = map string_bytes words in
    schedule_job all _ _ _ _ _ (in_front string_bytes 4 words) (c.if-ends_in_schedule.ensures.0 refl)
    (c.word_at-battery.ensures ∙ ap (λ (n : ℕ). slice_index_or all (n - 4 + 1) []) (sym count))
    (c.word_at-schedule.ensures ∙ ap (λ (n : ℕ). slice_index_or all (n - 4 + 3) []) (sym count))
    c.in_ok-billing.ensures

pub returns-in_err-billing-2 : goal.returns-in_err-billing-2
returns-in_err-billing-2 c =
    rw c.from_residual-in_err-billing-2.ensures
    (no_metered (map string_bytes c.args.words.now) (λ ends. true≢false (sym (c.if-ends_in_schedule.ensures.1 ends))) c.in_err-billing-2.ensures)
