use Rattle.std.proofs.Common.{map, string_bytes, ◌-◌, ◌+◌, ◌∙◌, ℕ, ap, refl, sym, true≢false, slice_index_or, []}
use Rattle.std.proofs.lemmas.List.{length-map}
use Rattle.d_words.proofs.WordPlaces.{in_front, no_limited, no_budget, no_unlimited, limited}
use Rattle.d_words.proofs.plan_end.read_plan_end.Goals as goal

pub returns-in_err-billing : goal.returns-in_err-billing
returns-in_err-billing c =
    let words = c.args.words.now in
    rw c.from_residual.ensures
    (no_limited (map string_bytes words) _ (in_front string_bytes 2 words) (c.if-ends_in_budget.ensures.0 refl) c.in_err-billing.ensures)

pub returns-in_err-budget : goal.returns-in_err-budget
returns-in_err-budget c =
    let words = c.args.words.now in
    let all = map string_bytes words in
    rw c.from_residual-in_err-budget.ensures
    (no_budget all _ (c.word_at.ensures ∙ ap (λ (n : ℕ). slice_index_or all (n - 2 + 1) []) (sym (length-map words string_bytes)))
    (c.if-ends_in_budget.ensures.0 refl) c.in_err-budget.ensures)

pub returns-in_err-billing-2 : goal.returns-in_err-billing-2
returns-in_err-billing-2 c =
    rw c.from_residual-in_err-billing-2.ensures
    (no_unlimited (map string_bytes c.args.words.now) (λ ends. true≢false (sym (c.if-ends_in_budget.ensures.1 ends))) c.in_err-billing-2.ensures)

pub returns-in_ok-budget : goal.returns-in_ok-budget
returns-in_ok-budget c =
    let words = c.args.words.now in
    let all = map string_bytes words in
    limited all _ _ _ _ _ (in_front string_bytes 2 words) (c.if-ends_in_budget.ensures.0 refl)
    (c.word_at.ensures ∙ ap (λ (n : ℕ). slice_index_or all (n - 2 + 1) []) (sym (length-map words string_bytes)))
    c.in_ok-billing.ensures c.in_ok-budget.ensures
