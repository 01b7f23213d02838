use Rattle.std.proofs.lemmas.Result.{err_from_is_err_and}
use Rattle.std.proofs.Common.{pos, length, unsigned_abs, [], ◌∷◌, refl, ap, ◌∙◌}
use Rattle.d_cal.specs.Starts.{month_text}
use Rattle.d_certline.specs.Lines as line
use Rattle.d_cert.proofs.ChainFacts.{lines_then, lines_end, lines_cut, lines_stop}
use Rattle.d_cert.proofs.HeadFacts.{label_line, month_line, number_part}
use Rattle.d_cert.proofs.head.save_month.Goals as goal

pub returns-in_err-save_counts-clause-told : goal.returns-in_err-save_counts-clause-told
unfolding line.word line.parts
returns-in_err-save_counts-clause-told g c = λ t.
    let i = c.args.problem.now in
    let failed = c.in_err-save_counts.ensures.told line.version refl refl t in
    let p = err_from_is_err_and c.from_residual-in_err-save_counts.result c.from_residual-in_err-save_counts.ensures.1 in
    rw p.1 (lines_cut (line.version ∷ []) ((line.label c.args.label.now) ∷ (line.month (unsigned_abs i.year) i.number) ∷ (line.minutes (pos i.minutes)) ∷ (line.intervals (pos (length i.net))) ∷ []) _ _ failed)

pub returns-in_err-save_text-clause-told : goal.returns-in_err-save_text-clause-told
unfolding line.word line.parts
returns-in_err-save_text-clause-told g c = λ t.
    let i = c.args.problem.now in
    let told-1 = c.in_ok-save_counts.ensures.told line.version refl refl t in
    let saved-1 = told-1 in
    let failed = c.in_err-save_text.ensures.told (line.label c.args.label.now) (label_line c.args.label.now) t in
    let p = err_from_is_err_and c.from_residual-in_err-save_text.result c.from_residual-in_err-save_text.ensures.1 in
    rw p.1 (lines_stop (line.version ∷ []) ((line.label c.args.label.now) ∷ []) ((line.month (unsigned_abs i.year) i.number) ∷ (line.minutes (pos i.minutes)) ∷ (line.intervals (pos (length i.net))) ∷ []) _ _ _ saved-1 failed)

pub returns-in_err-save_text-2-clause-told : goal.returns-in_err-save_text-2-clause-told
unfolding line.word line.parts
returns-in_err-save_text-2-clause-told g c = λ t.
    let i = c.args.problem.now in
    let told-1 = c.in_ok-save_counts.ensures.told line.version refl refl t in
    let saved-1 = told-1 in
    let told-2 = c.in_ok-save_text.ensures.told (line.label c.args.label.now) (label_line c.args.label.now) t in
    let saved-2 = lines_then (line.version ∷ []) ((line.label c.args.label.now) ∷ []) _ _ _ saved-1 told-2 in
    let failed = c.in_err-save_text-2.ensures.told (line.month (unsigned_abs i.year) i.number)
    (month_line i.year i.number c.as_str.result.now c.month.ensures.range.month
    (c.as_str.ensures.value ∙ (c.in_ok-month.ensures ∙ (ap (λ y. month_text y c.month.result.number) c.month.ensures.year ∙ ap (λ n. month_text i.year n) c.month.ensures.number)))) t in
    let p = err_from_is_err_and c.from_residual-in_err-save_text-2.result c.from_residual-in_err-save_text-2.ensures.1 in
    rw p.1 (lines_stop (line.version ∷ (line.label c.args.label.now) ∷ []) ((line.month (unsigned_abs i.year) i.number) ∷ []) ((line.minutes (pos i.minutes)) ∷ (line.intervals (pos (length i.net))) ∷ []) _ _ _ saved-2 failed)

pub returns-in_err-save_counts-2-clause-told : goal.returns-in_err-save_counts-2-clause-told
unfolding line.word line.parts
returns-in_err-save_counts-2-clause-told g c = λ t.
    let i = c.args.problem.now in
    let told-1 = c.in_ok-save_counts.ensures.told line.version refl refl t in
    let saved-1 = told-1 in
    let told-2 = c.in_ok-save_text.ensures.told (line.label c.args.label.now) (label_line c.args.label.now) t in
    let saved-2 = lines_then (line.version ∷ []) ((line.label c.args.label.now) ∷ []) _ _ _ saved-1 told-2 in
    let told-3 = c.in_ok-save_text-2.ensures.told (line.month (unsigned_abs i.year) i.number)
    (month_line i.year i.number c.as_str.result.now c.month.ensures.range.month
    (c.as_str.ensures.value ∙ (c.in_ok-month.ensures ∙ (ap (λ y. month_text y c.month.result.number) c.month.ensures.year ∙ ap (λ n. month_text i.year n) c.month.ensures.number)))) t in
    let saved-3 = lines_then (line.version ∷ (line.label c.args.label.now) ∷ []) ((line.month (unsigned_abs i.year) i.number) ∷ []) _ _ _ saved-2 told-3 in
    let failed = c.in_err-save_counts-2.ensures.told (line.minutes (pos i.minutes)) refl (number_part i.minutes _ c.minutes.ensures) t in
    let p = err_from_is_err_and c.from_residual-in_err-save_counts-2.result c.from_residual-in_err-save_counts-2.ensures.1 in
    rw p.1 (lines_stop (line.version ∷ (line.label c.args.label.now) ∷ (line.month (unsigned_abs i.year) i.number) ∷ []) ((line.minutes (pos i.minutes)) ∷ []) ((line.intervals (pos (length i.net))) ∷ []) _ _ _ saved-3 failed)

pub returns-clause-told : goal.returns-clause-told
unfolding line.word line.parts
returns-clause-told g c = λ t.
    let i = c.args.problem.now in
    let told-1 = c.in_ok-save_counts.ensures.told line.version refl refl t in
    let saved-1 = told-1 in
    let told-2 = c.in_ok-save_text.ensures.told (line.label c.args.label.now) (label_line c.args.label.now) t in
    let saved-2 = lines_then (line.version ∷ []) ((line.label c.args.label.now) ∷ []) _ _ _ saved-1 told-2 in
    let told-3 = c.in_ok-save_text-2.ensures.told (line.month (unsigned_abs i.year) i.number)
    (month_line i.year i.number c.as_str.result.now c.month.ensures.range.month
    (c.as_str.ensures.value ∙ (c.in_ok-month.ensures ∙ (ap (λ y. month_text y c.month.result.number) c.month.ensures.year ∙ ap (λ n. month_text i.year n) c.month.ensures.number)))) t in
    let saved-3 = lines_then (line.version ∷ (line.label c.args.label.now) ∷ []) ((line.month (unsigned_abs i.year) i.number) ∷ []) _ _ _ saved-2 told-3 in
    let told-4 = c.in_ok-save_counts-2.ensures.told (line.minutes (pos i.minutes)) refl (number_part i.minutes _ c.minutes.ensures) t in
    let saved-4 = lines_then (line.version ∷ (line.label c.args.label.now) ∷ (line.month (unsigned_abs i.year) i.number) ∷ []) ((line.minutes (pos i.minutes)) ∷ []) _ _ _ saved-3 told-4 in
    lines_end (line.version ∷ (line.label c.args.label.now) ∷ (line.month (unsigned_abs i.year) i.number) ∷ (line.minutes (pos i.minutes)) ∷ []) ((line.intervals (pos (length i.net))) ∷ []) _ _ _ c.save_counts-3.result saved-4 (c.save_counts-3.ensures.told (line.intervals (pos (length i.net))) refl (number_part (length i.net) _ c.intervals.ensures.value) t)
