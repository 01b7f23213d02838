use Rattle.std.proofs.lemmas.Result.{err_from_is_err_and}
use Rattle.std.proofs.Common.{pos, length, [], ◌∷◌, sym, refl}
use Rattle.d_bill.specs.Slopes.{tiered}
use Rattle.d_certline.specs.Lines as line
use Rattle.d_cert.proofs.ChainFacts.{lines_then, lines_end, lines_cut, lines_stop}
use Rattle.d_cert.proofs.HeadFacts.{levels_part, modes_part, count_part}
use Rattle.d_cert.proofs.head.save_sizes.Goals as goal

pub returns-in_err-save_counts-clause-told : goal.returns-in_err-save_counts-clause-told
unfolding line.word line.parts line.line_text
returns-in_err-save_counts-clause-told g c = λ t.
    let i = c.args.problem.now in
    let failed = c.in_err-save_counts.ensures.told (line.levels (pos i.storage.floor) (pos i.storage.capacity) (pos i.storage.start) (pos i.storage.end)) refl (levels_part i.storage c.battery-battery.result.now c.battery-battery.ensures) t in
    let p = err_from_is_err_and c.from_residual.result c.from_residual.ensures.1 in
    rw p.1 (lines_cut ((line.levels (pos i.storage.floor) (pos i.storage.capacity) (pos i.storage.start) (pos i.storage.end)) ∷ []) ((line.modes (pos (length i.storage.modes))) ∷ (line.groups (pos (length i.peaks))) ∷ (line.tiered (pos (length (tiered i)))) ∷ []) _ _ failed)

pub returns-in_err-save_counts-2-clause-told : goal.returns-in_err-save_counts-2-clause-told
unfolding line.word line.parts line.line_text
returns-in_err-save_counts-2-clause-told g c = λ t.
    let i = c.args.problem.now in
    let told-1 = c.in_ok-save_counts.ensures.told (line.levels (pos i.storage.floor) (pos i.storage.capacity) (pos i.storage.start) (pos i.storage.end)) refl (levels_part i.storage c.battery-battery.result.now c.battery-battery.ensures) t in
    let saved-1 = told-1 in
    let failed = c.in_err-save_counts-2.ensures.told (line.modes (pos (length i.storage.modes))) refl (modes_part i.storage c.battery-battery.result.now _ c.battery-battery.ensures c.as_slice.ensures) t in
    let p = err_from_is_err_and c.from_residual-in_err-save_counts-2.result c.from_residual-in_err-save_counts-2.ensures.1 in
    rw p.1 (lines_stop ((line.levels (pos i.storage.floor) (pos i.storage.capacity) (pos i.storage.start) (pos i.storage.end)) ∷ []) ((line.modes (pos (length i.storage.modes))) ∷ []) ((line.groups (pos (length i.peaks))) ∷ (line.tiered (pos (length (tiered i)))) ∷ []) _ _ _ saved-1 failed)

pub returns-in_err-save_counts-3-clause-told : goal.returns-in_err-save_counts-3-clause-told
unfolding line.word line.parts line.line_text
returns-in_err-save_counts-3-clause-told g c = λ t.
    let i = c.args.problem.now in
    let told-1 = c.in_ok-save_counts.ensures.told (line.levels (pos i.storage.floor) (pos i.storage.capacity) (pos i.storage.start) (pos i.storage.end)) refl (levels_part i.storage c.battery-battery.result.now c.battery-battery.ensures) t in
    let saved-1 = told-1 in
    let told-2 = c.in_ok-save_counts-2.ensures.told (line.modes (pos (length i.storage.modes))) refl (modes_part i.storage c.battery-battery.result.now _ c.battery-battery.ensures c.as_slice.ensures) t in
    let saved-2 = lines_then ((line.levels (pos i.storage.floor) (pos i.storage.capacity) (pos i.storage.start) (pos i.storage.end)) ∷ []) ((line.modes (pos (length i.storage.modes))) ∷ []) _ _ _ saved-1 told-2 in
    let failed = c.in_err-save_counts-3.ensures.told (line.groups (pos (length i.peaks))) refl (count_part i.peaks _ c.groups.ensures.value) t in
    let p = err_from_is_err_and c.from_residual-in_err-save_counts-3.result c.from_residual-in_err-save_counts-3.ensures.1 in
    rw p.1 (lines_stop ((line.levels (pos i.storage.floor) (pos i.storage.capacity) (pos i.storage.start) (pos i.storage.end)) ∷ (line.modes (pos (length i.storage.modes))) ∷ []) ((line.groups (pos (length i.peaks))) ∷ []) ((line.tiered (pos (length (tiered i)))) ∷ []) _ _ _ saved-2 failed)

pub returns-clause-told : goal.returns-clause-told
unfolding line.word line.parts line.line_text
returns-clause-told g c = λ t.
    let i = c.args.problem.now in
    let told-1 = c.in_ok-save_counts.ensures.told (line.levels (pos i.storage.floor) (pos i.storage.capacity) (pos i.storage.start) (pos i.storage.end)) refl (levels_part i.storage c.battery-battery.result.now c.battery-battery.ensures) t in
    let saved-1 = told-1 in
    let told-2 = c.in_ok-save_counts-2.ensures.told (line.modes (pos (length i.storage.modes))) refl (modes_part i.storage c.battery-battery.result.now _ c.battery-battery.ensures c.as_slice.ensures) t in
    let saved-2 = lines_then ((line.levels (pos i.storage.floor) (pos i.storage.capacity) (pos i.storage.start) (pos i.storage.end)) ∷ []) ((line.modes (pos (length i.storage.modes))) ∷ []) _ _ _ saved-1 told-2 in
    let told-3 = c.in_ok-save_counts-3.ensures.told (line.groups (pos (length i.peaks))) refl (count_part i.peaks _ c.groups.ensures.value) t in
    let saved-3 = lines_then ((line.levels (pos i.storage.floor) (pos i.storage.capacity) (pos i.storage.start) (pos i.storage.end)) ∷ (line.modes (pos (length i.storage.modes))) ∷ []) ((line.groups (pos (length i.peaks))) ∷ []) _ _ _ saved-2 told-3 in
    lines_end ((line.levels (pos i.storage.floor) (pos i.storage.capacity) (pos i.storage.start) (pos i.storage.end)) ∷ (line.modes (pos (length i.storage.modes))) ∷ (line.groups (pos (length i.peaks))) ∷ []) ((line.tiered (pos (length (tiered i)))) ∷ []) _ _ _ c.save_counts-4.result saved-3 (c.save_counts-4.ensures.told (line.tiered (pos (length (tiered i)))) refl (count_part (tiered i) [] (sym c.requires.untiered)) t)
