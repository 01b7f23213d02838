use Rattle.std.proofs.lemmas.Result.{err_from_is_err_and}
use Rattle.std.proofs.Common.{[], ◌∷◌, ◌+◌, sym, refl, ap, subst, ◌∙◌}
use Rattle.d_path.specs.Arcs.{Arcs}
use Rattle.d_certline.specs.Lines as line
use Rattle.d_certline.specs.Certificates.{tree_lines, layer_lines}
use Rattle.d_cert.specs.Written.{AreRows}
use Rattle.d_cert.proofs.ChainFacts.{lines_then, lines_end, lines_cut, lines_stop}
use Rattle.d_cert.proofs.leaf.save_leaf.Goals as goal

pub returns-in_err-save_counts-clause-told : goal.returns-in_err-save_counts-clause-told
unfolding tree_lines line.word line.parts
returns-in_err-save_counts-clause-told g c = λ layers rows count t.
    let p = err_from_is_err_and c.from_residual.result c.from_residual.ensures.1 in
    rw p.1 (lines_cut (line.leaf ∷ []) (line.slopes [] ∷ layer_lines layers) _ _ (c.in_err-save_counts.ensures.told line.leaf refl refl t))

pub returns-in_err-save_counts-2-clause-told : goal.returns-in_err-save_counts-2-clause-told
unfolding tree_lines line.word line.parts
returns-in_err-save_counts-2-clause-told g c = λ layers rows count t.
    let p = err_from_is_err_and c.from_residual-in_err-save_counts-2.result c.from_residual-in_err-save_counts-2.ensures.1 in
    rw p.1 (lines_stop (line.leaf ∷ []) (line.slopes [] ∷ []) (layer_lines layers) _ _ _ (c.in_ok-save_counts.ensures.told line.leaf refl refl t)
    (c.in_err-save_counts-2.ensures.told (line.slopes []) refl refl t))

pub returns-clause-told : goal.returns-clause-told
unfolding tree_lines line.word line.parts
returns-clause-told g c = λ layers rows count t.
    lines_end (line.leaf ∷ line.slopes [] ∷ []) (layer_lines layers) _ _ _ c.save_layers.result
    (lines_then (line.leaf ∷ []) (line.slopes [] ∷ []) _ _ _ (c.in_ok-save_counts.ensures.told line.leaf refl refl t) (c.in_ok-save_counts-2.ensures.told (line.slopes []) refl refl t))
    (c.save_layers.ensures.told layers (subst (λ (a : Arcs). AreRows a layers) (sym c.fill.ensures.arcs) rows) (count ∙ ap (λ n. n + 1) (sym c.intervals.ensures.value)) t)
