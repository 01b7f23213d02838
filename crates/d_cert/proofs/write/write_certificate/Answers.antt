use Rattle.std.proofs.lemmas.Result.{err_from_is_err_and}
use Rattle.std.proofs.Common.{[], ◌∷◌, ◌++◌, refl}
use Rattle.d_certline.specs.Lines as line
use Rattle.d_certline.specs.Certificates.{found_lines, tree_lines}
use Rattle.d_cert.specs.Heads.{month_lines, size_lines, verdict_line}
use Rattle.d_cert.specs.Written.{found_of}
use Rattle.d_search.proofs.ShapeFacts.{searches_form}
use Rattle.d_cert.proofs.ChainFacts.{lines_then, lines_end, lines_cut, lines_stop}
use Rattle.d_cert.proofs.WholeFacts.{front_whole, end_whole, front_as, text_as, three, four, five, six}
use Rattle.d_cert.proofs.write.write_certificate.Goals as goal

pub returns-in_err-save_month-clause-told : goal.returns-in_err-save_month-clause-told
returns-in_err-save_month-clause-told g c = λ cert is t.
    let i = c.args.problem.now in
    let label = c.args.label.now in
    let o = c.args.outcome.now in
    let p = err_from_is_err_and c.from_residual.result c.from_residual.ensures.1 in
    rw p.1 (front_whole i label o cert _ _ is (lines_cut (month_lines i label) ((size_lines i) ++ ((verdict_line o.verdict) ++ ((found_lines (found_of i o)) ++ ((tree_lines cert.tree) ++ (line.finish ∷ []))))) _ _ (c.in_err-save_month.ensures.told t)))

pub returns-in_err-save_sizes-clause-told : goal.returns-in_err-save_sizes-clause-told
returns-in_err-save_sizes-clause-told g c = λ cert is t.
    let i = c.args.problem.now in
    let label = c.args.label.now in
    let o = c.args.outcome.now in
    let saved-1 = c.in_ok-save_month.ensures.told t in
    let p = err_from_is_err_and c.from_residual-in_err-save_sizes.result c.from_residual-in_err-save_sizes.ensures.1 in
    rw p.1 (front_whole i label o cert _ _ is (front_as _ _ _ _ refl (lines_stop (month_lines i label) (size_lines i) ((verdict_line o.verdict) ++ ((found_lines (found_of i o)) ++ ((tree_lines cert.tree) ++ (line.finish ∷ [])))) _ _ _ saved-1 (c.in_err-save_sizes.ensures.told t))))

pub returns-in_err-save_verdict-clause-told : goal.returns-in_err-save_verdict-clause-told
returns-in_err-save_verdict-clause-told g c = λ cert is t.
    let i = c.args.problem.now in
    let label = c.args.label.now in
    let o = c.args.outcome.now in
    let saved-1 = c.in_ok-save_month.ensures.told t in
    let saved-2 = lines_then (month_lines i label) (size_lines i) _ _ _ saved-1 (c.in_ok-save_sizes.ensures.told t) in
    let p = err_from_is_err_and c.from_residual-in_err-save_verdict.result c.from_residual-in_err-save_verdict.ensures.1 in
    rw p.1 (front_whole i label o cert _ _ is (front_as _ _ _ _ (three (month_lines i label) (size_lines i) ((verdict_line o.verdict) ++ ((found_lines (found_of i o)) ++ ((tree_lines cert.tree) ++ (line.finish ∷ []))))) (lines_stop ((month_lines i label) ++ (size_lines i)) (verdict_line o.verdict) ((found_lines (found_of i o)) ++ ((tree_lines cert.tree) ++ (line.finish ∷ []))) _ _ _ saved-2 (c.in_err-save_verdict.ensures.told t))))

pub returns-in_err-save_found-clause-told : goal.returns-in_err-save_found-clause-told
returns-in_err-save_found-clause-told g c = λ cert is t.
    let i = c.args.problem.now in
    let label = c.args.label.now in
    let o = c.args.outcome.now in
    let saved-1 = c.in_ok-save_month.ensures.told t in
    let saved-2 = lines_then (month_lines i label) (size_lines i) _ _ _ saved-1 (c.in_ok-save_sizes.ensures.told t) in
    let saved-3 = lines_then ((month_lines i label) ++ (size_lines i)) (verdict_line o.verdict) _ _ _ saved-2 (c.in_ok-save_verdict.ensures.told t) in
    let p = err_from_is_err_and c.from_residual-in_err-save_found.result c.from_residual-in_err-save_found.ensures.1 in
    rw p.1 (front_whole i label o cert _ _ is (front_as _ _ _ _ (four (month_lines i label) (size_lines i) (verdict_line o.verdict) ((found_lines (found_of i o)) ++ ((tree_lines cert.tree) ++ (line.finish ∷ [])))) (lines_stop (((month_lines i label) ++ (size_lines i)) ++ (verdict_line o.verdict)) (found_lines (found_of i o)) ((tree_lines cert.tree) ++ (line.finish ∷ [])) _ _ _ saved-3 (c.in_err-save_found.ensures.told t))))

pub returns-in_err-save_tree-clause-told : goal.returns-in_err-save_tree-clause-told
returns-in_err-save_tree-clause-told g c = λ cert is t.
    let i = c.args.problem.now in
    let label = c.args.label.now in
    let o = c.args.outcome.now in
    let saved-1 = c.in_ok-save_month.ensures.told t in
    let saved-2 = lines_then (month_lines i label) (size_lines i) _ _ _ saved-1 (c.in_ok-save_sizes.ensures.told t) in
    let saved-3 = lines_then ((month_lines i label) ++ (size_lines i)) (verdict_line o.verdict) _ _ _ saved-2 (c.in_ok-save_verdict.ensures.told t) in
    let saved-4 = lines_then (((month_lines i label) ++ (size_lines i)) ++ (verdict_line o.verdict)) (found_lines (found_of i o)) _ _ _ saved-3 (c.in_ok-save_found.ensures.told t) in
    let p = err_from_is_err_and c.from_residual-in_err-save_tree.result c.from_residual-in_err-save_tree.ensures.1 in
    rw p.1 (front_whole i label o cert _ _ is (front_as _ _ _ _ (five (month_lines i label) (size_lines i) (verdict_line o.verdict) (found_lines (found_of i o)) ((tree_lines cert.tree) ++ (line.finish ∷ []))) (lines_stop ((((month_lines i label) ++ (size_lines i)) ++ (verdict_line o.verdict)) ++ (found_lines (found_of i o))) (tree_lines cert.tree) (line.finish ∷ []) _ _ _ saved-4 (c.in_err-save_tree.ensures.told cert.tree is.tree t))))

pub save_tree-requires-clause-tree : goal.save_tree-requires-clause-tree
save_tree-requires-clause-tree g c =
    let searched = c.requires.searched in
    searches_form c.args.problem.now searched.0 c.args.outcome.now c.args.bounder.now.candidates (record { range = c.requires.bounder.range; none = c.requires.untiered })
    c.requires.bounder.candidates searched.1

pub returns-clause-told : goal.returns-clause-told
unfolding line.word line.parts
returns-clause-told g c = λ cert is t.
    let i = c.args.problem.now in
    let label = c.args.label.now in
    let o = c.args.outcome.now in
    let saved-1 = c.in_ok-save_month.ensures.told t in
    let saved-2 = lines_then (month_lines i label) (size_lines i) _ _ _ saved-1 (c.in_ok-save_sizes.ensures.told t) in
    let saved-3 = lines_then ((month_lines i label) ++ (size_lines i)) (verdict_line o.verdict) _ _ _ saved-2 (c.in_ok-save_verdict.ensures.told t) in
    let saved-4 = lines_then (((month_lines i label) ++ (size_lines i)) ++ (verdict_line o.verdict)) (found_lines (found_of i o)) _ _ _ saved-3 (c.in_ok-save_found.ensures.told t) in
    let saved-5 = lines_then ((((month_lines i label) ++ (size_lines i)) ++ (verdict_line o.verdict)) ++ (found_lines (found_of i o))) (tree_lines cert.tree) _ _ _ saved-4 (c.in_ok-save_tree.ensures.told cert.tree is.tree t) in
    end_whole i label o cert _ _ c.save_counts.result is (text_as _ _ _ _ c.save_counts.result (six (month_lines i label) (size_lines i) (verdict_line o.verdict) (found_lines (found_of i o)) (tree_lines cert.tree) (line.finish ∷ []))
    (lines_end (((((month_lines i label) ++ (size_lines i)) ++ (verdict_line o.verdict)) ++ (found_lines (found_of i o))) ++ (tree_lines cert.tree)) (line.finish ∷ []) _ _ _ c.save_counts.result saved-5 (c.save_counts.ensures.told line.finish refl refl t)))
