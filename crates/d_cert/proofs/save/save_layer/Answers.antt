use Rattle.std.specs.Int.{w128}
use Rattle.std.proofs.lemmas.Int.{to_z_pos}
use Rattle.std.proofs.Common.{rules, pos, codes, ◌∷◌, ◌++◌, sym, ap, ◌∙◌}
use Rattle.std.specs.List.{flat_map}
use Rattle.d_certline.specs.Wholes.{whole}
use Rattle.d_certline.specs.Lines.{spaced}
use Rattle.d_certline.specs.Lines as line
use Rattle.d_cert.proofs.SaveFacts.{put_line, put_list, layer_is}
use Rattle.d_cert.proofs.save.save_layer.Goals as goal

pub returns-clause-told : goal.returns-clause-told
returns-clause-told g c = λ t.
    put_line (line.layer c.args.t c.args.row.now) _ c.put_pots.new.line.items _ _ _
    (put_list (codes "at") (32 ∷ whole (pos c.args.t)) (flat_map spaced c.args.row.now) _ _ _ _ c.requires.empty
    (c.in_ok-extend_from_slice.ensures.items ∙ ap (λ l. c.args.line.now.items ++ l) c.as_slice.ensures)
    (c.in_ok-put_number.ensures ∙ ap (λ z. c.extend_from_slice.new.self.items ++ 32 ∷ whole z) (to_z_pos w128 c.args.t (search rules)))
    c.in_ok-put_pots.ensures)
    (sym (layer_is c.args.t c.args.row.now)) (c.save_line.ensures.told t)
