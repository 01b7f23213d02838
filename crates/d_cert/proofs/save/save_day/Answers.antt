use Rattle.std.specs.Int.{w128}
use Rattle.std.proofs.lemmas.Int.{to_z_pos}
use Rattle.std.proofs.Common.{rules, pos, codes, map, ◌∷◌, ◌++◌, sym, ap, ◌∙◌}
use Rattle.std.specs.List.{flat_map}
use Rattle.d_certline.specs.Wholes.{whole}
use Rattle.d_certline.specs.Lines.{spaced}
use Rattle.d_certline.specs.Lines as line
use Rattle.d_cert.proofs.SaveFacts.{put_line, put_list, day_is}
use Rattle.d_cert.proofs.save.save_day.Goals as goal

pub returns-clause-told : goal.returns-clause-told
returns-clause-told g c = λ t.
    put_line (line.day c.args.number (map (λ m. pos m) c.args.modes.now)) _ c.put_modes.new.line.items _ _ _
    (put_list (codes "day") (32 ∷ whole (pos c.args.number)) (flat_map (λ m. 32 ∷ whole (pos m)) c.args.modes.now) _ _ _ _ c.requires.empty
    (c.in_ok-extend_from_slice.ensures.items ∙ ap (λ l. c.args.line.now.items ++ l) c.as_slice.ensures)
    (c.in_ok-put_number.ensures ∙ ap (λ z. c.extend_from_slice.new.self.items ++ 32 ∷ whole z) (to_z_pos w128 c.args.number (search rules)))
    c.in_ok-put_modes.ensures)
    (sym (day_is c.args.number c.args.modes.now)) (c.save_line.ensures.told t)
