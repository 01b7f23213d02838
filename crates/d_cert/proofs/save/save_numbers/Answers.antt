use Rattle.std.proofs.Common.{◌∷◌, ◌++◌, ap, ◌∙◌}
use Rattle.std.specs.List.{flat_map}
use Rattle.d_certline.specs.Wholes.{whole}
use Rattle.d_cert.proofs.SaveFacts.{put_line, put_behind, numbers_are}
use Rattle.d_cert.proofs.save.save_numbers.Goals as goal

pub returns-clause-told : goal.returns-clause-told
returns-clause-told g c = λ l begins has t.
    put_line l _ c.put_numbers.new.line.items _ _ _
    (put_behind c.args.word.now (flat_map (λ z. 32 ∷ whole z) c.args.numbers.now) _ _ _ c.requires.empty
    (c.in_ok-extend_from_slice.ensures.items ∙ ap (λ l. c.args.line.now.items ++ l) c.as_bytes.ensures.value) c.in_ok-put_numbers.ensures)
    (numbers_are l c.args.word.now c.args.numbers.now begins has) (c.save_line.ensures.told t)
