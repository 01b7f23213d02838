use Rattle.std.proofs.Common.{◌++◌, ap, ◌∙◌}
use Rattle.d_cert.proofs.SaveFacts.{put_line, put_behind}
use Rattle.d_cert.proofs.save.save_text.Goals as goal

pub returns-clause-told : goal.returns-clause-told
returns-clause-told g c = λ l is t.
    put_line l _ c.extend_from_slice-2.new.self.items _ _ _
    (put_behind c.args.word.now c.args.text.now _ _ _ c.requires.empty
    (c.in_ok-extend_from_slice.ensures.items ∙ ap (λ l. c.args.line.now.items ++ l) c.as_bytes.ensures.value)
    (c.in_ok-extend_from_slice-2.ensures.items ∙ ap (λ l. c.extend_from_slice.new.self.items ++ l) c.as_bytes-2.ensures.value))
    is (c.save_line.ensures.told t)
