use Rattle.std.proofs.Common.{pos, ◌∷◌, ◌++◌, ap, ◌∙◌}
use Rattle.std.specs.List.{flat_map}
use Rattle.d_certline.specs.Wholes.{whole}
use Rattle.d_cert.proofs.SaveFacts.{put_line, put_behind, counts_are}
use Rattle.d_cert.proofs.save.save_counts.Goals as goal

pub returns-clause-told : goal.returns-clause-told
returns-clause-told g c = λ l begins has t.
    put_line l _ c.put_counts.new.line.items _ _ _
    (put_behind c.args.word.now (flat_map (λ n. 32 ∷ whole (pos n)) c.args.counts.now) _ _ _ c.requires.empty
    (c.in_ok-extend_from_slice.ensures.items ∙ ap (λ l. c.args.line.now.items ++ l) c.as_bytes.ensures.value) c.in_ok-put_counts.ensures)
    (counts_are l c.args.word.now c.args.counts.now begins has) (c.save_line.ensures.told t)
