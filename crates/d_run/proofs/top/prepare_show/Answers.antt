use Rattle.std.proofs.Common.{map, string_bytes}
use Rattle.d_words.specs.Shows.{seen_of}
use Rattle.d_run.specs.Answer.{IsAnswer, IsShownTo, show}
use Rattle.d_run.proofs.StageFacts.{prepares_as}
use Rattle.d_run.proofs.RequestAnswers.{seen_answer}
use Rattle.d_run.proofs.top.prepare_show.Goals as goal

pub returns-in-Some-clause-told : goal.returns-in-Some-clause-told
returns-in-Some-clause-told g c t =
    let x = g.D.Desk.scene c.args.desk.now in
    let y = g.D.Desk.scene c.answer_show.new.desk in
    let words = map string_bytes c.args.words.now in
    let seen = seen_of c.in-Some.show in
    prepares_as (IsShownTo x.files seen) (IsAnswer words x.files) x y c.answer_show.result
    (λ answer to. show seen c.in-Some.ensures to) (seen_answer words x.files seen c.in-Some.ensures) (c.answer_show.ensures.told t)
