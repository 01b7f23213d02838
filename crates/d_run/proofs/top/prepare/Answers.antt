use Rattle.std.proofs.Common.{map, string_bytes}
use Rattle.d_words.specs.Asking.{asked_of}
use Rattle.d_run.specs.Answer.{IsAnswer, IsAnswerTo, request}
use Rattle.d_run.proofs.StageFacts.{prepares_as}
use Rattle.d_run.proofs.RequestAnswers.{asked_answer}
use Rattle.d_run.proofs.top.prepare.Goals as goal

pub returns-in-Some-clause-told : goal.returns-in-Some-clause-told
returns-in-Some-clause-told g c t =
    let x = g.D.Desk.scene c.args.desk.now in
    let y = g.D.Desk.scene c.answer_request.new.desk in
    let words = map string_bytes c.args.words.now in
    let asked = asked_of c.in-Some.request in
    prepares_as (IsAnswerTo x.files asked) (IsAnswer words x.files) x y c.answer_request.result
    (λ answer to. request asked c.in-Some.ensures to) (asked_answer words x.files asked c.in-Some.ensures) (c.answer_request.ensures.told t)
