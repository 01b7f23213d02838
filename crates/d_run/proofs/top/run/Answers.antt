use Rattle.std.proofs.Common.{◌∙◌, ap}
use Rattle.d_run.specs.Runs.{answered, status_of}
use Rattle.d_run.proofs.top.run.Goals as goal

pub returns-in-Ok-clause-told : goal.returns-in-Ok-clause-told
returns-in-Ok-clause-told g c t =
    let gives = c.in-Ok.ensures.told t in
    answered gives.answer gives.is (c.status_of.ensures ∙ ap status_of gives.verdict_is) gives.answered
