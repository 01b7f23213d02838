use Rattle.std.proofs.Common.{ap}
use Rattle.std.proofs.lemmas.Result.{IfOk-at_ok}
use Rattle.d_front.proofs.FrontFacts.{put_shown}
use Rattle.d_front.proofs.front.Front.put.Goals as goal

-- there is room, so the push went well
pub returns-clause-keys : goal.returns-clause-keys
returns-clause-keys c =
    put_shown _ _ _ _ (ap (λ w. w.keys) c.self.view_is) (IfOk-at_ok _ c.unwrap.ensures c.push.ensures.permutation)
