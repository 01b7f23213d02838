use Rattle.std.proofs.Common.{ap}
use Rattle.d_front.proofs.FrontFacts.{taken_shown}
use Rattle.d_front.proofs.front.Front.take_least.Goals as goal

pub returns-clause-taken : goal.returns-clause-taken
returns-clause-taken c =
    let e = c.in_ok-key.ensures in
    taken_shown _ _ _ _ (ap (λ w. w.keys) c.self.view_is) e.permutation (e.heap_order c.self.invariant.0).1
