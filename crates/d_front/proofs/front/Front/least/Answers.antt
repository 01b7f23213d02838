use Rattle.std.proofs.Common.{ap, sym, rules}
use Rattle.d_front.proofs.FrontFacts.{first_shown}
use Rattle.d_front.proofs.front.Front.least.Goals as goal

pub returns : goal.returns
returns c =
    let e = c.in_ok-first.ensures in
    first_shown _ _ _ (ap (λ w. w.keys) c.self.view_is) (search rules) (sym e.lookup) (e.greatest c.self.invariant.0)
