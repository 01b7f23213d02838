use Rattle.std.proofs.Common.{◌≡◌}
use Rattle.d_bill.specs.Flows.{net_at}
use Rattle.d_bill.specs.Totals.{tally_to}
use Rattle.d_bill.proofs.problem.Problem.metered.Given as goal

-- the intervals so far are counted
abbrev pub invariant-loop-t : goal.invariant-loop-t
invariant-loop-t l = l.tally ≡ tally_to l.self (net_at l.self) l.t
