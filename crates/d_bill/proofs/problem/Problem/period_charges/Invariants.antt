use Rattle.d_bill.specs.Bills.{period_charge}
use Rattle.d_bill.specs.Counting.{total_limit}
use Rattle.d_bill.proofs.ChargeFacts.{IsChargedTo}
use Rattle.d_bill.proofs.problem.Problem.period_charges.Given as goal

abbrev pub invariant-loop-period : goal.invariant-loop-period
invariant-loop-period l = IsChargedTo l.period (period_charge l.self l.tally) (total_limit l.tally) l.sum
