use Rattle.d_bill.specs.Bills.{group_charge}
use Rattle.d_bill.specs.Counting.{group_limit}
use Rattle.d_bill.proofs.ChargeFacts.{IsChargedTo}
use Rattle.d_bill.proofs.problem.Problem.group_charges.Given as goal

abbrev pub invariant-loop-group : goal.invariant-loop-group
invariant-loop-group l = IsChargedTo l.group (group_charge l.self l.tally) (group_limit l.self) l.sum
