use Rattle.d_bill.proofs.WalkFacts.{IsWalkedTo}
use Rattle.d_bill.proofs.problem.Problem.walk.Given as goal

abbrev pub invariant-loop-t : goal.invariant-loop-t
invariant-loop-t l = IsWalkedTo l.self l.schedule l.t l.level l.counted
