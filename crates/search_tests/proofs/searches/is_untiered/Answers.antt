use Rattle.std.proofs.Common.{arith}
use Rattle.d_bill.specs.Slopes.{tiered_at}
use Rattle.d_bill.proofs.TieredFacts.{numbers_none}
use Rattle.search_tests.proofs.searches.is_untiered.Goals as goal

pub returns : goal.returns
returns c = λ _. numbers_none 36 (tiered_at c.args.problem.now) (λ k below. c.loop-period.invariant k (let over = c.loop-period-test.false in omega arith))
