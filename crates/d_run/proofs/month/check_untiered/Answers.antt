use Rattle.d_run.proofs.PlanStages.{tiers_not_yet}
use Rattle.d_run.proofs.month.check_untiered.Goals as goal

pub returns-then-not-is_untiered-clause-refused : goal.returns-then-not-is_untiered-clause-refused
returns-then-not-is_untiered-clause-refused c = tiers_not_yet c.args.problem.now c.is_untiered.result c.fault.result c.is_untiered.ensures.1 c.if-not-is_untiered.true c.fault.ensures
