use Rattle.d_search.specs.declared.outcome.Verdict.TheVariants.{Least, GapBudget, GapDuality}
use Rattle.d_cert.specs.Written.{found_by}
use Rattle.d_cert.proofs.FoundFacts.{found_text, none_text}
use Rattle.d_cert.proofs.found.save_found.Goals as goal

pub returns-in-Infeasible-clause-told : goal.returns-in-Infeasible-clause-told
returns-in-Infeasible-clause-told g c = λ t. none_text c.args.problem.now c.args.outcome.now _ c.in-Infeasible.is

pub returns-in-Least-clause-told : goal.returns-in-Least-clause-told
unfolding found_by
returns-in-Least-clause-told g c = λ t.
    found_text c.args.problem.now c.args.outcome.now Least _ _ _ _ _ c.save_plan.result c.in-Least.is c.list.ensures c.money_of-bill.ensures c.money_of-bound.ensures (c.save_plan.ensures.told t)

pub returns-in-GapBudget-clause-told : goal.returns-in-GapBudget-clause-told
unfolding found_by
returns-in-GapBudget-clause-told g c = λ t.
    found_text c.args.problem.now c.args.outcome.now GapBudget _ _ _ _ _ c.save_gap.result c.in-GapBudget.is c.list-in-GapBudget.ensures c.money_of-bill.ensures c.money_of-bound.ensures (c.save_gap.ensures.told t)

pub returns-in-GapDuality-clause-told : goal.returns-in-GapDuality-clause-told
unfolding found_by
returns-in-GapDuality-clause-told g c = λ t.
    found_text c.args.problem.now c.args.outcome.now GapDuality _ _ _ _ _ c.save_gap-in-GapDuality.result c.in-GapDuality.is c.list-in-GapDuality.ensures c.money_of-bill.ensures c.money_of-bound.ensures
    (c.save_gap-in-GapDuality.ensures.told t)
