use Rattle.d_search.proofs.searches.search.Goals as goal

pub returns-clause-promise : goal.returns-clause-promise
returns-clause-promise c = c.searches_keep_promises.ensures c.args.problem.now c.args.room.budget c.grow.result (record { range = c.intervals-count.ensures.range; none = c.requires.untiered }) c.grow.ensures.outcome

pub returns-clause-enough : goal.returns-clause-enough
returns-clause-enough c =
    c.searches_suffice.ensures c.args.problem.now c.args.room.budget c.grow.result (record { range = c.intervals-count.ensures.range; none = c.requires.untiered }) c.grow.ensures.outcome
