use Rattle.std.proofs.Common.{rules, ◌*◌, ◌^◌, subst, sym, rules}
use Rattle.d_num.specs.Amount.{IsUpTo}
use Rattle.d_bound.proofs.LowFacts.{prices_at}
use Rattle.d_bound.proofs.bound.low_charge.Goals as goal

pub returns-clause-range : goal.returns-clause-range
returns-clause-range c =
    c.charge.ensures.size (3 * 10 ^ 21) (10 ^ 13) (prices_at c.args.problem.now.peaks c.groups.result.now c.args.group c.index-groups-group.result c.groups.ensures.value c.groups.ensures.range.groups c.requires.group c.index-groups-group.is)
    (subst (IsUpTo (10 ^ 13)) (sym c.low_end.ensures) (search rules))
    (subst (IsUpTo (10 ^ 13)) c.value-floor.ensures.value c.value-floor.ensures.range)
