use Rattle.std.proofs.Common.{◌-◌, length}
use Rattle.d_search.specs.Growths.{IsGrowing}
use Rattle.d_search.proofs.searches.grow.Given as goal

abbrev pub invariant-loop-key : goal.invariant-loop-key
invariant-loop-key l = IsGrowing l.problem l.bounder l.budget l.growth

abbrev pub decreases-loop-key : goal.decreases-loop-key
decreases-loop-key l = l.budget - length l.growth.nodes.items
