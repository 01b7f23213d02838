use Rattle.std.proofs.Common.{option_map}
use Rattle.d_bound.proofs.SlopeFacts.{slopes_are}
use Rattle.d_bound.proofs.slopes.first_slopes.Goals as goal

pub returns : goal.returns
returns c = slopes_are c.args.space.now (option_map (λ s. s.now) c.args.parent) c.trial.new.out c.show_count.ensures c.trial.ensures
