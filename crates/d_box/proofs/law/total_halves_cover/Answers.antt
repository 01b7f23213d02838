use Rattle.d_box.proofs.HalfFacts.{total_cover}
use Rattle.d_box.proofs.law.total_halves_cover.Goals as goal

pub returns : goal.returns
returns c = total_cover
