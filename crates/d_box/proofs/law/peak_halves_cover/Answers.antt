use Rattle.d_box.proofs.HalfFacts.{peak_cover}
use Rattle.d_box.proofs.law.peak_halves_cover.Goals as goal

pub returns : goal.returns
returns c = peak_cover
