-- What the code of bounds asks of a box; only private functions cite these words.
use Rattle.std.specs.Prelude.{◌≡◌, ℕ, ◌<◌, length}
use Rattle.d_num.specs.Amount.{IsWatt}
use Rattle.d_box.specs.declared.space.Space.{Space}
use Rattle.d_box.specs.Boxes.{range_at}
use Rattle.d_bill.specs.Inputs.{Inputs}

-- the box has a range for each group, whose low end is a power from 0 to 10^13 W
pub record ArePeaksInRange (i : Inputs) (space : Space) : Type 0 where
  pub long : length space.peaks ≡ 37
  pub low : (group : ℕ) → group < length i.peaks → IsWatt (range_at space.peaks group).low
