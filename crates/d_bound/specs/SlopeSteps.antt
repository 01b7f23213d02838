-- The slopes of boxes of problems in which no period is tiered; only private functions cite these words.
use Rattle.std.specs.Prelude.{[], Option}
use Rattle.d_box.specs.declared.space.Space.{Space}
use Rattle.d_box.specs.declared.slopes.Slopes.{Slopes}
use Rattle.d_box.specs.Trials.{trial_slope}
use Rattle.d_bill.specs.Totals.{values_of}

-- the slopes of the first trial where there is no tiered period
abbrev pub untiered_slopes : Space → Option Slopes → Slopes
untiered_slopes space parent = record { rates = values_of 36 (trial_slope space [] parent 0) }
