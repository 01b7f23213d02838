-- Slopes as lists of 36 rates.
use Rattle.std.proofs.Common.{◌≡◌, ◌<◌, ℕ, ℤ, List, length, Option, [], ap}
use Rattle.d_box.specs.declared.space.Space.{Space}
use Rattle.d_box.specs.declared.slopes.Slopes.{Slopes}
use Rattle.d_box.specs.Trials.{rate_at, trial_slope}
use Rattle.d_bill.proofs.Values.{values_all}
use Rattle.d_bound.specs.SlopeSteps.{untiered_slopes}

-- 36 rates that are those of the first trial
pub slopes_are : (space : Space) (parent : Option Slopes) (slopes : Slopes) → length slopes.rates ≡ 36 → ((k : ℕ) → k < 36 → rate_at slopes k ≡ trial_slope space [] parent 0 k) → slopes ≡ untiered_slopes space parent
slopes_are space parent slopes long each = ap (λ (rates : List ℤ). record { rates = rates }) (values_all 36 slopes.rates (trial_slope space [] parent 0) long each)
