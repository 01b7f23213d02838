use Rattle.std.proofs.Common.{refl}
use Rattle.d_bill.specs.Inputs.{HasPeakPrices}
use Rattle.d_bill.proofs.JoinFacts.{all_more}
use Rattle.d_bill.proofs.join.joined_groups.Goals as goal
use Rattle.d_bill.proofs.join.joined_groups.Goals.{in-Some+in_ok-add, in_default}

pub returns-clause-prices : goal.returns-clause-prices
returns-clause-prices c =
    let before = c.in_ok-groups.ensures.prices in
    elim c.match-flat_peak.branch [
      | in-Some+in_ok-add w ↦ rw w.groups-is (all_more HasPeakPrices w.in-Some.peak _ _ w.in_ok-add.ensures.ok before (w.in-Some.ensures.prices _ refl))
      | in_default w ↦ rw w.groups-is before
    ]
