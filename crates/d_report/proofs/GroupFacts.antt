-- What a group's line shows.
use Rattle.std.proofs.Common.{◌≡◌, ℕ, zero, suc, ◌<◌, ℤ, pos, List, [], ◌∷◌, length, refl, ap, ◌∙◌, arith, slice_get, slice_index_or}
use Rattle.std.specs.Option.{option_map, unwrap_or}
use Rattle.std.proofs.lemmas.List.{get_or_default}
use Rattle.d_tier.specs.declared.peak.Peak.{Peak}
use Rattle.d_bill.specs.Inputs.{Inputs, IsInRange}
use Rattle.d_bill.specs.Totals.{Tallied}
use Rattle.d_report.specs.Charges.{floor_at}

-- the floor of a group that is there
at_floor : (peaks : List Peak) (group : ℕ) (d : Peak) → group < length peaks
    → (slice_index_or peaks group d).floor ≡ unwrap_or (option_map (λ (peak : Peak). peak.floor) (slice_get peaks group)) (pos 0)
at_floor [] group d there = absurd (omega arith)
at_floor (peak ∷ rest) zero d there = refl
at_floor (peak ∷ rest) (suc group) d there = at_floor rest group d (omega arith)

pub floor_is : (i : Inputs) (peaks : List Peak) (group : ℕ) (d : Peak) → peaks ≡ i.peaks → group < length i.peaks → (slice_index_or peaks group d).floor ≡ floor_at i group
floor_is i peaks group d same there = ap (λ (list : List Peak). (slice_index_or list group d).floor) same ∙ at_floor i.peaks group d there

-- the greatest power of a group that is there
pub peak_is : (i : Inputs) (inside tally : Tallied) (group : ℕ) (d : ℤ) → IsInRange i → group < length i.peaks → length inside.peaks ≡ 37 → inside ≡ tally
    → slice_index_or inside.peaks group d ≡ slice_index_or tally.peaks group (pos 0)
peak_is i inside tally group d fine there long same =
    get_or_default inside.peaks group d (pos 0) (let few = fine.few_demand_groups in let flat = fine.flat_group in omega arith)
    ∙ ap (λ (t : Tallied). slice_index_or t.peaks group (pos 0)) same
