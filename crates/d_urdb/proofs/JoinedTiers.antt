-- The joined tiers of a period charge as its own.
use Rattle.std.proofs.Common.{◌≡◌, ℕ, zero, suc, ◌+◌, ◌≤◌, ℤ, pos, ◌<ℤ◌, Bool, true, false, if◌then◌else◌, List, [], ◌∷◌, Some, unwrap_or, map, fold, refl, sym, ap, subst, ◌∙◌, arith, add-one}
use Rattle.std.specs.List.{filter, range_with_len}
use Rattle.d_tier.specs.declared.tier.Tier.{Tier}
use Rattle.d_tier.specs.Tables.{open_tier, with_tier}
use Rattle.d_tier.specs.Charges.{tier_charge}
use Rattle.d_tier.specs.Joined.{Step, IsRisingFrom, own_tiers}
use Rattle.d_tier.proofs.JoinFacts.{joining_keeps}
use Rattle.d_columns.specs.declared.names.Structure.{Structure}
use Rattle.d_columns.specs.Tiers.{Row, has_tier}
use Rattle.d_columns.proofs.HoleLaws.{one_before, no_16}
use Rattle.d_urdb.specs.Numbers.{CellReader, IsCellReader}
use Rattle.d_urdb.specs.Periods.{begin_of, end_of, price_of, tiers_to}
use Rattle.d_urdb.specs.Values.{HasRisingEnds}
use Rattle.d_urdb.specs.OwnTiers.{own_tier, period_tiers, ChargesAsRecorded}
use Rattle.d_urdb.proofs.TierRise.{ends_above}

-- the steps behind a tier
steps_from : CellReader → Row → Structure → ℕ → ℕ → ℕ → List Step
steps_from reader row structure period tier zero = []
steps_from reader row structure period tier (suc n) =
    if has_tier row structure period (suc tier)
    then record { begin = unwrap_or (end_of reader row structure period tier) (pos 0); price = price_of reader row structure period (suc tier) }
    ∷ steps_from reader row structure period (suc tier) n
    else []

rise_from : (reader : CellReader) → IsCellReader reader → (row : Row) (structure : Structure) (period tier n : ℕ) (begin : ℤ) → HasRisingEnds row structure period
    → tier + n ≤ 15 → begin_of reader row structure period tier ≡ Some begin → IsRisingFrom begin (steps_from reader row structure period tier n)
unfolding steps_from
rise_from reader are row structure period tier zero begin rising small is = tt
rise_from reader are row structure period tier (suc n) begin rising small is =
    by_test (has_tier row structure period (suc tier)) refl (λ to later. rise_from reader are row structure period (suc tier) n to rising (omega (arith, small)) later)
  where
    by_test : (b : Bool) → has_tier row structure period (suc tier) ≡ b
        → ((to : ℤ) → end_of reader row structure period tier ≡ Some to → IsRisingFrom to (steps_from reader row structure period (suc tier) n))
        → IsRisingFrom begin (if b
        then record { begin = unwrap_or (end_of reader row structure period tier) (pos 0); price = price_of reader row structure period (suc tier) }
        ∷ steps_from reader row structure period (suc tier) n
        else [])
    by_test true there later =
        let found = ends_above _ _ (rising.rising reader are tier (omega (arith, small)) there) in
        let same : Some found.from ≡ Some begin = sym found.from_is ∙ is in
        let begins : found.from ≡ begin = cc in
        rw found.to_is (subst (λ (z : ℤ). z <ℤ found.to) begins found.above, later found.to found.to_is)
    by_test false none later = tt

-- where a tier isn't there the next one isn't
none_after : (row : Row) (structure : Structure) (period tier : ℕ) → HasRisingEnds row structure period → tier ≤ 14
    → has_tier row structure period tier ≡ false → has_tier row structure period (suc tier) ≡ false
none_after row structure period tier rising small none = by_test (has_tier row structure period (suc tier)) refl
  where
    by_test : (b : Bool) → has_tier row structure period (suc tier) ≡ b → has_tier row structure period (suc tier) ≡ false
    by_test true there = absurd (let e : true ≡ false = sym (one_before row structure period tier rising.no_hole small there) ∙ none in cc)
    by_test false is = is

-- and no later one adds to the table
none_added : (reader : CellReader) (row : Row) (structure : Structure) (period tier n last : ℕ) → HasRisingEnds row structure period → tier + n ≡ last → last ≤ 15
    → has_tier row structure period (suc tier) ≡ false → tiers_to reader row structure period tier ≡ tiers_to reader row structure period last
unfolding tiers_to
none_added reader row structure period tier zero last rising sum small none =
    let same : tier ≡ last = omega (arith, sum) in ap (tiers_to reader row structure period) same
none_added reader row structure period tier (suc n) last rising sum small none =
    let here : tiers_to reader row structure period tier ≡ tiers_to reader row structure period (suc tier) = rw none refl in
    here ∙ by_size n refl (λ later. none_added reader row structure period (suc tier) n last rising (omega (arith, sum)) small later)
  where
    by_size : (k : ℕ) → n ≡ k → (has_tier row structure period (suc (suc tier)) ≡ false → tiers_to reader row structure period (suc tier) ≡ tiers_to reader row structure period last)
        → tiers_to reader row structure period (suc tier) ≡ tiers_to reader row structure period last
    by_size zero is later = let same : suc tier ≡ last = omega (arith, sum, is) in ap (tiers_to reader row structure period) same
    by_size (suc k) is later = later (none_after row structure period (suc tier) rising (omega (arith, sum, small, is)) none)

-- the table of the first tiers with the steps behind them is the whole table
joined_from : (reader : CellReader) (row : Row) (structure : Structure) (period tier n last : ℕ) → HasRisingEnds row structure period → tier + n ≡ last → last ≤ 15
    → fold (λ (tiers : List Tier) (step : Step). with_tier step.begin step.price tiers) (tiers_to reader row structure period tier) (steps_from reader row structure period tier n)
    ≡ tiers_to reader row structure period last
unfolding tiers_to steps_from
joined_from reader row structure period tier zero last rising sum small =
    let same : tier ≡ last = omega (arith, sum) in ap (tiers_to reader row structure period) same
joined_from reader row structure period tier (suc n) last rising sum small =
    by_test (has_tier row structure period (suc tier)) refl (joined_from reader row structure period (suc tier) n last rising (omega (arith, sum)) small)
  where
    by_test : (b : Bool) → has_tier row structure period (suc tier) ≡ b
        → fold (λ (tiers : List Tier) (step : Step). with_tier step.begin step.price tiers) (tiers_to reader row structure period (suc tier)) (steps_from reader row structure period (suc tier) n)
        ≡ tiers_to reader row structure period last
        → fold (λ (tiers : List Tier) (step : Step). with_tier step.begin step.price tiers) (tiers_to reader row structure period tier) (if b
        then record { begin = unwrap_or (end_of reader row structure period tier) (pos 0); price = price_of reader row structure period (suc tier) }
        ∷ steps_from reader row structure period (suc tier) n
        else [])
        ≡ tiers_to reader row structure period last
    by_test true there later = rw there at later
    by_test false none later = none_added reader row structure period tier (suc n) last rising sum small none

-- where a tier isn't there none of the next are
none_left : (row : Row) (structure : Structure) (period tier n : ℕ) → HasRisingEnds row structure period → tier + n ≤ 16
    → has_tier row structure period tier ≡ false → filter (has_tier row structure period) (range_with_len tier n) ≡ []
none_left row structure period tier zero rising small none = refl
none_left row structure period tier (suc zero) rising small none = rw none refl
none_left row structure period tier (suc (suc n)) rising small none =
    rw none (none_left row structure period (tier + 1) (suc n) rising (omega (arith, small)) (rw add-one (none_after row structure period tier rising (omega (arith, small)) none)))

-- a tier and the steps behind it are the tiers that are there
own_from : (reader : CellReader) → IsCellReader reader → (row : Row) (structure : Structure) (period tier n : ℕ) → HasRisingEnds row structure period → tier + n ≡ 15
    → has_tier row structure period tier ≡ true
    → own_tiers (price_of reader row structure period tier) (steps_from reader row structure period tier n)
    ≡ map (own_tier reader row structure period) (filter (has_tier row structure period) (range_with_len tier (suc n)))
unfolding steps_from
own_from reader are row structure period tier zero rising sum there =
    let same : 16 ≡ suc tier = omega (arith, sum) in
    let none : has_tier row structure period (suc tier) ≡ false = subst (λ (k : ℕ). has_tier row structure period k ≡ false) same (no_16 row structure period rising.no_hole) in
    rw (there, none) refl
own_from reader are row structure period tier (suc n) rising sum there =
    rw there (by_test (has_tier row structure period (suc tier)) refl (λ next. own_from reader are row structure period (suc tier) n rising (omega (arith, sum)) next))
  where
    by_test : (b : Bool) → has_tier row structure period (suc tier) ≡ b
        → (has_tier row structure period (suc tier) ≡ true → own_tiers (price_of reader row structure period (suc tier)) (steps_from reader row structure period (suc tier) n)
        ≡ map (own_tier reader row structure period) (filter (has_tier row structure period) (range_with_len (suc tier) (suc n))))
        → own_tiers (price_of reader row structure period tier) (if b
        then record { begin = unwrap_or (end_of reader row structure period tier) (pos 0); price = price_of reader row structure period (suc tier) }
        ∷ steps_from reader row structure period (suc tier) n
        else [])
        ≡ own_tier reader row structure period tier ∷ map (own_tier reader row structure period) (filter (has_tier row structure period) (range_with_len (tier + 1) (suc n)))
    by_test true is later =
        let found = ends_above (begin_of reader row structure period tier) (end_of reader row structure period tier) (rising.rising reader are tier (omega (arith, sum)) is) in
        let head : record { price = price_of reader row structure period tier; end = Some (unwrap_or (end_of reader row structure period tier) (pos 0)) } ≡ own_tier reader row structure period tier =
        rw (is, found.to_is) refl in
        ap (λ (first : Tier). first ∷ own_tiers (price_of reader row structure period (suc tier)) (steps_from reader row structure period (suc tier) n)) head
        ∙ ap (λ (l : List Tier). own_tier reader row structure period tier ∷ l)
        (later is ∙ ap (λ (k : ℕ). map (own_tier reader row structure period) (filter (has_tier row structure period) (range_with_len k (suc n)))) (omega arith))
    by_test false none later =
        let head : open_tier (price_of reader row structure period tier) ≡ own_tier reader row structure period tier = rw none refl in
        let gone : has_tier row structure period (tier + 1) ≡ false = rw add-one none in
        ap (λ (first : Tier). first ∷ []) head
        ∙ ap (λ (l : List ℕ). own_tier reader row structure period tier ∷ map (own_tier reader row structure period) l)
        (sym (none_left row structure period (tier + 1) (suc n) rising (omega (arith, sum)) gone))

pub charges_alike : ChargesAsRecorded
unfolding period_tiers tiers_to
charges_alike reader are row structure period amount rising there =
    ap (λ (tiers : List Tier). tier_charge tiers amount) (sym (joined_from reader row structure period 0 15 15 rising (omega arith) (omega arith)))
    ∙ joining_keeps (price_of reader row structure period 0) (steps_from reader row structure period 0 15) amount
    (rise_from reader are row structure period 0 15 (pos 0) rising (omega arith) refl)
    ∙ ap (λ (tiers : List Tier). tier_charge tiers amount) (own_from reader are row structure period 0 15 rising (omega arith) there)
