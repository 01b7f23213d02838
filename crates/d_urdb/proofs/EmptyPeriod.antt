-- A period without a tier: nothing of it is refused.
use Rattle.std.proofs.Common.{◌≡◌, ℕ, zero, suc, pos, int_lt, Bool, true, false, not, ◌&&◌, ◌||◌, List, [], ◌∷◌, Option, None, Ok, refl, ◌∙◌, inl}
use Rattle.std.specs.List.{list_any}
use Rattle.d_urdb.specs.declared.fault.Refused.{Refused}
use Rattle.d_columns.specs.declared.names.Structure.{Structure}
use Rattle.d_columns.specs.declared.names.Part.{Part}
use Rattle.d_columns.specs.declared.names.Part.TheVariants.{Max, Unit, Rate, Adj, Sell}
use Rattle.d_urdb.specs.declared.tier_rule.TierRule.TheVariants.{Numbers, Units, Order, Sells, Falls}
use Rattle.d_urdb.specs.Numbers.{CellReader, IsCellReader}
use Rattle.d_urdb.specs.Periods.{period_refusals, price_limit, price_of, is_demand}
use Rattle.d_urdb.specs.Refusals.{first_of, each}
use Rattle.d_urdb.specs.Checks.{Passes, tier_refusals}
use Rattle.d_columns.specs.Tiers.{Row, IsLeastHole, has_tier, is_hole, is_filled, part_cell}
use Rattle.d_urdb.proofs.ReadOnce.{number_once}
use Rattle.d_urdb.proofs.RefusalOrder.{none_before}
use Rattle.d_urdb.proofs.PeriodChecks.{period_passes}

-- lists without a refusal, joined
each_passes : (n : ℕ) (list : ℕ → List (Option Refused)) → ((k : ℕ) → first_of (list k) ≡ None) → first_of (each n list) ≡ None
unfolding each first_of
each_passes zero list none = refl
each_passes (suc n) list none = none_before (each n list) (list n) (each_passes n list none) ∙ none n

-- behind a tier that isn't there none is, where there is no hole
next_none : (next before late : Bool) → before ≡ false → (next && (not before || late)) ≡ false → next ≡ false
next_none true before late none hole = absurd (let e : true ≡ false = rw none at hole in cc)
next_none false before late none hole = refl

all_none : (row : Row) (structure : Structure) (period : ℕ) → IsLeastHole row structure period None → has_tier row structure period 0 ≡ false
    → (tier : ℕ) → has_tier row structure period tier ≡ false
unfolding is_hole
all_none row structure period holes none zero = none
all_none row structure period holes none (suc tier) = next_none _ _ _ (all_none row structure period holes none tier) (holes (suc tier))

-- no cell of such a tier is filled
or_first : (a b : Bool) → (a || b) ≡ false → a ≡ false
or_first true b none = none
or_first false b none = refl

or_second : (a b : Bool) → (a || b) ≡ false → b ≡ false
or_second true b none = absurd (let e : true ≡ false = none in cc)
or_second false b none = none

blank_part : (row : Row) (structure : Structure) (period tier : ℕ) (part : Part) → has_tier row structure period tier ≡ false
    → is_filled (part_cell row structure period tier part) ≡ false
unfolding has_tier
blank_part row structure period tier part none = by_part part
  where
    filled : Part → Bool
    filled part = is_filled (part_cell row structure period tier part)

    behind_max : list_any filled (Unit ∷ Rate ∷ Adj ∷ Sell ∷ []) ≡ false
    behind_max = or_second (filled Max) (list_any filled (Unit ∷ Rate ∷ Adj ∷ Sell ∷ [])) none

    behind_unit : list_any filled (Rate ∷ Adj ∷ Sell ∷ []) ≡ false
    behind_unit = or_second (filled Unit) (list_any filled (Rate ∷ Adj ∷ Sell ∷ [])) behind_max

    behind_rate : list_any filled (Adj ∷ Sell ∷ []) ≡ false
    behind_rate = or_second (filled Rate) (list_any filled (Adj ∷ Sell ∷ [])) behind_unit

    behind_adj : list_any filled (Sell ∷ []) ≡ false
    behind_adj = or_second (filled Adj) (list_any filled (Sell ∷ [])) behind_rate

    by_part : (part : Part) → filled part ≡ false
    by_part Max = or_first (filled Max) (list_any filled (Unit ∷ Rate ∷ Adj ∷ Sell ∷ [])) none
    by_part Unit = or_first (filled Unit) (list_any filled (Rate ∷ Adj ∷ Sell ∷ [])) behind_max
    by_part Rate = or_first (filled Rate) (list_any filled (Adj ∷ Sell ∷ [])) behind_unit
    by_part Adj = or_first (filled Adj) (list_any filled (Sell ∷ [])) behind_rate
    by_part Sell = or_first (filled Sell) false behind_adj

blank_cell : (cell : List ℕ) → is_filled cell ≡ false → cell ≡ []
blank_cell [] blank = refl
blank_cell (byte ∷ rest) blank = absurd (let e : true ≡ false = blank in cc)

-- a blank number is 0
zero_read : (reader : CellReader) → IsCellReader reader → (cell : List ℕ) → is_filled cell ≡ false → reader.number price_limit cell ≡ Ok (pos 0)
zero_read reader are cell blank =
    number_once price_limit cell (reader.number price_limit cell) (Ok (pos 0)) (are.number_is price_limit cell) (inl (blank_cell cell blank, refl))

module _ (row : Row) (structure : Structure) (period : ℕ) (none : (tier : ℕ) → has_tier row structure period tier ≡ false) (reader : CellReader) (are : IsCellReader reader) where
  read : (tier : ℕ) (part : Part) → reader.number price_limit (part_cell row structure period tier part) ≡ Ok (pos 0)
  read tier part = zero_read reader are (part_cell row structure period tier part) (blank_part row structure period tier part (none tier))

  numbers : (tier : ℕ) → first_of (tier_refusals Numbers reader row structure period tier) ≡ None
  unfolding first_of
  numbers tier = rw (none (suc tier), read tier Rate, read tier Adj, read tier Sell) refl

  units : (tier : ℕ) → first_of (tier_refusals Units reader row structure period tier) ≡ None
  unfolding first_of
  units tier = rw (none 1) refl

  order : (tier : ℕ) → first_of (tier_refusals Order reader row structure period tier) ≡ None
  unfolding first_of
  order tier = rw (none (suc tier)) refl

  sells : (tier : ℕ) → first_of (tier_refusals Sells reader row structure period tier) ≡ None
  unfolding first_of
  sells tier = rw (blank_part row structure period tier Sell (none tier)) refl

  free : (tier : ℕ) → price_of reader row structure period tier ≡ pos 0
  free tier = rw (read tier Rate, read tier Adj) refl

  not_falling : (demand : Bool) → (demand && int_lt (pos 0) (pos 0)) ≡ false
  not_falling true = refl
  not_falling false = refl

  falls : (tier : ℕ) → first_of (tier_refusals Falls reader row structure period tier) ≡ None
  unfolding first_of
  falls tier = rw (free tier, not_falling (is_demand structure)) refl

-- nothing of the period is refused
pub empty_passes : (row : Row) (structure : Structure) (period : ℕ) → IsLeastHole row structure period None → has_tier row structure period 0 ≡ false
    → Passes (λ reader. period_refusals reader row structure period)
empty_passes row structure period holes first =
    let none = all_none row structure period holes first in
    period_passes row structure period holes
    (λ reader are. each_passes 16 (tier_refusals Numbers reader row structure period) (numbers row structure period none reader are))
    (λ reader are. each_passes 16 (tier_refusals Units reader row structure period) (units row structure period none reader are))
    (λ reader are. each_passes 16 (tier_refusals Order reader row structure period) (order row structure period none reader are))
    (λ reader are. each_passes 16 (tier_refusals Sells reader row structure period) (sells row structure period none reader are))
    (λ reader are. each_passes 16 (tier_refusals Falls reader row structure period) (falls row structure period none reader are))
