-- The tiers of a period as a record has them, each by itself, and what the joined ones have in common with them.
use Rattle.std.specs.Prelude.{◌≡◌, ℕ, ℤ, List, None, map, true, if◌then◌else◌}
use Rattle.std.specs.List.{filter, range_with_len}
use Rattle.d_tier.specs.declared.tier.Tier.{Tier}
use Rattle.d_tier.specs.Charges.{tier_charge}
use Rattle.d_columns.specs.declared.names.Structure.{Structure}
use Rattle.d_columns.specs.Tiers.{Row, has_tier}
use Rattle.d_urdb.specs.Numbers.{CellReader, IsCellReader}
use Rattle.d_urdb.specs.Periods.{is_last, end_of, price_of, tiers_to}
use Rattle.d_urdb.specs.Values.{HasRisingEnds}

-- a tier's price, and where it ends unless it is the last
abbrev pub own_tier : CellReader → Row → Structure → ℕ → ℕ → Tier
own_tier reader row structure period tier = record {
  price = price_of reader row structure period tier;
  end = if is_last row structure period tier then None else end_of reader row structure period tier;
}

-- the tiers of a period that are there, whether or not neighbours have one price
unfoldable pub period_tiers : CellReader → Row → Structure → ℕ → List Tier
period_tiers reader row structure period = map (own_tier reader row structure period) (filter (has_tier row structure period) (range_with_len 0 16))

-- the joined tiers of a period charge every amount as its own tiers do, where nothing of the period is refused
abbrev pub ChargesAsRecorded : Type 0
ChargesAsRecorded = (reader : CellReader) → IsCellReader reader → (row : Row) (structure : Structure) (period : ℕ) (amount : ℤ)
    → HasRisingEnds row structure period → has_tier row structure period 0 ≡ true
    → tier_charge (tiers_to reader row structure period 15) amount ≡ tier_charge (period_tiers reader row structure period) amount
