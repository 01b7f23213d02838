-- What the tiers of a period keep where nothing of them is refused.
use Rattle.std.specs.Prelude.{◌≡◌, ℕ, suc, ◌*◌, ◌^◌, ◌<◌, ◌≤◌, true, false, List, All, None}
use Rattle.d_num.specs.Amount.{IsWithin}
use Rattle.d_tier.specs.declared.tier.Tier.{Tier}
use Rattle.d_columns.specs.declared.names.Structure.{Structure}
use Rattle.d_urdb.specs.Numbers.{CellReader, IsCellReader}
use Rattle.d_columns.specs.Tiers.{Row, IsLeastHole, has_tier}
use Rattle.d_urdb.specs.Periods.{is_above, begin_of, end_of, has_negative_price}

-- no tier is there without the one before it, and each but the last ends above where it begins
pub record HasRisingEnds (row : Row) (structure : Structure) (period : ℕ) : Type 0 where
  pub no_hole : IsLeastHole row structure period None
  pub rising : (reader : CellReader) → IsCellReader reader → (tier : ℕ) → tier < 16 → has_tier row structure period (suc tier) ≡ true
      → is_above (begin_of reader row structure period tier) (end_of reader row structure period tier) ≡ true

-- prices are at most 2000 USD in size
abbrev pub HasPrices : List Tier → Type 0
HasPrices tiers = All (λ tier. IsWithin (2 * 10 ^ 21) tier.price) tiers

-- no price of demand in this period is below 0
abbrev pub HasSoundTiers : Row → Structure → ℕ → Type 0
HasSoundTiers row structure period =
    (reader : CellReader) → IsCellReader reader → (tier : ℕ) → tier ≤ 15 → has_negative_price reader row structure period tier ≡ false

-- nor in any of the periods 0 to 35
abbrev pub HasSoundPrices : Row → Structure → Type 0
HasSoundPrices row structure = (period : ℕ) → period ≤ 35 → HasSoundTiers row structure period
