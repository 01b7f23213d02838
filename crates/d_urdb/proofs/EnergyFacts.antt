-- Energy periods, one after the other.
use Rattle.std.proofs.Common.{◌≡◌, ℕ, ◌+◌, ℤ, true, false, List, [], ◌∷◌, ◌++◌, map, All, Option, None, Some, IfSome, refl, sym, ap, ◌∙◌, arith, subst}
use Rattle.std.specs.Option.{ForSome}
use Rattle.std.specs.List.{range_with_len}
use Rattle.std.proofs.lemmas.Option.{none-some}
use Rattle.std.proofs.lemmas.List.FromFn.{map-range_with_len_more}
use Rattle.std.proofs.lemmas.List.Elements.{All-push, All-same}
use Rattle.d_tariff.specs.declared.period.Period.{Period}
use Rattle.d_tariff.specs.Terms.{HasEnergyPrices}
use Rattle.d_tier.specs.declared.tier.Tier.{Tier}
use Rattle.d_columns.specs.declared.names.Structure.TheVariants.{Energy}
use Rattle.d_urdb.specs.Numbers.{CellReader}
use Rattle.d_columns.specs.Tiers.{Row, has_tier}
use Rattle.d_urdb.specs.Periods.{energy_period, energy_periods, tiers_to, sell_of}

-- a period without a tier, and one with tiers
pub no_period : (reader : CellReader) (row : Row) (period : ℕ) → has_tier row Energy period 0 ≡ false → None ≡ energy_period reader row period
no_period reader row period none = rw none refl

pub some_period : (reader : CellReader) (row : Row) (period : ℕ) (tiers : List Tier) (sell : ℤ) → has_tier row Energy period 0 ≡ true
    → tiers ≡ tiers_to reader row Energy period 15 → sell ≡ sell_of reader row Energy period
    → Some (record { tiers = tiers; sell = sell }) ≡ energy_period reader row period
some_period reader row period tiers sell there made pays = rw (there, made, pays) refl

-- prices of a period, where it is there
pub prices_told : (period : Option Period) → IfSome period HasEnergyPrices → ForSome period HasEnergyPrices
prices_told None prices other is = absurd (none-some other is)
prices_told (Some period) prices other is = let same : period ≡ other = cc in subst HasEnergyPrices same prices

-- one more period
pub period_more : (reader : CellReader) (row : Row) (next : ℕ) (periods : List (Option Period)) (period : Option Period) (news : List (Option Period))
    → news ≡ periods ++ period ∷ [] → periods ≡ map (energy_period reader row) (range_with_len 0 next) → period ≡ energy_period reader row next
    → news ≡ map (energy_period reader row) (range_with_len 0 (next + 1))
period_more reader row next periods period news is before here =
    is ∙ ap (λ (p : Option Period). periods ++ p ∷ []) here
    ∙ ap (λ (ps : List (Option Period)). ps ++ energy_period reader row next ∷ []) before
    ∙ sym (map-range_with_len_more (energy_period reader row) 0 next next (omega arith))

-- all of them
pub all_periods : (reader : CellReader) (row : Row) (count : ℕ) (periods : List (Option Period)) → count ≡ 36
    → periods ≡ map (energy_period reader row) (range_with_len 0 count) → periods ≡ energy_periods reader row
unfolding energy_periods
all_periods reader row count periods all is = is ∙ ap (λ (n : ℕ). map (energy_period reader row) (range_with_len 0 n)) all

has_prices : Option Period → Type 0
has_prices period = ForSome period HasEnergyPrices

pub prices_more : (periods : List (Option Period)) (period : Option Period) (news : List (Option Period)) → news ≡ periods ++ period ∷ []
    → All (λ period. ForSome period HasEnergyPrices) periods → IfSome period HasEnergyPrices → All (λ period. ForSome period HasEnergyPrices) news
unfolding has_prices
prices_more periods period news is all here =
    All-same has_prices news (periods ++ period ∷ []) is (All-push has_prices periods period all (prices_told period here))
