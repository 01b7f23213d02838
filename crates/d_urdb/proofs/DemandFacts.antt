-- Demand: its hours, and the tiers of its periods, one after the other.
use Rattle.std.proofs.Common.{◌≡◌, ℕ, zero, suc, ◌+◌, ◌≤◌, ℤ, pos, ◌≤ℤ◌, Bool, true, false, ◌&&◌, List, [], ◌∷◌, ◌++◌, length, map, All, Option, None, Some, IfSome, unwrap_or, int_lt, refl, sym, ap, ◌∙◌, arith, subst, inl, inr}
use Rattle.std.specs.Option.{ForSome}
use Rattle.std.specs.Ordering.{int_eq}
use Rattle.std.specs.List.{range_with_len}
use Rattle.std.proofs.lemmas.Bool.{cases_Bool}
use Rattle.std.proofs.lemmas.Bool.Decides.{nat_tests}
use Rattle.std.proofs.lemmas.Int.{ints}
use Rattle.std.proofs.lemmas.Option.{none-some}
use Rattle.std.proofs.lemmas.List.FromFn.{map-range_with_len_more, length-map-range_with_len}
use Rattle.std.proofs.lemmas.List.Elements.{All-push, All-same, All-cons, All-nil, All-head, All-tail}
use Rattle.d_table.specs.Table.{column_of}
use Rattle.d_tier.specs.declared.tier.Tier.{Tier}
use Rattle.d_tier.specs.Tables.{open_tier, with_tier}
use Rattle.d_tariff.specs.Terms.{HasDemandPrices}
use Rattle.d_urdb.specs.declared.fault.Refused.{Refused}
use Rattle.d_columns.specs.declared.names.Structure.{Structure}
use Rattle.d_urdb.specs.Numbers.{CellReader, IsCellReader}
use Rattle.d_urdb.specs.Refusals.{first_of, refusal}
use Rattle.d_columns.specs.Tiers.{Row, named_cell, has_tier}
use Rattle.d_urdb.specs.Periods.{is_demand, end_of, price_of, tiers_to}
use Rattle.d_urdb.specs.Demand.{is_kw, demand_unit_refusal, demand_weekday_name, demand_weekend_name, demand_hours_refusals, demand_tiers, demand_periods}
use Rattle.d_urdb.specs.Values.{HasPrices, HasSoundTiers}
use Rattle.d_urdb.specs.Checks.{Passes, Refuses}
use Rattle.d_urdb.proofs.HourFacts.{by_grid}
use Rattle.d_urdb.proofs.OneReader.{one_reader}
use Rattle.d_urdb.proofs.RefusalOrder.{both_pass, first_refuses, then_refuses}
use Rattle.d_urdb.specs.declared.cause.Cause.TheVariants as cause

-- a unit that is accepted or not
pub unit_passes : (row : Row) (name cell : List ℕ) (accepted : Bool) → cell ≡ named_cell row name → accepted ≡ is_kw cell → accepted ≡ true
    → first_of (demand_unit_refusal row name ∷ []) ≡ None
unfolding first_of
unit_passes row name cell accepted here is holds = let test : is_kw (named_cell row name) ≡ true = ap is_kw (sym here) ∙ sym is ∙ holds in rw test refl

pub unit_refuses : (row : Row) (name cell : List ℕ) (accepted : Bool) (refused : Refused) → cell ≡ named_cell row name → accepted ≡ is_kw cell → accepted ≡ false
    → refusal row.header cause.DemandUnit (column_of name row.header) 0 ≡ refused → first_of (demand_unit_refusal row name ∷ []) ≡ Some refused
unfolding first_of
unit_refuses row name cell accepted refused here is fails same =
    let test : is_kw (named_cell row name) ≡ false = ap is_kw (sym here) ∙ sym is ∙ fails in rw test (ap (λ r. Some r) same)

-- the schedules, one after the other
pub weekday_refuses : (row : Row) (refused : Refused) → Refuses (by_grid row demand_weekday_name) refused
    → Refuses (λ reader. demand_hours_refusals reader row) refused
weekday_refuses row refused here = first_refuses (by_grid row demand_weekday_name) (by_grid row demand_weekend_name) refused here

pub weekend_refuses : (row : Row) (refused : Refused) → Passes (by_grid row demand_weekday_name) → Refuses (by_grid row demand_weekend_name) refused
    → Refuses (λ reader. demand_hours_refusals reader row) refused
weekend_refuses row refused weekday here = then_refuses (by_grid row demand_weekday_name) (by_grid row demand_weekend_name) refused weekday here

pub hours_pass : (row : Row) → Passes (by_grid row demand_weekday_name) → Passes (by_grid row demand_weekend_name)
    → Passes (λ reader. demand_hours_refusals reader row)
hours_pass row weekday weekend = both_pass (by_grid row demand_weekday_name) (by_grid row demand_weekend_name) weekday weekend

-- a price that isn't below 0
from_0 : (demand : Bool) (price : ℤ) → demand ≡ true → (demand && int_lt price (pos 0)) ≡ false → pos 0 ≤ℤ price
from_0 true price is none = grind (arith, ints, nat_tests)
from_0 false price is none = absurd (let e : false ≡ true = is in cc)

-- joined tiers have no other prices than those that were joined
from_0_on : Tier → Type 0
from_0_on tier = pos 0 ≤ℤ tier.price

least_with : (end price : ℤ) (tiers : List Tier) → pos 0 ≤ℤ price → All from_0_on tiers → All from_0_on (with_tier end price tiers)
unfolding from_0_on
least_with end price [] least all = all
least_with end price (tier ∷ []) least all = elim (cases_Bool (int_eq tier.price price)) [
  | inl same ↦ rw same all
  | inr other ↦
      rw other
      (let last : All from_0_on (open_tier price ∷ []) = All-cons from_0_on (open_tier price) [] least (All-nil from_0_on) in
      All-cons from_0_on (record tier { end = Some end }) (open_tier price ∷ []) (All-head from_0_on tier [] all) last)
]
least_with end price (tier ∷ next ∷ rest) least all =
    All-cons from_0_on tier (with_tier end price (next ∷ rest)) (All-head from_0_on tier (next ∷ rest) all)
    (least_with end price (next ∷ rest) least (All-tail from_0_on tier (next ∷ rest) all))

least_to : (reader : CellReader) (row : Row) (structure : Structure) (period last : ℕ)
    → ((tier : ℕ) → tier ≤ last → pos 0 ≤ℤ price_of reader row structure period tier) → All from_0_on (tiers_to reader row structure period last)
unfolding tiers_to from_0_on
least_to reader row structure period zero least =
    All-cons from_0_on (open_tier (price_of reader row structure period 0)) [] (least 0 (omega arith)) (All-nil from_0_on)
least_to reader row structure period (suc last) least =
    let before : All from_0_on (tiers_to reader row structure period last) = least_to reader row structure period last (λ tier within. least tier (omega (arith, within))) in
    elim (cases_Bool (has_tier row structure period (suc last))) [
      | inl there ↦
          rw there
          (least_with (unwrap_or (end_of reader row structure period last) (pos 0)) (price_of reader row structure period (suc last))
          (tiers_to reader row structure period last) (least (suc last) (omega arith)) before)
      | inr none ↦ rw none before
    ]

-- prices of demand are in range
pub in_range : (row : Row) (structure : Structure) (period : ℕ) (tiers : List Tier) → is_demand structure ≡ true → HasSoundTiers row structure period
    → ((reader : CellReader) → IsCellReader reader → tiers ≡ tiers_to reader row structure period 15) → HasPrices tiers → HasDemandPrices tiers
unfolding from_0_on
in_range row structure period tiers demand sound made most =
    let reader = one_reader.reader in
    let are = one_reader.is_reader in
    let to : All from_0_on (tiers_to reader row structure period 15) = least_to reader row structure period 15
    (λ tier within. from_0 (is_demand structure) (price_of reader row structure period tier) demand (sound reader are tier within)) in
    let least : All from_0_on tiers = All-same from_0_on tiers (tiers_to reader row structure period 15) (made reader are) to in
    λ k other below. (least k other below, (most k other below).1)

-- a period without a tier, and one with tiers
pub no_tiers : (reader : CellReader) (row : Row) (structure : Structure) (period : ℕ) → has_tier row structure period 0 ≡ false
    → None ≡ demand_tiers reader row structure period
no_tiers reader row structure period none = rw none refl

pub some_tiers : (reader : CellReader) (row : Row) (structure : Structure) (period : ℕ) (tiers : List Tier) → has_tier row structure period 0 ≡ true
    → tiers ≡ tiers_to reader row structure period 15 → Some tiers ≡ demand_tiers reader row structure period
some_tiers reader row structure period tiers there made = rw (there, made) refl

-- one more period
pub tiers_more : (reader : CellReader) (row : Row) (structure : Structure) (next : ℕ) (lists : List (Option (List Tier))) (tiers : Option (List Tier))
    (news : List (Option (List Tier))) → news ≡ lists ++ tiers ∷ [] → lists ≡ map (demand_tiers reader row structure) (range_with_len 0 next)
    → tiers ≡ demand_tiers reader row structure next → news ≡ map (demand_tiers reader row structure) (range_with_len 0 (next + 1))
tiers_more reader row structure next lists tiers news is before here =
    is ∙ ap (λ (t : Option (List Tier)). lists ++ t ∷ []) here
    ∙ ap (λ (ls : List (Option (List Tier))). ls ++ demand_tiers reader row structure next ∷ []) before
    ∙ sym (map-range_with_len_more (demand_tiers reader row structure) 0 next next (omega arith))

-- all of them
pub all_lists : (reader : CellReader) (row : Row) (structure : Structure) (count : ℕ) (lists : List (Option (List Tier))) → count ≡ 36
    → lists ≡ map (demand_tiers reader row structure) (range_with_len 0 count) → lists ≡ demand_periods reader row structure
unfolding demand_periods
all_lists reader row structure count lists all is = is ∙ ap (λ (n : ℕ). map (demand_tiers reader row structure) (range_with_len 0 n)) all

-- there is an entry for each period
pub demand_entries : (reader : CellReader) (row : Row) (structure : Structure) (lists : List (Option (List Tier))) → lists ≡ demand_periods reader row structure
    → length lists ≡ 36
unfolding demand_periods
demand_entries reader row structure lists is = rw is (length-map-range_with_len (demand_tiers reader row structure) 0 36)

-- prices of a period, where it is there
prices_told : (tiers : Option (List Tier)) → IfSome tiers HasDemandPrices → ForSome tiers HasDemandPrices
prices_told None prices other is = absurd (none-some other is)
prices_told (Some tiers) prices other is = let same : tiers ≡ other = cc in subst HasDemandPrices same prices

has_prices : Option (List Tier) → Type 0
has_prices tiers = ForSome tiers HasDemandPrices

pub prices_more : (lists : List (Option (List Tier))) (tiers : Option (List Tier)) (news : List (Option (List Tier))) → news ≡ lists ++ tiers ∷ []
    → All (λ tiers. ForSome tiers HasDemandPrices) lists → IfSome tiers HasDemandPrices → All (λ tiers. ForSome tiers HasDemandPrices) news
unfolding has_prices
prices_more lists tiers news is all here =
    All-same has_prices news (lists ++ tiers ∷ []) is (All-push has_prices lists tiers all (prices_told tiers here))
