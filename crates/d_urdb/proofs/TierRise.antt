-- The tiers of a period whose ends rise.
use Rattle.std.proofs.Common.{◌≡◌, ℕ, zero, suc, ◌+◌, ◌*◌, ◌^◌, ◌<◌, ◌≤◌, ℤ, pos, ◌≤ℤ◌, ◌<ℤ◌, true, false, List, [], ◌∷◌, length, Option, None, Some, unwrap_or, refl, sym, ap, ◌∙◌, arith, inl, inr}
use Rattle.std.proofs.lemmas.Int.{ints}
use Rattle.std.proofs.lemmas.List.Elements.{All-cons, All-nil, All-head, All-tail}
use Rattle.std.proofs.lemmas.Bool.{cases_Bool}
use Rattle.std.proofs.lemmas.Bool.Decides.{nat_tests}
use Rattle.std.specs.Ordering.{int_eq}
use Rattle.std.proofs.lemmas.Option.{none-some}
use Rattle.d_num.specs.Amount.{IsWithin}
use Rattle.d_tier.specs.declared.tier.Tier.{Tier}
use Rattle.d_tier.specs.Tables.{open_tier, with_tier, last_end_from, last_end}
use Rattle.d_columns.specs.declared.names.Structure.{Structure}
use Rattle.d_urdb.specs.Numbers.{CellReader, IsCellReader}
use Rattle.d_columns.specs.Tiers.{Row, has_tier}
use Rattle.d_urdb.specs.Periods.{begin_of, end_of, price_of, is_above, tiers_to}
use Rattle.d_urdb.specs.Values.{HasRisingEnds, HasPrices}
use Rattle.d_columns.proofs.HoleLaws.{one_before}
use Rattle.d_tier.proofs.TableGrows.{count_with}
use Rattle.d_urdb.proofs.OneReader.{one_reader}

-- one more tier ends no later than where it begins
end_from : (start end price : ℤ) (tiers : List Tier) → last_end_from start tiers ≤ℤ end → last_end_from start (with_tier end price tiers) ≤ℤ end
end_from start end price [] below = below
end_from start end price (tier ∷ []) below = elim (cases_Bool (int_eq tier.price price)) [
  | inl same ↦ rw same below
  | inr other ↦ rw other (omega (arith, ints))
]
end_from start end price (tier ∷ next ∷ rest) below = end_from (unwrap_or tier.end start) end price (next ∷ rest) below

pub end_with : (end price : ℤ) (tiers : List Tier) → last_end tiers ≤ℤ end → last_end (with_tier end price tiers) ≤ℤ end
end_with end price tiers below = end_from (pos 0) end price tiers below

-- its price is in range where all are
in_range : Tier → Type 0
in_range tier = IsWithin (2 * 10 ^ 21) tier.price

pub prices_with : (end price : ℤ) (tiers : List Tier) → IsWithin (2 * 10 ^ 21) price → HasPrices tiers → HasPrices (with_tier end price tiers)
unfolding in_range
prices_with end price [] within all = all
prices_with end price (tier ∷ []) within all = elim (cases_Bool (int_eq tier.price price)) [
  | inl same ↦ rw same all
  | inr other ↦
      rw other
      (let last : HasPrices (open_tier price ∷ []) = All-cons in_range (open_tier price) [] within (All-nil in_range) in
      All-cons in_range (record tier { end = Some end }) (open_tier price ∷ []) (All-head in_range tier [] all) last)
]
prices_with end price (tier ∷ next ∷ rest) within all =
    All-cons in_range tier (with_tier end price (next ∷ rest)) (All-head in_range tier (next ∷ rest) all)
    (prices_with end price (next ∷ rest) within (All-tail in_range tier (next ∷ rest) all))

-- what holds of a tier that is there
pub record Rises (reader : CellReader) (row : Row) (structure : Structure) (period tier : ℕ) : Type 0 where
  pub begin : ℤ
  pub begin_is : begin_of reader row structure period tier ≡ Some begin
  pub from_0 : pos 0 ≤ℤ begin
  pub last : last_end (tiers_to reader row structure period tier) ≤ℤ begin
  pub few : length (tiers_to reader row structure period tier) ≤ tier + 1

-- an end above a begin is there
pub record EndsAbove (begin : Option ℤ) (end : Option ℤ) : Type 0 where
  pub from : ℤ
  pub to : ℤ
  pub from_is : begin ≡ Some from
  pub to_is : end ≡ Some to
  pub above : from <ℤ to

pub ends_above : (begin end : Option ℤ) → is_above begin end ≡ true → EndsAbove begin end
ends_above None end is = absurd (let e : false ≡ true = is in cc)
ends_above (Some from) None is = absurd (let e : false ≡ true = is in cc)
ends_above (Some from) (Some to) is = record { from = from; to = to; from_is = refl; to_is = refl; above = grind (arith, ints, nat_tests) }

step : (reader : CellReader) (row : Row) (structure : Structure) (period tier : ℕ) → has_tier row structure period (suc tier) ≡ true
    → is_above (begin_of reader row structure period tier) (end_of reader row structure period tier) ≡ true
    → Rises reader row structure period tier → Rises reader row structure period (suc tier)
unfolding tiers_to
step reader row structure period tier there above before =
    let found = ends_above _ _ above in
    let same : Some found.from ≡ Some before.begin = sym found.from_is ∙ before.begin_is in
    let same_begin : found.from ≡ before.begin = cc in
    let tiers = tiers_to reader row structure period tier in
    let price = price_of reader row structure period (suc tier) in
    let end : unwrap_or (end_of reader row structure period tier) (pos 0) ≡ found.to = ap (λ (o : Option ℤ). unwrap_or o (pos 0)) found.to_is in
    let low : last_end tiers ≤ℤ found.to = omega (arith, ints, before.last, found.above, same_begin) in
    let more = count_with found.to price tiers in
    record {
      begin = found.to;
      begin_is = found.to_is;
      from_0 = omega (arith, ints, before.from_0, found.above, same_begin);
      last = rw (there, end) (end_with found.to price tiers low);
      few = rw (there, end) (omega (arith, more, before.few));
    }

pub rises : (reader : CellReader) → IsCellReader reader → (row : Row) (structure : Structure) (period tier : ℕ) → HasRisingEnds row structure period
    → tier ≤ 15 → has_tier row structure period tier ≡ true → Rises reader row structure period tier
unfolding tiers_to
rises reader are row structure period zero rising small there =
    record { begin = pos 0; begin_is = refl; from_0 = omega (arith, ints); last = omega (arith, ints); few = omega arith }
rises reader are row structure period (suc tier) rising small there =
    step reader row structure period tier there (rising.rising reader are tier (omega (arith, small)) there)
    (rises reader are row structure period tier rising (omega (arith, small)) (one_before row structure period tier rising.no_hole (omega (arith, small)) there))

-- a tier can be added behind those before it
pub record Fits (tiers : List Tier) (end : ℤ) : Type 0 where
  pub room : length tiers < 16
  pub above : last_end tiers <ℤ end
  pub from_1 : pos 1 ≤ℤ end

some_same : (a b : ℤ) → Some a ≡ Some b → a ≡ b
some_same a b same = cc

pub fits : (row : Row) (structure : Structure) (period before : ℕ) (tiers : List Tier) (end : ℤ) → HasRisingEnds row structure period → before ≤ 14
    → has_tier row structure period (suc before) ≡ true
    → ((reader : CellReader) → IsCellReader reader → tiers ≡ tiers_to reader row structure period before)
    → ((reader : CellReader) → IsCellReader reader → Some end ≡ end_of reader row structure period before) → Fits tiers end
fits row structure period before tiers end rising small there made ends =
    let reader = one_reader.reader in
    let are = one_reader.is_reader in
    let known = rises reader are row structure period before rising (omega (arith, small)) (one_before row structure period before rising.no_hole small there) in
    let found = ends_above _ _ (rising.rising reader are before (omega (arith, small)) there) in
    let begins : found.from ≡ known.begin = some_same found.from known.begin (sym found.from_is ∙ known.begin_is) in
    let is : end ≡ found.to = some_same end found.to (ends reader are ∙ found.to_is) in
    let made_is = made reader are in
    let last : last_end tiers ≤ℤ known.begin = rw made_is known.last in
    let few : length tiers ≤ before + 1 = rw made_is known.few in
    record {
      room = omega (arith, few, small);
      above = omega (arith, ints, last, found.above, begins, is);
      from_1 = omega (arith, ints, known.from_0, found.above, begins, is);
    }

-- a tier that is added, one that isn't there, and one whose end isn't
pub added : (reader : CellReader) (row : Row) (structure : Structure) (period before : ℕ) (tiers : List Tier) (end price : ℤ)
    → has_tier row structure period (suc before) ≡ true → tiers ≡ tiers_to reader row structure period before
    → Some end ≡ end_of reader row structure period before → price ≡ price_of reader row structure period (suc before)
    → with_tier end price tiers ≡ tiers_to reader row structure period (suc before)
unfolding tiers_to
added reader row structure period before tiers end price there made ends costs = rw (there, ← ends, ← costs, ← made) refl

pub passed_by : (reader : CellReader) (row : Row) (structure : Structure) (period before : ℕ) (tiers : List Tier)
    → has_tier row structure period (suc before) ≡ false → tiers ≡ tiers_to reader row structure period before
    → tiers ≡ tiers_to reader row structure period (suc before)
unfolding tiers_to
passed_by reader row structure period before tiers none made = rw none made

pub no_end : (row : Row) (structure : Structure) (period before : ℕ) → HasRisingEnds row structure period → before ≤ 14
    → has_tier row structure period (suc before) ≡ true
    → ((reader : CellReader) → IsCellReader reader → None ≡ end_of reader row structure period before) → ⊥
no_end row structure period before rising small there none =
    let reader = one_reader.reader in
    let found = ends_above _ _ (rising.rising reader one_reader.is_reader before (omega (arith, small)) there) in
    let e : None ≡ Some found.to = none reader one_reader.is_reader ∙ found.to_is in none-some found.to e

-- the first tier alone
pub first_tiers : (reader : CellReader) (row : Row) (structure : Structure) (period : ℕ)
    → (open_tier (price_of reader row structure period 0) ∷ []) ≡ tiers_to reader row structure period 0
unfolding tiers_to
first_tiers reader row structure period = refl

pub one_price : (price : ℤ) → IsWithin (2 * 10 ^ 21) price → HasPrices (open_tier price ∷ [])
unfolding in_range
one_price price within = All-cons in_range (open_tier price) [] within (All-nil in_range)
