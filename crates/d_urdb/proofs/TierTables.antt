-- The tiers of a period of which nothing is refused are a table.
use Rattle.std.proofs.Common.{◌≡◌, ◌∙◌, ℕ, zero, suc, ◌<◌, ◌≤◌, ◌^◌, ℤ, pos, ◌≤ℤ◌, ◌<ℤ◌, true, length, Option, unwrap_or, sym, ap, refl, arith, inl, inr}
use Rattle.std.proofs.lemmas.Bool.{cases_Bool}
use Rattle.std.proofs.lemmas.Int.{ints}
use Rattle.std.proofs.lemmas.Option.{same_Some}
use Rattle.d_tier.specs.Tables.{IsTierTable, last_end}
use Rattle.d_tier.proofs.TableGrows.{table_with}
use Rattle.d_columns.specs.declared.names.Structure.{Structure}
use Rattle.d_columns.specs.Tiers.{Row, has_tier}
use Rattle.d_columns.proofs.HoleLaws.{one_before}
use Rattle.d_urdb.specs.Numbers.{CellReader, IsCellReader}
use Rattle.d_urdb.specs.Periods.{end_of, price_of, tiers_to}
use Rattle.d_urdb.specs.Values.{HasRisingEnds}
use Rattle.d_urdb.proofs.ReadBounds.{tier_end_within}
use Rattle.d_urdb.proofs.TierRise.{Rises, rises, ends_above}

module _ (reader : CellReader) (are : IsCellReader reader) (row : Row) (structure : Structure) (period : ℕ) where
  -- one more tier that is there
  grown : (last : ℕ) → last < 15 → HasRisingEnds row structure period → has_tier row structure period (suc last) ≡ true
      → IsTierTable (tiers_to reader row structure period last) → IsTierTable (tiers_to reader row structure period (suc last))
  unfolding tiers_to
  grown last small rising there table =
      let before : has_tier row structure period last ≡ true = one_before row structure period last rising.no_hole (omega (arith, small)) there in
      let known : Rises reader row structure period last = rises reader are row structure period last rising (omega (arith, small)) before in
      let found = ends_above _ _ (rising.rising reader are last (omega (arith, small)) there) in
      let begins : found.from ≡ known.begin = same_Some found.from known.begin (sym found.from_is ∙ known.begin_is) in
      let most : found.to ≤ℤ pos (10 ^ 13) = tier_end_within reader are row structure period last found.to found.to_is in
      let tiers = tiers_to reader row structure period last in
      let room : length tiers < 16 = omega (arith, known.few, small) in
      let above : last_end tiers <ℤ found.to = omega (arith, ints, known.last, found.above, begins) in
      let least : pos 1 ≤ℤ found.to = omega (arith, ints, known.from_0, found.above, begins) in
      let end : unwrap_or (end_of reader row structure period last) (pos 0) ≡ found.to = ap (λ (o : Option ℤ). unwrap_or o (pos 0)) found.to_is in
      rw (there, end) (table_with found.to (price_of reader row structure period (suc last)) tiers table room above (least, most))

  -- the first tiers, as many as are looked at
  pub table_to : (last : ℕ) → last ≤ 15 → HasRisingEnds row structure period → IsTierTable (tiers_to reader row structure period last)
  unfolding tiers_to
  table_to zero small rising = record { few = omega arith; whole = refl }
  table_to (suc last) small rising =
      let before : IsTierTable (tiers_to reader row structure period last) = table_to last (omega (arith, small)) rising in
      elim (cases_Bool (has_tier row structure period (suc last))) [
        | inl there ↦ grown last (omega (arith, small)) rising there before
        | inr none ↦ rw none before
      ]
