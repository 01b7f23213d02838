-- What one check of a cell says.
use Rattle.std.proofs.Common.{◌≡◌, ℕ, ℤ, Bool, true, false, not, ◌&&◌, List, [], ◌∷◌, Option, None, Some, Ok, Err, refl, sym, ap, ◌∙◌}
use Rattle.d_text.specs.declared.decimal.DecimalFault.{DecimalFault}
use Rattle.d_urdb.specs.declared.cause.Cause.{Cause}
use Rattle.d_urdb.specs.declared.fault.Refused.{Refused}
use Rattle.d_columns.specs.declared.names.Structure.{Structure}
use Rattle.d_columns.specs.declared.names.Part.{Part}
use Rattle.d_columns.specs.declared.names.Part.TheVariants.{Max}
use Rattle.d_urdb.specs.Numbers.{CellReader}
use Rattle.d_columns.specs.Tiers.{Row, part_cell, part_column}
use Rattle.d_urdb.specs.Refusals.{first_of, refusal, when, detail_of}
use Rattle.d_urdb.specs.Periods.{price_refusal, end_refusal, price_limit, is_last}
use Rattle.d_urdb.specs.declared.cause.Cause.TheVariants as cause

-- a refusal of the same column and detail
pub refusal_same : (header : List (List ℕ)) (cause_ : Cause) (column column' : Option ℕ) (detail detail' : ℕ) (refused : Refused)
    → refused ≡ refusal header cause_ column detail → column ≡ column' → detail ≡ detail' → refusal header cause_ column' detail' ≡ refused
refusal_same header cause_ column column' detail detail' refused is same_column same_detail =
    sym (is ∙ ap (λ c. refusal header cause_ c detail) same_column ∙ ap (refusal header cause_ column') same_detail)

-- a test that holds or not
pub when_passes : (test : Bool) (refused : Refused) → test ≡ false → first_of (when test refused ∷ []) ≡ None
unfolding first_of
when_passes test refused fails = rw fails refl

pub when_refuses : (test : Bool) (refused other : Refused) → test ≡ true → refused ≡ other → first_of (when test refused ∷ []) ≡ Some other
unfolding first_of
when_refuses test refused other passes same = rw (passes, same) refl

-- a test of two parts
pub both_hold : (a b : Bool) → a ≡ true → b ≡ false → (a && not b) ≡ true
both_hold a b one other = rw (one, other) refl

pub first_fails : (a b : Bool) → a ≡ false → (a && not b) ≡ false
first_fails a b one = rw one refl

pub second_holds : (a b : Bool) → a ≡ true → b ≡ true → (a && not b) ≡ false
second_holds a b one other = rw (one, other) refl

-- a price that is read or not
pub price_passes : (reader : CellReader) (row : Row) (structure : Structure) (period tier : ℕ) (part : Part) (value : ℤ)
    → reader.number price_limit (part_cell row structure period tier part) ≡ Ok value
    → first_of (price_refusal reader row structure period tier part ∷ []) ≡ None
unfolding first_of
price_passes reader row structure period tier part value is = rw is refl

pub price_refuses : (reader : CellReader) (row : Row) (structure : Structure) (period tier : ℕ) (part : Part) (fault : DecimalFault) (refused : Refused)
    → reader.number price_limit (part_cell row structure period tier part) ≡ Err fault
    → refusal row.header cause.Decimal (part_column row structure period tier part) (detail_of fault) ≡ refused
    → first_of (price_refusal reader row structure period tier part ∷ []) ≡ Some refused
unfolding first_of
price_refuses reader row structure period tier part fault refused is same = rw is (ap (λ r. Some r) same)

-- an end that is read or not
pub last_passes : (reader : CellReader) (row : Row) (structure : Structure) (period tier : ℕ) → is_last row structure period tier ≡ true
    → first_of (end_refusal reader row structure period tier ∷ []) ≡ None
unfolding first_of
last_passes reader row structure period tier last = rw last refl

pub end_passes : (reader : CellReader) (row : Row) (structure : Structure) (period tier : ℕ) (end : Option ℤ) → is_last row structure period tier ≡ false
    → reader.end (part_cell row structure period tier Max) ≡ Ok end
    → first_of (end_refusal reader row structure period tier ∷ []) ≡ None
unfolding first_of
end_passes reader row structure period tier end last is = rw (last, is) refl

pub end_refuses : (reader : CellReader) (row : Row) (structure : Structure) (period tier : ℕ) (fault : DecimalFault) (refused : Refused)
    → is_last row structure period tier ≡ false → reader.end (part_cell row structure period tier Max) ≡ Err fault
    → refusal row.header cause.Decimal (part_column row structure period tier Max) (detail_of fault) ≡ refused
    → first_of (end_refusal reader row structure period tier ∷ []) ≡ Some refused
unfolding first_of
end_refuses reader row structure period tier fault refused last is same = rw (last, is) (ap (λ r. Some r) same)
