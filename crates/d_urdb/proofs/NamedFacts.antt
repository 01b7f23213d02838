-- Numbers in columns of one name.
use Rattle.std.proofs.Common.{◌≡◌, ◌≤◌, ◌*◌, ◌^◌, ℕ, ℤ, List, [], ◌∷◌, None, Some, Ok, Err, refl, ap, arith, to_z, of_z}
use Rattle.std.specs.Int.{w128}
use Rattle.std.proofs.lemmas.Int.{ints}
use Rattle.d_num.specs.Amount.{IsWithin}
use Rattle.d_text.specs.declared.decimal.DecimalFault.{DecimalFault}
use Rattle.d_table.specs.Table.{column_of}
use Rattle.d_urdb.specs.declared.fault.Refused.{Refused}
use Rattle.d_urdb.specs.Numbers.{CellReader}
use Rattle.d_urdb.specs.Refusals.{first_of, refusal, detail_of}
use Rattle.d_columns.specs.Tiers.{Row, named_cell}
use Rattle.d_urdb.specs.NamedNumbers.{name_refusal, named_number}
use Rattle.d_urdb.specs.declared.cause.Cause.TheVariants as cause

-- a number that is read or not
pub name_passes : (reader : CellReader) (row : Row) (limit : ℕ) (name : List ℕ) (value : ℤ) → reader.number limit (named_cell row name) ≡ Ok value
    → first_of (name_refusal reader row limit name ∷ []) ≡ None
unfolding first_of
name_passes reader row limit name value is = rw is refl

pub name_value : (reader : CellReader) (row : Row) (limit : ℕ) (name : List ℕ) (value : ℤ) → reader.number limit (named_cell row name) ≡ Ok value
    → value ≡ named_number reader row limit name
name_value reader row limit name value is = rw is refl

pub name_refuses : (reader : CellReader) (row : Row) (limit : ℕ) (name : List ℕ) (fault : DecimalFault) (refused : Refused)
    → reader.number limit (named_cell row name) ≡ Err fault → refusal row.header cause.Decimal (column_of name row.header) (detail_of fault) ≡ refused
    → first_of (name_refusal reader row limit name ∷ []) ≡ Some refused
unfolding first_of
name_refuses reader row limit name fault refused is same = rw is (ap (λ r. Some r) same)

-- a number within its range is kept by 128 bits
pub kept_units : (limit : ℕ) (units : ℤ) → limit ≤ 10 ^ 10 → IsWithin (limit * 10 ^ 18) units → to_z w128 (of_z w128 units) ≡ units
kept_units limit units small within = omega (arith, ints)
