-- The names of the columns that a bulk file of the Utility Rate Database has for tiers, such as `energyratestructure/period3/tier0rate`.
use Rattle.std.specs.Prelude.{◌≡◌, ℕ, zero, suc, ◌+◌, ◌<◌, ◌≤◌, Bool, true, ◌&&◌, nat_lt, List, [], ◌++◌, length, map, All, slice_index, Option, None, Some, codes, decimal}
use Rattle.std.specs.Int.Digits.{digits_of}
use Rattle.std.specs.Str.Parse.{digits_value}
use Rattle.d_table.specs.Table.{cell_in}
use Rattle.d_columns.specs.declared.names.Structure.{Structure}
use Rattle.d_columns.specs.declared.names.Structure.TheVariants.{Energy, Demand, FlatDemand, Coincident}
use Rattle.d_columns.specs.declared.names.Part.{Part}
use Rattle.d_columns.specs.declared.names.Part.TheVariants.{Max, Unit, Rate, Adj, Sell}

-- the structures, counted from 0
abbrev pub structure_number : Structure → ℕ
structure_number Energy = 0
structure_number Demand = 1
structure_number FlatDemand = 2
structure_number Coincident = 3

-- the parts, counted from 0
abbrev pub part_number : Part → ℕ
part_number Max = 0
part_number Unit = 1
part_number Rate = 2
part_number Adj = 3
part_number Sell = 4

-- how the names of a structure begin
abbrev pub structure_text : Structure → List ℕ
structure_text Energy = codes "energyratestructure"
structure_text Demand = codes "demandratestructure"
structure_text FlatDemand = codes "flatdemandstructure"
structure_text Coincident = codes "coincidentratestructure"

-- how the names of a part end
abbrev pub part_text : Part → List ℕ
part_text Max = codes "max"
part_text Unit = codes "unit"
part_text Rate = codes "rate"
part_text Adj = codes "adj"
part_text Sell = codes "sell"

-- the name of the column of a part of a tier whose number is written so
abbrev pub name_of : Structure → ℕ → List ℕ → Part → List ℕ
name_of structure period digits part =
    structure_text structure ++ (codes "/period" ++ (decimal period ++ (codes "/tier" ++ (digits ++ part_text part))))

-- a number of any size in decimal digits (`decimal` has no more than the last 64 of them)
unfoldable pub number_text : ℕ → List ℕ
number_text zero = codes "0"
number_text (suc n) = map (λ digit. 48 + digit) (digits_of 10 (suc n))

-- the name of the column of a part of a tier
abbrev pub tier_name : Structure → ℕ → ℕ → Part → List ℕ
tier_name structure period tier part = name_of structure period (number_text tier) part

-- the cell of a row in that column; no bytes where there is no such column
abbrev pub cell_at : Option ℕ → List (List ℕ) → List ℕ
cell_at None row = []
cell_at (Some column) row = cell_in row column

-- a digit of a decimal number
abbrev pub is_digit : ℕ → Bool
is_digit byte = nat_lt 47 byte && nat_lt byte 58

-- how the number of a tier is written: digits, with no zero in front of others
pub record IsTierNumber (digits : List ℕ) : Type 0 where
  pub some : 0 < length digits
  pub all_digits : All (λ byte. is_digit byte ≡ true) digits
  pub plain : slice_index digits 0 ≡ 48 → length digits ≡ 1

-- the tier is past the last one that a table has room for, which is 15 (our own limit)
abbrev pub IsPastLast : List ℕ → Type 0
IsPastLast digits = 16 ≤ digits_value 10 digits

-- the text is the name of a part of a tier whose number is written so; there are the periods 0 to 35 (our own limit)
pub record IsTierName (text : List ℕ) (structure : Structure) (period : ℕ) (digits : List ℕ) (part : Part) : Type 0 where
  pub there : period ≤ 35
  pub number : IsTierNumber digits
  pub form : text ≡ name_of structure period digits part
