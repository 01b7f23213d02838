-- How the numbers of a battery file are read: each in one way. Their form and their greatest size are our own.
use Rattle.std.specs.Prelude.{◌≡◌, ℕ, ◌^◌, ℤ, pos, neg_ℤ, unsigned_abs, Bool, true, false, ◌&&◌, int_le, List, [], ◌∷◌, Option, None, Some, option_map, Result, Ok, Err, if◌then◌else◌}
use Rattle.d_text.specs.Fault.{IsDecimalOf, IsDecimalFault}
use Rattle.d_text.specs.declared.decimal.DecimalFault.{DecimalFault}
use Rattle.d_text.specs.declared.decimal.DecimalFault.TheVariants.{Empty, Form, TooLarge, TooFine}

-- the whole number in a cell, or why there is none of at most 10^10 in size
abbrev pub IsWhole : List ℕ → Result ℤ DecimalFault → Type 0
IsWhole cell (Ok number) = IsDecimalOf cell 0 (10 ^ 10) number
IsWhole cell (Err fault) = IsDecimalFault cell 0 (10 ^ 10) fault

-- a way to read the cells of numbers
abbrev pub Reader : Type 0
Reader = List ℕ → Result ℤ DecimalFault

-- it reads each cell as that has to be read
abbrev pub IsReader : Reader → Type 0
IsReader reader = (cell : List ℕ) → IsWhole cell (reader cell)

-- a value is this, whichever way the cells are read
abbrev pub Reads : {A : Type 0} → (Reader → A) → A → Type 0
Reads value_of value = (reader : Reader) → IsReader reader → value ≡ value_of reader

-- the number in the cell of a level; an empty cell says the level that stands for an absent one
abbrev pub level_number : Reader → ℕ → List ℕ → Result ℤ DecimalFault
level_number reader absent [] = Ok (pos absent)
level_number reader absent (byte ∷ rest) = reader (byte ∷ rest)

-- whether a cell's text is no whole number; one that is too large isn't meant
abbrev pub is_unread : Result ℤ DecimalFault → Bool
is_unread (Ok number) = false
is_unread (Err Empty) = true
is_unread (Err (Form place)) = true
is_unread (Err TooLarge) = false
is_unread (Err TooFine) = true

-- a number that was read, where it is from the one to the other
abbrev pub within : ℤ → ℤ → Result ℤ DecimalFault → Option ℤ
within least most (Ok number) = if int_le least number && int_le number most then Some number else None
within least most (Err fault) = None

-- a mode's change in levels, where it is at most 255 in size
abbrev pub change_within : Result ℤ DecimalFault → Option ℤ
change_within number = within (neg_ℤ (pos 255)) (pos 255) number

-- what a mode adds to the net reading, where that is at most 10^9 Wh in size
abbrev pub grid_within : Result ℤ DecimalFault → Option ℤ
grid_within number = within (neg_ℤ (pos (10 ^ 9))) (pos (10 ^ 9)) number

-- a level, where it is from 0 to 255
abbrev pub level_within : Result ℤ DecimalFault → Option ℕ
level_within number = option_map unsigned_abs (within (pos 0) (pos 255) number)

-- there is one way to read all cells, and no other
pub record HasOneReader : Type 0 where
  pub reader : Reader
  pub is_reader : IsReader reader
  pub only : (other : Reader) → IsReader other → other ≡ reader
