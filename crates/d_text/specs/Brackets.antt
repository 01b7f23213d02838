-- How far a list in brackets is read.
use Rattle.std.specs.Prelude.{◌≡◌, ℕ, ◌+◌, ◌*◌, ◌<◌, ◌≤◌, ◌||◌, ◌&&◌, ◌==◌, Bool, true, false, nat_lt, if◌then◌else◌, Option, None, Some, option_map, List, [], ◌∷◌, ◌++◌, length, take}
use Rattle.std.specs.Char.{digit_value}
use Rattle.d_text.specs.declared.brackets.Stage.{Stage}
use Rattle.d_text.specs.declared.brackets.Stage.TheVariants.{Start, Open, Part, After, Closed}
use Rattle.d_text.specs.declared.brackets.Role.{Role}
use Rattle.d_text.specs.declared.brackets.Role.TheVariants.{Opening, Closing, Comma, Blank, Other}
use Rattle.d_text.specs.declared.items.Span.{Span}
use Rattle.d_text.specs.declared.row.RowScan.{RowScan}
use Rattle.d_text.specs.declared.grid.GridScan.{GridScan}
use Rattle.d_text.specs.declared.items.ListScan.{ListScan}

-- what a byte is in a list
abbrev pub role_of : ℕ → Role
role_of byte = if byte == 91 then Opening else (if byte == 93 then Closing else (if byte == 44 then Comma else (if (byte == 32) || ((byte == 9) || ((byte == 13) || (byte == 10))) then Blank else Other)))

-- where a byte leads behind the last of so many complete parts
abbrev pub after_part : ℕ → ℕ → Role → Option Stage
after_part most count Opening = None
after_part most count Closing = if count == most then Some Closed else None
after_part most count Comma = if nat_lt count most then Some Open else None
after_part most count Blank = Some After
after_part most count Other = None

-- where a byte leads before the opening bracket
abbrev pub opened : Role → Option Stage
opened Opening = Some Open
opened Closing = None
opened Comma = None
opened Blank = None
opened Other = None

-- it is a blank
abbrev pub is_blank : Role → Bool
is_blank Opening = false
is_blank Closing = false
is_blank Comma = false
is_blank Blank = true
is_blank Other = false

-- the closing bracket is read
abbrev pub is_closed : Stage → Bool
is_closed Start = false
is_closed Open = false
is_closed Part = false
is_closed After = false
is_closed Closed = true

-- so many parts may be complete in a stage
abbrev pub Fits : ℕ → Stage → ℕ → Type 0
Fits most Start count = count ≡ 0
Fits most Open count = count < most
Fits most Part count = count < most
Fits most After count = count ≤ most
Fits most Closed count = count ≡ most

-- reads a text byte by byte: where it starts, where a byte at some place leads, and what the text says if it ends here
pub record Reader (S A : Type 0) : Type 0 where
  pub start : S
  pub next : ℕ → S → ℕ → Option S
  pub value : S → Option A

-- how far a list is read, with its complete parts and how far the next is read
pub data Level (S A : Type 0) : Type 0 where
  unread : Level S A
  waiting : List A → Level S A
  within : List A → S → Level S A
  rested : List A → Level S A
  shut : List A → Level S A

-- a stage with the complete parts and the next
abbrev pub level_of : {S A : Type 0} → Stage → List A → S → Level S A
level_of Start parts s = unread
level_of Open parts s = waiting parts
level_of Part parts s = within parts s
level_of After parts s = rested parts
level_of Closed parts s = shut parts

-- on behind the last of these parts
abbrev pub next_behind : {S A : Type 0} → ℕ → List A → S → Role → Option (Level S A)
next_behind most parts s role = option_map (λ stage. level_of stage parts s) (after_part most (length parts) role)

-- on where a part may end
abbrev pub next_end : {S A : Type 0} → ℕ → List A → S → Option A → Role → Option (Level S A)
next_end most parts s None role = None
next_end most parts s (Some value) role = next_behind most (parts ++ value ∷ []) s role

-- on in a part, or at its end
abbrev pub next_within : {S A : Type 0} → List A → Option S → Option (Level S A) → Option (Level S A)
next_within parts (Some s) end = Some (within parts s)
next_within parts None end = end

-- on before a part
abbrev pub next_waiting : {S A : Type 0} → List A → Option S → Bool → Option (Level S A)
next_waiting parts first true = Some (waiting parts)
next_waiting parts first false = option_map (within parts) first

-- where a byte leads in a list of exactly so many parts
abbrev pub level_next : {S A : Type 0} → Reader S A → ℕ → ℕ → Level S A → ℕ → Option (Level S A)
level_next m most place unread byte = option_map (λ stage. level_of stage [] m.start) (opened (role_of byte))
level_next m most place (waiting parts) byte = next_waiting parts (m.next place m.start byte) (is_blank (role_of byte))
level_next m most place (within parts s) byte = next_within parts (m.next place s byte) (next_end most parts s (m.value s) (role_of byte))
level_next m most place (rested parts) byte = next_behind most parts m.start (role_of byte)
level_next m most place (shut parts) byte = None

-- the parts of a list that ends here
abbrev pub level_value : {S A : Type 0} → Level S A → Option (List A)
level_value unread = None
level_value (waiting parts) = None
level_value (within parts s) = None
level_value (rested parts) = None
level_value (shut parts) = Some parts

-- reads a list of exactly so many parts
abbrev pub level : {S A : Type 0} → Reader S A → ℕ → Reader (Level S A) (List A)
level m most = record { start = unread; next = level_next m most; value = level_value }

-- the number so far
abbrev pub so_far : Option ℕ → ℕ
so_far None = 0
so_far (Some number) = number

-- a number with one more digit, if it is at most 35
abbrev pub with_digit : ℕ → ℕ → Option ℕ
with_digit number byte = if nat_lt (digit_value byte) 10 && nat_lt (number * 10 + digit_value byte) 36 then Some (number * 10 + digit_value byte) else None

-- reads a number
abbrev pub number_reader : Reader (Option ℕ) ℕ
number_reader = record { start = None; next = λ place s byte. option_map Some (with_digit (so_far s) byte); value = λ s. s }

-- an item with one more byte at this place
abbrev pub item_with : Option Span → ℕ → Span
item_with None place = record { from = place; to = place + 1 }
item_with (Some span) place = record { from = span.from; to = place + 1 }

-- where a byte leads in an item
abbrev pub item_next : ℕ → Option Span → Role → Option (Option Span)
item_next place s Opening = None
item_next place s Closing = None
item_next place s Comma = None
item_next place s Blank = None
item_next place s Other = Some (Some (item_with s place))

-- reads an item
abbrev pub item_reader : Reader (Option Span) Span
item_reader = record { start = None; next = λ place s byte. item_next place s (role_of byte); value = λ s. s }

-- reads a list of 24 numbers
abbrev pub row_reader : Reader (Level (Option ℕ) ℕ) (List ℕ)
row_reader = level number_reader 24

-- reads a grid
abbrev pub grid_reader : Reader (Level (Level (Option ℕ) ℕ) (List ℕ)) (List (List ℕ))
grid_reader = level row_reader 12

-- reads a list of twelve items
abbrev pub list_reader : Reader (Level (Option Span) Span) (List Span)
list_reader = level item_reader 12

-- how far a row is read
abbrev pub row_level : RowScan → Level (Option ℕ) ℕ
row_level s = level_of s.stage (take s.count s.numbers) (Some s.number)

-- how far a grid is read
abbrev pub grid_level : GridScan → Level (Level (Option ℕ) ℕ) (List ℕ)
grid_level s = level_of s.stage (take s.count s.rows) (row_level s.row)

-- how far a list of items is read
abbrev pub list_level : ListScan → Level (Option Span) Span
list_level s = level_of s.stage (take s.count s.spans) (Some s.span)

-- a row is read in a stage that its count of numbers allows, and the next number is at most 35
pub record IsRowScan (s : RowScan) : Type 0 where
  pub fits : Fits 24 s.stage s.count
  pub small : s.number ≤ 35

-- the same of a grid, whose next row is so
pub record IsGridScan (s : GridScan) : Type 0 where
  pub fits : Fits 12 s.stage s.count
  pub row : IsRowScan s.row
  pub size : length s.rows ≡ 12

-- the same of a list of items
pub record IsListScan (s : ListScan) : Type 0 where
  pub fits : Fits 12 s.stage s.count
  pub size : length s.spans ≡ 12
