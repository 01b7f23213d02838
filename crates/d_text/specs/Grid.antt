-- Lists and grids in brackets, as the Utility Rate Database's bulk file writes them into one cell. The form is our own rule.
use Rattle.std.specs.Prelude.{◌≡◌, ℕ, ◌+◌, ◌<◌, ◌≤◌, ◌⊎◌, List, [], ◌∷◌, ◌++◌, All, length, take}
use Rattle.std.specs.Str.Parse.{IsNumeral, digits_value}
use Rattle.d_text.specs.declared.items.Span.{Span}

-- a space, a tab, CR or LF
abbrev pub IsBlank : ℕ → Type 0
IsBlank byte = (byte ≡ 32) ⊎ ((byte ≡ 9) ⊎ ((byte ≡ 13) ⊎ (byte ≡ 10)))

-- no comma, no bracket and no blank
pub record IsItemByte (byte : ℕ) : Type 0 where
  pub no_comma : byte ≡ 44 → ⊥
  pub no_opening : byte ≡ 91 → ⊥
  pub no_closing : byte ≡ 93 → ⊥
  pub no_blank : IsBlank byte → ⊥

-- a part of a list stands first in the text, with blanks or none before it, and `Rest` holds of what follows. `place` is where the text
-- begins in the cell; `Part` says of a text, by its place, which value it has as a part.
pub record StartsWith {A : Type 0} (Part : ℕ → List ℕ → A → Type 0) (place : ℕ) (text : List ℕ) (value : A) (Rest : ℕ → List ℕ → Type 0) : Type 0 where
  pub blanks : List ℕ
  pub part : List ℕ
  pub rest : List ℕ
  pub form : text ≡ blanks ++ (part ++ rest)
  pub blanks_are : All IsBlank blanks
  pub part_is : Part (place + length blanks) part value
  pub rest_is : Rest (place + length blanks + length part) rest

-- how a list goes on behind a part: the closing bracket or, for each further part, a comma and the part, with blanks or none before
-- brackets and commas
abbrev pub GoesOn : {A : Type 0} → (ℕ → List ℕ → A → Type 0) → ℕ → List ℕ → List A → Type 0
GoesOn Part place text [] = (blanks : List ℕ) × All IsBlank blanks × (text ≡ blanks ++ 93 ∷ [])
GoesOn Part place text (value ∷ more) = (blanks inside : List ℕ) × All IsBlank blanks × (text ≡ blanks ++ 44 ∷ inside) × StartsWith Part (place + length blanks + 1) inside value (λ behind rest. GoesOn Part behind rest more)

-- the opening bracket, one or more parts separated by commas, and the closing bracket
abbrev pub IsBracketed : {A : Type 0} → (ℕ → List ℕ → A → Type 0) → ℕ → List ℕ → List A → Type 0
IsBracketed Part place text [] = ⊥
IsBracketed Part place text (value ∷ more) = (inside : List ℕ) × (text ≡ 91 ∷ inside) × StartsWith Part (place + 1) inside value (λ behind rest. GoesOn Part behind rest more)

-- such a text with exactly so many parts
pub record IsBracketedOf {A : Type 0} (count : ℕ) (Part : ℕ → List ℕ → A → Type 0) (place : ℕ) (text : List ℕ) (values : List A) : Type 0 where
  pub bracketed : IsBracketed Part place text values
  pub count_is : length values ≡ count

-- one or more digits whose number is at most 35, wherever they stand
pub record IsNumber (place : ℕ) (text : List ℕ) (number : ℕ) : Type 0 where
  pub digits : IsNumeral 10 text
  pub number_is : number ≡ digits_value 10 text
  pub most : number ≤ 35

-- one or more bytes of an item; its value is where they stand
pub record IsItem (place : ℕ) (text : List ℕ) (span : Span) : Type 0 where
  pub bytes : All IsItemByte text
  pub some : 0 < length text
  pub from_is : span.from ≡ place
  pub to_is : span.to ≡ place + length text

-- a list of 24 numbers
abbrev pub IsRow : ℕ → List ℕ → List ℕ → Type 0
IsRow place text row = IsBracketedOf 24 IsNumber place text row

-- a list of twelve such lists
abbrev pub IsGridText : ℕ → List ℕ → List (List ℕ) → Type 0
IsGridText place text rows = IsBracketedOf 12 IsRow place text rows

-- a list of twelve items
abbrev pub IsListText : ℕ → List ℕ → List Span → Type 0
IsListText place text spans = IsBracketedOf 12 IsItem place text spans

-- the cell is a grid with these rows
abbrev pub IsGridOf : List ℕ → List (List ℕ) → Type 0
IsGridOf cell rows = IsGridText 0 cell rows

-- the cell is a list whose items stand there
abbrev pub IsListOf : List ℕ → List Span → Type 0
IsListOf cell spans = IsListText 0 cell spans

-- some text of the form begins with this one
abbrev pub Begins : {A : Type 0} → (ℕ → List ℕ → A → Type 0) → List ℕ → Type 0
Begins {A = A} Form text = (rest : List ℕ) × (value : A) × Form 0 (text ++ rest) value

-- the cell isn't of the form; so many of its bytes, and no more, are the beginning of some text that is
pub record IsRefusedAt {A : Type 0} (Form : ℕ → List ℕ → A → Type 0) (cell : List ℕ) (place : ℕ) : Type 0 where
  pub other : (value : A) → Form 0 cell value → ⊥
  pub within : place ≤ length cell
  pub begins : Begins Form (take place cell)
  pub longest : (k : ℕ) → k ≤ length cell → Begins Form (take k cell) → k ≤ place

-- why a cell is refused as a grid
abbrev pub IsGridFault : List ℕ → ℕ → Type 0
IsGridFault cell place = IsRefusedAt IsGridText cell place

-- why a cell is refused as a list
abbrev pub IsListFault : List ℕ → ℕ → Type 0
IsListFault cell place = IsRefusedAt IsListText cell place
