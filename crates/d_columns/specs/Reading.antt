-- The parts of a name, from the front to the end. All texts are in ASCII small letters.
use Rattle.std.specs.Prelude.{◌≡◌, ℕ, ◌≤◌, List, ◌++◌, Option, option_map, codes, decimal}
use Rattle.std.specs.List.{prefix_len}
use Rattle.std.specs.Str.{str_to_ascii_lowercase}
use Rattle.std.specs.Borrow.{Bor}
use Rattle.d_columns.specs.declared.names.Structure.{Structure}
use Rattle.d_columns.specs.declared.names.Part.{Part}
use Rattle.d_columns.specs.declared.reading.TierName.{TierName}
use Rattle.d_columns.specs.declared.reading.Structured.{Structured}
use Rattle.d_columns.specs.declared.reading.Numbered.{Numbered}
use Rattle.d_columns.specs.declared.reading.TierEnd.{TierEnd}
use Rattle.d_columns.specs.declared.reading.PeriodEnd.{PeriodEnd}
use Rattle.d_columns.specs.Names.{part_text, is_digit, IsTierNumber}

-- a number, and behind it a rest that doesn't go on with a digit
pub record IsNumberThen (text digits rest : List ℕ) : Type 0 where
  pub number : IsTierNumber digits
  pub ends : prefix_len is_digit rest ≡ 0
  pub form : text ≡ digits ++ rest

-- what names a part of a tier behind its period
pub record IsTierEnd (text digits : List ℕ) (part : Part) : Type 0 where
  pub number : IsTierNumber digits
  pub form : text ≡ codes "/tier" ++ (digits ++ part_text part)

-- what names a part of a tier behind the structure
pub record IsPeriodEnd (text : List ℕ) (period : ℕ) (digits : List ℕ) (part : Part) : Type 0 where
  pub there : period ≤ 35
  pub number : IsTierNumber digits
  pub form : text ≡ codes "/period" ++ (decimal period ++ (codes "/tier" ++ (digits ++ part_text part)))

-- a rest that is found, in small letters
abbrev pub small_rest : Option (Bor (List ℕ)) → Option (List ℕ)
small_rest found = option_map (λ (rest : Bor (List ℕ)). str_to_ascii_lowercase rest.now) found

-- a structure that is found and the rest behind it, as plain values; the rest in small letters
abbrev pub structure_shown : Option Structured → Option (Structure × List ℕ)
structure_shown found = option_map (λ (s : Structured). (s.structure, str_to_ascii_lowercase s.rest.now)) found

-- the same of a number and the rest behind it
abbrev pub number_shown : Option Numbered → Option (List ℕ × List ℕ)
number_shown found = option_map (λ (n : Numbered). (n.digits.now, str_to_ascii_lowercase n.rest.now)) found

-- a tier's number and part, as plain values
abbrev pub tier_shown : Option TierEnd → Option (List ℕ × Part)
tier_shown found = option_map (λ (e : TierEnd). (e.tier.now, e.part)) found

-- the same with the period before them
abbrev pub period_shown : Option PeriodEnd → Option (ℕ × List ℕ × Part)
period_shown found = option_map (λ (e : PeriodEnd). (e.period, e.tier.now, e.part)) found

-- what a name says, as plain values
abbrev pub name_shown : Option TierName → Option (Structure × ℕ × List ℕ × Part)
name_shown found = option_map (λ (n : TierName). (n.structure, n.period, n.tier.now, n.part)) found
