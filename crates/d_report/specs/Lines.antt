-- The lines of which printed texts are made. All forms are our own; dates and times are those of ISO 8601.
use Rattle.std.specs.Prelude.{ℕ, zero, suc, ℤ, List, [], ◌∷◌, ◌++◌, codes}
use Rattle.std.specs.Fmt.{decimal}
use Rattle.d_text.specs.Text.{money_text, rate_text}
use Rattle.d_cal.specs.Starts.{month_text, text_of, start_of}
use Rattle.d_bill.specs.Inputs.{Inputs}

-- a line ends with one line feed
abbrev pub line : List ℕ → List ℕ
line text = text ++ 10 ∷ []

-- a line of a word and an amount of money
abbrev pub money_line : List ℕ → ℤ → List ℕ
money_line word money = line (word ++ money_text money)

-- a line of a word and a price
abbrev pub rate_line : List ℕ → ℤ → List ℕ
rate_line word rate = line (word ++ rate_text rate)

-- the texts of 0, 1, .. n - 1, one behind the other
unfoldable pub texts_of : ℕ → (ℕ → List ℕ) → List ℕ
texts_of zero text = []
texts_of (suc n) text = texts_of n text ++ text n

-- the start of interval t of the month, as YYYY-MM-DDTHH:MM
abbrev pub start_text : Inputs → ℕ → List ℕ
start_text i t = text_of (start_of i.year i.number i.minutes t)

-- the lines that say what is answered: the command, the record's label, the month and the length of an interval
abbrev pub title_lines : List ℕ → Inputs → List ℕ → List ℕ
title_lines command i label = line (codes "dispatch " ++ command) ++ (line (codes "label " ++ label)
    ++ (line (codes "month " ++ month_text i.year i.number) ++ line (codes "minutes " ++ decimal i.minutes)))
