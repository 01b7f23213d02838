-- The words that ask to see a tariff: `show --records A --label L`, with or without `--rule net-billing` behind them. All of this is our own.
use Rattle.std.specs.Prelude.{◌≡◌, ℕ, Bool, List, ◌∷◌, Option, MatchOption, codes}
use Rattle.d_words.specs.Words.{IsLabel, IsValue, rule_words}
use Rattle.d_words.specs.declared.show.Show.{Show}

-- what the words name: the file of tariff records, the label of the record, and whether its month is billed by net billing whatever it
-- says
pub record Seen : Type 0 where
  pub records : List ℕ
  pub label : List ℕ
  pub net_billing : Bool

-- the words that name this
abbrev pub show_words : Seen → List (List ℕ)
show_words s = codes "show" ∷ codes "--records" ∷ s.records ∷ codes "--label" ∷ s.label ∷ rule_words s.net_billing

-- the words ask to see this
pub record IsShow (words : List (List ℕ)) (seen : Seen) : Type 0 where
  pub words_are : words ≡ show_words seen
  pub records : IsValue seen.records
  pub label : IsValue seen.label
  pub label_form : IsLabel seen.label

-- the bytes of what is found in words
abbrev pub seen_of : Show → Seen
seen_of s = record { records = s.records.now; label = s.label.now; net_billing = s.net_billing }

-- what is found is so, or nothing is
abbrev pub FindsShow : (Seen → Type 0) → Option Show → Type 0
FindsShow Is found = MatchOption found ((seen : Seen) → Is seen → ⊥) (λ show. Is (seen_of show))
