-- What holds of all lists of words.
use Rattle.std.specs.Prelude.{◌≡◌, ◌⊎◌, ℕ, List}
use Rattle.d_words.specs.Words.{Asked, IsRequest}
use Rattle.d_words.specs.Shows.{Seen, IsShow}

-- words are one request at most
abbrev pub HasOneRequest : Type 0
HasOneRequest = (words : List (List ℕ)) (asked other : Asked) → IsRequest words asked → IsRequest words other → asked ≡ other

-- all words are a request, or they are none
abbrev pub HasRequestOrNone : Type 0
HasRequestOrNone = (words : List (List ℕ)) → ((asked : Asked) × IsRequest words asked) ⊎ ((asked : Asked) → IsRequest words asked → ⊥)

-- words ask to see one tariff at most
abbrev pub HasOneShow : Type 0
HasOneShow = (words : List (List ℕ)) (seen other : Seen) → IsShow words seen → IsShow words other → seen ≡ other

-- all words ask to see one, or they ask to see none
abbrev pub HasShowOrNone : Type 0
HasShowOrNone = (words : List (List ℕ)) → ((seen : Seen) × IsShow words seen) ⊎ ((seen : Seen) → IsShow words seen → ⊥)

-- words that ask to see a tariff ask for no plan and no bill
abbrev pub IsShowAlone : Type 0
IsShowAlone = (words : List (List ℕ)) (seen : Seen) (asked : Asked) → IsShow words seen → IsRequest words asked → ⊥
