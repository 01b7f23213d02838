-- Looking for the mode of a name.
use Rattle.std.proofs.Common.{◌≡◌, ℕ, ◌<◌, ◌≤◌, List, length, get_or, refl, sym, ap, ◌∙◌, arith}
use Rattle.std.proofs.lemmas.Option.{slice_get_within, slice_get_read, same_Some}
use Rattle.d_batt.specs.declared.mode.Mode.{Mode}
use Rattle.d_batt.specs.Storage.{HasDifferentNames}
use Rattle.d_bill.specs.ScheduleFile.{IsModeNamed}

-- the mode that stands here has the name
pub named_here : (modes : List Mode) (name : List ℕ) (number : ℕ) (mode : Mode) → number < length modes → mode ≡ get_or modes number mode → mode.name ≡ name →
    IsModeNamed modes name number
named_here modes name number mode within is named = record { mode = mode; there = slice_get_read modes (length modes) number mode refl within is; named = named }

-- none before this one and not this one
pub not_here : (modes : List Mode) (name : List ℕ) (number : ℕ) (mode : Mode) → number < length modes → mode ≡ get_or modes number mode → (mode.name ≡ name → ⊥) →
    IsModeNamed modes name number → ⊥
not_here modes name number mode within is other found =
    let same : found.mode ≡ mode = same_Some found.mode mode (sym found.there ∙ slice_get_read modes (length modes) number mode refl within is) in
    other (ap (λ (m : Mode). m.name) (sym same) ∙ found.named)

-- no mode stands behind the last
pub nowhere : (modes : List Mode) (name : List ℕ) (count : ℕ) → length modes ≤ count → ((k : ℕ) → k < count → IsModeNamed modes name k → ⊥) → (number : ℕ) →
    IsModeNamed modes name number → ⊥
nowhere modes name count all none number found =
    let within = slice_get_within modes number found.mode found.there in
    none number (omega arith) found

-- one mode at most has a name
pub one_mode : (modes : List Mode) (name : List ℕ) (j k : ℕ) → HasDifferentNames modes → IsModeNamed modes name j → IsModeNamed modes name k → j ≡ k
one_mode modes name j k different one other = different j k one.mode other.mode one.there other.there (one.named ∙ sym other.named)
