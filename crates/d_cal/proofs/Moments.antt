-- A start's text, part by part.
use Rattle.std.proofs.Common.{◌≡◌, ℕ, ◌+◌, List, ◌∷◌, ◌++◌, length, take, drop, Option, None, Some, Bor, bytes_eq, MatchOption, IfNone, IfSome, true, false, refl, sym, ap, ◌∙◌}
use Rattle.std.proofs.lemmas.List.{append_cancel_left, take_at, take-append-drop}
use Rattle.std.proofs.lemmas.Slice.Eq.{bytes_eq-Decides}
use Rattle.d_cal.specs.Starts.{IsMoment}

-- what stands behind the date of a moment
pub moment_behind : (cell date time behind : List ℕ) → cell ≡ date ++ behind → (m : IsMoment cell date time) → behind ≡ m.between ∷ (time ++ m.seconds)
moment_behind cell date time behind at m = append_cancel_left date behind (m.between ∷ (time ++ m.seconds)) (sym at ∙ m.form)

-- and behind the byte that follows it
pub moment_clock : (cell date time clock : List ℕ) (between : ℕ) → cell ≡ date ++ between ∷ clock → (m : IsMoment cell date time)
    → (between ≡ m.between) × (clock ≡ time ++ m.seconds)
moment_clock cell date time clock between at m = let same = moment_behind cell date time (between ∷ clock) at m in (cc, cc)

-- and behind the time
pub moment_seconds : (cell date time seconds : List ℕ) (between : ℕ) → cell ≡ date ++ between ∷ (time ++ seconds) → (m : IsMoment cell date time)
    → seconds ≡ m.seconds
moment_seconds cell date time seconds between at m =
    append_cancel_left time seconds m.seconds (moment_clock cell date time (time ++ seconds) between at m).1

-- a text without its front
abbrev IsBehind : List ℕ → List ℕ → Option (Bor (List ℕ)) → Type 0
IsBehind text front found = MatchOption found (bytes_eq (take (length front) text) front ≡ false)
    (λ x. (bytes_eq (take (length front) text) front ≡ true) × (x.now ≡ drop (length front) text) × (length x.now + length front ≡ length text))

-- where there is none, the text begins with another front
pub behind_none : (text front : List ℕ) (found : Option (Bor (List ℕ))) → IsBehind text front found → IfNone found ((rest : List ℕ) → text ≡ front ++ rest → ⊥)
behind_none text front None other = λ rest at.
    let same : take (length front) text ≡ front = rw at (take_at front rest (length front) refl) in
    let hit = (bytes_eq-Decides (take (length front) text) front).1 same in
    cc
behind_none text front (Some x) found = tt

-- and where there is one, it stands behind it
pub behind_some : (text front : List ℕ) (found : Option (Bor (List ℕ))) → IsBehind text front found → IfSome found (λ rest. text ≡ front ++ rest.now)
behind_some text front None other = tt
behind_some text front (Some x) found =
    sym (take-append-drop (length front) text) ∙ ap (λ (t : List ℕ). t ++ drop (length front) text) ((bytes_eq-Decides (take (length front) text) front).0 found.0)
    ∙ ap (λ (t : List ℕ). front ++ t) (sym found.1)
