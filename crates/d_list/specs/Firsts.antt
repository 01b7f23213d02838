-- Which of several refusals a reader answers: the first that comes, in the order in which they stand. Each refusal is there, or none.
use Rattle.std.specs.Prelude.{ℕ, zero, suc, Bool, List, [], ◌∷◌, ◌++◌, Option, None, Some, if◌then◌else◌}

-- the first that comes
unfoldable pub first_of : {R : Type 0} → List (Option R) → Option R
first_of [] = None
first_of (None ∷ rest) = first_of rest
first_of (Some refused ∷ rest) = Some refused

-- the lists of 0 to n - 1, joined in order
unfoldable pub each : {R : Type 0} → ℕ → (ℕ → List (Option R)) → List (Option R)
each zero list = []
each (suc n) list = each n list ++ list n

-- a refusal that comes exactly where the test holds
abbrev pub when : {R : Type 0} → Bool → R → Option R
when test refused = if test then Some refused else None
