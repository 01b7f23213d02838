-- The order of lists of numbers, which decides between schedules of one cost. It is our own rule.
use Rattle.std.specs.Prelude.{◌≡◌, ◌⊎◌, ⊤, ℕ, ◌<◌, List, [], ◌∷◌}

-- a list of numbers is the other one or comes before it in a dictionary's order: at the first place where they differ it has the
-- smaller number
abbrev pub IsNotAfter : List ℕ → List ℕ → Type 0
IsNotAfter [] ys = ⊤
IsNotAfter (x ∷ xs) [] = ⊥
IsNotAfter (x ∷ xs) (y ∷ ys) = (x < y) ⊎ ((x ≡ y) × IsNotAfter xs ys)
