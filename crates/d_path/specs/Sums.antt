-- Sums of costs before each is put into one word. All of it is our own rule.
use Rattle.std.specs.Prelude.{ℤ, List, pos, neg_ℤ, ◌≤ℤ◌, ◌^◌}
use Rattle.std.specs.List.{All}

-- no sum is below the range of money; one above it stands for no way
abbrev pub AreSums : List ℤ → Type 0
AreSums sums = All (λ z. neg_ℤ (pos (10 ^ 37)) ≤ℤ z) sums
