-- The front of a search: the keys that wait in it, and how one is taken. All of it is our own rule.
use Rattle.std.specs.Prelude.{ℕ, List, [], ◌∷◌, ◌≡◌, Option, Some, None, map}
use Rattle.std.specs.List.{All, Contains}
use Rattle.std.specs.List.Sorted.{IsPermutation}
use Rattle.std.specs.declared.cmp.Ordering.{Ordering}
use Rattle.std.specs.declared.cmp.Reverse.{Reverse}
use Rattle.d_front.specs.declared.key.Key.{Key}
use Rattle.d_front.specs.Keys.{ComesFirst, key_cmp}

-- the keys that wait, in some order, and how many have room
pub record Waiting : Type 0 where
  pub keys : List Key
  pub room : ℕ

-- which of the keys comes first of all; none exactly where there is no key
abbrev pub IsFirst : List Key → Option Key → Type 0
IsFirst keys None = keys ≡ []
IsFirst keys (Some k) = Contains keys k × All (ComesFirst k) keys

-- the key that comes first of all is taken out, and all others stay; none is taken exactly where there is none, and then none is there after
abbrev pub IsTaken : List Key → Option Key → List Key → Type 0
IsTaken before None after = (before ≡ []) × (after ≡ [])
IsTaken before (Some k) after = IsPermutation (k ∷ after) before × All (ComesFirst k) before

-- the keys as the heap has them, whose greatest is the key that comes first
abbrev pub shown : List (Reverse Key) → List Key
shown = map (λ r. r.0)

-- how the heap compares
abbrev pub last_cmp : Reverse Key → Reverse Key → Ordering
last_cmp a b = key_cmp b.0 a.0
