-- The first of the cheapest ways, as a value: of all lists of moves, in their order, the first that costs least. All of it is our own rule.
use Rattle.std.specs.Prelude.{ℕ, zero, suc, Bool, true, false, List, [], ◌∷◌, Option, Some, None, map, length, int_le, if◌then◌else◌}
use Rattle.std.specs.List.{range_with_len, flat_map}
use Rattle.d_num.specs.declared.pot.Pot.{Pot}
use Rattle.d_num.specs.declared.pot.Pot.TheVariants.{To, NoWay}
use Rattle.d_path.specs.Arcs.{Arcs, intervals_of, way_cost}

-- all lists of so many numbers below m, in the order of lists
unfoldable pub lists_below : ℕ → ℕ → List (List ℕ)
lists_below m zero = [] ∷ []
lists_below m (suc n) = flat_map (λ k. map (λ rest. k ∷ rest) (lists_below m n)) (range_with_len 0 m)

-- whether it is a cost
abbrev pub is_way : Pot → Bool
is_way (To cost) = true
is_way NoWay = false

-- whether a cost is no greater than another
abbrev pub is_at_most : Pot → Pot → Bool
is_at_most (To one) (To other) = int_le one other
is_at_most (To one) NoWay = true
is_at_most NoWay other = false

-- a list, or what is best of those behind it, whichever costs less; of equals the list
abbrev pub better : (List ℕ → Pot) → List ℕ → Option (List ℕ) → Option (List ℕ)
better cost s None = if is_way (cost s) then Some s else None
better cost s (Some other) = if is_at_most (cost s) (cost other) then Some s else Some other

-- the first of some lists that costs least; none where none of them is a way
unfoldable pub first_least_of : (List ℕ → Pot) → List (List ℕ) → Option (List ℕ)
first_least_of cost [] = None
first_least_of cost (s ∷ rest) = better cost s (first_least_of cost rest)

-- of all lists of moves, one an interval, the first that costs least; none where none of them is a way
abbrev pub cheapest_of : Arcs → Option (List ℕ)
cheapest_of a = first_least_of (way_cost a 0 a.start) (lists_below (length a.moves) (intervals_of a))
