-- There is a first cheapest way wherever there is a way at all.
use Rattle.std.proofs.Common.{◌≡◌, ◌≢◌, ◌⊎◌, ◌+◌, ◌-◌, ◌≤◌, ◌<◌, ◌≤ℤ◌, ℕ, ℤ, zero, suc, List, [], ◌∷◌, length, map, inl, inr, sym, subst, refl, arith, slice_index_or}
use Rattle.std.proofs.lemmas.Int.{ints}
use Rattle.std.specs.List.{range_with_len}
use Rattle.std.proofs.lemmas.List.FromFn.{get_or-map-range_with_len, length-map-range_with_len}
use Rattle.d_num.specs.declared.pot.Pot.{Pot}
use Rattle.d_num.specs.declared.pot.Pot.TheVariants.{To, NoWay}
use Rattle.d_num.specs.Pot.{AtMost}
use Rattle.d_path.specs.Arcs.{Arcs, arc_cost, intervals_of, way_cost, IsSound}
use Rattle.d_path.specs.Cheapest.{IsCheapest, HasCheapest, IsFirstCheapest, entry}
use Rattle.d_path.specs.Best.{IsFirstBest, AreCostsAt, cost_by}
use Rattle.d_path.proofs.CostLemmas.{NoWay-AtMost, NoWay?}
use Rattle.d_path.proofs.WayLemmas.{level_after_in, first_is_cheapest}
use Rattle.d_path.proofs.StepLemmas.{below?, best_none, best_stays, best_moves, best_is_least, cheapest_step, cheapest_end, first_end, past_end}
use Rattle.d_path.proofs.FirstLemmas.{cheapest_there, place_of, move_made, first_move_is}

-- no list is a way from this level at interval t, or some list is the first cheapest
abbrev pub NoneOrFirst : Arcs → ℕ → ℕ → Type 0
NoneOrFirst a t level = ((ms : List ℕ) → way_cost a t level ms ≡ NoWay) ⊎ ((s : List ℕ) × IsFirstCheapest a t level s)

at_most_numbers? : (x y : ℤ) → (x ≤ℤ y) ⊎ (x ≤ℤ y → ⊥)
at_most_numbers? x y = grind (arith, ints)

AtMost? : (p q : Pot) → AtMost p q ⊎ (AtMost p q → ⊥)
AtMost? (To x) (To y) = at_most_numbers? x y
AtMost? (To x) NoWay = inl tt
AtMost? NoWay (To y) = inr (λ h. h)
AtMost? NoWay NoWay = inl tt

-- finitely many costs have a first best
pub first_best : (f : ℕ → Pot) (k : ℕ) → (p : Pot) × (place : ℕ) × IsFirstBest f k p place
first_best f zero = (NoWay, 0, best_none f)
first_best f (suc k) = go (first_best f k)
  where
    next : k + 1 ≡ suc k
    next = omega arith

    go : ((p : Pot) × (place : ℕ) × IsFirstBest f k p place) → (p : Pot) × (place : ℕ) × IsFirstBest f (suc k) p place
    go best = elim (AtMost? best.0 (f k)) [
      | inl stays ↦ (best.0, best.1, subst (λ (n : ℕ). IsFirstBest f n best.0 best.1) next (best_stays f k best.0 best.1 best.2 stays))
      | inr worse ↦ (f k, k, subst (λ (n : ℕ). IsFirstBest f n (f k) k) next (best_moves f k best.0 best.1 best.2 worse))
    ]

-- the least cost, by what is known of the ways
least_of : (a : Arcs) (t level : ℕ) → NoneOrFirst a t level → (p : Pot) × IsCheapest a t level p
least_of a t level (inl none) = (NoWay, record { least = λ ms. subst (λ (q : Pot). AtMost NoWay q) (sym (none ms)) tt; reached = inl refl })
least_of a t level (inr first) = (way_cost a t level first.0, first_is_cheapest a t level first.0 first.1)

floor_in : (a : Arcs) (column : ℕ) → a.floor ≤ a.floor + column
floor_in a column = omega arith

module _ (a : Arcs) (t : ℕ) (known : (level : ℕ) → a.floor ≤ level → level ≤ a.capacity → NoneOrFirst a t level) where
  -- the least cost from the level of this column
  abbrev column_of : (column : ℕ) → (a.floor + column ≤ a.capacity) ⊎ (a.capacity + 1 ≤ a.floor + column) → Pot
  column_of column (inl le) = (least_of a t (a.floor + column) (known (a.floor + column) (floor_in a column) le)).0
  column_of column (inr over) = NoWay

  in_row? : (column : ℕ) → (a.floor + column ≤ a.capacity) ⊎ (a.capacity + 1 ≤ a.floor + column)
  in_row? column = elim (below? (a.floor + column) (a.capacity + 1)) [ inl lt ↦ inl (omega arith) | inr ge ↦ inr ge ]

  abbrev row_of : List Pot
  row_of = map (λ column. column_of column (in_row? column)) (range_with_len 0 (a.capacity + 1 - a.floor))

  column_cheapest : (column : ℕ) (where_is : (a.floor + column ≤ a.capacity) ⊎ (a.capacity + 1 ≤ a.floor + column)) → a.floor + column ≤ a.capacity → IsCheapest a t (a.floor + column) (column_of column where_is)
  column_cheapest column (inl le) h = (least_of a t (a.floor + column) (known (a.floor + column) (floor_in a column) le)).1
  column_cheapest column (inr over) h = absurd (omega arith)

  -- the row of all those is one of least costs
  row_cheapest : HasCheapest a t row_of
  row_cheapest level low high =
      let column : ℕ = level - a.floor in
      let at : a.floor + (level - a.floor) ≡ level = omega arith in
      let read : slice_index_or row_of (level - a.floor) NoWay ≡ column_of (level - a.floor) (in_row? (level - a.floor)) =
      get_or-map-range_with_len (λ column. column_of column (in_row? column)) 0 (a.capacity + 1 - a.floor) (level - a.floor) (level - a.floor) NoWay (omega arith) (omega arith) in
      subst (λ (l : ℕ). IsCheapest a t l (slice_index_or row_of (level - a.floor) NoWay)) at
      (subst (λ (p : Pot). IsCheapest a t (a.floor + (level - a.floor)) p) (sym read) (column_cheapest (level - a.floor) (in_row? (level - a.floor)) (omega arith)))

-- the costs of an interval, as a list
abbrev costs_of : Arcs → ℕ → List Pot
costs_of a t = map (arc_cost a t) (range_with_len 0 (length a.moves))

costs_are : (a : Arcs) (t : ℕ) → AreCostsAt a t (costs_of a t)
costs_are a t = record {
  long = length-map-range_with_len (arc_cost a t) 0 (length a.moves);
  same = λ m lt. get_or-map-range_with_len (arc_cost a t) 0 (length a.moves) m m NoWay lt (omega arith);
}

by_best : (a : Arcs) (t level : ℕ) → t < intervals_of a → ((after : ℕ) → a.floor ≤ after → after ≤ a.capacity → NoneOrFirst a (t + 1) after) → (next : List Pot) → HasCheapest a (t + 1) next → NoneOrFirst a t level
by_best a t level lt known next after_is = go (first_best (cost_by a (costs_of a t) next level) (length a.moves))
  where
    none_of : (p : Pot) (place : ℕ) → IsFirstBest (cost_by a (costs_of a t) next level) (length a.moves) p place → p ≡ NoWay → (ms : List ℕ) → way_cost a t level ms ≡ NoWay
    none_of p place best none ms =
        let cheapest = cheapest_step a t level (costs_of a t) next (costs_are a t) after_is p lt (best_is_least (cost_by a (costs_of a t) next level) (length a.moves) p place best) in
        NoWay-AtMost (way_cost a t level ms) (subst (λ (q : Pot). AtMost q (way_cost a t level ms)) none (cheapest.least ms))

    first_of : (p : Pot) (place : ℕ) → IsFirstBest (cost_by a (costs_of a t) next level) (length a.moves) p place → p ≢ NoWay → NoneOrFirst a t level
    first_of p place best there =
        let made = move_made a level (costs_of a t) next p place (place_of (cost_by a (costs_of a t) next level) (length a.moves) p place best there) there in
        let move = first_move_is a t level (costs_of a t) next p place made.0 (costs_are a t) after_is lt best there made.1 in
        let range = level_after_in a level place made.0 made.1 in
        let way = cheapest_there a (t + 1) made.0 (entry a next made.0) (after_is made.0 range.0 range.1) move.there in
        elim (known made.0 range.0 range.1) [
          | inl none ↦ absurd (way.1 (none way.0))
          | inr first ↦ inr (place ∷ first.0, move.begins first.0 first.1)
        ]

    go : ((p : Pot) × (place : ℕ) × IsFirstBest (cost_by a (costs_of a t) next level) (length a.moves) p place) → NoneOrFirst a t level
    go best = elim (NoWay? best.0) [ inl none ↦ inl (none_of best.0 best.1 best.2 none) | inr there ↦ first_of best.0 best.1 best.2 there ]

-- what is known after interval t is known before it
exists_step : (a : Arcs) (t level : ℕ) → t < intervals_of a → ((after : ℕ) → a.floor ≤ after → after ≤ a.capacity → NoneOrFirst a (t + 1) after) → NoneOrFirst a t level
exists_step a t level lt known = by_best a t level lt known (row_of a (t + 1) known) (row_cheapest a (t + 1) known)

exists_from : (a : Arcs) → IsSound a → (left t level : ℕ) → t + left ≡ intervals_of a → a.floor ≤ level → level ≤ a.capacity → NoneOrFirst a t level
exists_from a sound zero t level whole low high = go (NoWay? (way_cost a t level []))
  where
    none_of : way_cost a t level [] ≡ NoWay → (ms : List ℕ) → way_cost a t level ms ≡ NoWay
    none_of none [] = none
    none_of none (m ∷ ms) = past_end a t level m ms sound (omega arith)

    go : ((way_cost a t level [] ≡ NoWay) ⊎ (way_cost a t level [] ≢ NoWay)) → NoneOrFirst a t level
    go (inl none) = inl (none_of none)
    go (inr there) = inr ([], first_end a t level (way_cost a t level []) sound (omega arith) (cheapest_end a t level sound (omega arith)) there)
exists_from a sound (suc left) t level whole low high = exists_step a t level (omega arith) (λ after low high. exists_from a sound left (t + 1) after (omega arith) low high)

-- wherever a way may pass, either no list is a way from there on, or one of them is the first cheapest
pub exists_first : (a : Arcs) → IsSound a → (t level : ℕ) → t ≤ intervals_of a → a.floor ≤ level → level ≤ a.capacity → NoneOrFirst a t level
exists_first a sound t level le low high = exists_from a sound (intervals_of a - t) t level (omega arith) low high
