-- One step of the induction over intervals: the least cost before a move from the least costs after it.
use Rattle.std.proofs.Common.{◌≡◌, ◌≢◌, ◌⊎◌, ◌+◌, ◌≤◌, ◌<◌, ℕ, zero, suc, List, [], ◌∷◌, length, Option, Some, None, inl, inr, ap, sym, subst, ◌∙◌, refl, arith, slice_index_or, option_and_then}
use Rattle.std.proofs.lemmas.List.{get_or_default}
use Rattle.std.proofs.lemmas.Option.{slice_get-get_or}
use Rattle.d_num.specs.declared.pot.Pot.{Pot}
use Rattle.d_num.specs.declared.pot.Pot.TheVariants.{NoWay}
use Rattle.d_num.specs.Pot.{AtMost, joined}
use Rattle.d_path.specs.declared.ways.Move.{Move}
use Rattle.d_path.specs.Arcs.{Arcs, next_level, level_after, arc_cost, intervals_of, along, way_cost, IsSound}
use Rattle.d_list.specs.Order.{IsNotAfter}
use Rattle.d_path.specs.Cheapest.{IsCheapest, IsFirstCheapest, entry, HasCheapest}
use Rattle.d_path.specs.Best.{IsFirstPlace, IsFirstBest, IsLeastOf, IsLesser, AreCostsAt, cost_by}
use Rattle.d_path.proofs.CostLemmas.{AtMost-refl, AtMost-trans, AtMost-antisym, AtMost-other, AtMost-NoWay, AtMost-along, joined-NoWay, joined_cancel, along-NoWay}
use Rattle.d_path.proofs.WayLemmas.{level_after_in, level_after_past, early, arc_past, cheapest_same, first_is_cheapest}

pub below? : (m k : ℕ) → (m < k) ⊎ (k ≤ m)
below? m zero = inr (omega arith)
below? zero (suc k) = inl (omega arith)
below? (suc m) (suc k) = elim (below? m k) [ inl lt ↦ inl (omega arith) | inr ge ↦ inr (omega arith) ]

-- nothing is best of no costs but no way
pub best_none : (f : ℕ → Pot) → IsFirstBest f 0 NoWay 0
best_none f = record { least = λ m h. absurd (omega arith); there = inl refl }

-- the best of all has the least of all
pub best_is_least : (f : ℕ → Pot) (k : ℕ) (p : Pot) (place : ℕ) → IsFirstBest f k p place → IsLeastOf f k p
best_is_least f k p place best = record {
  least = best.least;
  reached = elim best.there [ inl none ↦ inl none | inr first ↦ inr (place, first.inside, first.has) ];
}

-- no way is the least of no costs
pub least_none : (f : ℕ → Pot) → IsLeastOf f 0 NoWay
least_none f = record { least = λ m h. absurd (omega arith); reached = inl refl }

-- one more cost
pub least_more : (f : ℕ → Pot) (k : ℕ) (p q r : Pot) → IsLeastOf f k p → q ≡ f k → IsLesser p q r → IsLeastOf f (k + 1) r
least_more f k p q r before here lesser = record {
  least = λ m lt. elim (below? m k) [
    | inl less ↦ AtMost-trans r p (f m) lesser.below_first (before.least m less)
    | inr ge ↦ let same : k ≡ m = omega arith in subst (λ (c : Pot). AtMost r c) (here ∙ ap f same) lesser.below_second
  ];
  reached = elim lesser.one_of_both [
    | inl old ↦ elim before.reached [
      | inl none ↦ inl (old ∙ none)
      | inr place ↦ inr (place.0, omega (arith, place.1), place.2 ∙ sym old)
    ]
    | inr new ↦ inr (k, omega arith, sym here ∙ sym new)
  ];
}

-- nothing changes where the other cost is no way
pub lesser_stays : (p : Pot) → IsLesser p NoWay p
lesser_stays p = record { one_of_both = inl refl; below_first = AtMost-refl p; below_second = AtMost-NoWay p }

-- the next cost is no better
pub best_stays : (f : ℕ → Pot) (k : ℕ) (p : Pot) (place : ℕ) → IsFirstBest f k p place → AtMost p (f k) → IsFirstBest f (k + 1) p place
best_stays f k p place best h = record {
  least = λ m lt. elim (below? m k) [
    | inl less ↦ best.least m less
    | inr ge ↦ let same : k ≡ m = omega arith in subst (λ (i : ℕ). AtMost p (f i)) same h
  ];
  there = elim best.there [
    | inl none ↦ inl none
    | inr first ↦ inr (record { inside = omega (arith, first.inside); has = first.has; first = first.first })
  ];
}

-- the next cost is better
pub best_moves : (f : ℕ → Pot) (k : ℕ) (p : Pot) (place : ℕ) → IsFirstBest f k p place → (AtMost p (f k) → ⊥) → IsFirstBest f (k + 1) (f k) k
best_moves f k p place best worse = record {
  least = λ m lt. elim (below? m k) [
    | inl less ↦ AtMost-trans (f k) p (f m) (AtMost-other p (f k) worse) (best.least m less)
    | inr ge ↦ let same : k ≡ m = omega arith in subst (λ (i : ℕ). AtMost (f k) (f i)) same (AtMost-refl (f k))
  ];
  there = inr (record {
    inside = omega arith;
    has = refl;
    first = λ m less e. worse (subst (λ (q : Pot). AtMost p q) e (best.least m less));
  });
}

-- what a loop over the moves reads at a number is what the move of that number costs
pub read_cost : (a : Arcs) (costs next : List Pot) (level m : ℕ) (cost : Pot) (d : Move) → m < length a.moves → length costs ≡ length a.moves → cost ≡ slice_index_or costs m cost → along cost (next_level a level (slice_index_or a.moves m d)) (entry a next) ≡ cost_by a costs next level m
read_cost a costs next level m cost d lt long read =
    let here : cost ≡ slice_index_or costs m NoWay = read ∙ get_or_default costs m cost NoWay (omega arith) in
    ap (λ (c : Pot). along c (next_level a level (slice_index_or a.moves m d)) (entry a next)) here
    ∙ ap (λ (o : Option Move). along (slice_index_or costs m NoWay) (option_and_then (next_level a level) o) (entry a next)) (sym (slice_get-get_or a.moves m d lt))

past_no_way : (a : Arcs) (t level m : ℕ) (ms : List ℕ) → length a.moves ≤ m → way_cost a t level (m ∷ ms) ≡ NoWay
past_no_way a t level m ms h = ap (λ (o : Option ℕ). along (arc_cost a t m) o (λ after. way_cost a (t + 1) after ms)) (level_after_past a level m h)

module _ (a : Arcs) (t level : ℕ) (costs next : List Pot) (row : AreCostsAt a t costs) (after_is : HasCheapest a (t + 1) next) where
  -- the code's cost of a move is that of its arc and the least after it
  cost_by_is : (m : ℕ) → m < length a.moves → cost_by a costs next level m ≡ along (arc_cost a t m) (level_after a level m) (entry a next)
  cost_by_is m lt = ap (λ (c : Pot). along c (level_after a level m) (entry a next)) (row.same m lt)

  -- no way by this move costs less
  step_least : (m : ℕ) → m < length a.moves → (ms : List ℕ) → AtMost (cost_by a costs next level m) (way_cost a t level (m ∷ ms))
  step_least m lt ms =
      subst (λ (c : Pot). AtMost c (way_cost a t level (m ∷ ms))) (sym (cost_by_is m lt))
      (AtMost-along (arc_cost a t m) (level_after a level m) (entry a next) (λ after. way_cost a (t + 1) after ms)
      (λ after e. let range = level_after_in a level m after e in (after_is after range.0 range.1).least ms))

  -- and some way by it costs as much, or none is there
  step_reached : (p : Pot) (m : ℕ) (o : Option ℕ) → level_after a level m ≡ o → along (arc_cost a t m) o (entry a next) ≡ p → (p ≡ NoWay) ⊎ ((ms : List ℕ) × (way_cost a t level ms ≡ p))
  step_reached p m None e h = inl (sym h)
  step_reached p m (Some after) e h =
      let range = level_after_in a level m after e in
      elim (after_is after range.0 range.1).reached [
        | inl none ↦ inl (sym h ∙ ap (joined (arc_cost a t m)) none ∙ joined-NoWay (arc_cost a t m))
        | inr way ↦ inr (m ∷ way.0, ap (λ (o : Option ℕ). along (arc_cost a t m) o (λ after. way_cost a (t + 1) after way.0)) e ∙ ap (joined (arc_cost a t m)) way.1 ∙ h)
      ]

  -- the least over all moves is the least cost of all ways
  pub cheapest_step : (p : Pot) → t < intervals_of a → IsLeastOf (cost_by a costs next level) (length a.moves) p → IsCheapest a t level p
  cheapest_step p lt best = record {
    least = least_of;
    reached = elim best.reached [
      | inl none ↦ inl none
      | inr place ↦ step_reached p place.0 (level_after a level place.0) refl (sym (cost_by_is place.0 place.1) ∙ place.2)
    ];
  }
    where
      least_of : (ms : List ℕ) → AtMost p (way_cost a t level ms)
      least_of [] = subst (λ (q : Pot). AtMost p q) (sym (early a t level lt)) (AtMost-NoWay p)
      least_of (m ∷ ms) = elim (below? m (length a.moves)) [
        | inl less ↦ AtMost-trans p (cost_by a costs next level m) (way_cost a t level (m ∷ ms)) (best.least m less) (step_least m less ms)
        | inr past ↦ subst (λ (q : Pot). AtMost p q) (sym (past_no_way a t level m ms past)) (AtMost-NoWay p)
      ]

  -- the first of the best moves, and the first cheapest way after it, are the first cheapest way
  pub first_step : (p : Pot) (place after : ℕ) (tail : List ℕ) → t < intervals_of a → IsFirstBest (cost_by a costs next level) (length a.moves) p place → IsFirstPlace (cost_by a costs next level) (length a.moves) p place → p ≢ NoWay → level_after a level place ≡ Some after → IsFirstCheapest a (t + 1) after tail → IsFirstCheapest a t level (place ∷ tail)
  first_step p place after tail lt best place_is there e first = record {
    way = λ none. there (sym whole ∙ none);
    least = λ ms. subst (λ (q : Pot). AtMost q (way_cost a t level ms)) (sym whole) ((cheapest_step p lt (best_is_least (cost_by a costs next level) (length a.moves) p place best)).least ms);
    first = first_of;
  }
    where
      c : Pot
      c = arc_cost a t place

      after_way : (ms : List ℕ) → way_cost a t level (place ∷ ms) ≡ joined (arc_cost a t place) (way_cost a (t + 1) after ms)
      after_way ms = ap (λ (o : Option ℕ). along (arc_cost a t place) o (λ after. way_cost a (t + 1) after ms)) e

      rest : way_cost a (t + 1) after tail ≡ entry a next after
      rest =
          let range = level_after_in a level place after e in
          cheapest_same a (t + 1) after (way_cost a (t + 1) after tail) (entry a next after) (first_is_cheapest a (t + 1) after tail first) (after_is after range.0 range.1)

      by_entry : joined (arc_cost a t place) (entry a next after) ≡ p
      by_entry = sym (ap (λ (o : Option ℕ). along (arc_cost a t place) o (entry a next)) e) ∙ sym (cost_by_is place place_is.inside) ∙ place_is.has

      whole : way_cost a t level (place ∷ tail) ≡ p
      whole = after_way tail ∙ ap (joined (arc_cost a t place)) rest ∙ by_entry

      same_move : (m : ℕ) (ms : List ℕ) → place ≡ m → way_cost a t level (m ∷ ms) ≡ p → IsNotAfter tail ms
      same_move m ms same cost =
          let here : way_cost a t level (place ∷ ms) ≡ p = subst (λ (i : ℕ). way_cost a t level (i ∷ ms) ≡ p) (sym same) cost in
          let sums : joined (arc_cost a t place) (way_cost a (t + 1) after ms) ≡ joined (arc_cost a t place) (way_cost a (t + 1) after tail) = sym (after_way ms) ∙ here ∙ sym whole ∙ after_way tail in
          first.first ms (joined_cancel (arc_cost a t place) (way_cost a (t + 1) after ms) (way_cost a (t + 1) after tail) sums (λ none. there (sym here ∙ after_way ms ∙ none)))

      best_at : (m : ℕ) (ms : List ℕ) → m < length a.moves → way_cost a t level (m ∷ ms) ≡ p → cost_by a costs next level m ≡ p
      best_at m ms less cost = AtMost-antisym (cost_by a costs next level m) p (subst (λ (q : Pot). AtMost (cost_by a costs next level m) q) cost (step_least m less ms)) (best.least m less)

      first_of : (ms : List ℕ) → way_cost a t level ms ≡ way_cost a t level (place ∷ tail) → IsNotAfter (place ∷ tail) ms
      first_of [] same = absurd (there (sym whole ∙ sym same ∙ early a t level lt))
      first_of (m ∷ ms) same = elim (below? m (length a.moves)) [
        | inr past ↦ absurd (there (sym whole ∙ sym same ∙ past_no_way a t level m ms past))
        | inl less ↦ elim (below? m place) [
          | inl before ↦ absurd (place_is.first m before (best_at m ms less (same ∙ whole)))
          | inr ge ↦ elim (below? place m) [
            | inl before ↦ inl before
            | inr le ↦ let at : place ≡ m = omega arith in inr (at, same_move m ms at (same ∙ whole))
          ]
        ]
      ]

-- after the last interval only the list of no moves can be a way
pub past_end : (a : Arcs) (t level m : ℕ) (ms : List ℕ) → IsSound a → intervals_of a ≤ t → way_cost a t level (m ∷ ms) ≡ NoWay
past_end a t level m ms sound h = ap (λ (c : Pot). along c (level_after a level m) (λ after. way_cost a (t + 1) after ms)) (arc_past a t m sound h) ∙ along-NoWay (level_after a level m) (λ after. way_cost a (t + 1) after ms)

end_least : (a : Arcs) (t level : ℕ) → IsSound a → intervals_of a ≤ t → (ms : List ℕ) → AtMost (way_cost a t level []) (way_cost a t level ms)
end_least a t level sound h [] = AtMost-refl (way_cost a t level [])
end_least a t level sound h (m ∷ ms) = subst (λ (q : Pot). AtMost (way_cost a t level []) q) (sym (past_end a t level m ms sound h)) (AtMost-NoWay (way_cost a t level []))

-- after the last interval the least cost is that of no more moves
pub cheapest_end : (a : Arcs) (t level : ℕ) → IsSound a → intervals_of a ≤ t → IsCheapest a t level (way_cost a t level [])
cheapest_end a t level sound h = record { least = end_least a t level sound h; reached = inr ([], refl) }

-- where some way is there after the last interval, the list of no moves is the first cheapest
pub first_end : (a : Arcs) (t level : ℕ) (p : Pot) → IsSound a → intervals_of a ≤ t → IsCheapest a t level p → p ≢ NoWay → IsFirstCheapest a t level []
first_end a t level p sound h cheapest there =
    let same : p ≡ way_cost a t level [] = cheapest_same a t level p (way_cost a t level []) cheapest (cheapest_end a t level sound h) in
    record { way = λ none. there (same ∙ none); least = end_least a t level sound h; first = λ ms e. tt }
