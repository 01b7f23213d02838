-- Ways: where their steps lead, how long they are, and how much they can cost.
use Rattle.std.proofs.Common.{◌≡◌, ◌≢◌, zero, suc, subst, ◌==◌, ◌&&◌, nat_le, ◌+◌, ◌*◌, ◌^◌, ◌≤◌, ◌<◌, ℕ, pos, List, [], ◌∷◌, length, Option, Some, None, true, false, cond, inl, inr, sym, ◌∙◌, refl, arith, slice_get, slice_index_or, option_and_then}
use Rattle.std.specs.List.{All}
use Rattle.std.proofs.lemmas.List.{get_or_past}
use Rattle.std.proofs.lemmas.Int.{ints}
use Rattle.std.proofs.lemmas.Bool.Decides.{nat_tests}
use Rattle.d_list.proofs.OrderLaws.{IsNotAfter-antisym}
use Rattle.d_num.specs.declared.pot.Pot.{Pot}
use Rattle.d_num.specs.declared.pot.Pot.TheVariants.{To, NoWay}
use Rattle.d_num.specs.Pot.{AtMost, IsPotWithin}
use Rattle.d_path.specs.declared.ways.Move.{Move}
use Rattle.d_path.specs.Arcs.{Arcs, next_level, level_after, arc_cost, intervals_of, way_cost, IsSound}
use Rattle.d_path.specs.Cheapest.{IsCheapest, IsFirstCheapest}
use Rattle.d_path.proofs.CostLemmas.{AtMost-antisym, AtMost-NoWay, along_there, along_within, within_more, NoWay?}

within_at : (costs : List Pot) (i : ℕ) → All (IsPotWithin (10 ^ 32)) costs → IsPotWithin (10 ^ 32) (slice_index_or costs i NoWay)
within_at [] i h = tt
within_at (x ∷ xs) zero h = h 0 NoWay (omega arith)
within_at (x ∷ xs) (suc i) h = within_at xs i (λ k d lt. h (suc k) d (omega arith))

pub next_level_in : (a : Arcs) (level : ℕ) (move : Move) (after : ℕ) → next_level a level move ≡ Some after → (a.floor ≤ after) × (after ≤ a.capacity)
next_level_in a level move after e = grind (arith, ints, nat_tests)

after_in : (a : Arcs) (level after : ℕ) (o : Option Move) → option_and_then (next_level a level) o ≡ Some after → (a.floor ≤ after) × (after ≤ a.capacity)
after_in a level after None e = cc
after_in a level after (Some move) e = next_level_in a level move after e

-- a move leads to a level from floor to capacity
pub level_after_in : (a : Arcs) (level m after : ℕ) → level_after a level m ≡ Some after → (a.floor ≤ after) × (after ≤ a.capacity)
level_after_in a level m after e = after_in a level after (slice_get a.moves m) e

past_moves : (a : Arcs) (level : ℕ) (moves : List Move) (m : ℕ) → length moves ≤ m → option_and_then (next_level a level) (slice_get moves m) ≡ None
past_moves a level [] m h = refl
past_moves a level (x ∷ xs) zero h = absurd (omega arith)
past_moves a level (x ∷ xs) (suc m) h = past_moves a level xs m (omega arith)

-- where there is no move of this number none can be made
pub level_after_past : (a : Arcs) (level m : ℕ) → length a.moves ≤ m → level_after a level m ≡ None
level_after_past a level m h = past_moves a level a.moves m h

-- before the month's end a list of no moves is no way
pub early : (a : Arcs) (t level : ℕ) → t < intervals_of a → way_cost a t level [] ≡ NoWay
early a t level h = not_yet t (intervals_of a) a.end level h
  where
    not_yet : (t n end level : ℕ) → t < n → cond (t == n && nat_le end level) (To (pos 0)) NoWay ≡ NoWay
    not_yet t n end level h = grind (arith, nat_tests)

-- after the last interval no move has a cost
pub arc_past : (a : Arcs) (t m : ℕ) → IsSound a → intervals_of a ≤ t → arc_cost a t m ≡ NoWay
arc_past a t m sound h =
    let rows : intervals_of a * length a.moves ≤ t * length a.moves = grind arith in
    get_or_past a.costs (t * length a.moves + m) NoWay (omega (arith, sound.all_costs))

-- a cost is in range
pub arc_within : (a : Arcs) (t m : ℕ) → IsSound a → IsPotWithin (10 ^ 32) (arc_cost a t m)
arc_within a t m sound = within_at a.costs (t * length a.moves + m) sound.costs_within

-- a way has one move for each interval that is left
pub way_length : (a : Arcs) (t level : ℕ) (ms : List ℕ) → way_cost a t level ms ≢ NoWay → t + length ms ≡ intervals_of a
way_length a t level [] h = at_end t (intervals_of a) a.end level h
  where
    at_end : (t n end level : ℕ) → cond (t == n && nat_le end level) (To (pos 0)) NoWay ≢ NoWay → t + 0 ≡ n
    at_end t n end level h = grind (arith, nat_tests)
way_length a t level (m ∷ ms) h =
    let step = along_there (arc_cost a t m) (level_after a level m) (λ after. way_cost a (t + 1) after ms) h in
    let rest : t + 1 + length ms ≡ intervals_of a = way_length a (t + 1) step.0 ms step.3 in
    omega arith

-- a way costs at most its length times the greatest cost
way_within : (a : Arcs) (t level : ℕ) (ms : List ℕ) → IsSound a → IsPotWithin (length ms * 10 ^ 32) (way_cost a t level ms)
way_within a t level [] sound = end_within t (intervals_of a) a.end level
  where
    end_within : (t n end level : ℕ) → IsPotWithin (0 * 10 ^ 32) (cond (t == n && nat_le end level) (To (pos 0)) NoWay)
    end_within t n end level = elim (t == n && nat_le end level) as (λ b. IsPotWithin (0 * 10 ^ 32) (cond b (To (pos 0)) NoWay)) [ true ↦ (omega (arith, ints), omega (arith, ints)) | false ↦ tt ]
way_within a t level (m ∷ ms) sound =
    within_more (10 ^ 32 + length ms * 10 ^ 32) (length (m ∷ ms) * 10 ^ 32) (way_cost a t level (m ∷ ms)) (omega arith)
    (along_within (10 ^ 32) (length ms * 10 ^ 32) (arc_cost a t m) (level_after a level m) (λ after. way_cost a (t + 1) after ms) (arc_within a t m sound) (λ after. way_within a (t + 1) after ms sound))

-- no way costs more than 10^36
pub way_small : (a : Arcs) (t level : ℕ) (ms : List ℕ) → IsSound a → way_cost a t level ms ≢ NoWay → IsPotWithin (10 ^ 36) (way_cost a t level ms)
way_small a t level ms sound there =
    let long : t + length ms ≡ intervals_of a = way_length a t level ms there in
    let few : intervals_of a ≤ 10 ^ 4 = sound.few_intervals in
    within_more (length ms * 10 ^ 32) (10 ^ 36) (way_cost a t level ms) (omega arith) (way_within a t level ms sound)

-- what is cheapest is at most 10^36 in size
pub cheapest_within : (a : Arcs) (t level : ℕ) (p : Pot) → IsSound a → IsCheapest a t level p → IsPotWithin (10 ^ 36) p
cheapest_within a t level p sound h = elim h.reached [
  | inl none ↦ let P : Pot → Type 0 = λ q. IsPotWithin (10 ^ 36) q in subst P (sym none) tt
  | inr way ↦ by_way (way_cost a t level way.0) way.1 (way_small a t level way.0 sound)
]
  where
    by_way : (q : Pot) → q ≡ p → (q ≢ NoWay → IsPotWithin (10 ^ 36) q) → IsPotWithin (10 ^ 36) p
    by_way q e k = let P : Pot → Type 0 = λ r. IsPotWithin (10 ^ 36) r in elim (NoWay? q) [ inl none ↦ subst P (sym none ∙ e) tt | inr there ↦ subst P e (k there) ]

-- there is one least cost
pub cheapest_same : (a : Arcs) (t level : ℕ) (p q : Pot) → IsCheapest a t level p → IsCheapest a t level q → p ≡ q
cheapest_same a t level p q h k = AtMost-antisym p q (below p q h k) (below q p k h)
  where
    below : (p q : Pot) → IsCheapest a t level p → IsCheapest a t level q → AtMost p q
    below p q h k = elim k.reached [
      | inl none ↦ let P : Pot → Type 0 = λ r. AtMost p r in subst P (sym none) (AtMost-NoWay p)
      | inr way ↦ let P : Pot → Type 0 = λ r. AtMost p r in subst P way.1 (h.least way.0)
    ]

-- two first cheapest ways are the same
pub first_cheapest_same : (a : Arcs) (t level : ℕ) (s z : List ℕ) → IsFirstCheapest a t level s → IsFirstCheapest a t level z → s ≡ z
first_cheapest_same a t level s z h k =
    let same : way_cost a t level s ≡ way_cost a t level z = AtMost-antisym (way_cost a t level s) (way_cost a t level z) (h.least z) (k.least s) in
    IsNotAfter-antisym s z (h.first z (sym same)) (k.first s same)

-- a first cheapest way has the least cost
pub first_is_cheapest : (a : Arcs) (t level : ℕ) (s : List ℕ) → IsFirstCheapest a t level s → IsCheapest a t level (way_cost a t level s)
first_is_cheapest a t level s h = record { least = h.least; reached = inr (s, refl) }
