-- The first cheapest way, walked from the start.
use Rattle.std.proofs.Common.{◌≡◌, ◌≢◌, ◌+◌, ◌<◌, ℕ, List, length, Option, Some, inl, inr, ap, sym, subst, ◌∙◌, slice_index_or, option_and_then}
use Rattle.std.proofs.lemmas.Option.{slice_get-get_or}
use Rattle.d_num.specs.declared.pot.Pot.{Pot}
use Rattle.d_num.specs.declared.pot.Pot.TheVariants.{NoWay}
use Rattle.d_num.specs.Pot.{AtMost, joined}
use Rattle.d_path.specs.declared.ways.Move.{Move}
use Rattle.d_path.specs.Arcs.{Arcs, next_level, level_after, intervals_of, along, way_cost}
use Rattle.d_path.specs.Cheapest.{IsCheapest, HasCheapest, HasWay, entry}
use Rattle.d_path.specs.Best.{IsFirstPlace, IsFirstBest, IsFirstMove, AreCostsAt, cost_by}
use Rattle.d_path.proofs.CostLemmas.{NoWay-AtMost, along_there, joined-NoWay}
use Rattle.d_path.proofs.StepLemmas.{first_step}

-- where a way is there, the least cost is one
pub way_there : (a : Arcs) (t level : ℕ) (p : Pot) → HasWay a t level → IsCheapest a t level p → p ≢ NoWay
way_there a t level p way cheapest none =
    way.1 (NoWay-AtMost (way_cost a t level way.0) (subst (λ (q : Pot). AtMost q (way_cost a t level way.0)) none (cheapest.least way.0)))

-- and the other way round
pub cheapest_there : (a : Arcs) (t level : ℕ) (p : Pot) → IsCheapest a t level p → p ≢ NoWay → HasWay a t level
cheapest_there a t level p cheapest there = elim cheapest.reached [
  | inl none ↦ absurd (there none)
  | inr way ↦ (way.0, λ none. there (sym way.1 ∙ none))
]

-- the best cost that is there has its place
pub place_of : (f : ℕ → Pot) (k : ℕ) (p : Pot) (place : ℕ) → IsFirstBest f k p place → p ≢ NoWay → IsFirstPlace f k p place
place_of f k p place best there = elim best.there [ inl none ↦ absurd (there none) | inr first ↦ first ]

-- the move of a number, as the code reads it
pub step_read : (a : Arcs) (level m : ℕ) (d : Move) → m < length a.moves → level_after a level m ≡ next_level a level (slice_index_or a.moves m d)
step_read a level m d lt = ap (option_and_then (next_level a level)) (slice_get-get_or a.moves m d lt)

-- a move whose cost is there can be made
pub move_made : (a : Arcs) (level : ℕ) (costs next : List Pot) (p : Pot) (place : ℕ) → IsFirstPlace (cost_by a costs next level) (length a.moves) p place → p ≢ NoWay → (after : ℕ) × (level_after a level place ≡ Some after)
move_made a level costs next p place first there =
    let made = along_there (slice_index_or costs place NoWay) (level_after a level place) (entry a next) (λ none. there (sym first.has ∙ none)) in
    (made.0, made.1)

-- the first of the best moves begins the first cheapest way
pub first_move_is : (a : Arcs) (t level : ℕ) (costs next : List Pot) (p : Pot) (place after : ℕ) → AreCostsAt a t costs → HasCheapest a (t + 1) next → t < intervals_of a → IsFirstBest (cost_by a costs next level) (length a.moves) p place → p ≢ NoWay → level_after a level place ≡ Some after → IsFirstMove a t level next place after
first_move_is a t level costs next p place after row after_is lt best there e =
    let first = place_of (cost_by a costs next level) (length a.moves) p place best there in
    let c = slice_index_or costs place NoWay in
    record {
      leads = e;
      there = λ none. there (sym first.has ∙ ap (λ (o : Option ℕ). along c o (entry a next)) e ∙ ap (joined c) none ∙ joined-NoWay c);
      begins = λ tail rest. first_step a t level costs next row after_is p place after tail lt best first there e rest;
    }
