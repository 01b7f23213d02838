-- Numbers that stay below the costs of all ways, and ways under dearer costs.
use Rattle.std.proofs.Common.{◌≡◌, ◌+◌, ◌*◌, ◌≤◌, ◌<◌, ◌/◌, ℕ, pos, List, [], ◌∷◌, length, Option, Some, None, Bool, true, false, cond, inl, inr, ap, sym, subst, ◌∙◌, refl, arith, slice_index_or, ◌==◌, ◌&&◌, nat_le}
use Rattle.std.proofs.lemmas.Bool.Decides.{nat_tests}
use Rattle.d_num.specs.declared.pot.Pot.{Pot}
use Rattle.d_num.specs.declared.pot.Pot.TheVariants.{To, NoWay}
use Rattle.d_num.specs.Pot.{AtMost, joined}
use Rattle.d_path.specs.Arcs.{Arcs, level_after, arc_cost, intervals_of, along, way_cost, IsSound}
use Rattle.d_path.specs.Cheapest.{IsCheapest}
use Rattle.d_path.proofs.CostLemmas.{AtMost-refl, AtMost-trans, AtMost-NoWay, AtMost-joined, joined-NoWay}
use Rattle.d_path.proofs.WayLemmas.{level_after_in}
use Rattle.d_path.proofs.StepLemmas.{below?, past_end}

-- least costs keep the inequality of each arc
pub cheapest_keeps_arc : (a : Arcs) (t level m after : ℕ) (p q : Pot) → IsCheapest a t level p → IsCheapest a (t + 1) after q → level_after a level m ≡ Some after → AtMost p (joined (arc_cost a t m) q)
cheapest_keeps_arc a t level m after p q here there e = elim there.reached [
  | inl none ↦ subst (λ (c : Pot). AtMost p c) (sym (ap (joined (arc_cost a t m)) none ∙ joined-NoWay (arc_cost a t m))) (AtMost-NoWay p)
  | inr way ↦
      let sum : way_cost a t level (m ∷ way.0) ≡ joined (arc_cost a t m) q =
      ap (λ (o : Option ℕ). along (arc_cost a t m) o (λ after. way_cost a (t + 1) after way.0)) e ∙ ap (joined (arc_cost a t m)) way.1 in
      subst (λ (c : Pot). AtMost p c) sum (here.least (m ∷ way.0))
]

-- at each allowed end it is at most nothing, and before each arc at most the arc's cost and what it is after it
pub record IsPotential (a : Arcs) (potential : ℕ → ℕ → Pot) : Type 0 where
  pub ends : (level : ℕ) → a.end ≤ level → level ≤ a.capacity → AtMost (potential (intervals_of a) level) (To (pos 0))
  pub arcs : (t level m after : ℕ) → t < intervals_of a → a.floor ≤ level → level ≤ a.capacity → level_after a level m ≡ Some after → AtMost (potential t level) (joined (arc_cost a t m) (potential (t + 1) after))

-- such a number is at most the cost of every way
pub potential_below : (a : Arcs) (potential : ℕ → ℕ → Pot) → IsSound a → IsPotential a potential → (t level : ℕ) (ms : List ℕ) → t ≤ intervals_of a → a.floor ≤ level → level ≤ a.capacity → AtMost (potential t level) (way_cost a t level ms)
potential_below a potential sound keeps t level [] le low high = at_end (t == intervals_of a) (nat_le a.end level) (grind (arith, nat_tests)) (grind (arith, nat_tests))
  where
    at_end : (b c : Bool) → (b ≡ true → t ≡ intervals_of a) → (c ≡ true → a.end ≤ level) → AtMost (potential t level) (cond (b && c) (To (pos 0)) NoWay)
    at_end true true same end = subst (λ (i : ℕ). AtMost (potential i level) (To (pos 0))) (sym (same refl)) (keeps.ends level (end refl) high)
    at_end true false same end = AtMost-NoWay (potential t level)
    at_end false c same end = AtMost-NoWay (potential t level)
potential_below a potential sound keeps t level (m ∷ ms) le low high = elim (below? t (intervals_of a)) [
  | inl before ↦ by_arc before (level_after a level m) refl (λ after range. potential_below a potential sound keeps (t + 1) after ms (omega arith) range.0 range.1)
  | inr past ↦ subst (λ (c : Pot). AtMost (potential t level) c) (sym (past_end a t level m ms sound past)) (AtMost-NoWay (potential t level))
]
  where
    by_arc : t < intervals_of a → (o : Option ℕ) → level_after a level m ≡ o → ((after : ℕ) → (a.floor ≤ after) × (after ≤ a.capacity) → AtMost (potential (t + 1) after) (way_cost a (t + 1) after ms)) → AtMost (potential t level) (along (arc_cost a t m) o (λ after. way_cost a (t + 1) after ms))
    by_arc before None e rest = AtMost-NoWay (potential t level)
    by_arc before (Some after) e rest =
        AtMost-trans (potential t level) (joined (arc_cost a t m) (potential (t + 1) after)) (joined (arc_cost a t m) (way_cost a (t + 1) after ms))
        (keeps.arcs t level m after before low high e)
        (AtMost-joined (arc_cost a t m) (arc_cost a t m) (potential (t + 1) after) (way_cost a (t + 1) after ms) (AtMost-refl (arc_cost a t m)) (rest after (level_after_in a level m after e)))

-- the same moves and levels at other costs
abbrev pub with_costs : Arcs → List Pot → Arcs
with_costs a costs = record a { costs = costs }

-- dearer costs, and moves that may no longer be used, make no way cheaper
pub way_cost-dearer : (a : Arcs) (costs : List Pot) → length costs ≡ length a.costs → ((i : ℕ) → AtMost (slice_index_or a.costs i NoWay) (slice_index_or costs i NoWay)) → (t level : ℕ) (ms : List ℕ) → AtMost (way_cost a t level ms) (way_cost (with_costs a costs) t level ms)
way_cost-dearer a costs long dearer t level [] =
    let count : intervals_of a ≡ intervals_of (with_costs a costs) = ap (λ (n : ℕ). n / length a.moves) (sym long) in
    subst (λ (n : ℕ). AtMost (way_cost a t level []) (cond (t == n && nat_le a.end level) (To (pos 0)) NoWay)) count (AtMost-refl (way_cost a t level []))
way_cost-dearer a costs long dearer t level (m ∷ ms) = by_step (level_after a level m) (λ after. way_cost-dearer a costs long dearer (t + 1) after ms)
  where
    by_step : (o : Option ℕ) → ((after : ℕ) → AtMost (way_cost a (t + 1) after ms) (way_cost (with_costs a costs) (t + 1) after ms)) → AtMost (along (arc_cost a t m) o (λ after. way_cost a (t + 1) after ms)) (along (arc_cost (with_costs a costs) t m) o (λ after. way_cost (with_costs a costs) (t + 1) after ms))
    by_step None rest = tt
    by_step (Some after) rest = AtMost-joined (arc_cost a t m) (arc_cost (with_costs a costs) t m) (way_cost a (t + 1) after ms) (way_cost (with_costs a costs) (t + 1) after ms) (dearer (t * length a.moves + m)) (rest after)
