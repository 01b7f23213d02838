-- The ways of a problem are its feasible schedules, and a way costs what the schedule's energy does.
use Rattle.std.proofs.Common.{◌≡◌, ◌≢◌, ◌⊎◌, inl, inr, ℕ, zero, suc, ℤ, pos, ◌+◌, ◌<◌, ◌≤◌, ◌+ℤ◌, ◌≤ℤ◌, List, [], ◌∷◌, length, drop, Option, sym, ap, ◌∙◌, subst, arith, slice_index, cond, ◌==◌, ◌&&◌, nat_le, Bool, true}
use Rattle.std.proofs.lemmas.Int.{ints}
use Rattle.std.proofs.lemmas.Bool.Decides.{nat_tests}
use Rattle.std.proofs.lemmas.List.{drop_more, drop_all}
use Rattle.std.proofs.lemmas.Option.{slice_get_within}
use Rattle.d_num.specs.declared.pot.Pot.{Pot}
use Rattle.d_num.specs.declared.pot.Pot.TheVariants.{To, NoWay}
use Rattle.d_num.specs.Pot.{joined}
use Rattle.d_bill.specs.Inputs.{Inputs}
use Rattle.d_num.specs.Sums.{sum_of_first}
use Rattle.d_bill.specs.Schedules.{KeepsRules, KeepsAt, IsFeasible, change_of, level_at}
use Rattle.d_bill.specs.Flows.{flow_at}
use Rattle.d_bill.specs.Prices.{step_cost}
use Rattle.d_num.proofs.Sums.{sum_more, sum_none}
use Rattle.d_path.specs.Arcs.{intervals_of, arc_cost, level_after, along, way_cost}
use Rattle.d_path.proofs.CostLemmas.{along_there}
use Rattle.d_path.proofs.WayLemmas.{way_length}
use Rattle.d_bound.specs.Fair.{IsFair}
use Rattle.d_bound.specs.PlanWays.{plan_arcs, rated_cost, power_at, DrawsAllowed}
use Rattle.d_bound.proofs.PlanArcs.{intervals_is, arc_cost_is}
use Rattle.d_bound.proofs.PlanSteps.{Steps, step_of, keeps_of, mode_within}

-- the level after one interval more
pub level_more : (i : Inputs) (s : List ℕ) (t level after : ℕ) → pos level ≡ level_at i s t → pos after ≡ pos level +ℤ change_of i (slice_index s t) → pos after ≡ level_at i s (t + 1)
level_more i s t level after before higher =
    let changes = sum_more t (λ k. change_of i (slice_index s k)) in
    omega (arith, ints, before, higher, changes)

-- the start
pub level_none : (i : Inputs) (s : List ℕ) → pos i.storage.start ≡ level_at i s 0
level_none i s = let changes = sum_none (λ k. change_of i (slice_index s k)) in omega (arith, ints, changes)

-- what a schedule's energy costs in an interval
abbrev pub paid_at : Inputs → List ℤ → List ℕ → ℕ → ℤ
paid_at i rates s t = step_cost i rates t (flow_at i s t)

-- the cost of what is left, on top of that of the intervals before t, makes up the whole
record MakesUp (i : Inputs) (rates : List ℤ) (s : List ℕ) (t : ℕ) (p : Pot) : Type 0 where
  rest : ℤ
  is : p ≡ To rest
  whole : sum_of_first t (paid_at i rates s) +ℤ rest ≡ rated_cost i rates s

-- what is paid in an interval and what is paid after it
made_up : (i : Inputs) (rates : List ℤ) (s : List ℕ) (t : ℕ) (p : Pot) → MakesUp i rates s (t + 1) p → MakesUp i rates s t (joined (To (paid_at i rates s t)) p)
made_up i rates s t p up = record {
  rest = paid_at i rates s t +ℤ up.rest;
  is = ap (joined (To (paid_at i rates s t))) up.is;
  whole = sums (sum_of_first t (paid_at i rates s)) (paid_at i rates s t) up.rest (sum_of_first (t + 1) (paid_at i rates s)) (rated_cost i rates s) (sum_more t (paid_at i rates s)) up.whole;
}
  where
    sums : (before here after with_here whole : ℤ) → with_here ≡ before +ℤ here → with_here +ℤ after ≡ whole → before +ℤ (here +ℤ after) ≡ whole
    sums before here after with_here whole e f = omega (arith, ints)

-- from interval t on every rule is kept, no power is drawn that may not be, and the end level is reached
record KeepsFrom (i : Inputs) (allows : ℕ → ℤ → Bool) (s : List ℕ) (t : ℕ) : Type 0 where
  keeps : (k : ℕ) → t ≤ k → k < length i.net → KeepsAt i s k × (allows k (power_at i s k) ≡ true)
  ends : pos i.storage.end ≤ℤ level_at i s (length i.net)

-- one interval more
keeps_more : (i : Inputs) (allows : ℕ → ℤ → Bool) (s : List ℕ) (t : ℕ) → KeepsAt i s t × (allows t (power_at i s t) ≡ true) → KeepsFrom i allows s (t + 1) → KeepsFrom i allows s t
keeps_more i allows s t here after = record { keeps = λ k from inside. by_order k inside (order k from); ends = after.ends }
  where
    order : (k : ℕ) → t ≤ k → (t ≡ k) ⊎ (t + 1 ≤ k)
    order k from = grind arith

    by_order : (k : ℕ) → k < length i.net → (t ≡ k) ⊎ (t + 1 ≤ k) → KeepsAt i s k × (allows k (power_at i s k) ≡ true)
    by_order k inside (inl same) = subst (λ (n : ℕ). KeepsAt i s n × (allows n (power_at i s n) ≡ true)) same here
    by_order k inside (inr later) = after.keeps k later inside

module _ (i : Inputs) (allows : ℕ → ℤ → Bool) (rates : List ℤ) (fine : IsFair i) (s : List ℕ) where
  -- after the last interval of a feasible schedule nothing is paid
  at_end : (t level : ℕ) → t ≡ length i.net → i.storage.end ≤ level → way_cost (plan_arcs i allows rates) t level [] ≡ To (pos 0)
  at_end t level e enough = over t (intervals_of (plan_arcs i allows rates)) i.storage.end level (e ∙ sym (intervals_is i allows rates fine)) enough
    where
      over : (t n end level : ℕ) → t ≡ n → end ≤ level → cond (t == n && nat_le end level) (To (pos 0)) NoWay ≡ To (pos 0)
      over t n end level e enough = grind (arith, nat_tests)

  -- one more interval of a way
  way_more : (t level after : ℕ) → t < length i.net → t < length s → Steps i allows rates t (slice_index s t) level after → slice_index s t < length i.storage.modes →
      way_cost (plan_arcs i allows rates) t level (drop t s) ≡ joined (To (paid_at i rates s t)) (way_cost (plan_arcs i allows rates) (t + 1) after (drop (t + 1) s))
  way_more t level after inside there step mode =
      ap (way_cost (plan_arcs i allows rates) t level) (drop_more s t 0 there)
      ∙ ap (λ (o : Option ℕ). along (arc_cost (plan_arcs i allows rates) t (slice_index s t)) o (λ after. way_cost (plan_arcs i allows rates) (t + 1) after (drop (t + 1) s))) step.leads
      ∙ ap (λ (p : Pot). joined p (way_cost (plan_arcs i allows rates) (t + 1) after (drop (t + 1) s))) (arc_cost_is i allows rates t (slice_index s t) inside mode ∙ step.costs)

  -- what is left of a feasible schedule makes up its bill
  feasible_rest : IsFeasible i s → DrawsAllowed i allows s → (left t level : ℕ) → t + left ≡ length i.net → pos level ≡ level_at i s t → MakesUp i rates s t (way_cost (plan_arcs i allows rates) t level (drop t s))
  feasible_rest feasible draws zero t level whole stands =
      let e : t ≡ length i.net = omega arith in
      let ends : pos i.storage.end ≤ℤ level_at i s t = rw e feasible.ends in
      let enough : i.storage.end ≤ level = omega (arith, ints, ends, stands) in
      let paid : sum_of_first t (paid_at i rates s) ≡ rated_cost i rates s = ap (λ (n : ℕ). sum_of_first n (paid_at i rates s)) e in
      record {
        rest = pos 0;
        is = ap (way_cost (plan_arcs i allows rates) t level) (drop_all t s (omega (arith, feasible.long))) ∙ at_end t level e enough;
        whole = omega (arith, ints, paid);
      }
  feasible_rest feasible draws (suc left) t level whole stands =
      let inside : t < length i.net = omega arith in
      let there : t < length s = omega (arith, feasible.long) in
      let keeps : KeepsRules i t (slice_index s t) (pos level) = subst (λ (z : ℤ). KeepsRules i t (slice_index s t) z) (sym stands) (feasible.keeps t inside) in
      let step = step_of i allows rates t (slice_index s t) level keeps (draws t inside) in
      let mode = slice_get_within i.storage.modes (slice_index s t) keeps.mode keeps.there in
      let after = way_cost (plan_arcs i allows rates) (t + 1) step.0 (drop (t + 1) s) in
      subst (λ (p : Pot). MakesUp i rates s t p) (sym (way_more t level step.0 inside there step.1 mode))
      (made_up i rates s t after (feasible_rest feasible draws left (t + 1) step.0 (omega arith) (level_more i s t level step.0 stands step.1.higher)))

  -- what is left of a way keeps every rule
  way_keeps : length s ≡ length i.net → (left t level : ℕ) → t + left ≡ length i.net → pos level ≡ level_at i s t → way_cost (plan_arcs i allows rates) t level (drop t s) ≢ NoWay → KeepsFrom i allows s t
  way_keeps long zero t level whole stands way =
      let e : t ≡ length i.net = omega arith in
      let last : way_cost (plan_arcs i allows rates) t level [] ≢ NoWay = subst (λ (l : List ℕ). way_cost (plan_arcs i allows rates) t level l ≢ NoWay) (drop_all t s (omega arith)) way in
      let enough = reached t (intervals_of (plan_arcs i allows rates)) i.storage.end level last in
      record {
        keeps = λ k from inside. absurd (omega arith);
        ends = subst (λ (n : ℕ). pos i.storage.end ≤ℤ level_at i s n) e (omega (arith, ints, stands));
      }
    where
      reached : (t n end level : ℕ) → cond (t == n && nat_le end level) (To (pos 0)) NoWay ≢ NoWay → end ≤ level
      reached t n end level h = grind (arith, nat_tests)
  way_keeps long (suc left) t level whole stands way =
      let m = slice_index s t in
      let inside : t < length i.net = omega arith in
      let more : way_cost (plan_arcs i allows rates) t level (slice_index s t ∷ drop (t + 1) s) ≢ NoWay =
      subst (λ (l : List ℕ). way_cost (plan_arcs i allows rates) t level l ≢ NoWay) (drop_more s t 0 (omega arith)) way in
      let parts = along_there (arc_cost (plan_arcs i allows rates) t m) (level_after (plan_arcs i allows rates) level m) (λ after. way_cost (plan_arcs i allows rates) (t + 1) after (drop (t + 1) s)) more in
      let mode = mode_within i allows rates m level parts.0 parts.1 in
      let kept = keeps_of i allows rates t m level parts.0 parts.1 (λ none. parts.2 (arc_cost_is i allows rates t m inside mode ∙ none)) in
      keeps_more i allows s t (subst (λ (z : ℤ). KeepsRules i t (slice_index s t) z) stands kept.rules, kept.allowed)
      (way_keeps long left (t + 1) parts.0 (omega arith) (level_more i s t level parts.0 stands kept.higher) parts.3)

  -- a feasible schedule whose powers may be drawn is a way that costs what its energy does
  pub feasible_cost : IsFeasible i s → DrawsAllowed i allows s → way_cost (plan_arcs i allows rates) 0 i.storage.start s ≡ To (rated_cost i rates s)
  feasible_cost feasible draws =
      let up = feasible_rest feasible draws (length i.net) 0 i.storage.start (omega arith) (level_none i s) in
      up.is ∙ ap To (sums up.rest (sum_of_first 0 (paid_at i rates s)) (rated_cost i rates s) (sum_none (paid_at i rates s)) up.whole)
    where
      sums : (rest none whole : ℤ) → none ≡ pos 0 → none +ℤ rest ≡ whole → rest ≡ whole
      sums rest none whole e f = omega (arith, ints)

  -- and every way is one
  pub way_feasible : way_cost (plan_arcs i allows rates) 0 i.storage.start s ≢ NoWay → IsFeasible i s × DrawsAllowed i allows s
  way_feasible way =
      let length_is = way_length (plan_arcs i allows rates) 0 i.storage.start s way in
      let long : length s ≡ length i.net = omega (arith, intervals_is i allows rates fine) in
      let kept = way_keeps long (length i.net) 0 i.storage.start (omega arith) (level_none i s) way in
      (record { long = long; keeps = λ t inside. (kept.keeps t (omega arith) inside).0; ends = kept.ends }, λ t inside. (kept.keeps t (omega arith) inside).1)
