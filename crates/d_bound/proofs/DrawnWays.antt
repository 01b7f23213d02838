-- The first cheapest way is the first of the schedules whose energy costs least, of those whose powers may be drawn.
use Rattle.std.proofs.Common.{◌≡◌, ℕ, ℤ, List, sym, ap, ◌∙◌, subst, Bool}
use Rattle.d_num.specs.declared.pot.Pot.{Pot}
use Rattle.d_num.specs.declared.pot.Pot.TheVariants.{To, NoWay}
use Rattle.d_num.specs.Pot.{AtMost}
use Rattle.d_bill.specs.Inputs.{Inputs}
use Rattle.d_bill.specs.Schedules.{IsFeasible}
use Rattle.d_path.specs.Arcs.{way_cost}
use Rattle.d_path.specs.Cheapest.{IsFirstCheapest}
use Rattle.d_bound.specs.Fair.{IsFair}
use Rattle.d_bound.specs.PlanWays.{plan_arcs, rated_cost, DrawsAllowed, IsFirstDrawn}
use Rattle.d_bound.proofs.FeasibleWays.{feasible_cost, way_feasible}

module _ (i : Inputs) (allows : ℕ → ℤ → Bool) (rates : List ℤ) (fine : IsFair i) where
  -- the first cheapest way is the first of the schedules whose energy costs least and whose powers may be drawn
  pub first_drawn : (s : List ℕ) → IsFirstCheapest (plan_arcs i allows rates) 0 i.storage.start s → IsFirstDrawn i allows (rated_cost i rates) s
  first_drawn s cheapest =
      let way = way_feasible i allows rates fine s cheapest.way in
      let cost = feasible_cost i allows rates fine s way.0 way.1 in
      record {
        feasible = way.0;
        draws = way.1;
        least = λ z other drawn.
            let below : AtMost (To (rated_cost i rates s)) (way_cost (plan_arcs i allows rates) 0 i.storage.start z) =
            subst (λ (p : Pot). AtMost p (way_cost (plan_arcs i allows rates) 0 i.storage.start z)) cost (cheapest.least z) in
            subst (λ (p : Pot). AtMost (To (rated_cost i rates s)) p) (feasible_cost i allows rates fine z other drawn) below;
        first = λ z other drawn same. (cheapest.first z (feasible_cost i allows rates fine z other drawn ∙ ap To same ∙ sym cost));
      }

  -- where no list is a way no schedule is feasible whose powers may be drawn
  pub none_drawn : ((s : List ℕ) → way_cost (plan_arcs i allows rates) 0 i.storage.start s ≡ NoWay) → (s : List ℕ) → IsFeasible i s → DrawsAllowed i allows s → ⊥
  none_drawn none s feasible draws = apart (rated_cost i rates s) (sym (feasible_cost i allows rates fine s feasible draws) ∙ none s)
    where
      apart : (cost : ℤ) → To cost ≡ NoWay → ⊥
      apart cost e = cc
