-- What an outcome promises, where the rules are lawful.
use Rattle.std.proofs.Common.{◌≡◌, ℕ, ℤ, ◌≤ℤ◌, List, Option, Some, None, length, option_map, option_and_then, sym, refl, ap, subst, ◌∙◌}
use Rattle.std.proofs.lemmas.Option.{same_Some, none-some}
use Rattle.d_front.specs.declared.key.Key.{Key}
use Rattle.d_search.specs.declared.tree.TreeNode.{TreeNode}
use Rattle.d_search.specs.declared.outcome.Outcome.{Outcome}
use Rattle.d_search.specs.declared.outcome.Verdict.{Verdict}
use Rattle.d_search.specs.declared.outcome.Verdict.TheVariants.{Least, GapBudget, GapDuality, Infeasible}
use Rattle.d_bound.specs.BoxLaws.{IsAtMost}
use Rattle.d_search.specs.Rules.{Rules, Meaning, IsLawful, IsBillOf}
use Rattle.d_search.specs.Trees.{bill_in, bound_at}
use Rattle.d_search.specs.Grown.{IsGrownBy}
use Rattle.d_search.specs.Outcomes.{IsKept, IsFirstOpen, IsStop, IsVerdict, IsNoSchedule, IsAnswer}
use Rattle.d_search.specs.Promises.{IsBound, IsBounded, IsLeastBill, IsBudgetGap, IsDualityGap, Promise}
use Rattle.d_search.specs.Laws.{OutcomesKeepPromises}
use Rattle.d_search.proofs.OrderFacts.{same_from_both, point_first}
use Rattle.d_search.proofs.PlaceFacts.{none_is_some}
use Rattle.d_search.proofs.GrownFacts.{boxes_made, root_bound}
use Rattle.d_search.proofs.BoundFacts.{grown_halves, grown_rises}
use Rattle.d_search.proofs.HeldFacts.{leaf_below, first_is_bound}
use Rattle.d_search.proofs.StoodFacts.{splits_of, grown_from_list}

-- the bill that is kept is that of a feasible schedule
pub kept_reached : (r : Rules) (m : Meaning) → IsLawful r m → (n : ℕ) (nodes : List TreeNode) → IsGrownBy r n nodes → (bill : ℤ) (modes : List ℕ)
    → IsKept r nodes bill modes → IsBillOf m bill modes
kept_reached r m lawful n nodes grown bill modes kept =
    let made = boxes_made r m lawful n nodes grown kept.number kept.node kept.at in
    let billed : kept.node.node.bill ≡ Some bill = sym (ap (option_and_then bill_in) kept.at) ∙ kept.earliest.here in
    let reached = (lawful.nodes kept.node.space made.parent made.box).reached bill (sym (ap (λ node. node.bill) made.node) ∙ billed) in
    subst (IsBillOf m bill) (sym (kept.schedule ∙ ap (λ node. r.schedule_of kept.node.space node.slopes) made.node)) reached

module _ (r : Rules) (m : Meaning) (lawful : IsLawful r m) (budget : ℕ) (o : Outcome) (n : ℕ) (grown : IsGrownBy r n o.tree) where
  -- without a bound of the root no schedule is feasible
  none_feasible : bound_at o.tree 0 ≡ None → (z : List ℕ) → m.feasible z → ⊥
  none_feasible none z feasible =
      subst (λ (b : Option ℤ). IsAtMost b (Some (m.bill_of z))) (sym (root_bound r n o.tree grown) ∙ none)
      ((lawful.nodes r.root None lawful.root_box).below z feasible (lawful.root_holds z feasible))

  promise_none : bound_at o.tree 0 ≡ None → IsNoSchedule o → Promise r m budget o
  promise_none none a = record {
    infeasible = λ e z feasible. none_feasible none z feasible;
    empty = λ e. a;
    schedule = λ apart. absurd (apart a.verdict);
    bounded = λ apart. absurd (apart a.verdict);
    lower = λ bound e. absurd (none_is_some bound o.lower a.lower e);
    least = λ e. absurd (other Least (λ c. cc) e);
    budget_gap = λ e. absurd (other GapBudget (λ c. cc) e);
    duality_gap = λ e. absurd (other GapDuality (λ c. cc) e);
    rising = grown_halves r m lawful n o.tree grown;
    first = grown_rises r m lawful n o.tree grown;
  }
    where
      other : (v : Verdict) → (Infeasible ≡ v → ⊥) → o.verdict ≡ v → ⊥
      other v apart e = apart (sym a.verdict ∙ e)

  -- the bound is that of the first leaf
  lower_is : (next : Option Key) → IsFirstOpen r o.tree next → o.lower ≡ option_map (λ (k : Key). k.bound) next → (bound : ℤ) → o.lower ≡ Some bound → IsBound m bound
  lower_is None first lower bound e = absurd (none_is_some bound o.lower lower e)
  lower_is (Some k) first lower bound e = subst (IsBound m) (same_Some k.bound bound (sym lower ∙ e)) (first_is_bound r m lawful n o.tree grown k first)

  -- where a schedule is feasible there is a first leaf
  bounded_is : m.feasible o.schedule → (next : Option Key) → IsFirstOpen r o.tree next → o.lower ≡ option_map (λ (k : Key). k.bound) next → IsBounded o
  bounded_is feasible None none lower =
      let low = leaf_below r m lawful n o.tree grown o.schedule feasible in absurd (none-some low.key (sym (none low.number) ∙ low.here))
  bounded_is feasible (Some k) first lower = (k.bound, lower)

  module _ (bill : ℤ) (said : o.bill ≡ Some bill) where
    least_is : IsBillOf m bill o.schedule → (next : Option Key) → IsFirstOpen r o.tree next → o.lower ≡ option_map (λ (k : Key). k.bound) next
        → IsStop budget (length o.tree) Least next bill → IsLeastBill m o
    least_is kept None none lower stop = let has = bounded_is kept.feasible None none lower in absurd (none_is_some has.0 o.lower lower has.1)
    least_is kept (Some k) first lower stop =
        let below = first_is_bound r m lawful n o.tree grown k first in
        let same : k.bound ≡ bill = same_from_both k.bound bill (subst (λ (x : ℤ). k.bound ≤ℤ x) (sym kept.billed) (below o.schedule kept.feasible)) stop in
        record { bill = bill; said = said; bound = lower ∙ ap Some same; least = subst (IsBound m) same below }

    budget_is : (next : Option Key) → IsFirstOpen r o.tree next → o.lower ≡ option_map (λ (k : Key). k.bound) next
        → IsStop budget (length o.tree) GapBudget next bill → IsBudgetGap r budget o
    budget_is None none lower stop = absurd stop
    budget_is (Some k) first lower stop = record {
      gap = record { bill = bill; said = said; bound = k.bound; lower = lower; apart = stop.0 };
      spent = stop.2;
      splits = λ number key at. point_first k key (first.least number key at.here) (same_Some k.bound key.bound (sym lower ∙ at.lower)) stop.1;
    }

    duality_is : (next : Option Key) → IsFirstOpen r o.tree next → o.lower ≡ option_map (λ (k : Key). k.bound) next
        → IsStop budget (length o.tree) GapDuality next bill → IsDualityGap r o
    duality_is None none lower stop = absurd stop
    duality_is (Some k) first lower stop = record {
      gap = record { bill = bill; said = said; bound = k.bound; lower = lower; apart = stop.0 };
      key = k;
      here = record { here = first.here; lower = lower };
      point = stop.1;
    }

  promise_some : IsVerdict r budget o → Promise r m budget o
  promise_some a = record {
    infeasible = λ e z feasible. stop_as Infeasible e;
    empty = λ e. absurd (stop_as Infeasible e);
    schedule = λ apart. (a.bill, a.said, kept);
    bounded = λ apart. bounded_is kept.feasible a.next a.first a.lower;
    lower = lower_is a.next a.first a.lower;
    least = λ e. least_is a.bill a.said kept a.next a.first a.lower (stop_as Least e);
    budget_gap = λ e. budget_is a.bill a.said a.next a.first a.lower (stop_as GapBudget e);
    duality_gap = λ e. duality_is a.bill a.said a.next a.first a.lower (stop_as GapDuality e);
    rising = grown_halves r m lawful n o.tree grown;
    first = grown_rises r m lawful n o.tree grown;
  }
    where
      kept : IsBillOf m a.bill o.schedule
      kept = kept_reached r m lawful n o.tree grown a.bill o.schedule a.kept

      stop_as : (v : Verdict) → o.verdict ≡ v → IsStop budget (length o.tree) v a.next a.bill
      stop_as v e = subst (λ (w : Verdict). IsStop budget (length o.tree) w a.next a.bill) e a.stop

  promise_answer : (root : Option ℤ) → bound_at o.tree 0 ≡ root → IsAnswer r budget o root → Promise r m budget o
  promise_answer None none answer = promise_none none answer
  promise_answer (Some bound) has answer = promise_some answer

pub outcome_promise : OutcomesKeepPromises
outcome_promise r m budget o lawful outcome =
    promise_answer r m lawful budget o (splits_of r o.tree outcome.grown) (grown_from_list r o.tree outcome.grown) (bound_at o.tree 0) refl outcome.answer
