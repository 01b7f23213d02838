-- What the promise of an outcome says of a plan.
use Rattle.std.proofs.Common.{◌≡◌, ◌≢◌, ◌∙◌, sym, refl, ℕ, ℤ, ◌≤ℤ◌, ◌<ℤ◌, List, Some, subst}
use Rattle.d_bill.specs.Inputs.{Inputs}
use Rattle.d_bill.specs.Schedules.{IsFeasible}
use Rattle.d_bill.specs.Bills.{bill_of, IsLeast}
use Rattle.d_search.specs.declared.outcome.Outcome.{Outcome}
use Rattle.d_search.specs.declared.outcome.Verdict.{Verdict}
use Rattle.d_search.specs.declared.outcome.Verdict.TheVariants.{Least, GapBudget, GapDuality, Infeasible}
use Rattle.d_search.specs.Problems.{IsPromised}
use Rattle.d_search.specs.Promises.{HasGap}
use Rattle.d_report.specs.declared.finding.Found.{Found}
use Rattle.d_run.specs.Answer.{IsBetween, gap_of}

module _ (i : Inputs) (budget : ℕ) (o : Outcome) (promised : IsPromised i budget o) where
  -- nothing is feasible
  pub none_feasible : o.verdict ≡ Infeasible → (z : List ℕ) → IsFeasible i z → ⊥
  none_feasible is = promised.promise.infeasible is

  -- the schedule is feasible
  pub is_feasible : o.verdict ≢ Infeasible → IsFeasible i o.schedule
  is_feasible other = let reached = promised.promise.schedule other in reached.2.feasible

  -- a bill that is said is that of the schedule
  said_bill : o.verdict ≢ Infeasible → (bill : ℤ) → o.bill ≡ Some bill → bill ≡ bill_of i o.schedule
  said_bill other bill said =
      let reached = promised.promise.schedule other in
      let same : Some bill ≡ Some reached.0 = sym said ∙ reached.1 in
      let one : bill ≡ reached.0 = cc in
      one ∙ reached.2.billed

  -- the bill is the least
  pub is_least : o.verdict ≡ Least → IsLeast i o.schedule
  is_least is =
      let other : o.verdict ≢ Infeasible = λ also. let e : Least ≡ Infeasible = sym is ∙ also in absurd cc in
      let found = promised.promise.least is in
      let P : ℤ → Type 0 = λ bill. (z : List ℕ) → IsFeasible i z → bill ≤ℤ bill_of i z in
      record { feasible = is_feasible other; least = subst P (said_bill other found.bill found.said) found.least }

  -- the bill lies above the bound
  between : o.verdict ≢ Infeasible → HasGap o → IsBetween i o
  between other gap =
      let P : ℤ → Type 0 = λ bill. gap.bound <ℤ bill in
      record {
        feasible = is_feasible other;
        lower = gap.bound;
        lower_is = gap.lower;
        bound = promised.promise.lower gap.bound gap.lower;
        below = subst P (said_bill other gap.bill gap.said) gap.apart;
      }

  -- where there is a gap
  pub is_between : (found : Found) → gap_of o.verdict ≡ Some found → IsBetween i o
  is_between found is = by_verdict o.verdict refl is
    where
      by_verdict : (verdict : Verdict) → o.verdict ≡ verdict → gap_of verdict ≡ Some found → IsBetween i o
      by_verdict Least same gap = absurd cc
      by_verdict Infeasible same gap = absurd cc
      by_verdict GapBudget same gap =
          between (λ also. let e : GapBudget ≡ Infeasible = sym same ∙ also in absurd cc) (promised.promise.budget_gap same).gap
      by_verdict GapDuality same gap =
          between (λ also. let e : GapDuality ≡ Infeasible = sym same ∙ also in absurd cc) (promised.promise.duality_gap same).gap
