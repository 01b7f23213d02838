-- The replies that show what a search found, or that it is too large.
use Rattle.std.proofs.Common.{◌≡◌, ◌≢◌, refl, ap, ℕ, ◌^◌, ◌<◌, ◌≤◌, List, [], Option, Some, codes, subst}
use Rattle.d_bill.specs.Inputs.{Inputs, IsInRange}
use Rattle.d_bill.specs.Schedules.{IsFeasible}
use Rattle.d_bill.specs.Slopes.{tiered}
use Rattle.d_search.specs.declared.outcome.Outcome.{Outcome}
use Rattle.d_search.specs.declared.outcome.Verdict.TheVariants as ending
use Rattle.d_search.specs.Problems.{IsSearched, IsPromised}
use Rattle.d_search.proofs.SearchFacts.{search_promise}
use Rattle.d_report.specs.Lines.{line}
use Rattle.d_report.specs.Plans.{plan_text}
use Rattle.d_report.specs.declared.finding.Found.{Found}
use Rattle.d_report.specs.declared.finding.Found.TheVariants as found
use Rattle.d_run.specs.declared.reply.Reply.{Reply}
use Rattle.d_run.specs.declared.verdict.Verdict.TheVariants as verdict
use Rattle.d_run.specs.declared.fault.Refusal.TheVariants.{Product}
use Rattle.d_run.specs.Answer.{says, refused, refusal_verdict, refusal_text, finding, gap_of, product_for, IsBudgetOf, IsPlanned, no_schedule, least, gap, is_too_large, is_within, IsPlanFor}
use Rattle.d_run.specs.Replies.{IsReply, Shows}
use Rattle.d_run.proofs.PlanFacts.{none_feasible, is_feasible, is_least, is_between}

-- the outcome of a search in a room for so many boxes
module _ (i : Inputs) (budget room : ℕ) (o : Outcome) (fine : IsInRange i) (none : tiered i ≡ []) (same : room ≡ budget) (is : IsSearched i room o) where
  -- is that of the budget
  searched : IsSearched i budget o
  searched = subst (λ (b : ℕ). IsSearched i b o) same is

  -- and keeps its promise
  promised : IsPromised i budget o
  promised = search_promise i budget o (record { range = fine; none = none }) searched

  -- its schedule is feasible
  pub found_feasible : o.verdict ≢ ending.Infeasible → IsFeasible i o.schedule
  found_feasible = is_feasible i budget o promised

  -- the least bill is shown
  pub least_reply : (label : List ℕ) (reply : Reply) → o.verdict ≡ ending.Least
      → Shows verdict.Done (plan_text i label o.schedule (finding found.Least o)) reply → IsReply (IsPlanned i budget label) reply
  least_reply label reply ended shows = record {
    answer = says verdict.Done (plan_text i label o.schedule (finding found.Least o));
    is = least o searched ended (is_least i budget o promised ended) refl;
    verdict_is = shows.0;
    text_is = shows.1;
    alone = refl;
    unwritten = refl;
  }

  -- a bill with its bound is shown
  pub gap_reply : (label : List ℕ) (reply : Reply) (f : Found) → gap_of o.verdict ≡ Some f
      → Shows verdict.Gap (plan_text i label o.schedule (finding f o)) reply → IsReply (IsPlanned i budget label) reply
  gap_reply label reply f ended shows = record {
    answer = says verdict.Gap (plan_text i label o.schedule (finding f o));
    is = gap o searched f ended (is_between i budget o promised f ended) refl;
    verdict_is = shows.0;
    text_is = shows.1;
    alone = refl;
    unwritten = refl;
  }

  -- no schedule is feasible
  pub none_reply : (label : List ℕ) (reply : Reply) → o.verdict ≡ ending.Infeasible
      → Shows verdict.NoSchedule (line (codes "no schedule")) reply → IsReply (IsPlanned i budget label) reply
  none_reply label reply ended shows = record {
    answer = says verdict.NoSchedule (line (codes "no schedule"));
    is = no_schedule o searched ended (none_feasible i budget o promised ended) refl;
    verdict_is = shows.0;
    text_is = shows.1;
    alone = refl;
    unwritten = refl;
  }

-- a search of this size
module _ (i : Inputs) (given : Option ℕ) (label : List ℕ) (budget size : ℕ) (budget_is : IsBudgetOf i given budget) (size_is : size ≡ product_for i budget) where
  -- is too large
  pub large_reply : (reply : Reply) → 2 ^ 24 < size → Shows (refusal_verdict (Product size)) (refusal_text (Product size)) reply
      → IsReply (IsPlanFor i given label) reply
  large_reply reply large shows = record {
    answer = refused (Product size);
    is = record {
      budget = budget;
      budget_is = budget_is;
      planned = is_too_large (subst (λ (n : ℕ). 2 ^ 24 < n) size_is large) (ap (λ (n : ℕ). refused (Product n)) size_is);
    };
    verdict_is = shows.0;
    text_is = shows.1;
    alone = refl;
    unwritten = refl;
  }

  -- or gives its plan
  pub within_reply : (reply : Reply) → size ≤ 2 ^ 24 → IsReply (IsPlanned i budget label) reply → IsReply (IsPlanFor i given label) reply
  within_reply reply within r = record {
    answer = r.answer;
    is = record { budget = budget; budget_is = budget_is; planned = is_within (subst (λ (n : ℕ). n ≤ 2 ^ 24) size_is within) r.is };
    verdict_is = r.verdict_is;
    text_is = r.text_is;
    alone = r.alone;
    unwritten = r.unwritten;
  }
