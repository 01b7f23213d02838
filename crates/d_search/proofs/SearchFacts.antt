-- The search of a problem: exactly one outcome, which keeps its promises, and a budget that suffices.
use Rattle.std.proofs.Common.{◌≡◌, ℕ, ℤ, ◌+◌, ◌*◌, ◌≤◌, List, subst}
use Rattle.d_bill.specs.Inputs.{Inputs}
use Rattle.d_bound.specs.Roots.{AreCandidates, root_box}
use Rattle.d_bound.specs.BoxLaws.{IsUntiered}
use Rattle.d_search.specs.declared.outcome.Outcome.{Outcome}
use Rattle.d_search.specs.Outcomes.{IsOutcome}
use Rattle.d_search.specs.Laws.{IsDecided}
use Rattle.d_search.specs.Problems.{rules_of, meaning_of, choices, IsSearched}
use Rattle.d_search.specs.ProblemLaws.{HasExactlyOneSearch, SearchesKeepPromises, SearchesSuffice}
use Rattle.d_search.proofs.SameFacts.{outcome_same}
use Rattle.d_search.proofs.ThereFacts.{outcome_there}
use Rattle.d_search.proofs.PromiseFacts.{outcome_promise}
use Rattle.d_search.proofs.BudgetFacts.{budget_suffices}
use Rattle.d_search.proofs.LawfulFacts.{bounds_have_bills, rules_lawful}
use Rattle.d_search.proofs.CountedFacts.{rules_counted}
use Rattle.d_search.proofs.CandidateFacts.{candidates_same, candidates_there}

-- a search goes by whichever lists are the candidates
pub searched_by : (i : Inputs) (lists : List (List ℤ)) (budget : ℕ) (o : Outcome) → AreCandidates i lists → IsSearched i budget o → IsOutcome (rules_of i lists) budget o
searched_by i lists budget o candidates searched =
    subst (λ l. IsOutcome (rules_of i l) budget o) (candidates_same i searched.lists lists searched.candidates candidates) searched.outcome

-- two outcomes of the same problem and the same budget are the same
pub searched_same : (i : Inputs) (budget : ℕ) (a b : Outcome) → IsSearched i budget a → IsSearched i budget b → a ≡ b
searched_same i budget a b one other =
    outcome_same (rules_of i one.lists) budget a b one.outcome (searched_by i one.lists budget b one.candidates other)

-- there is exactly one
pub searched_once : HasExactlyOneSearch
searched_once i budget some =
    let lists = candidates_there i in
    let there = outcome_there (rules_of i lists.0) budget (bounds_have_bills i lists.0) some in
    let is : IsSearched i budget there.0 = record { lists = lists.0; candidates = lists.1; outcome = there.1.is } in
    (there.0, record { is = is; only = λ other h. searched_same i budget other there.0 h is })

-- it keeps its promises
pub search_promise : SearchesKeepPromises
search_promise i budget o untiered searched = record {
  lists = searched.lists;
  candidates = searched.candidates;
  promise = outcome_promise (rules_of i searched.lists) (meaning_of i searched.lists) budget o (rules_lawful i searched.lists untiered searched.candidates) searched.outcome;
}

-- by the root that the rules have
suffices_by : (i : Inputs) (lists : List (List ℤ)) (budget : ℕ) (o : Outcome) → IsUntiered i → AreCandidates i lists → IsOutcome (rules_of i lists) budget o
    → 2 * choices lists (root_box i lists) ≤ budget + 1 → IsDecided o
unfolding rules_of
suffices_by i lists budget o untiered candidates outcome ample =
    budget_suffices (rules_of i lists) (meaning_of i lists) (choices lists) budget o (rules_lawful i lists untiered candidates)
    (rules_counted i lists untiered candidates) outcome ample

-- twice the choices of candidates, less one, suffice
pub search_suffices : SearchesSuffice
search_suffices i budget o untiered searched lists candidates ample =
    suffices_by i lists budget o untiered candidates (searched_by i lists budget o candidates searched) ample
