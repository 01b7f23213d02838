-- What holds of the searches of all problems. All of it is our own rule.
use Rattle.std.specs.Prelude.{◌≡◌, ℕ, ℤ, ◌+◌, ◌*◌, ◌≤◌, List}
use Rattle.d_bill.specs.Inputs.{Inputs}
use Rattle.d_bound.specs.Roots.{AreCandidates, root_box}
use Rattle.d_bound.specs.BoxLaws.{IsUntiered}
use Rattle.d_search.specs.declared.outcome.Outcome.{Outcome}
use Rattle.d_search.specs.Laws.{IsDecided}
use Rattle.d_search.specs.Problems.{choices, IsSearched, IsPromised}

-- this outcome of a search and no other
pub record IsOnlySearch (i : Inputs) (budget : ℕ) (o : Outcome) : Type 0 where
  pub is : IsSearched i budget o
  pub only : (other : Outcome) → IsSearched i budget other → other ≡ o

-- for each problem a budget of at least one node has exactly one outcome
abbrev pub HasExactlyOneSearch : Type 0
HasExactlyOneSearch = (i : Inputs) (budget : ℕ) → 1 ≤ budget → (o : Outcome) × IsOnlySearch i budget o

-- where no period is tiered a search keeps its promises
abbrev pub SearchesKeepPromises : Type 0
SearchesKeepPromises = (i : Inputs) (budget : ℕ) (o : Outcome) → IsUntiered i → IsSearched i budget o → IsPromised i budget o

-- where one candidate of each group can be chosen in N ways, and the budget is at least 2 * N - 1 nodes, the search is decided
abbrev pub IsDecidedByEnough : Inputs → ℕ → Outcome → Type 0
IsDecidedByEnough i budget o =
    (lists : List (List ℤ)) → AreCandidates i lists → 2 * choices lists (root_box i lists) ≤ budget + 1 → IsDecided o

-- so it is for every search of a problem in which no period is tiered
abbrev pub SearchesSuffice : Type 0
SearchesSuffice = (i : Inputs) (budget : ℕ) (o : Outcome) → IsUntiered i → IsSearched i budget o → IsDecidedByEnough i budget o
