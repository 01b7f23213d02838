-- What holds of all outcomes of all rules. All of it is our own rule.
use Rattle.std.specs.Prelude.{◌≡◌, ◌⊎◌, ℕ, ◌+◌, ◌*◌, ◌≤◌, Option}
use Rattle.d_box.specs.declared.space.Space.{Space}
use Rattle.d_box.specs.declared.slopes.Slopes.{Slopes}
use Rattle.d_search.specs.declared.outcome.Outcome.{Outcome}
use Rattle.d_search.specs.declared.outcome.Verdict.TheVariants.{Least, Infeasible}
use Rattle.d_search.specs.Rules.{Rules, Meaning, ComeTogether, IsLawful, IsCounted}
use Rattle.d_search.specs.Outcomes.{IsOutcome}
use Rattle.d_search.specs.Promises.{Promise}

-- two outcomes of the same rules and the same budget are the same
abbrev pub HasAtMostOneOutcome : Type 0
HasAtMostOneOutcome = (r : Rules) (budget : ℕ) (a b : Outcome) → IsOutcome r budget a → IsOutcome r budget b → a ≡ b

-- this outcome and no other
pub record IsOnlyOutcome (r : Rules) (budget : ℕ) (o : Outcome) : Type 0 where
  pub is : IsOutcome r budget o
  pub only : (other : Outcome) → IsOutcome r budget other → other ≡ o

-- the rules give each box a bound exactly where they give it a bill
abbrev pub BoundsHaveBills : Rules → Type 0
BoundsHaveBills r = (space : Space) (parent : Option Slopes) → ComeTogether (r.node_of space parent)

-- where they do, a budget of at least one node has exactly one outcome
abbrev pub HasExactlyOneOutcome : Type 0
HasExactlyOneOutcome = (r : Rules) (budget : ℕ) → BoundsHaveBills r → 1 ≤ budget → (o : Outcome) × IsOnlyOutcome r budget o

-- an outcome keeps its promises, where the rules are lawful
abbrev pub OutcomesKeepPromises : Type 1
OutcomesKeepPromises = (r : Rules) (m : Meaning) (budget : ℕ) (o : Outcome) → IsLawful r m → IsOutcome r budget o → Promise r m budget o

-- the search ended for another reason than the budget and than a box that can't be split
abbrev pub IsDecided : Outcome → Type 0
IsDecided o = (o.verdict ≡ Least) ⊎ (o.verdict ≡ Infeasible)

-- where the root counts N, a budget of 2 * N - 1 nodes suffices
abbrev pub BudgetsSuffice : Type 1
BudgetsSuffice =
    (r : Rules) (m : Meaning) (size : Space → ℕ) (budget : ℕ) (o : Outcome) → IsLawful r m → IsCounted r m size → IsOutcome r budget o
    → 2 * size r.root ≤ budget + 1 → IsDecided o
