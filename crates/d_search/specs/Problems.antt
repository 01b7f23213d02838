-- What the search of a problem goes by, and what it answers. All of it is our own rule.
use Rattle.std.specs.Prelude.{ℕ, ℤ, List, [], unwrap_or}
use Rattle.d_box.specs.declared.space.Space.{Space}
use Rattle.d_box.specs.declared.slopes.Slopes.{Slopes}
use Rattle.d_box.specs.Halves.{left_of, right_of, combinations}
use Rattle.d_box.specs.SplitPlaces.{split_place}
use Rattle.d_bill.specs.Inputs.{Inputs}
use Rattle.d_bill.specs.Schedules.{IsFeasible}
use Rattle.d_bill.specs.Bills.{bill_of}
use Rattle.d_bound.specs.Roots.{AreCandidates, root_box, HoldsSchedule, IsProblemBox}
use Rattle.d_bound.specs.Nodes.{tiered_tables, box_schedule, node_of}
use Rattle.d_search.specs.declared.outcome.Outcome.{Outcome}
use Rattle.d_search.specs.Rules.{Rules, Meaning}
use Rattle.d_search.specs.Outcomes.{IsOutcome}
use Rattle.d_search.specs.Promises.{Promise}

-- the first cheapest schedule within the caps of a box; empty where there is none
abbrev pub schedule_in : Inputs → Space → Slopes → List ℕ
schedule_in i space slopes = unwrap_or (box_schedule i space slopes) []

-- the rules of a problem whose groups have these candidates
unfoldable pub rules_of : Inputs → List (List ℤ) → Rules
rules_of i lists = record {
  root = root_box i lists;
  node_of = node_of i;
  schedule_of = schedule_in i;
  split_of = λ space. split_place space (tiered_tables i) i.peaks lists;
  left_half = left_of;
  right_half = right_of lists;
}

-- what these rules are about
abbrev pub meaning_of : Inputs → List (List ℤ) → Meaning
meaning_of i lists = record { feasible = IsFeasible i; bill_of = bill_of i; holds = HoldsSchedule i; is_box = IsProblemBox lists }

-- in how many ways one candidate of each range of a box can be chosen; a group that has none counts 1
abbrev pub choices : List (List ℤ) → Space → ℕ
choices lists space = combinations lists space.peaks

-- the outcome of a search for a problem that may make so many nodes
pub record IsSearched (i : Inputs) (budget : ℕ) (o : Outcome) : Type 0 where
  pub lists : List (List ℤ)
  pub candidates : AreCandidates i lists
  pub outcome : IsOutcome (rules_of i lists) budget o

-- what it promises
pub record IsPromised (i : Inputs) (budget : ℕ) (o : Outcome) : Type 0 where
  pub lists : List (List ℤ)
  pub candidates : AreCandidates i lists
  pub promise : Promise (rules_of i lists) (meaning_of i lists) budget o
