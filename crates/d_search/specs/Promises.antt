-- What an outcome promises, where the rules are lawful. All of it is our own rule.
use Rattle.std.specs.Prelude.{◌≡◌, ◌≢◌, ℕ, ◌+◌, ◌<◌, ℤ, ◌≤ℤ◌, ◌<ℤ◌, List, Some, None, true, false, length, slice_get}
use Rattle.d_bound.specs.BoxLaws.{IsAtMost}
use Rattle.d_box.specs.declared.space.Split.{Split}
use Rattle.d_front.specs.declared.key.Key.{Key}
use Rattle.d_search.specs.declared.tree.TreeNode.{TreeNode}
use Rattle.d_search.specs.declared.outcome.Outcome.{Outcome}
use Rattle.d_search.specs.declared.outcome.Verdict.TheVariants.{Least, GapBudget, GapDuality, Infeasible}
use Rattle.d_search.specs.Rules.{Rules, Meaning, IsBillOf}
use Rattle.d_search.specs.Trees.{key_at, bound_at}
use Rattle.d_search.specs.Outcomes.{IsNoSchedule}

-- no feasible schedule has a bill below this
abbrev pub IsBound : Meaning → ℤ → Type 0
IsBound m bound = (z : List ℕ) → m.feasible z → bound ≤ℤ m.bill_of z

-- the bill is that of a feasible schedule, which the outcome has
abbrev pub IsReached : Meaning → Outcome → Type 0
IsReached m o = (bill : ℤ) × (o.bill ≡ Some bill) × IsBillOf m bill o.schedule

-- the outcome has a bound
abbrev pub IsBounded : Outcome → Type 0
IsBounded o = (bound : ℤ) × (o.lower ≡ Some bound)

-- the bill is the least of all, and the bound says so
pub record IsLeastBill (m : Meaning) (o : Outcome) : Type 0 where
  pub bill : ℤ
  pub said : o.bill ≡ Some bill
  pub bound : o.lower ≡ Some bill
  pub least : IsBound m bill

-- the bound of a node isn't above those of its halves
pub record IsBelowHalves (nodes : List TreeNode) (n : TreeNode) : Type 0 where
  pub left : IsAtMost n.node.bound (bound_at nodes n.left)
  pub right : IsAtMost n.node.bound (bound_at nodes n.right)

-- bounds never fall from a node to its halves
abbrev pub BoundsNeverFall : List TreeNode → Type 0
BoundsNeverFall nodes =
    (number : ℕ) (n : TreeNode) (split : Split) → slice_get nodes number ≡ Some n → n.split ≡ Some split → IsBelowHalves nodes n

-- no node that was split has a bound above that of a leaf
abbrev pub SplitsAreBelowLeaves : List TreeNode → Type 0
SplitsAreBelowLeaves nodes =
    (number : ℕ) (n : TreeNode) (split : Split) (other : ℕ) (leaf : TreeNode) → slice_get nodes number ≡ Some n → n.split ≡ Some split
    → slice_get nodes other ≡ Some leaf → leaf.split ≡ None → IsAtMost n.node.bound leaf.node.bound

-- the bound is below the bill
pub record HasGap (o : Outcome) : Type 0 where
  pub bill : ℤ
  pub said : o.bill ≡ Some bill
  pub bound : ℤ
  pub lower : o.lower ≡ Some bound
  pub apart : bound <ℤ bill

-- a leaf has the bound of the outcome
pub record IsAtBound (r : Rules) (o : Outcome) (number : ℕ) (key : Key) : Type 0 where
  pub here : key_at r o.tree number ≡ Some key
  pub lower : o.lower ≡ Some key.bound

-- a gap that more nodes may close: two more were too many, and each leaf that has the bound can be split
pub record IsBudgetGap (r : Rules) (budget : ℕ) (o : Outcome) : Type 0 where
  pub gap : HasGap o
  pub spent : budget < length o.tree + 2
  pub splits : (number : ℕ) (key : Key) → IsAtBound r o number key → key.point ≡ false

-- a gap that no number of nodes closes: a leaf that has the bound can't be split
pub record IsDualityGap (r : Rules) (o : Outcome) : Type 0 where
  pub gap : HasGap o
  pub key : Key
  pub here : IsAtBound r o key.node key
  pub point : key.point ≡ true

-- what an outcome promises
pub record Promise (r : Rules) (m : Meaning) (budget : ℕ) (o : Outcome) : Type 0 where
  pub infeasible : o.verdict ≡ Infeasible → (z : List ℕ) → m.feasible z → ⊥
  pub empty : o.verdict ≡ Infeasible → IsNoSchedule o
  pub schedule : o.verdict ≢ Infeasible → IsReached m o
  pub bounded : o.verdict ≢ Infeasible → IsBounded o
  pub lower : (bound : ℤ) → o.lower ≡ Some bound → IsBound m bound
  pub least : o.verdict ≡ Least → IsLeastBill m o
  pub budget_gap : o.verdict ≡ GapBudget → IsBudgetGap r budget o
  pub duality_gap : o.verdict ≡ GapDuality → IsDualityGap r o
  pub rising : BoundsNeverFall o.tree
  pub first : SplitsAreBelowLeaves o.tree
