-- What holds of the boxes of all problems in which no period is tiered. All of it is our own rule.
use Rattle.std.specs.Prelude.{◌≡◌, ◌⊎◌, ⊤, ℕ, ℤ, ◌≤ℤ◌, ◌^◌, List, [], Option, Some, None, MatchOption, All}
use Rattle.d_num.specs.Amount.{IsWithin, IsWatt}
use Rattle.d_list.specs.Order.{IsNotAfter}
use Rattle.d_box.specs.declared.space.Space.{Space}
use Rattle.d_box.specs.declared.space.Split.{Split}
use Rattle.d_box.specs.declared.slopes.Slopes.{Slopes}
use Rattle.d_box.specs.Boxes.{IsPart}
use Rattle.d_box.specs.Halves.{IsCut, left_of, right_of}
use Rattle.d_box.specs.Splits.{IsPoint}
use Rattle.d_bill.specs.Inputs.{Inputs, IsInRange}
use Rattle.d_bill.specs.Schedules.{IsFeasible}
use Rattle.d_bill.specs.Bills.{bill_of}
use Rattle.d_bill.specs.Slopes.{tiered, rates_of}
use Rattle.d_bound.specs.PlanWays.{rated_cost}
use Rattle.d_bound.specs.Caps.{KeepsCaps}
use Rattle.d_bound.specs.Roots.{AreCandidates, root_box, HoldsSchedule, IsProblemBox}
use Rattle.d_bound.specs.Nodes.{tiered_tables, box_schedule, relaxed_value, node_of}

-- a problem in range, in which no period has two tiers or more
pub record IsUntiered (i : Inputs) : Type 0 where
  pub range : IsInRange i
  pub none : tiered i ≡ []

-- a number isn't above another; none is above every number
abbrev pub IsAtMost : Option ℤ → Option ℤ → Type 0
IsAtMost (Some x) (Some y) = x ≤ℤ y
IsAtMost x None = ⊤
IsAtMost None (Some y) = ⊥

-- the first of the feasible schedules within the caps of a box that cost least, in the order of lists of mode numbers
pub record IsFirstWithin (i : Inputs) (space : Space) (cost : List ℕ → ℤ) (s : List ℕ) : Type 0 where
  pub feasible : IsFeasible i s
  pub caps : KeepsCaps i space s
  pub least : (z : List ℕ) → IsFeasible i z → KeepsCaps i space z → cost s ≤ℤ cost z
  pub first : (z : List ℕ) → IsFeasible i z → KeepsCaps i space z → cost z ≡ cost s → IsNotAfter s z

-- a box's schedule is the first cheapest within its caps, and is none exactly where no feasible schedule keeps them
abbrev pub BoxesHaveFirst : Type 0
BoxesHaveFirst =
    (i : Inputs) (space : Space) (slopes : Slopes) → IsUntiered i
    → MatchOption (box_schedule i space slopes) ((s : List ℕ) → IsFeasible i s → KeepsCaps i space s → ⊥)
    (λ s. IsFirstWithin i space (rated_cost i (rates_of i slopes.rates)) s)

-- the root is a box that goes from candidate to candidate
abbrev pub RootsAreBoxes : Type 0
RootsAreBoxes = (i : Inputs) (lists : List (List ℤ)) → IsUntiered i → AreCandidates i lists → IsProblemBox lists (root_box i lists)

-- and holds every feasible schedule
abbrev pub RootsHold : Type 0
RootsHold =
    (i : Inputs) (lists : List (List ℤ)) (s : List ℕ) → IsUntiered i → AreCandidates i lists → IsFeasible i s
    → HoldsSchedule i (root_box i lists) s

-- the halves of such a box are such boxes
abbrev pub HalvesAreBoxes : Type 0
HalvesAreBoxes =
    (lists : List (List ℤ)) (space : Space) (split : Split) → IsCut lists space split → IsProblemBox lists space
    → IsProblemBox lists (left_of space split) × IsProblemBox lists (right_of lists space split)

-- a feasible schedule that a box holds is held by one of its halves
abbrev pub HalvesHold : Type 0
HalvesHold =
    (i : Inputs) (lists : List (List ℤ)) (space : Space) (split : Split) (s : List ℕ) → IsUntiered i → AreCandidates i lists
    → IsCut lists space split → IsFeasible i s → HoldsSchedule i space s
    → HoldsSchedule i (left_of space split) s ⊎ HoldsSchedule i (right_of lists space split) s

-- the bound isn't above the bill of any feasible schedule that the box holds
abbrev pub BoundsAreBelow : Type 0
BoundsAreBelow =
    (i : Inputs) (space : Space) (parent : Option Slopes) (s : List ℕ) → IsUntiered i → IsFeasible i s → HoldsSchedule i space s
    → IsAtMost (node_of i space parent).bound (Some (bill_of i s))

-- where a node has no bound it has no bill, and the other way round
abbrev pub BoundsComeWithBills : Type 0
BoundsComeWithBills =
    (i : Inputs) (space : Space) (parent : Option Slopes)
    → ((node_of i space parent).bound ≡ None → (node_of i space parent).bill ≡ None)
    × ((node_of i space parent).bill ≡ None → (node_of i space parent).bound ≡ None)

-- this feasible schedule within the caps is the box's, and this is its bill
pub record IsBilled (i : Inputs) (space : Space) (slopes : Slopes) (amount : ℤ) (s : List ℕ) : Type 0 where
  pub found : box_schedule i space slopes ≡ Some s
  pub feasible : IsFeasible i s
  pub caps : KeepsCaps i space s
  pub bill : amount ≡ bill_of i s

-- a node's bill is that of a feasible schedule
abbrev pub BillsAreReached : Type 0
BillsAreReached =
    (i : Inputs) (space : Space) (parent : Option Slopes) (bill : ℤ) → IsUntiered i → (node_of i space parent).bill ≡ Some bill
    → (s : List ℕ) × IsBilled i space (node_of i space parent).slopes bill s

-- a bound never falls from a box to a part of it that has the box's slopes for its parent's
abbrev pub BoundsRise : Type 0
BoundsRise =
    (i : Inputs) (part space : Space) (parent : Option Slopes) → IsUntiered i → IsPart part space
    → IsAtMost (node_of i space parent).bound (node_of i part (Some (node_of i space parent).slopes)).bound

-- the bill of a point isn't above its bound
abbrev pub PointsMeet : Type 0
PointsMeet =
    (i : Inputs) (lists : List (List ℤ)) (space : Space) (parent : Option Slopes) → IsUntiered i → IsProblemBox lists space
    → IsPoint space (tiered_tables i) i.peaks → IsAtMost (node_of i space parent).bill (node_of i space parent).bound

-- the floor of each group is a power
abbrev pub HasFloors : Inputs → Type 0
HasFloors i = All (λ peak. IsWatt peak.floor) i.peaks

-- relaxed values are at most 10^15 USD in size
abbrev pub RelaxedAreSmall : Type 0
RelaxedAreSmall =
    (i : Inputs) (lists : List (List ℤ)) (space : Space) (slopes : Slopes) (value : ℤ) → IsUntiered i → HasFloors i → AreCandidates i lists
    → IsProblemBox lists space → relaxed_value i space slopes ≡ Some value → IsWithin (10 ^ 36) value
