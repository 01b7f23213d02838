-- What a search goes by, as functions of a box, and what must hold of them. All of it is our own rule.
use Rattle.std.specs.Prelude.{◌≡◌, ◌⊎◌, ◌+◌, ◌≤◌, ⊤, ℕ, ℤ, ◌<ℤ◌, List, Option, Some, None}
use Rattle.d_box.specs.declared.space.Space.{Space}
use Rattle.d_box.specs.declared.space.Split.{Split}
use Rattle.d_box.specs.declared.slopes.Slopes.{Slopes}
use Rattle.d_bound.specs.declared.node.Node.{Node}
use Rattle.d_bound.specs.BoxLaws.{IsAtMost}

-- the root; the node of a box whose parent has these slopes (the root has none); the schedule of a box at slopes; where a box is split, and
-- None where it can't be; and its halves at a split
pub record Rules : Type 0 where
  pub root : Space
  pub node_of : Space → Option Slopes → Node
  pub schedule_of : Space → Slopes → List ℕ
  pub split_of : Space → Option Split
  pub left_half : Space → Split → Space
  pub right_half : Space → Split → Space

-- what the rules are about: which schedules are feasible, their bills, which schedules a box holds, and what a box is
pub record Meaning : Type 1 where
  pub feasible : List ℕ → Type 0
  pub bill_of : List ℕ → ℤ
  pub holds : Space → List ℕ → Type 0
  pub is_box : Space → Type 0

-- a number is below another; none is above every number
abbrev pub IsBelow : Option ℤ → Option ℤ → Type 0
IsBelow (Some x) (Some y) = x <ℤ y
IsBelow (Some x) None = ⊤
IsBelow None y = ⊥

-- a node has a bound exactly where it has a bill
abbrev pub ComeTogether : Node → Type 0
ComeTogether node = (node.bound ≡ None → node.bill ≡ None) × (node.bill ≡ None → node.bound ≡ None)

-- the schedule is feasible, and this is its bill
pub record IsBillOf (m : Meaning) (bill : ℤ) (schedule : List ℕ) : Type 0 where
  pub feasible : m.feasible schedule
  pub billed : bill ≡ m.bill_of schedule

-- the bound isn't above the bill of any feasible schedule that the box holds; none is above every bill
abbrev pub IsBoundIn : Meaning → Space → Option ℤ → Type 0
IsBoundIn m space bound = (z : List ℕ) → m.feasible z → m.holds space z → IsAtMost bound (Some (m.bill_of z))

-- what must hold of the node of a box
pub record IsLawfulNode (r : Rules) (m : Meaning) (space : Space) (node : Node) : Type 0 where
  pub below : IsBoundIn m space node.bound
  pub together : ComeTogether node
  pub reached : (bill : ℤ) → node.bill ≡ Some bill → IsBillOf m bill (r.schedule_of space node.slopes)

-- what must hold of a box that is split: its halves are boxes, and a feasible schedule that it holds is held by one of them
pub record IsLawfulSplit (r : Rules) (m : Meaning) (space : Space) (split : Split) : Type 0 where
  pub left_box : m.is_box (r.left_half space split)
  pub right_box : m.is_box (r.right_half space split)
  pub held : (z : List ℕ) → m.feasible z → m.holds space z → m.holds (r.left_half space split) z ⊎ m.holds (r.right_half space split) z

-- the bound of a half, found with the slopes of its box, isn't below the bound of the box
abbrev pub IsRisingTo : Rules → Node → Space → Type 0
IsRisingTo r node half = IsAtMost node.bound (r.node_of half (Some node.slopes)).bound

-- what must hold of the rules of a problem
pub record IsLawful (r : Rules) (m : Meaning) : Type 0 where
  pub root_box : m.is_box r.root
  pub root_holds : (z : List ℕ) → m.feasible z → m.holds r.root z
  pub nodes : (space : Space) (parent : Option Slopes) → m.is_box space → IsLawfulNode r m space (r.node_of space parent)
  pub splits : (space : Space) (split : Split) → m.is_box space → r.split_of space ≡ Some split → IsLawfulSplit r m space split
  pub left_rises :
      (space : Space) (parent : Option Slopes) (split : Split) → m.is_box space → r.split_of space ≡ Some split
      → IsRisingTo r (r.node_of space parent) (r.left_half space split)
  pub right_rises :
      (space : Space) (parent : Option Slopes) (split : Split) → m.is_box space → r.split_of space ≡ Some split
      → IsRisingTo r (r.node_of space parent) (r.right_half space split)

-- a number for each box, at least 1, that both halves of a box share; and the bill of a box that can't be split isn't above its bound
pub record IsCounted (r : Rules) (m : Meaning) (size : Space → ℕ) : Type 0 where
  pub some : (space : Space) → m.is_box space → 1 ≤ size space
  pub shared :
      (space : Space) (split : Split) → m.is_box space → r.split_of space ≡ Some split
      → size space ≡ size (r.left_half space split) + size (r.right_half space split)
  pub met :
      (space : Space) (parent : Option Slopes) → m.is_box space → r.split_of space ≡ None
      → IsAtMost (r.node_of space parent).bill (r.node_of space parent).bound
