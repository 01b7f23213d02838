-- Trees of boxes: which leaf is split, and what a split makes. All of it is our own rule.
use Rattle.std.specs.Prelude.{◌≡◌, ℕ, ◌+◌, ℤ, List, [], ◌∷◌, ◌++◌, Option, Some, None, is_none, length, slice_get, slice_set, option_and_then}
use Rattle.d_box.specs.declared.space.Space.{Space}
use Rattle.d_box.specs.declared.space.Split.{Split}
use Rattle.d_box.specs.declared.slopes.Slopes.{Slopes}
use Rattle.d_front.specs.declared.key.Key.{Key}
use Rattle.d_search.specs.declared.tree.TreeNode.{TreeNode}
use Rattle.d_front.specs.Keys.{ComesFirst}
use Rattle.d_search.specs.Rules.{Rules, IsBelow}

-- the key of a node of this number, box, split and bound: a node that was split has none, nor has one without a bound
abbrev pub key_from : Rules → ℕ → Space → Option Split → Option ℤ → Option Key
key_from r number space (Some split) bound = None
key_from r number space None None = None
key_from r number space None (Some bound) = Some (record { bound = bound; point = is_none (r.split_of space); node = number })

-- the key of a node that has this number
abbrev pub key_of : Rules → ℕ → TreeNode → Option Key
key_of r number n = key_from r number n.space n.split n.node.bound

-- the key of the node of this number; none where there is no such node
abbrev pub key_at : Rules → List TreeNode → ℕ → Option Key
key_at r nodes number = option_and_then (key_of r number) (slice_get nodes number)

-- the bound of a node, in 10^-21 USD
abbrev pub bound_in : TreeNode → Option ℤ
bound_in n = n.node.bound

-- the bill of a node, in 10^-21 USD
abbrev pub bill_in : TreeNode → Option ℤ
bill_in n = n.node.bill

-- the bound of the node of this number; none where there is no such node
abbrev pub bound_at : List TreeNode → ℕ → Option ℤ
bound_at nodes number = option_and_then bound_in (slice_get nodes number)

-- its bill; none where there is no such node
abbrev pub bill_at : List TreeNode → ℕ → Option ℤ
bill_at nodes number = option_and_then bill_in (slice_get nodes number)

-- the key of the leaf that comes first
pub record IsFirstLeaf (r : Rules) (nodes : List TreeNode) (key : Key) : Type 0 where
  pub here : key_at r nodes key.node ≡ Some key
  pub least : (number : ℕ) (other : Key) → key_at r nodes number ≡ Some other → ComesFirst key other

-- a box whose parent has these slopes, as a leaf
abbrev pub leaf_of : Rules → Space → Option Slopes → TreeNode
leaf_of r space parent = record { space = space; node = r.node_of space parent; split = None; left = 0; right = 0 }

-- the root alone
abbrev pub root_alone : Rules → List TreeNode
root_alone r = leaf_of r r.root None ∷ []

-- a node that was split when there were so many: its halves get the next two numbers
abbrev pub split_node : TreeNode → Split → ℕ → TreeNode
split_node n split count = record { space = n.space; node = n.node; split = Some split; left = count; right = count + 1 }

-- the left half of a node, as a leaf
abbrev pub left_leaf : Rules → TreeNode → Split → TreeNode
left_leaf r n split = leaf_of r (r.left_half n.space split) (Some n.node.slopes)

-- the right half of a node, as a leaf
abbrev pub right_leaf : Rules → TreeNode → Split → TreeNode
right_leaf r n split = leaf_of r (r.right_half n.space split) (Some n.node.slopes)

-- both halves of a node, as leaves
abbrev pub halves_of : Rules → TreeNode → Split → List TreeNode
halves_of r n split = left_leaf r n split ∷ right_leaf r n split ∷ []

-- the nodes after that of this number, which is n, was split
abbrev pub after_split : Rules → List TreeNode → ℕ → TreeNode → Split → List TreeNode
after_split r nodes number n split = slice_set nodes number (split_node n split (length nodes)) ++ halves_of r n split

-- one split: the first leaf, whose bound is below every bill so far, gets its halves
pub record IsSplitOnce (r : Rules) (before after : List TreeNode) : Type 0 where
  pub key : Key
  pub first : IsFirstLeaf r before key
  pub below : (number : ℕ) → IsBelow (Some key.bound) (bill_at before number)
  pub parent : TreeNode
  pub at : slice_get before key.node ≡ Some parent
  pub split : Split
  pub some : r.split_of parent.space ≡ Some split
  pub halves : after ≡ after_split r before key.node parent split
