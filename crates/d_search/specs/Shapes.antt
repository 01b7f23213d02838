-- The tree that the nodes of a search form, by their numbers. All of it is our own rule.
use Rattle.std.specs.Prelude.{◌≡◌, ℕ, ◌+◌, ◌<◌, ℤ, List, Some, None, length, slice_get}
use Rattle.std.specs.Option.{ForSome}
use Rattle.d_box.specs.declared.space.Split.{Split}
use Rattle.d_box.specs.Halves.{IsCut}
use Rattle.d_bill.specs.Inputs.{Inputs}
use Rattle.d_bound.specs.Roots.{AreCandidates, IsProblemBox}
use Rattle.d_bound.specs.BoxLaws.{IsUntiered}
use Rattle.d_search.specs.declared.tree.TreeNode.{TreeNode}
use Rattle.d_search.specs.declared.outcome.Outcome.{Outcome}
use Rattle.d_search.specs.Problems.{IsSearched}

-- a tree of numbers: a leaf, or a node with the trees of its halves
pub data Shape : Type 0 where
  leaf_at : ℕ → Shape
  split_at : ℕ → Shape → Shape → Shape

-- the number of its first node
abbrev pub number_of : Shape → ℕ
number_of (leaf_at n) = n
number_of (split_at n left right) = n

-- how many nodes it has
abbrev pub size_of : Shape → ℕ
size_of (leaf_at n) = 1
size_of (split_at n left right) = size_of left + size_of right + 1

-- the node of this number wasn't split
pub record IsLeafNode (nodes : List TreeNode) (n : ℕ) : Type 0 where
  pub node : TreeNode
  pub at : slice_get nodes n ≡ Some node
  pub whole : node.split ≡ None

-- the node of this number was split, and its halves have these numbers
pub record IsSplitNode (nodes : List TreeNode) (n left right : ℕ) : Type 0 where
  pub node : TreeNode
  pub at : slice_get nodes n ≡ Some node
  pub split : Split
  pub where_split : node.split ≡ Some split
  pub left_is : node.left ≡ left
  pub right_is : node.right ≡ right

-- the tree is that of the nodes from its first node on
abbrev pub IsShapeOf : List TreeNode → Shape → Type 0
IsShapeOf nodes (leaf_at n) = IsLeafNode nodes n
IsShapeOf nodes (split_at n left right) = IsSplitNode nodes n (number_of left) (number_of right) × IsShapeOf nodes left × IsShapeOf nodes right

-- the halves of a node come behind it
pub record ComeBehind (nodes : List TreeNode) (n : ℕ) (node : TreeNode) : Type 0 where
  pub left : n < node.left
  pub left_there : node.left < length nodes
  pub right : n < node.right
  pub right_there : node.right < length nodes

-- a node has a box of the problem, and where it was split it was split there, and its halves come behind it
pub record IsNodeOf (lists : List (List ℤ)) (nodes : List TreeNode) (n : ℕ) (node : TreeNode) : Type 0 where
  pub box : IsProblemBox lists node.space
  pub cut : ForSome node.split (IsCut lists node.space)
  pub halves : ForSome node.split (λ split. ComeBehind nodes n node)

-- the nodes form one tree, whose first node is the first of all, and which has all of them, each once
pub record FormTree (lists : List (List ℤ)) (nodes : List TreeNode) : Type 0 where
  pub shape : Shape
  pub first : number_of shape ≡ 0
  pub shows : IsShapeOf nodes shape
  pub all : size_of shape ≡ length nodes
  pub each : (n : ℕ) (node : TreeNode) → slice_get nodes n ≡ Some node → IsNodeOf lists nodes n node

-- where no period is tiered the nodes of a search form a tree
abbrev pub SearchesFormTrees : Type 0
SearchesFormTrees =
    (i : Inputs) (budget : ℕ) (o : Outcome) (lists : List (List ℤ)) → IsUntiered i → AreCandidates i lists → IsSearched i budget o → FormTree lists o.tree
