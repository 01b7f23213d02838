-- Trees that were grown from the root by splits of first leaves. All of it is our own rule.
use Rattle.std.specs.Prelude.{◌≡◌, ℕ, zero, suc, ◌+◌, ◌-◌, ◌*◌, ◌<◌, ◌≤◌, List, None, cond, ltb, length, map, take}
use Rattle.d_search.specs.declared.tree.TreeNode.{TreeNode}
use Rattle.d_search.specs.Rules.{Rules}
use Rattle.d_search.specs.Trees.{IsSplitOnce, root_alone}

-- a node as the leaf that it was
abbrev pub as_leaf : TreeNode → TreeNode
as_leaf n = record { space = n.space; node = n.node; split = None; left = 0; right = 0 }

-- a node as it was when there were so many nodes: a leaf, unless its left half was one of them
abbrev pub stood_at : ℕ → TreeNode → TreeNode
stood_at count n = cond (ltb n.left count) n (as_leaf n)

-- the first so many nodes, as they were before the others were made
abbrev pub stood : ℕ → List TreeNode → List TreeNode
stood count nodes = map (stood_at count) (take count nodes)

-- the nodes were grown: they begin with the root alone, each further pair of nodes came of one split, and nothing else was changed
pub record IsGrownList (r : Rules) (nodes : List TreeNode) : Type 0 where
  pub odd : (n : ℕ) × (length nodes ≡ 2 * n + 1)
  pub root : stood 1 nodes ≡ root_alone r
  pub pairs : (pair : ℕ) → 1 ≤ pair → 2 * pair < length nodes → IsSplitOnce r (stood (2 * pair - 1) nodes) (stood (2 * pair + 1) nodes)
  pub whole : stood (length nodes) nodes ≡ nodes

-- the nodes came of so many splits, one after the other; the same lists as those that were grown, in a form for proofs
abbrev pub IsGrownBy : Rules → ℕ → List TreeNode → Type 0
IsGrownBy r zero nodes = nodes ≡ root_alone r
IsGrownBy r (suc n) nodes = (before : List TreeNode) × IsGrownBy r n before × IsSplitOnce r before nodes

-- they came of some number of splits
abbrev pub IsGrown : Rules → List TreeNode → Type 0
IsGrown r nodes = (n : ℕ) × IsGrownBy r n nodes
