-- Trees that were grown: how many nodes there are, what they are, and how their bounds go.
use Rattle.std.proofs.Common.{◌≡◌, inl, inr, ℕ, zero, suc, ◌+◌, ◌*◌, ◌<◌, List, Option, Some, None, length, slice_get, option_and_then, arith, sym, refl, ap, subst, ◌∙◌}
use Rattle.std.proofs.lemmas.Bool.{cases_eq}
use Rattle.std.proofs.lemmas.Option.{same_Some, none-some}
use Rattle.d_box.specs.declared.space.Space.{Space}
use Rattle.d_box.specs.declared.space.Split.{Split}
use Rattle.d_box.specs.declared.slopes.Slopes.{Slopes}
use Rattle.d_bound.specs.BoxLaws.{IsAtMost}
use Rattle.d_search.specs.declared.tree.TreeNode.{TreeNode}
use Rattle.d_search.specs.Rules.{Rules, Meaning, IsLawful, IsRisingTo}
use Rattle.d_search.specs.Trees.{bound_in, bound_at, leaf_of, root_alone, split_node, left_leaf, right_leaf, IsSplitOnce}
use Rattle.d_search.specs.Grown.{as_leaf, IsGrownBy}
use Rattle.d_search.proofs.SplitFacts.{split_cases, split_other, split_same, length_split}

-- the root alone is one leaf
pub root_only : (r : Rules) (nodes : List TreeNode) → nodes ≡ root_alone r → (P : ℕ → TreeNode → Type 0) → P 0 (leaf_of r r.root None)
    → (j : ℕ) (n : TreeNode) → slice_get nodes j ≡ Some n → P j n
root_only r nodes is_root P here j n h = by_place j (subst (λ (l : List TreeNode). slice_get l j ≡ Some n) is_root h)
  where
    by_place : (k : ℕ) → slice_get (root_alone r) k ≡ Some n → P k n
    by_place zero e = subst (λ (x : TreeNode). P 0 x) (same_Some (leaf_of r r.root None) n e) here
    by_place (suc k) e = absurd (none-some n e)

-- one node first, and two more with each split
pub grown_length : (r : Rules) (n : ℕ) (nodes : List TreeNode) → IsGrownBy r n nodes → length nodes ≡ 2 * n + 1
grown_length r zero nodes grown = ap length grown
grown_length r (suc n) nodes grown = omega (arith, length_split r grown.0 nodes grown.2, grown_length r n grown.0 grown.1)

-- a node of a box with a property, found with some parent's slopes
pub record IsMade (r : Rules) (P : Space → Type 0) (n : TreeNode) : Type 0 where
  pub box : P n.space
  pub parent : Option Slopes
  pub node : n.node ≡ r.node_of n.space parent

-- the halves of a box with the property have it
abbrev pub KeepsHalves : Rules → (Space → Type 0) → Type 0
KeepsHalves r P = (space : Space) (split : Split) → P space → r.split_of space ≡ Some split → P (r.left_half space split) × P (r.right_half space split)

-- so every node has it, where the root has
pub grown_made : (r : Rules) (P : Space → Type 0) → P r.root → KeepsHalves r P → (n : ℕ) (nodes : List TreeNode) → IsGrownBy r n nodes
    → (j : ℕ) (x : TreeNode) → slice_get nodes j ≡ Some x → IsMade r P x
grown_made r P root halves zero nodes grown = root_only r nodes grown (λ j x. IsMade r P x) (record { box = root; parent = None; node = refl })
grown_made r P root halves (suc n) nodes grown =
    let s = grown.2 in
    let all = grown_made r P root halves n grown.0 grown.1 in
    let parent : IsMade r P s.parent = all s.key.node s.parent s.at in
    let both = halves s.parent.space s.split parent.box s.some in
    split_cases r grown.0 nodes s (λ j x. IsMade r P x) (λ j x other at. all j x at)
    (record { box = parent.box; parent = parent.parent; node = parent.node })
    (record { box = both.0; parent = Some s.parent.node.slopes; node = refl }) (record { box = both.1; parent = Some s.parent.node.slopes; node = refl })

-- of lawful rules every node is of a box
pub boxes_made : (r : Rules) (m : Meaning) → IsLawful r m → (n : ℕ) (nodes : List TreeNode) → IsGrownBy r n nodes
    → (j : ℕ) (x : TreeNode) → slice_get nodes j ≡ Some x → IsMade r m.is_box x
boxes_made r m lawful = grown_made r m.is_box lawful.root_box (λ space split box some. let s = lawful.splits space split box some in (s.left_box, s.right_box))

-- the first node is the root's
pub record IsRootAt (r : Rules) (nodes : List TreeNode) : Type 0 where
  pub first : TreeNode
  pub at : slice_get nodes 0 ≡ Some first
  pub space : first.space ≡ r.root
  pub node : first.node ≡ r.node_of r.root None

root_after : (r : Rules) (before after : List TreeNode) → IsSplitOnce r before after → IsRootAt r before → IsRootAt r after
root_after r before after s old = elim (cases_eq 0 s.key.node) [
  | inl same ↦ record {
    first = split_node s.parent s.split (length before);
    at = ap (slice_get after) same ∙ split_same r before after s;
    space = subst (λ (x : TreeNode). x.space ≡ r.root) (first_is same) old.space;
    node = subst (λ (x : TreeNode). x.node ≡ r.node_of r.root None) (first_is same) old.node;
  }
  | inr other ↦ record { first = old.first; at = split_other r before after s 0 old.first other old.at; space = old.space; node = old.node }
]
  where
    first_is : 0 ≡ s.key.node → old.first ≡ s.parent
    first_is same = same_Some old.first s.parent (sym old.at ∙ (ap (slice_get before) same ∙ s.at))

pub grown_root : (r : Rules) (n : ℕ) (nodes : List TreeNode) → IsGrownBy r n nodes → IsRootAt r nodes
grown_root r zero nodes grown =
    record { first = leaf_of r r.root None; at = ap (λ (l : List TreeNode). slice_get l 0) grown; space = refl; node = refl }
grown_root r (suc n) nodes grown = root_after r grown.0 nodes grown.2 (grown_root r n grown.0 grown.1)

pub root_bound : (r : Rules) (n : ℕ) (nodes : List TreeNode) → IsGrownBy r n nodes → bound_at nodes 0 ≡ (r.node_of r.root None).bound
root_bound r n nodes grown =
    let root = grown_root r n nodes grown in
    ap (option_and_then bound_in) root.at ∙ ap (λ node. node.bound) root.node

-- the halves of a node are there, and a leaf has none
pub record IsNumbered (nodes : List TreeNode) (n : TreeNode) : Type 0 where
  pub left : n.left < length nodes
  pub right : n.right < length nodes
  pub leaf : n.split ≡ None → as_leaf n ≡ n

pub grown_numbered : (r : Rules) (n : ℕ) (nodes : List TreeNode) → IsGrownBy r n nodes
    → (j : ℕ) (x : TreeNode) → slice_get nodes j ≡ Some x → IsNumbered nodes x
grown_numbered r zero nodes grown =
    let long = grown_length r zero nodes grown in
    root_only r nodes grown (λ j x. IsNumbered nodes x) (record { left = omega (arith, long); right = omega (arith, long); leaf = λ e. refl })
grown_numbered r (suc n) nodes grown =
    let s = grown.2 in
    let all = grown_numbered r n grown.0 grown.1 in
    let more = length_split r grown.0 nodes s in
    split_cases r grown.0 nodes s (λ j x. IsNumbered nodes x)
    (λ j x other at. let old = all j x at in record { left = omega (arith, more, old.left); right = omega (arith, more, old.right); leaf = old.leaf })
    (record { left = omega (arith, more); right = omega (arith, more); leaf = λ e. absurd (none-some s.split (sym e)) })
    (record { left = omega (arith, more); right = omega (arith, more); leaf = λ e. refl })
    (record { left = omega (arith, more); right = omega (arith, more); leaf = λ e. refl })

-- the bounds of the halves of a split aren't below that of its node
pub split_rises : (r : Rules) (m : Meaning) → IsLawful r m → (x : TreeNode) (split : Split) → IsMade r m.is_box x → r.split_of x.space ≡ Some split
    → IsAtMost x.node.bound (left_leaf r x split).node.bound × IsAtMost x.node.bound (right_leaf r x split).node.bound
split_rises r m lawful x split made some = (
  subst (λ node. IsRisingTo r node (r.left_half x.space split)) (sym made.node) (lawful.left_rises x.space made.parent split made.box some),
  subst (λ node. IsRisingTo r node (r.right_half x.space split)) (sym made.node) (lawful.right_rises x.space made.parent split made.box some),
)
