-- How large a grown tree can become, where boxes are counted: each leaf but one box's worth is left to split.
use Rattle.std.proofs.Common.{◌≡◌, ℕ, zero, suc, ◌+◌, ◌-◌, ◌≤◌, List, [], ◌∷◌, ◌++◌, Option, Some, None, length, slice_get, slice_set, sum_by, arith, ap, ◌∙◌}
use Rattle.std.proofs.lemmas.List.Sums.{sum_by-cons, sum_by-append}
use Rattle.std.proofs.lemmas.Option.{same_Some, none-some}
use Rattle.d_box.specs.declared.space.Space.{Space}
use Rattle.d_box.specs.declared.space.Split.{Split}
use Rattle.d_search.specs.declared.tree.TreeNode.{TreeNode}
use Rattle.d_search.specs.Rules.{Rules, Meaning, IsLawful, IsCounted}
use Rattle.d_search.specs.Trees.{split_node, left_leaf, right_leaf, IsSplitOnce}
use Rattle.d_search.specs.Grown.{IsGrownBy}
use Rattle.d_search.proofs.SplitFacts.{key_parent}
use Rattle.d_search.proofs.GrownFacts.{boxes_made}

-- what a leaf's box counts but for one; 0 for a node that was split
abbrev pub spare_in : ℕ → Option Split → ℕ
spare_in count None = count - 1
spare_in count (Some split) = 0

abbrev pub spare : (Space → ℕ) → TreeNode → ℕ
spare size n = spare_in (size n.space) n.split

-- a sum after one element was written
sum_written : {X : Type 0} (f : X → ℕ) (xs : List X) (i : ℕ) (x y : X) → slice_get xs i ≡ Some x
    → sum_by f (slice_set xs i y) + f x ≡ sum_by f xs + f y
sum_written f [] i x y at = absurd (none-some x at)
sum_written f (z ∷ xs) zero x y at = let same : f z ≡ f x = ap f (same_Some z x at) in omega (arith, sum_by-cons f z xs, sum_by-cons f y xs)
sum_written f (z ∷ xs) (suc i) x y at = omega (arith, sum_written f xs i x y at, sum_by-cons f z xs, sum_by-cons f z (slice_set xs i y))

-- and after two more were put behind
sum_more : {X : Type 0} (f : X → ℕ) (xs : List X) (a b : X) → sum_by f (xs ++ a ∷ b ∷ []) ≡ sum_by f xs + (f a + f b)
sum_more f xs a b = omega (arith, sum_by-append f xs (a ∷ b ∷ []))

-- one split takes one from what is spare
spare_after : (r : Rules) (m : Meaning) (size : Space → ℕ) → IsLawful r m → IsCounted r m size → (before after : List TreeNode)
    → (s : IsSplitOnce r before after) → m.is_box s.parent.space → sum_by (spare size) after + 1 ≡ sum_by (spare size) before
spare_after r m size lawful counted before after s box =
    ap (λ (l : List TreeNode). sum_by (spare size) l + 1) s.halves ∙ omega (
      arith,
      sum_more (spare size) written (left_leaf r s.parent s.split) (right_leaf r s.parent s.split),
      sum_written (spare size) before s.key.node s.parent (split_node s.parent s.split (length before)) s.at,
      was,
      left,
      right,
      shared,
    )
  where
    written : List TreeNode
    written = slice_set before s.key.node (split_node s.parent s.split (length before))

    was : spare size s.parent ≡ size s.parent.space - 1
    was = ap (spare_in (size s.parent.space)) (key_parent r before after s).0

    left : 1 ≤ size (r.left_half s.parent.space s.split)
    left = counted.some (r.left_half s.parent.space s.split) (lawful.splits s.parent.space s.split box s.some).left_box

    right : 1 ≤ size (r.right_half s.parent.space s.split)
    right = counted.some (r.right_half s.parent.space s.split) (lawful.splits s.parent.space s.split box s.some).right_box

    shared : size s.parent.space ≡ size (r.left_half s.parent.space s.split) + size (r.right_half s.parent.space s.split)
    shared = counted.shared s.parent.space s.split box s.some

-- so what is spare after n splits, n and one are what the root counts
pub grown_spare : (r : Rules) (m : Meaning) (size : Space → ℕ) → IsLawful r m → IsCounted r m size → (n : ℕ) (nodes : List TreeNode)
    → IsGrownBy r n nodes → sum_by (spare size) nodes + n + 1 ≡ size r.root
grown_spare r m size lawful counted zero nodes grown =
    let one = counted.some r.root lawful.root_box in
    let sum : sum_by (spare size) nodes ≡ 0 + (size r.root - 1) = ap (sum_by (spare size)) grown in
    omega arith
grown_spare r m size lawful counted (suc n) nodes grown =
    let s = grown.2 in
    let made = boxes_made r m lawful n grown.0 grown.1 s.key.node s.parent s.at in
    omega (arith, spare_after r m size lawful counted grown.0 nodes s made.box, grown_spare r m size lawful counted n grown.0 grown.1)

-- there are no more splits than the root counts but for one
pub few_splits : (r : Rules) (m : Meaning) (size : Space → ℕ) → IsLawful r m → IsCounted r m size → (n : ℕ) (nodes : List TreeNode)
    → IsGrownBy r n nodes → n + 1 ≤ size r.root
few_splits r m size lawful counted n nodes grown = omega (arith, grown_spare r m size lawful counted n nodes grown)
