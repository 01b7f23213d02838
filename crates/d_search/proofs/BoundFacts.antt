-- How the bounds of a grown tree go: they never fall to a half, and no node that was split has a bound above a leaf's.
use Rattle.std.proofs.Common.{◌≡◌, inl, inr, ℕ, zero, suc, ◌<◌, ℤ, List, [], ◌∷◌, Option, Some, None, length, slice_get, option_and_then, arith, sym, refl, ap, subst, ◌∙◌}
use Rattle.std.proofs.lemmas.Bool.{cases_eq}
use Rattle.std.proofs.lemmas.Option.{none-some}
use Rattle.d_box.specs.declared.space.Split.{Split}
use Rattle.d_bound.specs.BoxLaws.{IsAtMost}
use Rattle.d_search.specs.declared.tree.TreeNode.{TreeNode}
use Rattle.d_search.specs.Rules.{Rules, Meaning, IsLawful}
use Rattle.d_search.specs.Trees.{bound_in, bound_at, split_node, left_leaf, right_leaf, IsSplitOnce}
use Rattle.d_search.specs.Grown.{IsGrownBy}
use Rattle.d_search.specs.Promises.{IsBelowHalves, BoundsNeverFall, SplitsAreBelowLeaves}
use Rattle.d_search.proofs.OrderFacts.{at_most_none, at_most_refl, at_most_trans, key_bound}
use Rattle.d_search.proofs.SplitFacts.{key_there, key_parent, split_cases, split_other, split_same, split_left, split_right}
use Rattle.d_search.proofs.GrownFacts.{root_only, boxes_made, grown_numbered, IsNumbered, split_rises}

pub got_at : (nodes : List TreeNode) (i : ℕ) → i < length nodes → (n : TreeNode) × (slice_get nodes i ≡ Some n)
got_at [] i inside = absurd (omega arith)
got_at (n ∷ nodes) zero inside = (n, refl)
got_at (n ∷ nodes) (suc i) inside = got_at nodes i (omega arith)

module _ (r : Rules) (before after : List TreeNode) (s : IsSplitOnce r before after) where
  -- a split changes no bound
  pub same_bound : (i : ℕ) → i < length before → bound_at after i ≡ bound_at before i
  same_bound i inside = elim (cases_eq i s.key.node) [
    | inl same ↦ ap (bound_at after) same ∙ (ap (option_and_then bound_in) (split_same r before after s)
        ∙ (sym (ap (option_and_then bound_in) s.at) ∙ sym (ap (bound_at before) same)))
    | inr other ↦ let got = got_at before i inside in
        ap (option_and_then bound_in) (split_other r before after s i got.0 other got.1) ∙ sym (ap (option_and_then bound_in) got.1)
  ]

  -- what holds of a node's halves holds after the split of another
  stays_below : (x : TreeNode) → IsNumbered before x → IsBelowHalves before x → IsBelowHalves after x
  stays_below x inside below = record {
    left = subst (IsAtMost x.node.bound) (sym (same_bound x.left inside.left)) below.left;
    right = subst (IsAtMost x.node.bound) (sym (same_bound x.right inside.right)) below.right;
  }

  -- and the node that was split isn't above its halves, where they rise
  split_below : IsAtMost s.parent.node.bound (left_leaf r s.parent s.split).node.bound × IsAtMost s.parent.node.bound (right_leaf r s.parent s.split).node.bound
      → IsBelowHalves after (split_node s.parent s.split (length before))
  split_below rises = record {
    left = subst (IsAtMost s.parent.node.bound) (sym (ap (option_and_then bound_in) (split_left r before after s))) rises.0;
    right = subst (IsAtMost s.parent.node.bound) (sym (ap (option_and_then bound_in) (split_right r before after s))) rises.1;
  }

-- a leaf isn't split
leaf_not_split : (n : TreeNode) (split : Split) → n.split ≡ None → n.split ≡ Some split → ⊥
leaf_not_split n split leaf some = none-some split (sym leaf ∙ some)

pub grown_halves : (r : Rules) (m : Meaning) → IsLawful r m → (n : ℕ) (nodes : List TreeNode) → IsGrownBy r n nodes → BoundsNeverFall nodes
grown_halves r m lawful zero nodes grown j x split at some =
    root_only r nodes grown (λ j x. (split : Split) → x.split ≡ Some split → IsBelowHalves nodes x) (λ split e. absurd (none-some split e)) j x at split some
grown_halves r m lawful (suc n) nodes grown j x split at some =
    let s = grown.2 in
    let made = boxes_made r m lawful n grown.0 grown.1 s.key.node s.parent s.at in
    let old : BoundsNeverFall grown.0 = grown_halves r m lawful n grown.0 grown.1 in
    split_cases r grown.0 nodes s (λ j x. (split : Split) → x.split ≡ Some split → IsBelowHalves nodes x)
    (λ j x other at split some. stays_below r grown.0 nodes s x (grown_numbered r n grown.0 grown.1 j x at) (old j x split at some))
    (λ split some. split_below r grown.0 nodes s (split_rises r m lawful s.parent s.split made s.some))
    (λ split e. absurd (none-some split e)) (λ split e. absurd (none-some split e)) j x at split some

-- the first leaf's bound isn't above another's
parent_first : (r : Rules) (before after : List TreeNode) (s : IsSplitOnce r before after) (j : ℕ) (leaf : TreeNode)
    → slice_get before j ≡ Some leaf → leaf.split ≡ None → IsAtMost s.parent.node.bound leaf.node.bound
parent_first r before after s j leaf at is_leaf = by_bound leaf.node.bound refl
  where
    by_bound : (bound : Option ℤ) → leaf.node.bound ≡ bound → IsAtMost s.parent.node.bound bound
    by_bound None none = at_most_none s.parent.node.bound
    by_bound (Some bound) has =
        subst (λ (b : Option ℤ). IsAtMost b (Some bound)) (sym (key_parent r before after s).1)
        (key_bound s.key (record { bound = bound; point = _; node = j }) (s.first.least j _ (key_there r before j leaf bound at is_leaf has)))

-- no node that was split has a bound above this
abbrev SplitsAreBelow : List TreeNode → Option ℤ → Type 0
SplitsAreBelow nodes bound = (j : ℕ) (x : TreeNode) (split : Split) → slice_get nodes j ≡ Some x → x.split ≡ Some split → IsAtMost x.node.bound bound

-- after a split none has one above that of the node that was split
below_parent : (r : Rules) (before after : List TreeNode) (s : IsSplitOnce r before after) → SplitsAreBelowLeaves before
    → SplitsAreBelow after s.parent.node.bound
below_parent r before after s old j x split at some =
    split_cases r before after s (λ j x. (split : Split) → x.split ≡ Some split → IsAtMost x.node.bound s.parent.node.bound)
    (λ j x other at split some. old j x split s.key.node s.parent at some s.at (key_parent r before after s).0)
    (λ split some. at_most_refl s.parent.node.bound) (λ split e. absurd (none-some split e)) (λ split e. absurd (none-some split e)) j x at split some

rises_after : (r : Rules) (before after : List TreeNode) (s : IsSplitOnce r before after)
    → IsAtMost s.parent.node.bound (left_leaf r s.parent s.split).node.bound × IsAtMost s.parent.node.bound (right_leaf r s.parent s.split).node.bound
    → SplitsAreBelowLeaves before → SplitsAreBelowLeaves after
rises_after r before after s rises old j x split k leaf at some there is_leaf =
    at_most_trans x.node.bound s.parent.node.bound leaf.node.bound (below_parent r before after s old j x split at some)
    (split_cases r before after s (λ k y. y.split ≡ None → IsAtMost s.parent.node.bound y.node.bound)
    (λ k y other at leaf. parent_first r before after s k y at leaf) (λ e. absurd (none-some s.split (sym e))) (λ e. rises.0) (λ e. rises.1)
    k leaf there is_leaf)

pub grown_rises : (r : Rules) (m : Meaning) → IsLawful r m → (n : ℕ) (nodes : List TreeNode) → IsGrownBy r n nodes → SplitsAreBelowLeaves nodes
grown_rises r m lawful zero nodes grown j x split k leaf at some there is_leaf =
    absurd (root_only r nodes grown (λ j x. (split : Split) → x.split ≡ Some split → ⊥) (λ split e. none-some split e) j x at split some)
grown_rises r m lawful (suc n) nodes grown j x split k leaf at some there is_leaf =
    let s = grown.2 in
    let made = boxes_made r m lawful n grown.0 grown.1 s.key.node s.parent s.at in
    rises_after r grown.0 nodes s (split_rises r m lawful s.parent s.split made s.some) (grown_rises r m lawful n grown.0 grown.1)
    j x split k leaf at some there is_leaf
