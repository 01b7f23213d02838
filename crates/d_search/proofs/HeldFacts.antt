-- Each feasible schedule is held by a leaf, so that the first leaf's bound isn't above its bill.
use Rattle.std.proofs.Common.{◌≡◌, ◌⊎◌, inl, inr, ℕ, zero, suc, ◌+◌, ℤ, ◌≤ℤ◌, List, Option, Some, None, is_none, length, slice_get, arith, sym, refl, ap, subst, ◌∙◌}
use Rattle.std.proofs.lemmas.Bool.{cases_eq}
use Rattle.std.proofs.lemmas.Option.{same_Some}
use Rattle.std.proofs.lemmas.Int.{ints}
use Rattle.d_bound.specs.BoxLaws.{IsAtMost}
use Rattle.d_front.specs.declared.key.Key.{Key}
use Rattle.d_search.specs.declared.tree.TreeNode.{TreeNode}
use Rattle.d_search.specs.Rules.{Rules, Meaning, IsLawful}
use Rattle.d_search.specs.Trees.{key_at, IsFirstLeaf, leaf_of, left_leaf, right_leaf, IsSplitOnce}
use Rattle.d_search.specs.Grown.{IsGrownBy}
use Rattle.d_search.specs.Promises.{IsBound}
use Rattle.d_search.proofs.OrderFacts.{key_bound}
use Rattle.d_search.proofs.SplitFacts.{key_there, split_other, split_left, split_right}
use Rattle.d_search.proofs.GrownFacts.{boxes_made}

-- a leaf that holds the schedule
pub record IsHeld (m : Meaning) (nodes : List TreeNode) (z : List ℕ) : Type 0 where
  pub number : ℕ
  pub leaf : TreeNode
  pub at : slice_get nodes number ≡ Some leaf
  pub is_leaf : leaf.split ≡ None
  pub holds : m.holds leaf.space z

-- after a split a half holds what its node held
held_after : (r : Rules) (m : Meaning) (before after : List TreeNode) (s : IsSplitOnce r before after) (z : List ℕ)
    → (m.holds s.parent.space z → m.holds (r.left_half s.parent.space s.split) z ⊎ m.holds (r.right_half s.parent.space s.split) z)
    → IsHeld m before z → IsHeld m after z
held_after r m before after s z halves old = elim (cases_eq old.number s.key.node) [
  | inl same ↦ by_half (halves (subst (λ (x : TreeNode). m.holds x.space z) (parent_is same) old.holds))
  | inr other ↦ record {
    number = old.number;
    leaf = old.leaf;
    at = split_other r before after s old.number old.leaf other old.at;
    is_leaf = old.is_leaf;
    holds = old.holds;
  }
]
  where
    parent_is : old.number ≡ s.key.node → old.leaf ≡ s.parent
    parent_is same = same_Some old.leaf s.parent (sym old.at ∙ (ap (slice_get before) same ∙ s.at))

    by_half : m.holds (r.left_half s.parent.space s.split) z ⊎ m.holds (r.right_half s.parent.space s.split) z → IsHeld m after z
    by_half (inl left) = record {
      number = length before;
      leaf = left_leaf r s.parent s.split;
      at = split_left r before after s;
      is_leaf = refl;
      holds = left;
    }
    by_half (inr right) = record {
      number = length before + 1;
      leaf = right_leaf r s.parent s.split;
      at = split_right r before after s;
      is_leaf = refl;
      holds = right;
    }

pub grown_holds : (r : Rules) (m : Meaning) → IsLawful r m → (n : ℕ) (nodes : List TreeNode) → IsGrownBy r n nodes
    → (z : List ℕ) → m.feasible z → IsHeld m nodes z
grown_holds r m lawful zero nodes grown z feasible = record {
  number = 0;
  leaf = leaf_of r r.root None;
  at = ap (λ (l : List TreeNode). slice_get l 0) grown;
  is_leaf = refl;
  holds = lawful.root_holds z feasible;
}
grown_holds r m lawful (suc n) nodes grown z feasible =
    let s = grown.2 in
    let made = boxes_made r m lawful n grown.0 grown.1 s.key.node s.parent s.at in
    held_after r m grown.0 nodes s z ((lawful.splits s.parent.space s.split made.box s.some).held z feasible)
    (grown_holds r m lawful n grown.0 grown.1 z feasible)

-- a leaf's key whose bound isn't above a bill
pub record IsKeyBelow (r : Rules) (nodes : List TreeNode) (bill : ℤ) : Type 0 where
  pub number : ℕ
  pub key : Key
  pub here : key_at r nodes number ≡ Some key
  pub below : key.bound ≤ℤ bill

pub leaf_below : (r : Rules) (m : Meaning) → IsLawful r m → (n : ℕ) (nodes : List TreeNode) → IsGrownBy r n nodes
    → (z : List ℕ) → m.feasible z → IsKeyBelow r nodes (m.bill_of z)
leaf_below r m lawful n nodes grown z feasible = by_bound held.leaf.node.bound refl below
  where
    held : IsHeld m nodes z
    held = grown_holds r m lawful n nodes grown z feasible

    below : IsAtMost held.leaf.node.bound (Some (m.bill_of z))
    below =
        let made = boxes_made r m lawful n nodes grown held.number held.leaf held.at in
        subst (λ node. IsAtMost node.bound (Some (m.bill_of z))) (sym made.node)
        ((lawful.nodes held.leaf.space made.parent made.box).below z feasible held.holds)

    by_bound : (bound : Option ℤ) → held.leaf.node.bound ≡ bound → IsAtMost bound (Some (m.bill_of z)) → IsKeyBelow r nodes (m.bill_of z)
    by_bound None has le = absurd le
    by_bound (Some bound) has le = record {
      number = held.number;
      key = record { bound = bound; point = is_none (r.split_of held.leaf.space); node = held.number };
      here = key_there r nodes held.number held.leaf bound held.at held.is_leaf has;
      below = le;
    }

-- so the first leaf's bound is one of all feasible schedules
pub first_is_bound : (r : Rules) (m : Meaning) → IsLawful r m → (n : ℕ) (nodes : List TreeNode) → IsGrownBy r n nodes
    → (key : Key) → IsFirstLeaf r nodes key → IsBound m key.bound
first_is_bound r m lawful n nodes grown key first z feasible =
    let low = leaf_below r m lawful n nodes grown z feasible in
    let le = key_bound key low.key (first.least low.number low.key low.here) in
    let below = low.below in
    omega (arith, ints)
