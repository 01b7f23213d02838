-- Keys of nodes, and what one split makes of the nodes.
use Rattle.std.proofs.Common.{◌≡◌, ◌≢◌, ℕ, ◌+◌, ℤ, List, ◌++◌, Option, Some, None, is_none, length, slice_get, slice_set, option_and_then, length-append, length-set, arith, sym, refl, ap, subst, ◌∙◌}
use Rattle.std.proofs.lemmas.Option.{slice_get_within, same_Some, none-some}
use Rattle.d_box.specs.declared.space.Space.{Space}
use Rattle.d_box.specs.declared.space.Split.{Split}
use Rattle.d_front.specs.declared.key.Key.{Key}
use Rattle.d_search.specs.declared.tree.TreeNode.{TreeNode}
use Rattle.d_search.specs.Rules.{Rules}
use Rattle.d_search.specs.Trees.{key_from, key_of, key_at, split_node, left_leaf, right_leaf, halves_of, after_split, IsSplitOnce}
use Rattle.d_search.proofs.PlaceFacts.{get_set_same, get_set_other, get_front, get_behind, after_cases}

-- the node that has a key: a leaf with a bound
pub record HasKey (r : Rules) (nodes : List TreeNode) (number : ℕ) (key : Key) : Type 0 where
  pub node : TreeNode
  pub at : slice_get nodes number ≡ Some node
  pub leaf : node.split ≡ None
  pub bound : node.node.bound ≡ Some key.bound
  pub point : key.point ≡ is_none (r.split_of node.space)
  pub same : key.node ≡ number

pub record IsKeyFrom (r : Rules) (number : ℕ) (space : Space) (split : Option Split) (bound : Option ℤ) (key : Key) : Type 0 where
  pub leaf : split ≡ None
  pub is_bound : bound ≡ Some key.bound
  pub point : key.point ≡ is_none (r.split_of space)
  pub same : key.node ≡ number

from_key : (r : Rules) (number : ℕ) (space : Space) (split : Option Split) (bound : Option ℤ) (key : Key)
    → key_from r number space split bound ≡ Some key → IsKeyFrom r number space split bound key
from_key r number space (Some split) bound key e = absurd (none-some key e)
from_key r number space None None key e = absurd (none-some key e)
from_key r number space None (Some bound) key e =
    let made : Key = record { bound = bound; point = is_none (r.split_of space); node = number } in
    let same : made ≡ key = same_Some made key e in
    record {
      leaf = refl;
      is_bound = ap (λ (k : Key). Some k.bound) same;
      point = sym (ap (λ (k : Key). k.point) same);
      same = sym (ap (λ (k : Key). k.node) same);
    }

pub key_parts : (r : Rules) (nodes : List TreeNode) (number : ℕ) (key : Key) → key_at r nodes number ≡ Some key → HasKey r nodes number key
key_parts r nodes number key e = by_node (slice_get nodes number) refl e
  where
    by_node : (o : Option TreeNode) → slice_get nodes number ≡ o → option_and_then (key_of r number) o ≡ Some key → HasKey r nodes number key
    by_node None at h = absurd (none-some key h)
    by_node (Some n) at h =
        let parts = from_key r number n.space n.split n.node.bound key h in
        record { node = n; at = at; leaf = parts.leaf; bound = parts.is_bound; point = parts.point; same = parts.same }

-- a leaf with a bound has a key
pub key_there : (r : Rules) (nodes : List TreeNode) (number : ℕ) (n : TreeNode) (bound : ℤ) → slice_get nodes number ≡ Some n → n.split ≡ None
    → n.node.bound ≡ Some bound → key_at r nodes number ≡ Some (record { bound = bound; point = is_none (r.split_of n.space); node = number })
key_there r nodes number n bound at leaf has = rw (at, leaf, has) refl

-- the node of a split is a leaf with the bound of its key
pub key_parent : (r : Rules) (before after : List TreeNode) (s : IsSplitOnce r before after)
    → (s.parent.split ≡ None) × (s.parent.node.bound ≡ Some s.key.bound)
key_parent r before after s =
    let has = key_parts r before s.key.node s.key s.first.here in
    let same : has.node ≡ s.parent = same_Some has.node s.parent (sym has.at ∙ s.at) in
    (subst (λ (n : TreeNode). n.split ≡ None) same has.leaf, subst (λ (n : TreeNode). n.node.bound ≡ Some s.key.bound) same has.bound)

-- what is true of each node after a split
pub split_cases : (r : Rules) (before after : List TreeNode) (s : IsSplitOnce r before after) (P : ℕ → TreeNode → Type 0)
    → ((j : ℕ) (n : TreeNode) → j ≢ s.key.node → slice_get before j ≡ Some n → P j n)
    → P s.key.node (split_node s.parent s.split (length before))
    → P (length before) (left_leaf r s.parent s.split)
    → P (length before + 1) (right_leaf r s.parent s.split)
    → (j : ℕ) (n : TreeNode) → slice_get after j ≡ Some n → P j n
split_cases r before after s P others parent left right j n h =
    after_cases P before s.key.node (split_node s.parent s.split (length before)) (left_leaf r s.parent s.split) (right_leaf r s.parent s.split)
    (slice_get_within before s.key.node s.parent s.at) others parent left right j n (subst (λ (l : List TreeNode). slice_get l j ≡ Some n) s.halves h)

pub length_after : (r : Rules) (nodes : List TreeNode) (number : ℕ) (n : TreeNode) (split : Split) → length (after_split r nodes number n split) ≡ length nodes + 2
length_after r nodes number n split = omega (
  arith,
  length-append (slice_set nodes number (split_node n split (length nodes))) (halves_of r n split),
  length-set nodes number (split_node n split (length nodes)),
)

pub length_split : (r : Rules) (before after : List TreeNode) → IsSplitOnce r before after → length after ≡ length before + 2
length_split r before after s = ap length s.halves ∙ length_after r before s.key.node s.parent s.split

module _ (r : Rules) (before after : List TreeNode) (s : IsSplitOnce r before after) where
  written : List TreeNode
  written = slice_set before s.key.node (split_node s.parent s.split (length before))

  long : length written ≡ length before
  unfolding written
  long = length-set before s.key.node (split_node s.parent s.split (length before))

  is_written : after ≡ written ++ halves_of r s.parent s.split
  unfolding written
  is_written = s.halves

  -- the other nodes stay
  pub split_other : (j : ℕ) (n : TreeNode) → j ≢ s.key.node → slice_get before j ≡ Some n → slice_get after j ≡ Some n
  unfolding written
  split_other j n other at =
      ap (λ (l : List TreeNode). slice_get l j) is_written
      ∙ (get_front written (halves_of r s.parent s.split) j (omega (arith, long, slice_get_within before j n at))
      ∙ (get_set_other before s.key.node j (split_node s.parent s.split (length before)) other ∙ at))

  -- the node was split
  pub split_same : slice_get after s.key.node ≡ Some (split_node s.parent s.split (length before))
  unfolding written
  split_same =
      let inside = slice_get_within before s.key.node s.parent s.at in
      ap (λ (l : List TreeNode). slice_get l s.key.node) is_written
      ∙ (get_front written (halves_of r s.parent s.split) s.key.node (omega (arith, long, inside))
      ∙ get_set_same before s.key.node (split_node s.parent s.split (length before)) inside)

  -- its halves follow
  pub split_left : slice_get after (length before) ≡ Some (left_leaf r s.parent s.split)
  split_left = ap (λ (l : List TreeNode). slice_get l (length before)) is_written ∙ get_behind written (halves_of r s.parent s.split) (length before) 0 (omega (arith, long))

  pub split_right : slice_get after (length before + 1) ≡ Some (right_leaf r s.parent s.split)
  split_right = ap (λ (l : List TreeNode). slice_get l (length before + 1)) is_written ∙ get_behind written (halves_of r s.parent s.split) (length before + 1) 1 (omega (arith, long))
