-- One split of the first leaf, as the code makes it: the node is marked, and its halves are put behind.
use Rattle.std.proofs.Common.{◌≡◌, ℕ, zero, suc, ◌<◌, List, [], ◌∷◌, ◌++◌, Option, Some, None, IsSome, MatchOption, is_none, false, length, slice_get, slice_set, slice_index_or, option_and_then, append_assoc, sym, refl, ap, ◌∙◌}
use Rattle.std.proofs.lemmas.Bool.{true≢false}
use Rattle.std.proofs.lemmas.Option.{slice_get_within, same_Some, none-some}
use Rattle.d_box.specs.declared.space.Space.{Space}
use Rattle.d_box.specs.declared.space.Split.{Split}
use Rattle.d_front.specs.declared.key.Key.{Key}
use Rattle.d_search.specs.declared.tree.TreeNode.{TreeNode}
use Rattle.d_search.specs.Rules.{Rules, IsBelow}
use Rattle.d_search.specs.Trees.{key_of, key_at, bill_at, leaf_of, split_node, left_leaf, right_leaf, IsFirstLeaf, IsSplitOnce}
use Rattle.d_search.specs.Growths.{IsHalved}
use Rattle.d_search.proofs.SplitFacts.{key_parts}

-- what is read at a place that is there
read_is : {X : Type 0} (xs : List X) (k : ℕ) (x d : X) → slice_get xs k ≡ Some x → slice_index_or xs k d ≡ x
read_is [] k x d at = absurd (none-some x at)
read_is (y ∷ ys) zero x d at = same_Some y x at
read_is (y ∷ ys) (suc k) x d at = read_is ys k x d at

module _ (r : Rules) (nodes : List TreeNode) (key : Key) (n : TreeNode) (here : key_at r nodes key.node ≡ Some key) (read : n ≡ slice_index_or nodes key.node n) where
  -- the node that is read is that of the key
  pub parent_at : slice_get nodes key.node ≡ Some n
  parent_at = let has = key_parts r nodes key.node key here in has.at ∙ ap Some (sym (read ∙ read_is nodes key.node has.node n has.at))

  pub parent_inside : key.node < length nodes
  parent_inside = slice_get_within nodes key.node n parent_at

  pub parent_key : key_of r key.node n ≡ Some key
  parent_key = sym (ap (option_and_then (key_of r key.node)) parent_at) ∙ here

  parent_point : key.point ≡ is_none (r.split_of n.space)
  parent_point =
      let has = key_parts r nodes key.node key here in
      has.point ∙ ap (λ (m : TreeNode). is_none (r.split_of m.space)) (same_Some has.node n (sym has.at ∙ parent_at))

  -- it can be split where its key isn't that of a point
  pub parent_splits : (found : Option Split) (left right : Space) → key.point ≡ false
      → MatchOption found (r.split_of n.space ≡ None) (λ split. IsHalved r n.space split left right) → IsSome found
  parent_splits None left right apart none = absurd (true≢false (sym (ap is_none none) ∙ (sym parent_point ∙ apart)))
  parent_splits (Some split) left right apart halved = refl

-- the half is a leaf whose parent has the slopes of the node
left_made : (r : Rules) (n : TreeNode) (split : Split) (left right : Space) → IsHalved r n.space split left right
    → leaf_of r left (Some n.node.slopes) ≡ left_leaf r n split
left_made r n split left right halved = ap (λ (space : Space). leaf_of r space (Some n.node.slopes)) halved.left_is

right_made : (r : Rules) (n : TreeNode) (split : Split) (left right : Space) → IsHalved r n.space split left right
    → leaf_of r right (Some n.node.slopes) ≡ right_leaf r n split
right_made r n split left right halved = ap (λ (space : Space). leaf_of r space (Some n.node.slopes)) halved.right_is

-- the nodes after both halves were put behind
pub split_made : (r : Rules) (before marked middle after : List TreeNode) (key : Key) (n : TreeNode) (split : Split) (left right : Space)
    → IsFirstLeaf r before key → ((number : ℕ) → IsBelow (Some key.bound) (bill_at before number)) → slice_get before key.node ≡ Some n
    → IsHalved r n.space split left right → marked ≡ slice_set before key.node (split_node n split (length before))
    → middle ≡ marked ++ leaf_of r left (Some n.node.slopes) ∷ [] → after ≡ middle ++ leaf_of r right (Some n.node.slopes) ∷ [] → IsSplitOnce r before after
split_made r before marked middle after key n split left right first below at halved is_marked is_middle is_after =
    let one = leaf_of r left (Some n.node.slopes) in
    let two = leaf_of r right (Some n.node.slopes) in
    let joined : after ≡ marked ++ one ∷ two ∷ [] = is_after ∙ (ap (λ (l : List TreeNode). l ++ two ∷ []) is_middle ∙ append_assoc marked (one ∷ []) (two ∷ [])) in
    record {
      key = key;
      first = first;
      below = below;
      parent = n;
      at = at;
      split = split;
      some = halved.some;
      halves = joined ∙ (ap (λ (l : List TreeNode). l ++ one ∷ two ∷ []) is_marked
          ∙ (ap (λ (x : TreeNode). slice_set before key.node (split_node n split (length before)) ++ x ∷ two ∷ []) (left_made r n split left right halved)
          ∙ ap (λ (x : TreeNode). slice_set before key.node (split_node n split (length before)) ++ left_leaf r n split ∷ x ∷ []) (right_made r n split left right halved)));
    }
