-- The nodes of a search form a tree: each split puts two leaves below one leaf.
use Rattle.std.proofs.Common.{◌≡◌, ◌⊎◌, inl, inr, ℕ, zero, suc, ◌+◌, ◌*◌, ◌<◌, ◌≤◌, ℤ, Bool, true, false, cond, eqb, List, Some, None, length, slice_get, arith, sym, refl, ap, subst, ◌∙◌}
use Rattle.std.specs.Option.{ForSome}
use Rattle.std.proofs.lemmas.Bool.{cases_eq, eq-eqb, ne_eqb}
use Rattle.std.proofs.lemmas.Option.{slice_get_within, same_Some, none-some}
use Rattle.d_box.specs.declared.space.Space.{Space}
use Rattle.d_box.specs.declared.space.Split.{Split}
use Rattle.d_box.specs.Halves.{IsCut}
use Rattle.d_bill.specs.Inputs.{Inputs}
use Rattle.d_bound.specs.Roots.{AreCandidates, IsProblemBox}
use Rattle.d_bound.specs.BoxLaws.{IsUntiered}
use Rattle.d_search.specs.declared.tree.TreeNode.{TreeNode}
use Rattle.d_search.specs.Rules.{Rules}
use Rattle.d_search.specs.Trees.{leaf_of, split_node, left_leaf, right_leaf, IsSplitOnce, root_alone}
use Rattle.d_search.specs.Grown.{IsGrownBy}
use Rattle.d_search.specs.Problems.{rules_of, meaning_of}
use Rattle.d_search.specs.Shapes.{Shape, leaf_at, split_at, number_of, size_of, IsSplitNode, IsShapeOf, ComeBehind, SearchesFormTrees}
use Rattle.d_search.proofs.SplitFacts.{split_other, split_same, split_left, split_right, split_cases, length_split, key_parent}
use Rattle.d_search.proofs.GrownFacts.{root_only, boxes_made}
use Rattle.d_search.proofs.LawfulFacts.{cut_is, rules_lawful}
use Rattle.d_search.proofs.StoodFacts.{splits_of, grown_from_list}
use Rattle.d_search.proofs.SearchFacts.{searched_by}

-- 1 where both numbers are one, else 0
abbrev one : ℕ → ℕ → ℕ
one k n = cond (eqb k n) 1 0

one_same : (k n : ℕ) → k ≡ n → one k n ≡ 1
one_same k n e = ap (λ (b : Bool). cond b 1 0) (eq-eqb k n e)

one_other : (k n : ℕ) → (k ≡ n → ⊥) → one k n ≡ 0
one_other k n apart = ap (λ (b : Bool). cond b 1 0) (ne_eqb k n apart)

-- how often a number stands in a tree
abbrev occurs : ℕ → Shape → ℕ
occurs k (leaf_at n) = one k n
occurs k (split_at n left right) = one k n + (occurs k left + occurs k right)

-- the tree of a leaf that was split where it has the number, and is as before where it hasn't
abbrev grown_leaf : ℕ → ℕ → Bool → Shape
grown_leaf c n true = split_at n (leaf_at c) (leaf_at (c + 1))
grown_leaf c n false = leaf_at n

-- two leaves, the first of number c, are put below the leaf of number m
abbrev grow : ℕ → ℕ → Shape → Shape
grow m c (leaf_at n) = grown_leaf c n (eqb m n)
grow m c (split_at n left right) = split_at n (grow m c left) (grow m c right)

-- what holds of both kinds of leaves holds of the one that there is
by_leaf : (P : Shape → Type 0) (m c n : ℕ) → (m ≡ n → P (grown_leaf c n true)) → ((m ≡ n → ⊥) → P (grown_leaf c n false)) → P (grow m c (leaf_at n))
by_leaf P m c n same other = elim (cases_eq m n) [
  | inl e ↦ subst (λ (b : Bool). P (grown_leaf c n b)) (sym (eq-eqb m n e)) (same e)
  | inr e ↦ subst (λ (b : Bool). P (grown_leaf c n b)) (sym (ne_eqb m n e)) (other e)
]

number_grow : (m c : ℕ) (s : Shape) → number_of (grow m c s) ≡ number_of s
number_grow m c (leaf_at n) = by_leaf (λ (x : Shape). number_of x ≡ n) m c n (λ e. refl) (λ e. refl)
number_grow m c (split_at n left right) = refl

-- other numbers stand as often as before
occurs_grow : (m c k : ℕ) → (k ≡ c → ⊥) → (k ≡ c + 1 → ⊥) → (s : Shape) → occurs k (grow m c s) ≡ occurs k s
occurs_grow m c k first second (leaf_at n) =
    by_leaf (λ (x : Shape). occurs k x ≡ one k n) m c n (λ e. omega (arith, one_other k c first, one_other k (c + 1) second)) (λ e. refl)
occurs_grow m c k first second (split_at n left right) = omega (arith, occurs_grow m c k first second left, occurs_grow m c k first second right)

module _ (nodes : List TreeNode) (m : ℕ) (parent : TreeNode) (at : slice_get nodes m ≡ Some parent) (whole : parent.split ≡ None) where
  -- a node that wasn't split is no node with halves
  not_inner : (n left right : ℕ) → IsSplitNode nodes n left right → m ≡ n → ⊥
  not_inner n left right node e =
      let same : parent ≡ node.node = same_Some parent node.node (sym at ∙ (ap (slice_get nodes) e ∙ node.at)) in
      none-some node.split (sym whole ∙ (ap (λ (x : TreeNode). x.split) same ∙ node.where_split))

  -- a new number stands once where the leaf did
  occurs_new : (c k : ℕ) → (k ≡ c) ⊎ (k ≡ c + 1) → (s : Shape) → IsShapeOf nodes s → occurs k s ≡ 0 → occurs k (grow m c s) ≡ occurs m s
  occurs_new c k new (leaf_at n) shows absent =
      by_leaf (λ (x : Shape). occurs k x ≡ one m n) m c n (λ e. at_leaf e new) (λ e. absent ∙ sym (one_other m n e))
    where
      at_leaf : m ≡ n → (k ≡ c) ⊎ (k ≡ c + 1) → one k n + (one k c + one k (c + 1)) ≡ one m n
      at_leaf e (inl here) = omega (arith, absent, one_same m n e, one_same k c here, one_other k (c + 1) (λ h. let both : c ≡ c + 1 = sym here ∙ h in omega (arith, both)))
      at_leaf e (inr here) = omega (arith, absent, one_same m n e, one_same k (c + 1) here, one_other k c (λ h. let both : c ≡ c + 1 = sym h ∙ here in omega (arith, both)))
  occurs_new c k new (split_at n left right) shows absent =
      let in_left : occurs k left ≡ 0 = omega (arith, absent) in
      let in_right : occurs k right ≡ 0 = omega (arith, absent) in
      omega (
        arith,
        absent,
        one_other m n (not_inner n (number_of left) (number_of right) shows.0),
        occurs_new c k new left shows.1 in_left,
        occurs_new c k new right shows.2 in_right,
      )

  -- there are two nodes more wherever the leaf stood
  size_grow : (c : ℕ) (s : Shape) → IsShapeOf nodes s → size_of (grow m c s) ≡ size_of s + 2 * occurs m s
  size_grow c (leaf_at n) shows =
      by_leaf (λ (x : Shape). size_of x ≡ 1 + 2 * one m n) m c n (λ e. omega (arith, one_same m n e)) (λ e. omega (arith, one_other m n e))
  size_grow c (split_at n left right) shows =
      omega (arith, one_other m n (not_inner n (number_of left) (number_of right) shows.0), size_grow c left shows.1, size_grow c right shows.2)

module _ (r : Rules) (before after : List TreeNode) (s : IsSplitOnce r before after) where
  -- the new tree is that of the nodes after the split
  shows_grow : (t : Shape) → IsShapeOf before t → IsShapeOf after (grow s.key.node (length before) t)
  shows_grow (leaf_at n) shows =
      by_leaf (IsShapeOf after) s.key.node (length before) n
      (λ e. (
        record {
          node = split_node s.parent s.split (length before);
          at = ap (slice_get after) (sym e) ∙ split_same r before after s;
          split = s.split;
          where_split = refl;
          left_is = refl;
          right_is = refl;
        },
        record { node = left_leaf r s.parent s.split; at = split_left r before after s; whole = refl },
        record { node = right_leaf r s.parent s.split; at = split_right r before after s; whole = refl },
      ))
      (λ e. record { node = shows.node; at = split_other r before after s n shows.node (λ h. e (sym h)) shows.at; whole = shows.whole })
  shows_grow (split_at n left right) shows =
      let node = shows.0 in
      let apart : n ≡ s.key.node → ⊥ =
      (λ h. not_inner before s.key.node s.parent s.at (key_parent r before after s).0 n (number_of left) (number_of right) node (sym h)) in (
        record {
          node = node.node;
          at = split_other r before after s n node.node apart node.at;
          split = node.split;
          where_split = node.where_split;
          left_is = node.left_is ∙ sym (number_grow s.key.node (length before) left);
          right_is = node.right_is ∙ sym (number_grow s.key.node (length before) right);
        },
        shows_grow left shows.1,
        shows_grow right shows.2,
      )

-- the tree has each of the nodes once
record HasEach (nodes : List TreeNode) : Type 0 where
  shape : Shape
  first : number_of shape ≡ 0
  shows : IsShapeOf nodes shape
  all : size_of shape ≡ length nodes
  once : (k : ℕ) → k < length nodes → occurs k shape ≡ 1
  out : (k : ℕ) → length nodes ≤ k → occurs k shape ≡ 0

root_each : (r : Rules) (nodes : List TreeNode) → nodes ≡ root_alone r → HasEach nodes
root_each r nodes is =
    let long : length nodes ≡ 1 = ap length is in
    record {
      shape = leaf_at 0;
      first = refl;
      shows = record { node = leaf_of r r.root None; at = ap (λ (l : List TreeNode). slice_get l 0) is; whole = refl };
      all = sym long;
      once = λ k inside. one_same k 0 (omega (arith, long));
      out = λ k past. one_other k 0 (λ e. omega (arith, long));
    }

each_after : (r : Rules) (before after : List TreeNode) → IsSplitOnce r before after → HasEach before → HasEach after
each_after r before after s old = record {
  shape = grow n c old.shape;
  first = number_grow n c old.shape ∙ old.first;
  shows = shows_grow r before after s old.shape old.shows;
  all = omega (arith, long, old.all, old.once n within, size_grow before n s.parent s.at whole c old.shape old.shows);
  once = λ k inside. elim (cases_eq k c) [
    | inl e ↦ new k (inl e) (omega (arith, e))
    | inr first ↦ elim (cases_eq k (c + 1)) [
      | inl e ↦ new k (inr e) (omega (arith, e))
      | inr second ↦ occurs_grow n c k first second old.shape ∙ old.once k (below k inside first second)
    ]
  ];
  out = λ k past. occurs_grow n c k (λ e. omega (arith, long, e, past)) (λ e. omega (arith, long, e, past)) old.shape ∙ old.out k (omega (arith, long, past));
}
  where
    n : ℕ
    n = s.key.node

    c : ℕ
    c = length before

    long : length after ≡ length before + 2
    long = length_split r before after s

    within : n < length before
    within = slice_get_within before s.key.node s.parent s.at

    whole : s.parent.split ≡ None
    whole = (key_parent r before after s).0

    below : (k : ℕ) → k < length after → (k ≡ c → ⊥) → (k ≡ c + 1 → ⊥) → k < length before
    below k inside first second = omega (arith, long)

    new : (k : ℕ) → (k ≡ c) ⊎ (k ≡ c + 1) → length before ≤ k → occurs k (grow n c old.shape) ≡ 1
    new k is past = occurs_new before n s.parent s.at whole c k is old.shape old.shows (old.out k past) ∙ old.once n within

grown_each : (r : Rules) (n : ℕ) (nodes : List TreeNode) → IsGrownBy r n nodes → HasEach nodes
grown_each r zero nodes grown = root_each r nodes grown
grown_each r (suc n) nodes grown = each_after r grown.0 nodes grown.2 (grown_each r n grown.0 grown.1)

-- a node that was split was split where its box is, and its halves come behind it
record IsSplitWell (r : Rules) (nodes : List TreeNode) (n : ℕ) (x : TreeNode) : Type 0 where
  cut : ForSome x.split (λ split. r.split_of x.space ≡ Some split)
  halves : ForSome x.split (λ split. ComeBehind nodes n x)

leaf_well : (r : Rules) (nodes : List TreeNode) (n : ℕ) (space : Space) (x : TreeNode) → x.split ≡ None → IsSplitWell r nodes n x
leaf_well r nodes n space x whole =
    record { cut = λ split e. absurd (none-some split (sym whole ∙ e)); halves = λ split e. absurd (none-some split (sym whole ∙ e)) }

behind_longer : (before after : List TreeNode) (n : ℕ) (x : TreeNode) → length before ≤ length after → ComeBehind before n x → ComeBehind after n x
behind_longer before after n x long old = record {
  left = old.left;
  left_there = omega (arith, long, old.left_there);
  right = old.right;
  right_there = omega (arith, long, old.right_there);
}

grown_well : (r : Rules) (n : ℕ) (nodes : List TreeNode) → IsGrownBy r n nodes → (j : ℕ) (x : TreeNode) → slice_get nodes j ≡ Some x → IsSplitWell r nodes j x
grown_well r zero nodes grown = root_only r nodes grown (λ j x. IsSplitWell r nodes j x) (leaf_well r nodes 0 r.root (leaf_of r r.root None) refl)
grown_well r (suc n) nodes grown =
    let s = grown.2 in
    let all = grown_well r n grown.0 grown.1 in
    let long : length nodes ≡ length grown.0 + 2 = length_split r grown.0 nodes s in
    let within : s.key.node < length grown.0 = slice_get_within grown.0 s.key.node s.parent s.at in
    split_cases r grown.0 nodes s (λ j x. IsSplitWell r nodes j x)
    (λ j x other at. let old = all j x at in record {
      cut = old.cut;
      halves = λ split e. behind_longer grown.0 nodes j x (omega (arith, long)) (old.halves split e);
    })
    (record {
      cut = λ split e. s.some ∙ e;
      halves = λ split e. record { left = within; left_there = omega (arith, long); right = omega (arith, within); right_there = omega (arith, long) };
    })
    (leaf_well r nodes (length grown.0) r.root (left_leaf r s.parent s.split) refl)
    (leaf_well r nodes (length grown.0 + 1) r.root (right_leaf r s.parent s.split) refl)

cut_of : (i : Inputs) (lists : List (List ℤ)) → IsUntiered i → AreCandidates i lists → (x : TreeNode) (split : Split) → IsProblemBox lists x.space
    → (rules_of i lists).split_of x.space ≡ Some split → IsCut lists x.space split
unfolding rules_of
cut_of i lists untiered candidates x split box is = cut_is i lists untiered candidates x.space split box is

box_of : (i : Inputs) (lists : List (List ℤ)) → IsUntiered i → AreCandidates i lists → (n : ℕ) (nodes : List TreeNode) → IsGrownBy (rules_of i lists) n nodes
    → (j : ℕ) (x : TreeNode) → slice_get nodes j ≡ Some x → IsProblemBox lists x.space
box_of i lists untiered candidates n nodes grown j x at =
    (boxes_made (rules_of i lists) (meaning_of i lists) (rules_lawful i lists untiered candidates) n nodes grown j x at).box

pub searches_form : SearchesFormTrees
searches_form i budget o lists untiered candidates searched =
    let outcome = searched_by i lists budget o candidates searched in
    let r = rules_of i lists in
    let n = splits_of r o.tree outcome.grown in
    let grown = grown_from_list r o.tree outcome.grown in
    let each = grown_each r n o.tree grown in
    record {
      shape = each.shape;
      first = each.first;
      shows = each.shows;
      all = each.all;
      each = λ j x at.
          let box = box_of i lists untiered candidates n o.tree grown j x at in
          let well = grown_well r n o.tree grown j x at in
          record { box = box; cut = λ split e. cut_of i lists untiered candidates x split box (well.cut split e); halves = well.halves };
    }
