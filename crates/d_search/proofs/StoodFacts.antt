-- Trees as they stood: both forms of a grown tree are the same.
use Rattle.std.proofs.Common.{◌≡◌, inl, inr, ℕ, zero, suc, ◌+◌, ◌-◌, ◌*◌, ◌<◌, ◌≤◌, List, [], ◌∷◌, Some, Bool, true, false, cond, ltb, length, map, take, take_all, slice_get, slice_set, length-set, le-ltb, lt-ltb, arith, sym, refl, ap, ap₂, subst, ◌∙◌}
use Rattle.std.proofs.lemmas.Bool.{cases_lt}
use Rattle.std.proofs.lemmas.List.{take-append-le}
use Rattle.std.proofs.lemmas.Option.{same_Some, none-some}
use Rattle.d_box.specs.declared.space.Split.{Split}
use Rattle.d_search.specs.declared.tree.TreeNode.{TreeNode}
use Rattle.d_search.specs.Rules.{Rules}
use Rattle.d_search.specs.Trees.{split_node, halves_of, IsSplitOnce}
use Rattle.d_search.specs.Grown.{as_leaf, stood_at, stood, IsGrownList, IsGrownBy, IsGrown}
use Rattle.d_search.proofs.SplitFacts.{key_parent}
use Rattle.d_search.proofs.GrownFacts.{grown_length, grown_numbered}

-- a node whose left half is among those counted stands as it is
stood_here : (count : ℕ) (n : TreeNode) → n.left < count → stood_at count n ≡ n
stood_here count n below = ap (λ (b : Bool). cond b n (as_leaf n)) (lt-ltb n.left count below)

all_stand : (count : ℕ) (nodes : List TreeNode) → ((j : ℕ) (n : TreeNode) → slice_get nodes j ≡ Some n → n.left < count)
    → map (stood_at count) nodes ≡ nodes
all_stand count [] all = refl
all_stand count (n ∷ nodes) all = ap₂ (λ (x : TreeNode) (l : List TreeNode). x ∷ l) (stood_here count n (all 0 n refl)) (all_stand count nodes (λ j x at. all (suc j) x at))

-- a grown tree stands as it is
pub grown_whole : (r : Rules) (n : ℕ) (nodes : List TreeNode) → IsGrownBy r n nodes → stood (length nodes) nodes ≡ nodes
grown_whole r n nodes grown =
    ap (map (stood_at (length nodes))) (take_all (length nodes) nodes (omega arith))
    ∙ all_stand (length nodes) nodes (λ j x at. (grown_numbered r n nodes grown j x at).left)

-- where a node that is written stands as the one before it did, all stand as before
stood_written : {X Y : Type 0} (f : X → Y) (count : ℕ) (xs : List X) (i : ℕ) (x y : X) → slice_get xs i ≡ Some x → f y ≡ f x
    → map f (take count (slice_set xs i y)) ≡ map f (take count xs)
stood_written f count [] i x y at same = absurd (none-some x at)
stood_written f zero (z ∷ xs) zero x y at same = refl
stood_written f zero (z ∷ xs) (suc i) x y at same = refl
stood_written f (suc count) (z ∷ xs) zero x y at same = ap (λ w. w ∷ map f (take count xs)) (same ∙ sym (ap f (same_Some z x at)))
stood_written f (suc count) (z ∷ xs) (suc i) x y at same = ap (λ l. f z ∷ l) (stood_written f count xs i x y at same)

-- a node that was split later was a leaf
was_leaf : (count made : ℕ) (n : TreeNode) (split : Split) → count ≤ made → as_leaf n ≡ n → stood_at count (split_node n split made) ≡ stood_at count n
was_leaf count made n split before leaf =
    ap (λ (b : Bool). cond b (split_node n split made) (as_leaf n)) (le-ltb made count before) ∙ (leaf ∙ sym (either (ltb n.left count)))
  where
    either : (b : Bool) → cond b n (as_leaf n) ≡ n
    either true = refl
    either false = leaf

-- the nodes before a split stood as they stood then
stood_before : (r : Rules) (before after : List TreeNode) (s : IsSplitOnce r before after) → as_leaf s.parent ≡ s.parent
    → (count : ℕ) → count ≤ length before → stood count after ≡ stood count before
stood_before r before after s leaf count within =
    ap (stood count) s.halves
    ∙ (ap (map (stood_at count)) (take-append-le count written (halves_of r s.parent s.split) (omega (arith, length-set before s.key.node (split_node s.parent s.split (length before)))))
    ∙ stood_written (stood_at count) count before s.key.node s.parent (split_node s.parent s.split (length before)) s.at (was_leaf count (length before) s.parent s.split within leaf))
  where
    written : List TreeNode
    written = slice_set before s.key.node (split_node s.parent s.split (length before))

-- a list that was grown came of splits, as far as it stood
part_from_list : (r : Rules) (nodes : List TreeNode) → IsGrownList r nodes → (n : ℕ) → 2 * n < length nodes → IsGrownBy r n (stood (2 * n + 1) nodes)
part_from_list r nodes grown zero within = grown.root
part_from_list r nodes grown (suc n) within = (
  stood (2 * n + 1) nodes,
  part_from_list r nodes grown n (omega arith),
  subst (λ (count : ℕ). IsSplitOnce r (stood count nodes) (stood (2 * suc n + 1) nodes)) count_is (grown.pairs (suc n) (omega arith) within),
)
  where
    count_is : 2 * suc n - 1 ≡ 2 * n + 1
    count_is = omega arith

-- the splits of a list
pub splits_of : (r : Rules) (nodes : List TreeNode) → IsGrownList r nodes → ℕ
splits_of r nodes grown = grown.odd.0

pub grown_from_list : (r : Rules) (nodes : List TreeNode) (grown : IsGrownList r nodes) → IsGrownBy r (splits_of r nodes grown) nodes
unfolding splits_of
grown_from_list r nodes grown =
    subst (IsGrownBy r grown.odd.0) (ap (λ (count : ℕ). stood count nodes) (sym grown.odd.1) ∙ grown.whole)
    (part_from_list r nodes grown grown.odd.0 (omega (arith, grown.odd.1)))

-- one more split makes a grown list of a grown list
list_after : (r : Rules) (n : ℕ) (before after : List TreeNode) (s : IsSplitOnce r before after) → IsGrownBy r n before → IsGrownBy r (suc n) after
    → IsGrownList r before → IsGrownList r after
list_after r n before after s by_before by_after old = record {
  odd = (suc n, long);
  root = stays 1 (omega (arith, short)) ∙ old.root;
  pairs = pairs;
  whole = grown_whole r (suc n) after by_after;
}
  where
    short : length before ≡ 2 * n + 1
    short = grown_length r n before by_before

    long : length after ≡ 2 * suc n + 1
    long = grown_length r (suc n) after by_after

    leaf : as_leaf s.parent ≡ s.parent
    leaf = (grown_numbered r n before by_before s.key.node s.parent s.at).leaf (key_parent r before after s).0

    stays : (count : ℕ) → count ≤ length before → stood count after ≡ stood count before
    stays = stood_before r before after s leaf

    last : (pair : ℕ) → 2 * pair - 1 ≡ length before → 2 * pair + 1 ≡ length after → IsSplitOnce r (stood (2 * pair - 1) after) (stood (2 * pair + 1) after)
    last pair was is_now =
        subst (λ (l : List TreeNode). IsSplitOnce r l (stood (2 * pair + 1) after))
        (sym (ap (λ (count : ℕ). stood count after) was ∙ (stays (length before) (omega arith) ∙ grown_whole r n before by_before)))
        (subst (IsSplitOnce r before) (sym (ap (λ (count : ℕ). stood count after) is_now ∙ grown_whole r (suc n) after by_after)) s)

    earlier : (pair : ℕ) → 2 * pair + 1 ≤ length before → IsSplitOnce r (stood (2 * pair - 1) before) (stood (2 * pair + 1) before)
        → IsSplitOnce r (stood (2 * pair - 1) after) (stood (2 * pair + 1) after)
    earlier pair within old_pair =
        subst (λ (l : List TreeNode). IsSplitOnce r l (stood (2 * pair + 1) after)) (sym (stays (2 * pair - 1) (omega arith)))
        (subst (IsSplitOnce r (stood (2 * pair - 1) before)) (sym (stays (2 * pair + 1) within)) old_pair)

    pairs : (pair : ℕ) → 1 ≤ pair → 2 * pair < length after → IsSplitOnce r (stood (2 * pair - 1) after) (stood (2 * pair + 1) after)
    pairs pair some within = elim (cases_lt n pair) [
      | inl new ↦ last pair (omega (arith, short, long)) (omega (arith, short, long))
      | inr before ↦ earlier pair (omega (arith, short)) (old.pairs pair some (omega (arith, short)))
    ]

pub list_from_grown : (r : Rules) (n : ℕ) (nodes : List TreeNode) → IsGrownBy r n nodes → IsGrownList r nodes
list_from_grown r zero nodes grown = record {
  odd = (0, ap length grown);
  root = ap (stood 1) grown;
  pairs = λ pair some within. absurd (none pair some within);
  whole = grown_whole r zero nodes grown;
}
  where
    none : (pair : ℕ) → 1 ≤ pair → 2 * pair < length nodes → ⊥
    none pair some within = omega (arith, grown_length r zero nodes grown)
list_from_grown r (suc n) nodes grown = list_after r n grown.0 nodes grown.2 grown.1 grown (list_from_grown r n grown.0 grown.1)

-- both forms are the same
pub is_grown : (r : Rules) (nodes : List TreeNode) → IsGrownList r nodes → IsGrown r nodes
is_grown r nodes grown = (splits_of r nodes grown, grown_from_list r nodes grown)

pub is_grown_list : (r : Rules) (nodes : List TreeNode) → IsGrown r nodes → IsGrownList r nodes
is_grown_list r nodes grown = list_from_grown r grown.0 nodes grown.1
