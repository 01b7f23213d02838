-- What is kept while nodes are made and marked: the least bill with its schedule, and that each node is of a problem's box.
use Rattle.std.proofs.Common.{◌≡◌, inl, inr, ℕ, ◌<◌, ℤ, List, [], ◌∷◌, ◌++◌, Option, Some, None, IfSome, length, slice_get, slice_set, option_and_then, length-append, arith, sym, refl, ap, subst, ◌∙◌}
use Rattle.std.proofs.lemmas.Bool.{cases_lt, cases_eq}
use Rattle.std.proofs.lemmas.Int.{ints}
use Rattle.std.proofs.lemmas.Option.{slice_get_within, slice_get_past, same_Some}
use Rattle.d_box.specs.declared.space.Split.{Split}
use Rattle.d_bound.specs.BoxLaws.{IsAtMost}
use Rattle.d_bound.specs.Roots.{IsProblemBox}
use Rattle.d_search.specs.declared.tree.TreeNode.{TreeNode}
use Rattle.d_search.specs.Rules.{Rules, IsBelow}
use Rattle.d_search.specs.Trees.{bill_in, bill_at, split_node}
use Rattle.d_search.specs.Outcomes.{IsEarliestLeast, IsKept}
use Rattle.d_search.specs.Growths.{IsKeptSoFar, AreBoxed, HasKept}
use Rattle.d_search.proofs.OrderFacts.{at_most_refl, below_at_most}
use Rattle.d_search.proofs.PlaceFacts.{get_set_same, get_set_other, get_front, get_behind}

-- what is true of each bill after one more node
added_cases : (P : ℕ → Option ℤ → Type 0) (nodes : List TreeNode) (n : TreeNode) → ((j : ℕ) → j < length nodes → P j (bill_at nodes j))
    → P (length nodes) (bill_in n) → ((j : ℕ) → length nodes < j → P j None) → (j : ℕ) → P j (bill_at (nodes ++ n ∷ []) j)
added_cases P nodes n front here past j = elim (cases_lt j (length nodes)) [
  | inl inside ↦ subst (P j) (sym (ap (option_and_then bill_in) (get_front nodes (n ∷ []) j inside))) (front j inside)
  | inr behind ↦ elim (cases_eq j (length nodes)) [
    | inl same ↦ subst (P j) (sym (ap (option_and_then bill_in) (get_behind nodes (n ∷ []) j 0 (omega arith)))) (subst (λ (k : ℕ). P k (bill_in n)) (sym same) here)
    | inr other ↦ subst (P j) (sym (ap (option_and_then bill_in) (slice_get_past (nodes ++ n ∷ []) j (omega (arith, length-append nodes (n ∷ []))))))
        (past j (omega arith))
  ]
]

-- the bill of the node that was put behind
bill_added : (nodes : List TreeNode) (n : TreeNode) → bill_at (nodes ++ n ∷ []) (length nodes) ≡ bill_in n
bill_added nodes n = ap (option_and_then bill_in) (get_behind nodes (n ∷ []) (length nodes) 0 (omega arith))

-- a bill below the least so far is below all
pub below_so_far : (r : Rules) (nodes : List TreeNode) (least : Option ℤ) (kept : List ℕ) (bill : ℤ) → IsKeptSoFar r nodes least kept → IsBelow (Some bill) least
    → (j : ℕ) → IsBelow (Some bill) (bill_at nodes j)
below_so_far r nodes None kept bill none below j = subst (IsBelow (Some bill)) (sym (none j)) tt
below_so_far r nodes (Some least) kept bill held below j = below_at_most bill least (bill_at nodes j) below (held.earliest.least j)

below_is_at_most : (x : ℤ) (y : Option ℤ) → IsBelow (Some x) y → IsAtMost (Some x) y
below_is_at_most x None below = tt
below_is_at_most x (Some y) below = omega (arith, ints)

module _ (r : Rules) (nodes : List TreeNode) (n : TreeNode) where
  -- the last node has a lesser bill than all before
  taken_over : (bill : ℤ) (modes : List ℕ) → bill_in n ≡ Some bill → ((j : ℕ) → IsBelow (Some bill) (bill_at nodes j)) → modes ≡ r.schedule_of n.space n.node.slopes
      → IsKept r (nodes ++ n ∷ []) bill modes
  taken_over bill modes billed below is = record {
    number = length nodes;
    earliest = record {
      here = bill_added nodes n ∙ billed;
      least = added_cases (λ j b. IsAtMost (Some bill) b) nodes n (λ j inside. below_is_at_most bill (bill_at nodes j) (below j))
          (subst (IsAtMost (Some bill)) (sym billed) (at_most_refl (Some bill))) (λ j past. tt);
      earliest = λ j before. subst (IsBelow (Some bill)) (sym (ap (option_and_then bill_in) (get_front nodes (n ∷ []) j before))) (below j);
    };
    node = n;
    at = get_behind nodes (n ∷ []) (length nodes) 0 (omega arith);
    schedule = is;
  }

  -- an earlier node keeps its place
  stays : (bill : ℤ) (modes : List ℕ) → IsKept r nodes bill modes → IsAtMost (Some bill) (bill_in n) → IsKept r (nodes ++ n ∷ []) bill modes
  stays bill modes held more =
      let inside = slice_get_within nodes held.number held.node held.at in
      record {
        number = held.number;
        earliest = record {
          here = ap (option_and_then bill_in) (get_front nodes (n ∷ []) held.number inside) ∙ held.earliest.here;
          least = added_cases (λ j b. IsAtMost (Some bill) b) nodes n (λ j inside. held.earliest.least j) more (λ j past. tt);
          earliest = λ j before. subst (IsBelow (Some bill)) (sym (ap (option_and_then bill_in) (get_front nodes (n ∷ []) j (omega arith)))) (held.earliest.earliest j before);
        };
        node = held.node;
        at = get_front nodes (n ∷ []) held.number inside ∙ held.at;
        schedule = held.schedule;
      }

  exchanged : (least bill : Option ℤ) (kept trial : List ℕ) → bill_in n ≡ bill → IsKeptSoFar r nodes least kept → IfSome bill (λ b. trial ≡ r.schedule_of n.space n.node.slopes)
      → IsBelow bill least → IsKeptSoFar r (nodes ++ n ∷ []) bill trial
  exchanged least None kept trial billed held written less = absurd less
  exchanged least (Some bill) kept trial billed held written less = taken_over bill trial billed (below_so_far r nodes least kept bill held less) written

  unchanged : (least : Option ℤ) (kept : List ℕ) → IsKeptSoFar r nodes least kept → IsAtMost least (bill_in n) → IsKeptSoFar r (nodes ++ n ∷ []) least kept
  unchanged None kept none more = added_cases (λ j b. b ≡ None) nodes n (λ j inside. none j) (is_none_too (bill_in n) more) (λ j past. refl)
    where
      is_none_too : (b : Option ℤ) → IsAtMost None b → b ≡ None
      is_none_too None more = refl
      is_none_too (Some b) more = absurd more
  unchanged (Some least) kept held more = stays least kept held more

  -- one more node, and the lesser bill
  pub kept_added : (least : Option ℤ) (kept trial : List ℕ) (new_least : Option ℤ) (new_kept new_trial : List ℕ) → IsKeptSoFar r nodes least kept
      → IfSome (bill_in n) (λ b. trial ≡ r.schedule_of n.space n.node.slopes) → HasKept least kept trial (bill_in n) new_least new_kept new_trial
      → IsKeptSoFar r (nodes ++ n ∷ []) new_least new_kept
  kept_added least kept trial new_least new_kept new_trial held written (inl x) =
      subst (λ (b : Option ℤ). IsKeptSoFar r (nodes ++ n ∷ []) b new_kept) (sym x.least_is)
      (subst (IsKeptSoFar r (nodes ++ n ∷ []) (bill_in n)) (sym x.kept_is) (exchanged least (bill_in n) kept trial refl held written x.less))
  kept_added least kept trial new_least new_kept new_trial held written (inr x) =
      subst (λ (b : Option ℤ). IsKeptSoFar r (nodes ++ n ∷ []) b new_kept) (sym x.least_is)
      (subst (IsKeptSoFar r (nodes ++ n ∷ []) least) (sym x.kept_is) (unchanged least kept held x.more))

-- both schedules stay as long
pub kept_long : (count : ℕ) (least : Option ℤ) (kept trial : List ℕ) (bill new_least : Option ℤ) (new_kept new_trial : List ℕ)
    → HasKept least kept trial bill new_least new_kept new_trial → length kept ≡ count → length trial ≡ count → (length new_kept ≡ count) × (length new_trial ≡ count)
kept_long count least kept trial bill new_least new_kept new_trial (inl x) long longer = (ap length x.kept_is ∙ longer, ap length x.trial_is ∙ long)
kept_long count least kept trial bill new_least new_kept new_trial (inr x) long longer = (ap length x.kept_is ∙ long, ap length x.trial_is ∙ longer)

-- each node is of a problem's box, one more too
pub boxed_added : (lists : List (List ℤ)) (nodes : List TreeNode) (n : TreeNode) → AreBoxed lists nodes → IsProblemBox lists n.space → AreBoxed lists (nodes ++ n ∷ [])
boxed_added lists nodes n all this j x at = elim (cases_lt j (length nodes)) [
  | inl inside ↦ all j x (sym (get_front nodes (n ∷ []) j inside) ∙ at)
  | inr behind ↦ elim (cases_eq j (length nodes)) [
    | inl same ↦ let is = same_Some n x (sym (get_behind nodes (n ∷ []) j 0 (omega arith)) ∙ at) in subst (λ (m : TreeNode). IsProblemBox lists m.space) is this
    | inr other ↦ absurd (let inside = slice_get_within (nodes ++ n ∷ []) j x at in omega (arith, length-append nodes (n ∷ [])))
  ]
]

module _ (nodes : List TreeNode) (number : ℕ) (n : TreeNode) (split : Split) (count : ℕ) (at : slice_get nodes number ≡ Some n) where
  marked : List TreeNode
  marked = slice_set nodes number (split_node n split count)

  inside : number < length nodes
  inside = slice_get_within nodes number n at

  -- a node after one was marked as split: the same, or that one
  marked_cases : (P : ℕ → TreeNode → Type 0) → ((j : ℕ) (x : TreeNode) → slice_get nodes j ≡ Some x → P j x) → P number (split_node n split count)
      → (j : ℕ) (x : TreeNode) → slice_get marked j ≡ Some x → P j x
  unfolding marked
  marked_cases P others this j x got = elim (cases_eq j number) [
    | inl same ↦ subst (λ (k : ℕ). P k x) (sym same) (subst (P number) (same_Some (split_node n split count) x
        (sym (get_set_same nodes number (split_node n split count) inside) ∙ (ap (slice_get (slice_set nodes number (split_node n split count))) (sym same) ∙ got))) this)
    | inr other ↦ others j x (sym (get_set_other nodes number j (split_node n split count) other) ∙ got)
  ]

  pub boxed_marked : (lists : List (List ℤ)) → AreBoxed lists nodes → AreBoxed lists (slice_set nodes number (split_node n split count))
  unfolding marked
  boxed_marked lists all = marked_cases (λ j x. IsProblemBox lists x.space) all (all number n at)

  -- no bill changes
  bill_marked : (j : ℕ) → bill_at (slice_set nodes number (split_node n split count)) j ≡ bill_at nodes j
  bill_marked j = elim (cases_eq j number) [
    | inl same ↦ ap (bill_at (slice_set nodes number (split_node n split count))) same
        ∙ (ap (option_and_then bill_in) (get_set_same nodes number (split_node n split count) inside) ∙ (sym (ap (option_and_then bill_in) at) ∙ sym (ap (bill_at nodes) same)))
    | inr other ↦ ap (option_and_then bill_in) (get_set_other nodes number j (split_node n split count) other)
  ]

  earliest_marked : (k : ℕ) (bill : ℤ) → IsEarliestLeast nodes k bill → IsEarliestLeast (slice_set nodes number (split_node n split count)) k bill
  earliest_marked k bill e = record {
    here = bill_marked k ∙ e.here;
    least = λ j. subst (IsAtMost (Some bill)) (sym (bill_marked j)) (e.least j);
    earliest = λ j before. subst (IsBelow (Some bill)) (sym (bill_marked j)) (e.earliest j before);
  }

  -- so the same bill is kept
  pub kept_marked : (r : Rules) (least : Option ℤ) (kept : List ℕ) → IsKeptSoFar r nodes least kept
      → IsKeptSoFar r (slice_set nodes number (split_node n split count)) least kept
  kept_marked r None kept none = λ j. bill_marked j ∙ none j
  kept_marked r (Some bill) kept held = elim (cases_eq held.number number) [
    | inl same ↦
        let is : held.node ≡ n = same_Some held.node n (sym held.at ∙ (ap (slice_get nodes) same ∙ at)) in
        record {
          number = held.number;
          earliest = earliest_marked held.number bill held.earliest;
          node = split_node n split count;
          at = ap (slice_get (slice_set nodes number (split_node n split count))) same ∙ get_set_same nodes number (split_node n split count) inside;
          schedule = held.schedule ∙ ap (λ (m : TreeNode). r.schedule_of m.space m.node.slopes) is;
        }
    | inr other ↦ record {
      number = held.number;
      earliest = earliest_marked held.number bill held.earliest;
      node = held.node;
      at = get_set_other nodes number held.number (split_node n split count) other ∙ held.at;
      schedule = held.schedule;
    }
  ]
