-- At most one outcome: two that meet the definition are the same.
use Rattle.std.proofs.Common.{◌≡◌, inl, inr, ℕ, zero, suc, ◌<◌, ◌≤◌, ℤ, List, Option, Some, None, false, is_none, length, slice_get, option_map, arith, sym, refl, ap, subst, ◌∙◌}
use Rattle.std.proofs.lemmas.Bool.{cases_eq, cases_order, true≢false}
use Rattle.std.proofs.lemmas.Int.{ints}
use Rattle.std.proofs.lemmas.Option.{same_Some, none-some}
use Rattle.d_box.specs.declared.space.Split.{Split}
use Rattle.d_front.specs.declared.key.Key.{Key}
use Rattle.d_bound.specs.BoxLaws.{IsAtMost}
use Rattle.d_search.specs.declared.tree.TreeNode.{TreeNode}
use Rattle.d_search.specs.declared.outcome.Outcome.{Outcome}
use Rattle.d_search.specs.declared.outcome.Verdict.{Verdict}
use Rattle.d_search.specs.declared.outcome.Verdict.TheVariants.{Least, GapBudget, GapDuality, Infeasible}
use Rattle.d_search.specs.Rules.{Rules, IsBelow}
use Rattle.d_search.specs.Trees.{key_at, bound_at, bill_at, IsFirstLeaf, after_split, IsSplitOnce}
use Rattle.d_search.specs.Grown.{IsGrownBy}
use Rattle.d_search.specs.Outcomes.{IsEarliestLeast, IsKept, IsFirstOpen, IsStop, IsVerdict, IsAnswer, IsOutcome}
use Rattle.d_search.specs.Laws.{HasAtMostOneOutcome}
use Rattle.d_search.proofs.OrderFacts.{same_number, same_from_both, not_both}
use Rattle.d_search.proofs.SplitFacts.{key_parts, length_split}
use Rattle.d_search.proofs.GrownFacts.{grown_length, root_only, root_bound}
use Rattle.d_search.proofs.StoodFacts.{splits_of, grown_from_list}

-- one leaf comes first
pub first_leaf_same : (r : Rules) (nodes : List TreeNode) (a b : Key) → IsFirstLeaf r nodes a → IsFirstLeaf r nodes b → a ≡ b
first_leaf_same r nodes a b is_a is_b =
    let same = same_number a b (is_a.least b.node b is_b.here) (is_b.least a.node a is_a.here) in
    same_Some a b (sym is_a.here ∙ (ap (key_at r nodes) same ∙ is_b.here))

after_same : (r : Rules) (before : List TreeNode) (i j : ℕ) (n x : TreeNode) (s t : Split) → i ≡ j → n ≡ x → s ≡ t
    → after_split r before i n s ≡ after_split r before j x t
after_same r before i j n x s t e f g = rw (e, f, g) refl

-- one split comes of the nodes
pub split_once_same : (r : Rules) (before a b : List TreeNode) → IsSplitOnce r before a → IsSplitOnce r before b → a ≡ b
split_once_same r before a b x y =
    x.halves ∙ (after_same r before x.key.node y.key.node x.parent y.parent x.split y.split number parent split ∙ sym y.halves)
  where
    number : x.key.node ≡ y.key.node
    number = ap (λ (k : Key). k.node) (first_leaf_same r before x.key y.key x.first y.first)

    parent : x.parent ≡ y.parent
    parent = same_Some x.parent y.parent (sym x.at ∙ (ap (slice_get before) number ∙ y.at))

    split : x.split ≡ y.split
    split = same_Some x.split y.split (sym x.some ∙ (ap (λ (n : TreeNode). r.split_of n.space) parent ∙ y.some))

-- one tree comes of so many splits
pub grown_same : (r : Rules) (n : ℕ) (a b : List TreeNode) → IsGrownBy r n a → IsGrownBy r n b → a ≡ b
grown_same r zero a b x y = x ∙ sym y
grown_same r (suc n) a b x y =
    split_once_same r x.0 a b x.2 (subst (λ (l : List TreeNode). IsSplitOnce r l b) (sym (grown_same r n x.0 y.0 x.1 y.1)) y.2)

-- a tree of fewer splits, with the next one
pub record GoesOn (r : Rules) (n : ℕ) : Type 0 where
  pub part : List TreeNode
  pub grown : IsGrownBy r n part
  pub next : List TreeNode
  pub step : IsSplitOnce r part next

pub grown_part : (r : Rules) (n more : ℕ) (nodes : List TreeNode) → IsGrownBy r more nodes → n < more → GoesOn r n
grown_part r n zero nodes grown less = absurd (omega arith)
grown_part r n (suc more) nodes grown less = elim (cases_eq more n) [
  | inl same ↦ record { part = grown.0; grown = subst (λ (k : ℕ). IsGrownBy r k grown.0) same grown.1; next = nodes; step = grown.2 }
  | inr other ↦ grown_part r n more grown.0 grown.1 (omega (arith, other))
]

-- a root without a bound isn't split
pub none_alone : (r : Rules) (n : ℕ) (nodes : List TreeNode) → IsGrownBy r n nodes → (r.node_of r.root None).bound ≡ None → n ≡ 0
none_alone r zero nodes grown none = refl
none_alone r (suc n) nodes grown none =
    let begun = grown_part r 0 (suc n) nodes grown (omega arith) in
    let has = key_parts r begun.part begun.step.key.node begun.step.key begun.step.first.here in
    absurd (root_only r begun.part begun.grown (λ j x. (key : Key) → x.node.bound ≡ Some key.bound → ⊥) (λ key e. none-some key.bound (sym none ∙ e))
    begun.step.key.node has.node has.at begun.step.key has.bound)

-- a box that is split isn't a point
not_point : (r : Rules) (before after : List TreeNode) (s : IsSplitOnce r before after) → s.key.point ≡ false
not_point r before after s =
    let has = key_parts r before s.key.node s.key s.first.here in
    let same : has.node ≡ s.parent = same_Some has.node s.parent (sym has.at ∙ s.at) in
    has.point ∙ (ap (λ (n : TreeNode). is_none (r.split_of n.space)) same ∙ ap is_none s.some)

-- where the search stopped no split was left to do
stop_not : (r : Rules) (budget : ℕ) (nodes next : List TreeNode) (s : IsSplitOnce r nodes next) → length next ≤ budget
    → (bill : ℤ) (number : ℕ) → bill_at nodes number ≡ Some bill → (v : Verdict) (open_key : Option Key) → IsFirstOpen r nodes open_key
    → IsStop budget (length nodes) v open_key bill → ⊥
stop_not r budget nodes next s within bill number at v None none stop = none-some s.key (sym (none s.key.node) ∙ s.first.here)
stop_not r budget nodes next s within bill number at Least (Some key) first stop =
    not_both s.key.bound (Some bill) (subst (IsBelow (Some s.key.bound)) at (s.below number))
    (subst (λ (k : Key). IsAtMost (Some bill) (Some k.bound)) (first_leaf_same r nodes key s.key first s.first) stop)
stop_not r budget nodes next s within bill number at GapDuality (Some key) first stop =
    let same = first_leaf_same r nodes key s.key first s.first in
    true≢false (sym stop.1 ∙ (ap (λ (k : Key). k.point) same ∙ not_point r nodes next s))
stop_not r budget nodes next s within bill number at GapBudget (Some key) first stop = omega (arith, length_split r nodes next s, stop.2)
stop_not r budget nodes next s within bill number at Infeasible (Some key) first stop = stop

-- the tree of an outcome doesn't go on
answer_not : (r : Rules) (budget : ℕ) (o : Outcome) → IsOutcome r budget o → (n : ℕ) → IsGrownBy r n o.tree → (next : List TreeNode)
    → IsSplitOnce r o.tree next → length next ≤ budget → ⊥
answer_not r budget o is n grown next s within = by_root (bound_at o.tree 0) refl is.answer
  where
    by_root : (root : Option ℤ) → bound_at o.tree 0 ≡ root → IsAnswer r budget o root → ⊥
    by_root None none answer =
        let alone = none_alone r (suc n) next (o.tree, grown, s) (sym (root_bound r n o.tree grown) ∙ none) in omega (arith, alone)
    by_root (Some bound) has answer =
        stop_not r budget o.tree next s within answer.bill answer.kept.number answer.kept.earliest.here o.verdict answer.next answer.first answer.stop

-- of two outcomes neither has fewer splits
no_fewer : (r : Rules) (budget n more : ℕ) (a b : Outcome) → IsOutcome r budget a → IsOutcome r budget b → IsGrownBy r n a.tree → IsGrownBy r more b.tree
    → n < more → ⊥
no_fewer r budget n more a b is_a is_b grown_a grown_b less =
    let on = grown_part r n more b.tree grown_b less in
    let step : IsSplitOnce r a.tree on.next = subst (λ (l : List TreeNode). IsSplitOnce r l on.next) (grown_same r n on.part a.tree on.grown grown_a) on.step in
    let within = is_b.within in
    answer_not r budget a is_a n grown_a on.next step
    (omega (arith, length_split r a.tree on.next step, grown_length r n a.tree grown_a, grown_length r more b.tree grown_b))

pub tree_same : (r : Rules) (budget : ℕ) (a b : Outcome) → IsOutcome r budget a → IsOutcome r budget b → a.tree ≡ b.tree
tree_same r budget a b is_a is_b = elim (cases_order n_a n_b) [
  | inl same ↦ grown_same r n_b a.tree b.tree (subst (λ (n : ℕ). IsGrownBy r n a.tree) same grown_a) grown_b
  | inr apart ↦ elim apart [
    | inl less ↦ absurd (no_fewer r budget n_a n_b a b is_a is_b grown_a grown_b less)
    | inr more ↦ absurd (no_fewer r budget n_b n_a b a is_b is_a grown_b grown_a more)
  ]
]
  where
    n_a : ℕ
    n_a = splits_of r a.tree is_a.grown

    n_b : ℕ
    n_b = splits_of r b.tree is_b.grown

    grown_a : IsGrownBy r n_a a.tree
    grown_a = grown_from_list r a.tree is_a.grown

    grown_b : IsGrownBy r n_b b.tree
    grown_b = grown_from_list r b.tree is_b.grown

-- one bill and one place of it are the first least
earliest_bill : (nodes : List TreeNode) (i j : ℕ) (x y : ℤ) → IsEarliestLeast nodes i x → IsEarliestLeast nodes j y → x ≡ y
earliest_bill nodes i j x y a b =
    same_from_both x y (subst (IsAtMost (Some x)) b.here (a.least j)) (subst (IsAtMost (Some y)) a.here (b.least i))

earliest_number : (nodes : List TreeNode) (i j : ℕ) (x y : ℤ) → IsEarliestLeast nodes i x → IsEarliestLeast nodes j y → i ≡ j
earliest_number nodes i j x y a b = elim (cases_order i j) [
  | inl same ↦ same
  | inr apart ↦ elim apart [
    | inl less ↦ absurd (less_not y x (subst (IsBelow (Some y)) a.here (b.earliest i less)) (earliest_bill nodes i j x y a b))
    | inr more ↦ absurd (less_not x y (subst (IsBelow (Some x)) b.here (a.earliest j more)) (sym (earliest_bill nodes i j x y a b)))
  ]
]
  where
    less_not : (v w : ℤ) → IsBelow (Some v) (Some w) → w ≡ v → ⊥
    less_not v w less same = omega (arith, ints)

kept_schedule : (r : Rules) (nodes : List TreeNode) (x y : ℤ) (s t : List ℕ) → IsKept r nodes x s → IsKept r nodes y t → s ≡ t
kept_schedule r nodes x y s t a b =
    let number = earliest_number nodes a.number b.number x y a.earliest b.earliest in
    let node : a.node ≡ b.node = same_Some a.node b.node (sym a.at ∙ (ap (slice_get nodes) number ∙ b.at)) in
    a.schedule ∙ (ap (λ (n : TreeNode). r.schedule_of n.space n.node.slopes) node ∙ sym b.schedule)

open_same : (r : Rules) (nodes : List TreeNode) (a b : Option Key) → IsFirstOpen r nodes a → IsFirstOpen r nodes b → a ≡ b
open_same r nodes None None x y = refl
open_same r nodes None (Some b) x y = absurd (none-some b (sym (x b.node) ∙ y.here))
open_same r nodes (Some a) None x y = absurd (none-some a (sym (y a.node) ∙ x.here))
open_same r nodes (Some a) (Some b) x y = ap Some (first_leaf_same r nodes a b x y)

stop_same : (budget count : ℕ) (v w : Verdict) (next : Option Key) (bill : ℤ) → IsStop budget count v next bill → IsStop budget count w next bill → v ≡ w
stop_same budget count Least Least next bill x y = refl
stop_same budget count GapBudget GapBudget next bill x y = refl
stop_same budget count GapDuality GapDuality next bill x y = refl
stop_same budget count Least GapBudget (Some key) bill x y = absurd (not_both key.bound (Some bill) y.0 x)
stop_same budget count Least GapDuality (Some key) bill x y = absurd (not_both key.bound (Some bill) y.0 x)
stop_same budget count GapBudget Least (Some key) bill x y = absurd (not_both key.bound (Some bill) x.0 y)
stop_same budget count GapDuality Least (Some key) bill x y = absurd (not_both key.bound (Some bill) x.0 y)
stop_same budget count GapBudget GapDuality (Some key) bill x y = absurd (true≢false (sym y.1 ∙ x.1))
stop_same budget count GapDuality GapBudget (Some key) bill x y = absurd (true≢false (sym x.1 ∙ y.1))
stop_same budget count Least GapBudget None bill x y = absurd y
stop_same budget count Least GapDuality None bill x y = absurd y
stop_same budget count GapBudget w None bill x y = absurd x
stop_same budget count GapDuality w None bill x y = absurd x
stop_same budget count Infeasible w next bill x y = absurd x
stop_same budget count v Infeasible next bill x y = absurd y

-- an outcome's parts make the outcome
parts_same : (a b : Outcome) → a.verdict ≡ b.verdict → a.bill ≡ b.bill → a.lower ≡ b.lower → a.schedule ≡ b.schedule → a.tree ≡ b.tree → a ≡ b
parts_same a b verdict bill lower schedule tree =
    λ i. record { verdict = verdict i; bill = bill i; lower = lower i; schedule = schedule i; tree = tree i }

-- two verdicts over one tree
verdicts_same : (r : Rules) (budget : ℕ) (a b : Outcome) → a.tree ≡ b.tree → IsVerdict r budget a → IsVerdict r budget b → a ≡ b
verdicts_same r budget a b tree x y = parts_same a b verdict (x.said ∙ (ap Some bill ∙ sym y.said)) (x.lower ∙ (ap (option_map (λ (k : Key). k.bound)) next ∙ sym y.lower)) schedule tree
  where
    kept : IsKept r a.tree y.bill b.schedule
    kept = subst (λ (l : List TreeNode). IsKept r l y.bill b.schedule) (sym tree) y.kept

    bill : x.bill ≡ y.bill
    bill = earliest_bill a.tree x.kept.number kept.number x.bill y.bill x.kept.earliest kept.earliest

    schedule : a.schedule ≡ b.schedule
    schedule = kept_schedule r a.tree x.bill y.bill a.schedule b.schedule x.kept kept

    next : x.next ≡ y.next
    next = open_same r a.tree x.next y.next x.first (subst (λ (l : List TreeNode). IsFirstOpen r l y.next) (sym tree) y.first)

    stop : IsStop budget (length a.tree) b.verdict x.next x.bill
    stop =
        subst (λ (n : ℕ). IsStop budget n b.verdict x.next x.bill) (sym (ap length tree))
        (subst (λ (k : Option Key). IsStop budget (length b.tree) b.verdict k x.bill) (sym next)
        (subst (IsStop budget (length b.tree) b.verdict y.next) (sym bill) y.stop))

    verdict : a.verdict ≡ b.verdict
    verdict = stop_same budget (length a.tree) a.verdict b.verdict x.next x.bill x.stop stop

answers_same : (r : Rules) (budget : ℕ) (a b : Outcome) (root : Option ℤ) → a.tree ≡ b.tree → IsAnswer r budget a root → IsAnswer r budget b root → a ≡ b
answers_same r budget a b None tree x y =
    parts_same a b (x.verdict ∙ sym y.verdict) (x.bill ∙ sym y.bill) (x.lower ∙ sym y.lower) (x.schedule ∙ sym y.schedule) tree
answers_same r budget a b (Some bound) tree x y = verdicts_same r budget a b tree x y

pub outcome_same : HasAtMostOneOutcome
outcome_same r budget a b is_a is_b =
    let tree = tree_same r budget a b is_a is_b in
    answers_same r budget a b (bound_at a.tree 0) tree is_a.answer (subst (λ (l : List TreeNode). IsAnswer r budget b (bound_at l 0)) (sym tree) is_b.answer)
