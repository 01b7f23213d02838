-- At least one outcome: the splits go on until there is a reason to stop.
use Rattle.std.proofs.Common.{◌≡◌, ◌⊎◌, inl, inr, ℕ, zero, suc, ◌+◌, ◌<◌, ◌≤◌, ℤ, List, [], Option, Some, None, false, length, slice_get, option_map, option_and_then, arith, sym, refl, ap, subst, ◌∙◌}
use Rattle.std.proofs.lemmas.Bool.{cases_eq, cases_lt, cases_Bool}
use Rattle.std.proofs.lemmas.Option.{slice_get_past, same_Some, none-some}
use Rattle.d_front.specs.declared.key.Key.{Key}
use Rattle.d_front.specs.Keys.{rank, ComesFirst}
use Rattle.d_bound.specs.BoxLaws.{IsAtMost}
use Rattle.d_search.specs.declared.tree.TreeNode.{TreeNode}
use Rattle.d_search.specs.declared.outcome.Outcome.{Outcome}
use Rattle.d_search.specs.declared.outcome.Verdict.{Verdict}
use Rattle.d_search.specs.declared.outcome.Verdict.TheVariants.{Least, GapBudget, GapDuality, Infeasible}
use Rattle.d_search.specs.Rules.{Rules, IsBelow}
use Rattle.d_search.specs.Trees.{key_of, key_at, bill_in, bound_at, bill_at, root_alone, IsSplitOnce}
use Rattle.d_search.specs.Grown.{IsGrownBy}
use Rattle.d_search.specs.Outcomes.{IsEarliestLeast, IsFirstOpen, IsStop, IsAnswer, IsOutcome}
use Rattle.d_search.specs.Laws.{BoundsHaveBills, HasExactlyOneOutcome}
use Rattle.d_search.proofs.OrderFacts.{below_or, key_bound, one_first, first_trans}
use Rattle.d_search.proofs.PlaceFacts.{none_is_some}
use Rattle.d_search.proofs.SplitFacts.{key_parts, length_split}
use Rattle.d_search.proofs.GrownFacts.{IsRootAt, grown_root, root_bound}
use Rattle.d_search.proofs.BoundFacts.{got_at}
use Rattle.d_search.proofs.StoodFacts.{list_from_grown}
use Rattle.d_search.proofs.SameFacts.{outcome_same}
use Rattle.d_search.proofs.BudgetFacts.{can_split, below_all}

-- of keys by number the one that comes first
record IsFirstOf (f : ℕ → Option Key) (n : ℕ) : Type 0 where
  number : ℕ
  key : Key
  here : f number ≡ Some key
  least : (j : ℕ) (other : Key) → j < n → f j ≡ Some other → ComesFirst key other

-- none of the first n is there, or one of them comes first
abbrev HasFirst : (ℕ → Option Key) → ℕ → Type 0
HasFirst f n = ((j : ℕ) → j < n → f j ≡ None) ⊎ IsFirstOf f n

first_itself : (key : Key) → ComesFirst key key
first_itself key = elim (one_first key key) [ inl first ↦ first | inr first ↦ first ]

-- one more key
first_more : (f : ℕ → Option Key) (n : ℕ) (o : Option Key) → f n ≡ o → HasFirst f n → HasFirst f (suc n)
first_more f n None here (inl none) = inl (λ j below. elim (cases_eq j n) [ inl same ↦ ap f same ∙ here | inr other ↦ none j (omega arith) ])
first_more f n (Some key) here (inl none) = inr (record { number = n; key = key; here = here; least = least })
  where
    least : (j : ℕ) (other : Key) → j < suc n → f j ≡ Some other → ComesFirst key other
    least j other below at = elim (cases_eq j n) [
      | inl same ↦ subst (ComesFirst key) (same_Some key other (sym here ∙ (sym (ap f same) ∙ at))) (first_itself key)
      | inr before ↦ absurd (none_is_some other (f j) (none j (omega arith)) at)
    ]
first_more f n None here (inr old) = inr (record { number = old.number; key = old.key; here = old.here; least = least })
  where
    least : (j : ℕ) (other : Key) → j < suc n → f j ≡ Some other → ComesFirst old.key other
    least j other below at = elim (cases_eq j n) [
      | inl same ↦ absurd (none_is_some other (f j) (ap f same ∙ here) at)
      | inr before ↦ old.least j other (omega arith) at
    ]
first_more f n (Some key) here (inr old) = elim (one_first old.key key) [
  | inl first ↦ inr (record { number = old.number; key = old.key; here = old.here; least = with_new old.key first (λ j other below at. old.least j other below at) })
  | inr first ↦ inr (record {
    number = n;
    key = key;
    here = here;
    least = with_new key (first_itself key) (λ j other below at. first_trans key old.key other first (old.least j other below at));
  })
]
  where
    with_new : (best : Key) → ComesFirst best key → ((j : ℕ) (other : Key) → j < n → f j ≡ Some other → ComesFirst best other)
        → (j : ℕ) (other : Key) → j < suc n → f j ≡ Some other → ComesFirst best other
    with_new best new before j other below at = elim (cases_eq j n) [
      | inl same ↦ subst (ComesFirst best) (same_Some key other (sym here ∙ (sym (ap f same) ∙ at))) new
      | inr earlier ↦ before j other (omega arith) at
    ]

has_first : (f : ℕ → Option Key) (n : ℕ) → HasFirst f n
has_first f zero = inl (λ j below. absurd (omega arith))
has_first f (suc n) = first_more f n (f n) refl (has_first f n)

key_inside : (r : Rules) (nodes : List TreeNode) (j : ℕ) → length nodes ≤ j → key_at r nodes j ≡ None
key_inside r nodes j past = ap (option_and_then (key_of r j)) (slice_get_past nodes j past)

bill_inside : (nodes : List TreeNode) (j : ℕ) → length nodes ≤ j → bill_at nodes j ≡ None
bill_inside nodes j past = ap (option_and_then bill_in) (slice_get_past nodes j past)

-- the first leaf is there, or no leaf has a bound
first_open : (r : Rules) (nodes : List TreeNode) → (next : Option Key) × IsFirstOpen r nodes next
first_open r nodes = elim (has_first (key_at r nodes) (length nodes)) [
  | inl none ↦ (None, λ j. elim (cases_lt j (length nodes)) [ inl inside ↦ none j inside | inr past ↦ key_inside r nodes j past ])
  | inr found ↦ (
    Some found.key,
    record {
      here = ap (key_at r nodes) (key_parts r nodes found.number found.key found.here).same ∙ found.here;
      least = λ j other at. elim (cases_lt j (length nodes)) [
        | inl inside ↦ found.least j other inside at
        | inr past ↦ absurd (none_is_some other (key_at r nodes j) (key_inside r nodes j past) at)
      ];
    },
  )
]

-- a bill as a key, so that the first of the least bills comes first
abbrev bill_key : ℕ → ℤ → Key
bill_key number bill = record { bound = bill; point = false; node = number }

abbrev bill_key_at : List TreeNode → ℕ → Option Key
bill_key_at nodes number = option_map (bill_key number) (bill_at nodes number)

record HasLeastBill (nodes : List TreeNode) : Type 0 where
  number : ℕ
  bill : ℤ
  earliest : IsEarliestLeast nodes number bill

-- the bill of a key
bill_from : (number : ℕ) (o : Option ℤ) (key : Key) → option_map (bill_key number) o ≡ Some key → (bill : ℤ) × (o ≡ Some bill) × (key ≡ bill_key number bill)
bill_from number None key e = absurd (none-some key e)
bill_from number (Some bill) key e = (bill, refl, sym (same_Some (bill_key number bill) key e))

-- a bill whose key comes first is the first least
earliest_from : (nodes : List TreeNode) (number : ℕ) (bill : ℤ) → bill_at nodes number ≡ Some bill
    → ((j : ℕ) (other : ℤ) → bill_at nodes j ≡ Some other → ComesFirst (bill_key number bill) (bill_key j other)) → IsEarliestLeast nodes number bill
earliest_from nodes number bill here least =
    record { here = here; least = λ j. by_bill j (bill_at nodes j) refl; earliest = λ j before. by_earlier j before (bill_at nodes j) refl }
  where
    by_bill : (j : ℕ) (o : Option ℤ) → bill_at nodes j ≡ o → IsAtMost (Some bill) o
    by_bill j None at = tt
    by_bill j (Some other) at = key_bound (bill_key number bill) (bill_key j other) (least j other at)

    not_later : (j : ℕ) → j < number → (rank false < rank false) ⊎ ((rank false ≡ rank false) × (number ≤ j)) → ⊥
    not_later j before (inl less) = omega arith
    not_later j before (inr later) = let le = later.1 in omega arith

    by_first : (j : ℕ) (other : ℤ) → j < number → ComesFirst (bill_key number bill) (bill_key j other) → IsBelow (Some bill) (Some other)
    by_first j other before (inl less) = less
    by_first j other before (inr rest) = absurd (not_later j before rest.1)

    by_earlier : (j : ℕ) → j < number → (o : Option ℤ) → bill_at nodes j ≡ o → IsBelow (Some bill) o
    by_earlier j before None at = tt
    by_earlier j before (Some other) at = by_first j other before (least j other at)

-- where a node has a bill one is the first least
least_bill : (nodes : List TreeNode) (i : ℕ) (some : ℤ) → bill_at nodes i ≡ Some some → HasLeastBill nodes
least_bill nodes i some has = by_first (has_first (bill_key_at nodes) (length nodes))
  where
    inside : (j : ℕ) (bill : ℤ) → bill_at nodes j ≡ Some bill → j < length nodes
    inside j bill at = elim (cases_lt j (length nodes)) [ inl below ↦ below | inr past ↦ absurd (none_is_some bill (bill_at nodes j) (bill_inside nodes j past) at) ]

    by_first : HasFirst (bill_key_at nodes) (length nodes) → HasLeastBill nodes
    by_first (inl none) = absurd (none_is_some (bill_key i some) (bill_key_at nodes i) (none i (inside i some has)) (ap (option_map (bill_key i)) has))
    by_first (inr found) =
        let billed = bill_from found.number (bill_at nodes found.number) found.key found.here in
        record {
          number = found.number;
          bill = billed.0;
          earliest = earliest_from nodes found.number billed.0 billed.1 (λ j other at. subst (λ (k : Key). ComesFirst k (bill_key j other)) billed.2
              (found.least j (bill_key j other) (inside j other at) (ap (option_map (bill_key j)) at)));
        }

-- a split that the budget allows
record GoesOnWithin (r : Rules) (budget : ℕ) (nodes : List TreeNode) : Type 0 where
  next : List TreeNode
  step : IsSplitOnce r nodes next
  within : length next ≤ budget

abbrev IsThere : Rules → ℕ → Type 0
IsThere r budget = (o : Outcome) × IsOutcome r budget o

module _ (r : Rules) (budget n : ℕ) (nodes : List TreeNode) (grown : IsGrownBy r n nodes) (within : length nodes ≤ budget) where
  -- the outcome of these nodes, with a reason to stop
  stopped : (root : ℤ) → bound_at nodes 0 ≡ Some root → (least : HasLeastBill nodes) (v : Verdict) (next : Option Key) → IsFirstOpen r nodes next
      → IsStop budget (length nodes) v next least.bill → (node : TreeNode) → slice_get nodes least.number ≡ Some node → IsThere r budget
  stopped root has least v next first stop node at = (
    record { verdict = v; bill = Some least.bill; lower = option_map (λ (k : Key). k.bound) next; schedule = r.schedule_of node.space node.node.slopes; tree = nodes },
    record {
      grown = list_from_grown r n nodes grown;
      within = within;
      answer = subst (IsAnswer r budget _) (sym has) (record {
        bill = least.bill;
        said = refl;
        next = next;
        first = first;
        lower = refl;
        stop = stop;
        kept = record { number = least.number; earliest = least.earliest; node = node; at = at; schedule = refl };
      });
    },
  )

  -- why to stop at a first leaf, or its split
  decide : (bill : ℤ) (number : ℕ) → IsEarliestLeast nodes number bill → (next : Option Key) → IsFirstOpen r nodes next
      → ((v : Verdict) × IsStop budget (length nodes) v next bill) ⊎ GoesOnWithin r budget nodes
  decide bill number earliest None first = inl (Least, tt)
  decide bill number earliest (Some key) first = elim (below_or key.bound (Some bill)) [
    | inr met ↦ inl (Least, met)
    | inl less ↦ elim (cases_Bool key.point) [
      | inl point ↦ inl (GapDuality, (less, point))
      | inr apart ↦ elim (cases_lt budget (length nodes + 2)) [
        | inl spent ↦ inl (GapBudget, (less, apart, spent))
        | inr room ↦ let on = can_split r nodes key first apart (below_all nodes number key.bound bill earliest less) in
            inr (record { next = on.0; step = on.1; within = omega (arith, length_split r nodes on.0 on.1, room) })
      ]
    ]
  ]

  -- an outcome, or a split
  outcome_or : (root : ℤ) → bound_at nodes 0 ≡ Some root → HasLeastBill nodes → IsThere r budget ⊎ GoesOnWithin r budget nodes
  outcome_or root has least =
      let next = first_open r nodes in
      elim (decide least.bill least.number least.earliest next.0 next.1) [
        | inl stop ↦ let got = node_of_bill least.number least.bill least.earliest.here in inl (stopped root has least stop.0 next.0 next.1 stop.1 got.0 got.1)
        | inr on ↦ inr on
      ]
    where
      node_of_bill : (number : ℕ) (bill : ℤ) → bill_at nodes number ≡ Some bill → (node : TreeNode) × (slice_get nodes number ≡ Some node)
      node_of_bill number bill at = elim (cases_lt number (length nodes)) [
        | inl inside ↦ got_at nodes number inside
        | inr past ↦ absurd (none_is_some bill (bill_at nodes number) (bill_inside nodes number past) at)
      ]

-- where the root has a bound it has a bill
root_bill : (r : Rules) → BoundsHaveBills r → (n : ℕ) (nodes : List TreeNode) → IsGrownBy r n nodes → (root : ℤ) → (r.node_of r.root None).bound ≡ Some root
    → HasLeastBill nodes
root_bill r complete n nodes grown root has = by_bill (r.node_of r.root None).bill refl
  where
    first : IsRootAt r nodes
    first = grown_root r n nodes grown

    by_bill : (o : Option ℤ) → (r.node_of r.root None).bill ≡ o → HasLeastBill nodes
    by_bill None none = absurd (none_is_some root (r.node_of r.root None).bound ((complete r.root None).1 none) has)
    by_bill (Some bill) billed = least_bill nodes 0 bill (ap (option_and_then bill_in) first.at ∙ (ap (λ node. node.bill) first.node ∙ billed))

-- the splits go on for as long as the budget allows
go_on : (r : Rules) → BoundsHaveBills r → (budget : ℕ) (root : ℤ) → (r.node_of r.root None).bound ≡ Some root → (fuel n : ℕ) (nodes : List TreeNode)
    → IsGrownBy r n nodes → length nodes ≤ budget → budget ≤ length nodes + fuel → IsThere r budget
go_on r complete budget root has zero n nodes grown within left =
    elim (outcome_or r budget n nodes grown within root (root_bound r n nodes grown ∙ has) (root_bill r complete n nodes grown root has)) [
      | inl there ↦ there
      | inr on ↦ absurd (spent on)
    ]
  where
    spent : GoesOnWithin r budget nodes → ⊥
    spent on = omega (arith, length_split r nodes on.next on.step, on.within)
go_on r complete budget root has (suc fuel) n nodes grown within left =
    elim (outcome_or r budget n nodes grown within root (root_bound r n nodes grown ∙ has) (root_bill r complete n nodes grown root has)) [
      | inl there ↦ there
      | inr on ↦ go_on r complete budget root has fuel (suc n) on.next (nodes, grown, on.step) on.within (omega (arith, length_split r nodes on.next on.step))
    ]

-- an outcome, by the bound of the root
by_root : (r : Rules) → BoundsHaveBills r → (budget : ℕ) → 1 ≤ budget → (root : Option ℤ) → (r.node_of r.root None).bound ≡ root → IsThere r budget
by_root r complete budget some (Some root) has = go_on r complete budget root has budget 0 (root_alone r) refl some (omega arith)
by_root r complete budget some None none = (
  record { verdict = Infeasible; bill = None; lower = None; schedule = []; tree = root_alone r },
  record {
    grown = list_from_grown r 0 (root_alone r) refl;
    within = some;
    answer = subst (IsAnswer r budget _) (sym none) (record { verdict = refl; bill = refl; lower = refl; schedule = refl });
  },
)

pub outcome_there : HasExactlyOneOutcome
outcome_there r budget complete some =
    let there = by_root r complete budget some (r.node_of r.root None).bound refl in
    (there.0, record { is = there.1; only = λ other h. outcome_same r budget other there.0 h there.1 })
