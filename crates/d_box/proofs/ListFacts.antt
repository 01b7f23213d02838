-- Rising lists of candidates, and what a range has of them.
use Rattle.std.proofs.Common.{Less, ℕ, ℤ, suc, zero, pos, Bool, true, false, cond, ◌≤ℤ◌, ◌<ℤ◌, ◌≡◌, ◌≢◌, ◌⊎◌, ◌<◌, ◌≤◌, ◌+◌, ◌-◌, int_lt, Some, List, All, [], ◌∷◌, length, slice_index_or, sym, subst, ap, refl, inl, inr, arith, ◌∙◌}
use Rattle.std.specs.List.{Contains, filter, find, dedup}
use Rattle.std.specs.List.Sorted.{IsStrictlySortedBy, IsSorted, IsPermutation}
use Rattle.std.specs.Ordering.{int_cmp, int_eq, MatchOrdering}
use Rattle.std.proofs.lemmas.Cmp.{int_ranked, int_cmp_total, int_eq_equiv}
use Rattle.std.proofs.lemmas.Bool.{cases_eq, cases_lt}
use Rattle.std.proofs.lemmas.Int.{ints, by_lt_z}
use Rattle.std.proofs.lemmas.List.{get_or_default}
use Rattle.std.proofs.lemmas.List.Elements.{All-from_recursion, filter_passes, All-filter, Contains-get_or}
use Rattle.std.proofs.lemmas.List.Kept.{AllPairs-cons, AllPairs-filter, IsStrictlySortedBy-dedup, Contains-dedup, Contains-from_dedup}
use Rattle.std.proofs.lemmas.List.Sorted.{Contains-permutation, IsPermutation-sym}
use Rattle.std.proofs.lemmas.Map.Made.{Contains-tail}
use Rattle.d_num.specs.Amount.{IsWatt}
use Rattle.d_box.specs.declared.space.Range.{Range}
use Rattle.d_box.specs.Boxes.{number_at, IsPeakCut}
use Rattle.d_box.specs.Candidates.{IsRising, HaveSameMembers, is_in, in_range, next_above, range_of, RangesHaveCandidates, IsRangeOf}
use Rattle.d_box.specs.Splits.{middle}

below_from : (x y : ℤ) → int_cmp x y ≡ Less → x <ℤ y
below_from x y e = subst (λ r. MatchOrdering r (x <ℤ y) (x ≡ y) (y <ℤ x)) e (int_ranked x y (int_cmp x y) refl)

-- a list sorted strictly rises
pub rising_from : (xs : List ℤ) → IsStrictlySortedBy int_cmp xs → IsRising xs
unfolding IsStrictlySortedBy
rising_from [] s = λ i j d lt h. absurd (omega arith)
rising_from (x ∷ xs) s = AllPairs-cons (λ a b. a <ℤ b) x xs (λ k d h. below_from x _ (All-from_recursion (λ y. int_cmp x y ≡ Less) xs s.0 k d h)) (rising_from xs s.1)

-- sorted and without repeats
pub sorted_rises : (xs : List ℤ) → IsSorted int_cmp xs → IsRising (dedup int_eq xs)
sorted_rises xs sorted = rising_from (dedup int_eq xs) (IsStrictlySortedBy-dedup int_cmp_total (λ x y. refl) xs sorted)

same_from_eq : (x y : ℤ) → int_eq x y ≡ true → x ≡ y
same_from_eq x y e = grind (arith, ints)

pub same_members : (old sorted : List ℤ) → IsPermutation old sorted → HaveSameMembers old (dedup int_eq sorted)
same_members old sorted moved = (
  λ x h. Contains-dedup int_eq_equiv same_from_eq sorted x (Contains-permutation old sorted x moved h),
  λ x h. Contains-permutation sorted old x (IsPermutation-sym old sorted moved) (Contains-from_dedup int_eq sorted x h),
)

-- a list has this number somewhere
there : (xs : List ℤ) (x : ℤ) → Contains xs x → (k : ℕ) × (k < length xs) × (number_at xs k ≡ x)
there xs x h = (h.0, h.1, get_or_default xs h.0 (pos 0) x h.1 ∙ h.2)

contains_filter : (p : ℤ → Bool) (xs : List ℤ) (x : ℤ) (k : ℕ) → k < length xs → number_at xs k ≡ x → p x ≡ true → (j : ℕ) × (j < length (filter p xs)) × (number_at (filter p xs) j ≡ x)
contains_filter p [] x k lt at t = absurd (omega arith)
contains_filter p (y ∷ ys) x zero lt at t = rw (subst (λ z. p z ≡ true) (sym at) t) (0, omega arith, at)
contains_filter p (y ∷ ys) x (suc k) lt at t =
    let h = contains_filter p ys x k (omega arith) at t in
    elim (p y) as (λ b. (j : ℕ) × (j < length (cond b (y ∷ filter p ys) (filter p ys))) × (number_at (cond b (y ∷ filter p ys) (filter p ys)) j ≡ x)) [
      | true ↦ (suc h.0, omega (arith, h.1), h.2)
      | false ↦ h
    ]

pub in_from : (r : Range) (c : ℤ) → is_in r c ≡ true → (r.low ≤ℤ c) × (c ≤ℤ r.high)
in_from r c e = grind (arith, ints)

pub in_test : (r : Range) (c : ℤ) → r.low ≤ℤ c → c ≤ℤ r.high → is_in r c ≡ true
in_test r c a b = grind (arith, ints)

-- a number of a rising list is at or before one place, or at or after the next
next_of : (q : List ℤ) (m : ℕ) → IsRising q → m + 1 < length q → (c : ℤ) → (j : ℕ) × (j < length q) × (number_at q j ≡ c) → (c ≤ℤ number_at q m) ⊎ (number_at q (m + 1) ≤ℤ c)
next_of q m rise more c f = elim (cases_lt f.0 (m + 1)) [
  | inl before ↦ inl (elim (cases_eq f.0 m) [
    | inl e ↦ subst (λ z. z ≤ℤ number_at q m) (ap (number_at q) (sym e) ∙ f.2) (omega (arith, ints))
    | inr ne ↦ let lt = rise f.0 m (pos 0) (omega arith) (omega arith) in subst (λ z. z ≤ℤ number_at q m) f.2 (omega (arith, ints))
  ])
  | inr after ↦ inr (elim (cases_eq f.0 (m + 1)) [
    | inl e ↦ subst (λ z. number_at q (m + 1) ≤ℤ z) (ap (number_at q) (sym e) ∙ f.2) (omega (arith, ints))
    | inr ne ↦ let lt = rise (m + 1) f.0 (pos 0) (omega arith) f.1 in subst (λ z. number_at q (m + 1) ≤ℤ z) f.2 (omega (arith, ints))
  ])
]

-- what is cut in a rising list, at one place of those that the range has
pub cut_at : (xs : List ℤ) (r : Range) (m : ℕ) → IsRising xs → m + 1 < length (in_range r xs) → IsPeakCut xs r (number_at (in_range r xs) m) (number_at (in_range r xs) (m + 1))
cut_at xs r m rising more =
    let q = in_range r xs in
    let rise : IsRising q = AllPairs-filter (λ a b. a <ℤ b) (is_in r) xs rising in
    let has : (k : ℕ) → k < length q → (r.low ≤ℤ number_at q k) × (number_at q k ≤ℤ r.high) = λ k lt. in_from r (number_at q k) (filter_passes (is_in r) xs k (pos 0) lt) in
    let from : (k : ℕ) → k < length q → Contains xs (number_at q k) = λ k lt. All-filter (is_in r) (Contains xs) xs (λ i d h. Contains-get_or xs i d h) k (pos 0) lt in
    let lt : m < length q = omega arith in
    record {
      low = (has m lt).0;
      apart = rise m (m + 1) (pos 0) (omega arith) more;
      high = (has (m + 1) more).1;
      there = from m lt;
      there_above = from (m + 1) more;
      next = λ c h. by_lt_z c r.low
          (λ below. inl (let l = (has m lt).0 in omega (arith, ints)))
          (λ low. by_lt_z r.high c
          (λ over. inr (let l = (has (m + 1) more).1 in omega (arith, ints)))
          (λ high. let t = there xs c h in let f = contains_filter (is_in r) xs c t.0 t.1 t.2 (in_test r c low high) in
          next_of q m rise more c f));
    }

-- a candidate that the range has is counted
pub is_counted : (xs : List ℤ) (r : Range) (x : ℤ) → Contains xs x → is_in r x ≡ true → 1 ≤ length (in_range r xs)
is_counted xs r x h test = let t = there xs x h in let f = contains_filter (is_in r) xs x t.0 t.1 t.2 test in let lt = f.1 in omega arith

pub above_test : (at x : ℤ) → at <ℤ x → int_lt at x ≡ true
above_test at x lt = grind (arith, ints)

pub not_above_test : (at x : ℤ) → x ≤ℤ at → int_lt at x ≡ false
not_above_test at x le = grind (arith, ints)

is_there : (list : List ℤ) (y : ℤ) (has : Contains list y) → number_at list has.0 ≡ y
is_there list y has = get_or_default list has.0 (pos 0) y has.1 ∙ has.2

-- what is found above the lower of two neighbours is the higher
found_next : (xs : List ℤ) (at above : ℤ) → IsRising xs → at <ℤ above → Contains xs above
    → ((c : ℤ) → Contains xs c → (c ≤ℤ at) ⊎ (above ≤ℤ c)) → find (int_lt at) xs ≡ Some above
found_next [] at above rising apart has next = let lt = has.1 in absurd (omega arith)
found_next (x ∷ xs) at above rising apart has next = elim (next x (zero, omega arith, refl)) [
  | inl le ↦ rw (not_above_test at x le) (found_next xs at above (λ i j d lt in_list. rising (suc i) (suc j) d (omega arith) (omega arith)) apart
      (Contains-tail x xs above (λ e. not_both x at above e le apart) has) (λ c m. next c (suc m.0, omega (arith, m.1), m.2)))
  | inr ge ↦ rw (above_test at x (over at above x apart ge)) (ap Some (elim (cases_eq has.0 0) [
    | inl e ↦ (there_at (x ∷ xs) above has 0 e)
    | inr ne ↦ absurd (not_less x above ge (subst (λ z. x <ℤ z) (is_there (x ∷ xs) above has) (rising 0 has.0 (pos 0) (omega arith) has.1)))
  ]))
]
  where
    not_both : (x at above : ℤ) → x ≡ above → x ≤ℤ at → at <ℤ above → ⊥
    not_both x at above e le lt = omega (arith, ints)

    over : (at above x : ℤ) → at <ℤ above → above ≤ℤ x → at <ℤ x
    over at above x lt ge = omega (arith, ints)

    not_less : (x above : ℤ) → above ≤ℤ x → x <ℤ above → ⊥
    not_less x above ge lt = omega (arith, ints)

    there_at : (list : List ℤ) (y : ℤ) (has : Contains list y) (k : ℕ) → has.0 ≡ k → number_at list k ≡ y
    there_at list y has k e = subst (λ n. number_at list n ≡ y) e (is_there list y has)

pub next_is : (xs : List ℤ) (r : Range) (at above : ℤ) → IsRising xs → IsPeakCut xs r at above → next_above xs at ≡ above
next_is xs r at above rising cut = rw (found_next xs at above rising cut.apart cut.there_above cut.next) refl

-- a cut in a rising list, said of the next candidate
pub cut_next : (xs : List ℤ) (r : Range) (at above : ℤ) → IsRising xs → IsPeakCut xs r at above → IsPeakCut xs r at (next_above xs at)
cut_next xs r at above rising cut = subst (λ z. IsPeakCut xs r at z) (sym (next_is xs r at above rising cut)) cut

-- both ends of a range, of which the low one is less, are two of those that it has
pub two : (xs : List ℤ) (r : Range) → IsRangeOf xs r → r.low ≢ r.high → 2 ≤ length (in_range r xs)
two xs r range apart = elim range.ends [
  | inl both ↦
      let a = there xs r.low both.0 in
      let b = there xs r.high both.1 in
      let f = contains_filter (is_in r) xs r.low a.0 a.1 a.2 (in_test r r.low (omega (arith, ints)) range.order) in
      let g = contains_filter (is_in r) xs r.high b.0 b.1 b.2 (in_test r r.high range.order (omega (arith, ints))) in
      elim (cases_eq f.0 g.0) [
        | inl e ↦ absurd (apart (sym f.2 ∙ (ap (number_at (in_range r xs)) e ∙ g.2)))
        | inr ne ↦ let f1 = f.1 in let g1 = g.1 in omega arith
      ]
  | inr same ↦ absurd (apart same)
]

pub middle_inside : (count : ℕ) → 2 ≤ count → middle count + 1 < count
middle_inside count h = omega arith

same_z : (x : ℤ) → x ≤ℤ x
same_z x = omega (arith, ints)

-- an earlier number of a rising list isn't above a later one
pub not_above : (xs : List ℤ) (i j : ℕ) (d : ℤ) → IsRising xs → i ≤ j → j < length xs → slice_index_or xs i d ≤ℤ slice_index_or xs j d
not_above xs i j d rising le lt = elim (cases_eq i j) [
  | inl e ↦ subst (λ n. slice_index_or xs i d ≤ℤ slice_index_or xs n d) e (same_z _)
  | inr ne ↦ let h = rising i j d (omega arith) lt in omega (arith, ints)
]

pub range_has : RangesHaveCandidates
range_has list rising powers = record {
  each = λ x h.
      let t = there list x h in
      let lt = t.1 in
      record {
        low = subst (λ z. number_at list 0 ≤ℤ z) t.2 (not_above list 0 t.0 (pos 0) rising (omega arith) t.1);
        high = subst (λ z. z ≤ℤ number_at list (length list - 1)) t.2 (not_above list t.0 (length list - 1) (pos 0) rising (omega arith) (omega arith));
      };
  ends = whole list rising powers;
}
  where
    whole : (xs : List ℤ) → IsRising xs → All IsWatt xs → IsRangeOf xs (range_of xs)
    whole [] rise all = record { floor = same_z _; order = same_z _; limit = omega (arith, ints); ends = inr refl }
    whole (x ∷ xs) rise all =
        let first = all 0 (pos 0) (omega arith) in
        let last = all (length (x ∷ xs) - 1) (pos 0) (omega arith) in
        record {
          floor = first.0;
          order = not_above (x ∷ xs) 0 (length (x ∷ xs) - 1) (pos 0) rise (omega arith) (omega arith);
          limit = last.1;
          ends = inl (Contains-get_or (x ∷ xs) 0 (pos 0) (omega arith), Contains-get_or (x ∷ xs) (length (x ∷ xs) - 1) (pos 0) (omega arith));
        }
