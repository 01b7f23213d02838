-- The lists that are made candidates, and the split of a peak.
use Rattle.std.proofs.Common.{ℕ, ℤ, pos, ◌<ℤ◌, ◌-ℤ◌, ◌≡◌, ◌≢◌, ◌<◌, ◌≤◌, ◌+◌, List, [], Option, Some, length, slice_index_or, slice_set, sym, subst, ap, inl, inr, arith, ◌∙◌, Vec, Global}
use Rattle.std.specs.List.{All}
use Rattle.std.proofs.lemmas.List.{get_or-set_same, get_or-set_other, length-set, get_or_default, get_or-map, length-map, map-set}
use Rattle.std.proofs.lemmas.Bool.{cases_eq}
use Rattle.std.proofs.lemmas.Int.{ints}
use Rattle.d_tier.specs.declared.tier.Tier.{Tier}
use Rattle.d_box.specs.declared.space.Range.{Range}
use Rattle.d_box.specs.declared.space.Space.{Space}
use Rattle.d_tier.specs.declared.peak.Peak.{Peak as Group}
use Rattle.d_tier.specs.Charges.{peak_charge}
use Rattle.d_box.specs.Boxes.{range_at, number_at, IsPeakCut}
use Rattle.d_box.specs.Candidates.{IsRising, HaveSameMembers, lists_of, list_at, AreEnds, in_range}
use Rattle.d_box.specs.Splits.{peak_gap, no_peak, IsWidestGroup, middle, HasNoTotal, IsPeakSplit}
use Rattle.d_box.specs.Steps.{AreCandidatesTo, IsWidest}
use Rattle.d_box.proofs.ListFacts.{two, cut_at, cut_next, middle_inside}

same_both : (a b c : List ℤ) → HaveSameMembers a b → HaveSameMembers b c → HaveSameMembers a c
same_both a b c x y = (λ n h. y.0 n (x.0 n h), λ n h. x.1 n (y.1 n h))

-- one more list
pub rise_more : (old lists : List (List ℤ)) (n : ℕ) (xs : List ℤ) → AreCandidatesTo old lists n → n < length lists → IsRising xs → HaveSameMembers (list_at lists n) xs → AreCandidatesTo old (slice_set lists n xs) (n + 1)
rise_more old lists n xs to lt rises same = record {
  lists = record {
    long = length-set lists n xs ∙ to.lists.long;
    same = λ g h. elim (cases_eq n g) [
      | inl e ↦ subst (λ j. HaveSameMembers (list_at old j) (list_at (slice_set lists n xs) j)) e
          (subst (λ q. HaveSameMembers (list_at old n) q) (sym (get_or-set_same lists n xs [] lt)) (same_both _ _ _ (to.lists.same n (subst (λ k. n < k) to.lists.long lt)) same))
      | inr ne ↦ subst (λ q. HaveSameMembers (list_at old g) q) (sym (get_or-set_other lists n g xs [] (λ e. ne (sym e)))) (to.lists.same g h)
    ];
  };
  rise = λ g h. elim (cases_eq n g) [
    | inl e ↦ subst (λ j. IsRising (list_at (slice_set lists n xs) j)) e (subst IsRising (sym (get_or-set_same lists n xs [] lt)) rises)
    | inr ne ↦ subst IsRising (sym (get_or-set_other lists n g xs [] (λ e. ne (sym e)))) (to.rise g (omega arith))
  ];
}

pub all_rise : (old lists : List (List ℤ)) (n : ℕ) → AreCandidatesTo old lists n → length lists ≤ n → All IsRising lists
all_rise old lists n to over k d lt = subst IsRising (get_or_default lists k [] d lt) (to.rise k (omega arith))

ends_apart : (peak : Group) (range : Range) → pos 0 <ℤ peak_gap peak range → range.low ≢ range.high
ends_apart peak range some e =
    let h = subst (λ z. pos 0 <ℤ (peak_charge peak range.high -ℤ peak_charge peak z)) e some in
    omega (arith, ints)

pub widest_is : (space : Space) (groups : List Group) (found : Option ℕ) (group : ℕ) → IsWidest space groups (length groups) found → found ≡ Some group → IsWidestGroup space groups (length groups) group
widest_is space groups found group w e = subst (λ f. IsWidest space groups (length groups) f) e w

pub found_two : (space : Space) (groups : List Group) (candidates : List (List ℤ)) (group : ℕ) → IsWidestGroup space groups (length groups) group → length candidates ≡ length groups → AreEnds space candidates → 2 ≤ length (in_range (range_at space.peaks group) (list_at candidates group))
found_two space groups candidates group w long ends =
    two (list_at candidates group) (range_at space.peaks group) (ends group (subst (λ n. group < n) (sym long) w.inside))
    (ends_apart (slice_index_or groups group no_peak) (range_at space.peaks group) w.some)

pub peak_split : (space : Space) (energy : List (List Tier)) (groups : List Group) (candidates : List (List ℤ)) (group : ℕ) (at : ℤ) → HasNoTotal space energy (length energy) → IsWidestGroup space groups (length groups) group
    → length candidates ≡ length groups → AreEnds space candidates → All IsRising candidates
    → at ≡ number_at (in_range (range_at space.peaks group) (list_at candidates group)) (middle (length (in_range (range_at space.peaks group) (list_at candidates group))))
    → IsPeakSplit space energy groups candidates group at
peak_split space energy groups candidates group at none w long ends rise is =
    let q = in_range (range_at space.peaks group) (list_at candidates group) in
    let m = middle_inside (length q) (found_two space groups candidates group w long ends) in
    let rising : IsRising (list_at candidates group) = rise group [] (subst (λ n. group < n) (sym long) w.inside) in
    record {
      no_total = none;
      widest = w;
      cut = record {
        middle = is;
        cut = cut_next (list_at candidates group) (range_at space.peaks group) at (number_at q (middle (length q) + 1)) rising
            (subst (λ z. IsPeakCut (list_at candidates group) (range_at space.peaks group) z (number_at q (middle (length q) + 1))) (sym is)
            (cut_at (list_at candidates group) (range_at space.peaks group) (middle (length q)) rising m));
      };
    }

pub items_at : (lists : List (Vec ℤ Global)) (g : ℕ) (v : Vec ℤ Global) → g < length lists → v ≡ slice_index_or lists g v → list_at (lists_of lists) g ≡ v.items
items_at lists g v lt e =
    get_or_default (lists_of lists) g [] v.items (subst (λ n. g < n) (sym (length-map lists (λ (r : Vec ℤ Global). r.items))) lt)
    ∙ (get_or-map (λ (r : Vec ℤ Global). r.items) lists g v v.items lt ∙ ap (λ (r : Vec ℤ Global). r.items) (sym e))

-- one more list of the vector
pub lists_more : (old lists : List (Vec ℤ Global)) (g end : ℕ) (v w : Vec ℤ Global) → AreCandidatesTo (lists_of old) (lists_of lists) g → g < end → end ≡ length old → v ≡ slice_index_or lists g v → IsRising w.items → HaveSameMembers v.items w.items
    → AreCandidatesTo (lists_of old) (lists_of (slice_set lists g w)) (g + 1)
lists_more old lists g end v w to lt is e rises same =
    let a = length-map old (λ (r : Vec ℤ Global). r.items) in
    let b = length-map lists (λ (r : Vec ℤ Global). r.items) in
    let long = to.lists.long in
    subst (λ q. AreCandidatesTo (lists_of old) q (g + 1)) (sym (map-set (λ (r : Vec ℤ Global). r.items) lists g w))
    (rise_more (lists_of old) (lists_of lists) g w.items to (omega arith) rises (subst (λ q. HaveSameMembers q w.items) (sym (items_at lists g v (omega arith) e)) same))

-- the split that the code finds
pub split_found : (space : Space) (energy : List (List Tier)) (groups : List Group) (candidates : List (List ℤ)) (group : ℕ) (at : ℤ) (list : List ℤ) → HasNoTotal space energy (length energy) → IsWidestGroup space groups (length groups) group
    → length candidates ≡ length groups → AreEnds space candidates → All IsRising candidates
    → list ≡ list_at candidates group → at ≡ number_at (in_range (range_at space.peaks group) list) (middle (length (in_range (range_at space.peaks group) list)))
    → IsPeakSplit space energy groups candidates group at
split_found space energy groups candidates group at list none w long ends rise same is =
    let r = range_at space.peaks group in
    peak_split space energy groups candidates group at none w long ends rise
    (is ∙ ap (λ q. number_at (in_range r q) (middle (length (in_range r q)))) same)
