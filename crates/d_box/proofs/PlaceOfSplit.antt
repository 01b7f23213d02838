-- The split of a box as a value is the only one that the rules of a split let.
use Rattle.std.proofs.Common.{ℕ, zero, suc, ℤ, pos, Bool, true, false, ◌≤ℤ◌, ◌<ℤ◌, ◌≡◌, ◌⊎◌, ◌<◌, ◌&&◌, if◌then◌else◌, int_lt, List, [], ◌∷◌, Option, Some, None, length, sym, subst, ap, refl, inl, inr, arith, ◌∙◌}
use Rattle.std.specs.Int.{int_min}
use Rattle.std.specs.List.{All}
use Rattle.std.proofs.lemmas.Bool.{cases_lt}
use Rattle.std.proofs.lemmas.Int.{ints}
use Rattle.std.proofs.lemmas.Option.{same_Some, none-some}
use Rattle.d_tier.specs.declared.tier.Tier.{Tier}
use Rattle.d_tier.specs.declared.peak.Peak.{Peak as Group}
use Rattle.d_tier.specs.TierEnds.{HasNoInner, IsInnerEnd, IsLowestInner}
use Rattle.d_box.specs.declared.space.Space.{Space}
use Rattle.d_box.specs.declared.space.Split.{Split}
use Rattle.d_box.specs.declared.space.Split.TheVariants.{Total, Peak}
use Rattle.d_box.specs.Boxes.{range_at}
use Rattle.d_box.specs.Candidates.{IsRising, list_at, AreEnds}
use Rattle.d_box.specs.Halves.{SplitsAreOne}
use Rattle.d_box.specs.Splits.{tiers_at, gap_at, IsFirstInner, IsWidestGroup, IsSplitOf}
use Rattle.d_box.specs.SplitPlaces.{lesser_of, lower_end, lowest_end, or_total, total_split, wider_of, widest_of, middle_of, peak_split, split_or, split_place}
use Rattle.d_box.specs.Steps.{IsFirstTotal, IsWidest}
use Rattle.d_box.proofs.FoundFacts.{gap_more}
use Rattle.d_box.proofs.SplitFacts.{peak_split as peak_is_split}

-- one more tier before the others, whose end doesn't lie between
none_before : (tier : Tier) (rest : List Tier) (low high : ℤ) → HasNoInner rest low high (length rest)
    → ((end : ℤ) → tier.end ≡ Some end → low <ℤ end → high ≤ℤ end) → HasNoInner (tier ∷ rest) low high (suc (length rest))
none_before tier rest low high none here zero end lt is above = here end is above
none_before tier rest low high none here (suc k) end lt is above = none k end (omega arith) is above

-- a tier without an end before the others
before_open : (tier : Tier) (rest : List Tier) (low high : ℤ) (found : Option ℤ) → ((end : ℤ) → tier.end ≡ Some end → low <ℤ end → high ≤ℤ end)
    → IsInnerEnd rest low high (length rest) found → IsInnerEnd (tier ∷ rest) low high (suc (length rest)) found
before_open tier rest low high None here is = none_before tier rest low high is here
before_open tier rest low high (Some at) here is = record {
  tier = suc is.tier;
  inside = let i = is.inside in omega arith;
  there = is.there;
  above = is.above;
  below = is.below;
  lowest = none_before tier rest low at is.lowest (λ end there above. let h = here end there above in let b = is.below in omega (arith, ints));
}

inside_from : (low end high : ℤ) → (int_lt low end && int_lt end high) ≡ true → (low <ℤ end) × (end <ℤ high)
inside_from low end high e = grind (arith, ints)

outside_from : (low end high : ℤ) → (int_lt low end && int_lt end high) ≡ false → low <ℤ end → high ≤ℤ end
outside_from low end high e above = grind (arith, ints)

-- the lesser is one of both
lesser_is : (end found : ℤ) → ((int_min end found ≡ end) × (end ≤ℤ found)) ⊎ ((int_min end found ≡ found) × (found <ℤ end))
lesser_is end found = grind (arith, ints)

-- a tier whose end lies between before the others
before_inner : (tier : Tier) (rest : List Tier) (low high end : ℤ) (found : Option ℤ) → tier.end ≡ Some end → low <ℤ end → end <ℤ high
    → IsInnerEnd rest low high (length rest) found → IsInnerEnd (tier ∷ rest) low high (suc (length rest)) (lesser_of end found)
before_inner tier rest low high end None there above below none = record {
  tier = 0;
  inside = omega arith;
  there = there;
  above = above;
  below = below;
  lowest = none_before tier rest low end (λ k other lt is over. let h = none k other lt is over in omega (arith, ints))
      (λ other is over. let e = same_Some end other (sym there ∙ is) in omega (arith, ints));
}
before_inner tier rest low high end (Some at) there above below is = elim (lesser_is end at) [
  | inl h ↦ subst (λ z. IsLowestInner (tier ∷ rest) low high (suc (length rest)) z) (sym h.0) (record {
    tier = 0;
    inside = omega arith;
    there = there;
    above = above;
    below = below;
    lowest = none_before tier rest low end (λ k other lt here over. let q = is.lowest k other lt here over in let p = h.1 in omega (arith, ints))
        (λ other here over. let e = same_Some end other (sym there ∙ here) in omega (arith, ints));
  })
  | inr h ↦ subst (λ z. IsLowestInner (tier ∷ rest) low high (suc (length rest)) z) (sym h.0) (record {
    tier = suc is.tier;
    inside = let i = is.inside in omega arith;
    there = is.there;
    above = is.above;
    below = is.below;
    lowest = none_before tier rest low at is.lowest
        (λ other here over. let e = same_Some end other (sym there ∙ here) in let p = h.1 in omega (arith, ints));
  })
]

before_some : (tier : Tier) (rest : List Tier) (low high end : ℤ) (inside : Bool) (found : Option ℤ) → tier.end ≡ Some end
    → (int_lt low end && int_lt end high) ≡ inside → IsInnerEnd rest low high (length rest) found
    → IsInnerEnd (tier ∷ rest) low high (suc (length rest)) (if inside then lesser_of end found else found)
before_some tier rest low high end true found there e is =
    let h = inside_from low end high e in
    before_inner tier rest low high end found there h.0 h.1 is
before_some tier rest low high end false found there e is =
    before_open tier rest low high found
    (λ other here over. subst (λ z. high ≤ℤ z) (same_Some end other (sym there ∙ here))
    (outside_from low end high e (subst (λ z. low <ℤ z) (sym (same_Some end other (sym there ∙ here))) over))) is

before_any : (tier : Tier) (rest : List Tier) (low high : ℤ) (end found : Option ℤ) → tier.end ≡ end → IsInnerEnd rest low high (length rest) found
    → IsInnerEnd (tier ∷ rest) low high (suc (length rest)) (lower_end low high end found)
before_any tier rest low high None found there is =
    before_open tier rest low high found (λ end here over. absurd (none-some end (sym there ∙ here))) is
before_any tier rest low high (Some end) found there is = before_some tier rest low high end (int_lt low end && int_lt end high) found there refl is

-- the lowest end is one
pub lowest_is : (tiers : List Tier) (low high : ℤ) → IsInnerEnd tiers low high (length tiers) (lowest_end tiers low high)
unfolding lowest_end
lowest_is [] low high = λ k end lt is above. absurd (omega arith)
lowest_is (tier ∷ rest) low high = before_any tier rest low high tier.end (lowest_end rest low high) refl (lowest_is rest low high)

-- two lowest ends are one
pub inner_same : (tiers : List Tier) (low high : ℤ) (n : ℕ) (one other : Option ℤ) → IsInnerEnd tiers low high n one → IsInnerEnd tiers low high n other
    → one ≡ other
inner_same tiers low high n None None is was = refl
inner_same tiers low high n None (Some at) is was =
    absurd (let h = is was.tier at was.inside was.there was.above in let b = was.below in omega (arith, ints))
inner_same tiers low high n (Some at) None is was =
    absurd (let h = was is.tier at is.inside is.there is.above in let b = is.below in omega (arith, ints))
inner_same tiers low high n (Some at) (Some other) is was =
    ap Some (both at other (is.lowest was.tier other was.inside was.there was.above) (was.lowest is.tier at is.inside is.there is.above))
  where
    both : (x y : ℤ) → x ≤ℤ y → y ≤ℤ x → x ≡ y
    both x y a b = omega (arith, ints)

-- what holds of the first n numbers and of n
up_to_next : (P : ℕ → Type 0) (n : ℕ) → ((k : ℕ) → k < n → P k) → P n → (k : ℕ) → k < suc n → P k
up_to_next P n before here k lt = gap_more P n before here k (omega arith)

-- one more total
total_more : (space : Space) (energy : List (List Tier)) (n : ℕ) (found : Option Split) (end : Option ℤ) → IsFirstTotal space energy n found
    → IsInnerEnd (tiers_at energy n) (range_at space.totals n).low (range_at space.totals n).high (length (tiers_at energy n)) end
    → IsFirstTotal space energy (suc n) (or_total found n end)
total_more space energy n None None before here =
    up_to_next (λ k. HasNoInner (tiers_at energy k) (range_at space.totals k).low (range_at space.totals k).high (length (tiers_at energy k))) n before here
total_more space energy n None (Some at) before here = record { inside = omega arith; lowest = here; first = before }
total_more space energy n (Some (Total index at)) end is here =
    record { inside = (let i = is.inside in omega arith); lowest = is.lowest; first = is.first }
total_more space energy n (Some (Peak group at)) end is here = absurd is

-- the split of a total is the first
total_is : (space : Space) (energy : List (List Tier)) (n : ℕ) → IsFirstTotal space energy n (total_split space energy n)
unfolding total_split
total_is space energy zero = λ k lt. absurd (omega arith)
total_is space energy (suc n) =
    total_more space energy n (total_split space energy n) (lowest_end (tiers_at energy n) (range_at space.totals n).low (range_at space.totals n).high)
    (total_is space energy n) (lowest_is (tiers_at energy n) (range_at space.totals n).low (range_at space.totals n).high)

-- a tier that ends strictly inside shows that there is one
none_inside : (tiers : List Tier) (low high : ℤ) (at : ℤ) → HasNoInner tiers low high (length tiers) → IsLowestInner tiers low high (length tiers) at → ⊥
none_inside tiers low high at none is = let h = none is.tier at is.inside is.there is.above in let b = is.below in omega (arith, ints)

-- two first totals are one
first_same : (space : Space) (energy : List (List Tier)) (n index other : ℕ) (at place : ℤ) → IsFirstInner space energy n index at
    → IsFirstInner space energy n other place → Some (Total index at) ≡ Some (Total other place)
first_same space energy n index other at place is was = elim (cases_lt index other) [
  | inl lt ↦ absurd (none_inside _ _ _ at (was.first index lt) is.lowest)
  | inr le ↦ elim (cases_lt other index) [
    | inl lt ↦ absurd (none_inside _ _ _ place (is.first other lt) was.lowest)
    | inr ge ↦ here other (omega arith) place was
  ]
]
  where
    here : (other : ℕ) → index ≡ other → (place : ℤ) → IsFirstInner space energy n other place → Some (Total index at) ≡ Some (Total other place)
    here other e place was =
        let moved = subst (λ j. IsFirstInner space energy n j place) (sym e) was in
        let same = inner_same (tiers_at energy index) (range_at space.totals index).low (range_at space.totals index).high
        (length (tiers_at energy index)) (Some at) (Some place) is.lowest moved.lowest in
        ap (λ j. Some (Total j at)) e ∙ ap (λ z. Some (Total other z)) (same_Some at place same)

total_same : (space : Space) (energy : List (List Tier)) (n : ℕ) (one other : Option Split) → IsFirstTotal space energy n one
    → IsFirstTotal space energy n other → one ≡ other
total_same space energy n None None is was = refl
total_same space energy n None (Some (Total index at)) is was = absurd (none_inside _ _ _ at (is index was.inside) was.lowest)
total_same space energy n None (Some (Peak group at)) is was = absurd was
total_same space energy n (Some (Total index at)) None is was = absurd (none_inside _ _ _ at (was index is.inside) is.lowest)
total_same space energy n (Some (Total index at)) (Some (Total other place)) is was = first_same space energy n index other at place is was
total_same space energy n (Some (Total index at)) (Some (Peak group place)) is was = absurd was
total_same space energy n (Some (Peak group at)) other is was = absurd is

below_from : (x y : ℤ) → int_lt x y ≡ true → x <ℤ y
below_from x y e = grind (arith, ints)

not_below : (x y : ℤ) → int_lt x y ≡ false → y ≤ℤ x
not_below x y e = grind (arith, ints)

-- one more group, where none was found
wider_first : (space : Space) (groups : List Group) (n : ℕ) (wider : Bool) → int_lt (pos 0) (gap_at space groups n) ≡ wider
    → IsWidest space groups n None → IsWidest space groups (suc n) (if wider then Some n else None)
wider_first space groups n true e none =
    let over = below_from (pos 0) (gap_at space groups n) e in
    record {
      inside = omega arith;
      some = over;
      greatest = up_to_next (λ k. gap_at space groups k ≤ℤ gap_at space groups n) n (λ k lt. let h = none k lt in omega (arith, ints)) (omega (arith, ints));
      first = λ k lt. let h = none k lt in omega (arith, ints);
    }
wider_first space groups n false e none = up_to_next (λ k. gap_at space groups k ≤ℤ pos 0) n none (not_below (pos 0) (gap_at space groups n) e)

-- one more group, where one was found
wider_next : (space : Space) (groups : List Group) (n group : ℕ) (wider : Bool) → int_lt (gap_at space groups group) (gap_at space groups n) ≡ wider
    → IsWidestGroup space groups n group → IsWidest space groups (suc n) (if wider then Some n else Some group)
wider_next space groups n group true e is =
    let over = below_from (gap_at space groups group) (gap_at space groups n) e in
    record {
      inside = omega arith;
      some = let s = is.some in omega (arith, ints);
      greatest = up_to_next (λ k. gap_at space groups k ≤ℤ gap_at space groups n) n (λ k lt. let h = is.greatest k lt in omega (arith, ints)) (omega (arith, ints));
      first = λ k lt. let h = is.greatest k lt in omega (arith, ints);
    }
wider_next space groups n group false e is = record {
  inside = let i = is.inside in omega arith;
  some = is.some;
  greatest = up_to_next (λ k. gap_at space groups k ≤ℤ gap_at space groups group) n is.greatest (not_below (gap_at space groups group) (gap_at space groups n) e);
  first = is.first;
}

wider_more : (space : Space) (groups : List Group) (n : ℕ) (found : Option ℕ) → IsWidest space groups n found → IsWidest space groups (suc n) (wider_of space groups n found)
wider_more space groups n None is = wider_first space groups n (int_lt (pos 0) (gap_at space groups n)) refl is
wider_more space groups n (Some group) is = wider_next space groups n group (int_lt (gap_at space groups group) (gap_at space groups n)) refl is

-- the widest group is one
widest_found : (space : Space) (groups : List Group) (n : ℕ) → IsWidest space groups n (widest_of space groups n)
unfolding widest_of
widest_found space groups zero = λ k lt. absurd (omega arith)
widest_found space groups (suc n) = wider_more space groups n (widest_of space groups n) (widest_found space groups n)

-- two widest groups are one
widest_same : (space : Space) (groups : List Group) (n : ℕ) (one other : Option ℕ) → IsWidest space groups n one → IsWidest space groups n other → one ≡ other
widest_same space groups n None None is was = refl
widest_same space groups n None (Some group) is was = absurd (let h = is group was.inside in let s = was.some in omega (arith, ints))
widest_same space groups n (Some group) None is was = absurd (let h = was group is.inside in let s = is.some in omega (arith, ints))
widest_same space groups n (Some group) (Some other) is was =
    ap Some (elim (cases_lt group other) [
      | inl lt ↦ absurd (let a = was.first group lt in let b = is.greatest other was.inside in omega (arith, ints))
      | inr le ↦ elim (cases_lt other group) [
        | inl lt ↦ absurd (let a = is.first other lt in let b = was.greatest group is.inside in omega (arith, ints))
        | inr ge ↦ omega arith
      ]
    ])

-- the split of a box is the one that is found as a value
pub split_is : (space : Space) (energy : List (List Tier)) (groups : List Group) (candidates : List (List ℤ)) (found : Option Split)
    → IsSplitOf space energy groups candidates found → found ≡ split_place space energy groups candidates
split_is space energy groups candidates None is =
    let no_total = total_same space energy (length energy) None (total_split space energy (length energy)) is.no_total
    (total_is space energy (length energy)) in
    let no_group = widest_same space groups (length groups) None (widest_of space groups (length groups)) is.no_gap
    (widest_found space groups (length groups)) in
    ap (λ g. peak_split space candidates g) no_group
    ∙ ap (λ t. split_or t (peak_split space candidates (widest_of space groups (length groups)))) no_total
split_is space energy groups candidates (Some (Total index at)) is =
    ap (λ t. split_or t (peak_split space candidates (widest_of space groups (length groups))))
    (total_same space energy (length energy) (Some (Total index at)) (total_split space energy (length energy)) is (total_is space energy (length energy)))
split_is space energy groups candidates (Some (Peak group at)) is =
    let no_total = total_same space energy (length energy) None (total_split space energy (length energy)) is.no_total
    (total_is space energy (length energy)) in
    let the_group = widest_same space groups (length groups) (Some group) (widest_of space groups (length groups)) is.widest
    (widest_found space groups (length groups)) in
    ap (λ z. Some (Peak group z)) is.cut.middle
    ∙ (ap (λ g. peak_split space candidates g) the_group
    ∙ ap (λ t. split_or t (peak_split space candidates (widest_of space groups (length groups)))) no_total)

place_of : (space : Space) (energy : List (List Tier)) (groups : List Group) (candidates : List (List ℤ)) (total : Option Split) (group : Option ℕ)
    → length candidates ≡ length groups → AreEnds space candidates → All IsRising candidates → IsFirstTotal space energy (length energy) total
    → IsWidest space groups (length groups) group → IsSplitOf space energy groups candidates (split_or total (peak_split space candidates group))
place_of space energy groups candidates (Some (Total index at)) group long ends rise is widest = is
place_of space energy groups candidates (Some (Peak other at)) group long ends rise is widest = absurd is
place_of space energy groups candidates None None long ends rise is widest = record { no_total = is; no_gap = widest }
place_of space energy groups candidates None (Some group) long ends rise is widest =
    peak_is_split space energy groups candidates group (middle_of (list_at candidates group) (range_at space.peaks group)) is widest long ends rise refl

-- what is found as a value is the split of the box
pub split_place_is : (space : Space) (energy : List (List Tier)) (groups : List Group) (candidates : List (List ℤ))
    → length candidates ≡ length groups → AreEnds space candidates → All IsRising candidates
    → IsSplitOf space energy groups candidates (split_place space energy groups candidates)
split_place_is space energy groups candidates long ends rise =
    place_of space energy groups candidates (total_split space energy (length energy)) (widest_of space groups (length groups)) long ends rise
    (total_is space energy (length energy)) (widest_found space groups (length groups))

-- a box has one split
pub splits_same : SplitsAreOne
splits_same space energy groups candidates one other is was =
    split_is space energy groups candidates one is ∙ sym (split_is space energy groups candidates other was)
