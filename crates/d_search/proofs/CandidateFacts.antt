-- The candidates of a problem: there are such lists, and only one.
use Rattle.std.proofs.Common.{◌≡◌, ◌⊎◌, inl, inr, ℕ, zero, suc, ℤ, ◌<ℤ◌, ◌+◌, ◌*◌, ◌/◌, ◌%◌, ◌<◌, ◌≤◌, Bool, true, false, List, [], ◌∷◌, ◌++◌, length, map, get_or, Option, Some, None, arith, sym, refl, ap, subst, ◌∙◌}
use Rattle.std.specs.List.{Contains, All, range_with_len}
use Rattle.std.proofs.lemmas.Int.{ints}
use Rattle.std.proofs.lemmas.List.Elements.{Contains-get_or}
use Rattle.std.proofs.lemmas.List.Kept.{AllPairs-cons}
use Rattle.std.proofs.lemmas.List.FromFn.{fill_by_all, length-map-range_with_len, get_or-map-range_with_len}
use Rattle.d_box.specs.Candidates.{IsRising, HaveSameMembers, list_at}
use Rattle.d_bill.specs.declared.arc.Arc.{Arc}
use Rattle.d_bill.specs.Inputs.{Inputs, is_in_group}
use Rattle.d_bill.specs.Flows.{arc_of}
use Rattle.d_bound.specs.Roots.{AreCandidates}
use Rattle.d_bound.specs.RootSteps.{IsFoundDrawn, AreDrawnTo, AreDrawn}
use Rattle.d_bound.proofs.DrawnFacts.{drawn_same, drawn_more, drawn_all}

in_front : (x : ℤ) (xs : List ℤ) → Contains (x ∷ xs) x
in_front x xs = (0, omega arith, refl)

behind : (x y : ℤ) (xs : List ℤ) → Contains xs y → Contains (x ∷ xs) y
behind x y xs h = (suc h.0, omega (arith, h.1), h.2)

front_or_behind : (x y : ℤ) (xs : List ℤ) → Contains (x ∷ xs) y → (x ≡ y) ⊎ Contains xs y
front_or_behind x y xs (zero, inside, is) = inl is
front_or_behind x y xs (suc k, inside, is) = inr (k, omega arith, is)

never_in : (y : ℤ) → Contains [] y → ⊥
never_in y h = let inside = h.1 in omega arith

-- the first number of a rising list is below all others
below_rest : (x y : ℤ) (xs : List ℤ) → IsRising (x ∷ xs) → Contains xs y → x <ℤ y
below_rest x y xs rising h = subst (λ z. x <ℤ z) h.2 (rising 0 (suc h.0) y (omega arith) (omega (arith, h.1)))

rest_rises : (x : ℤ) (xs : List ℤ) → IsRising (x ∷ xs) → IsRising xs
rest_rises x xs rising i j d earlier later = rising (suc i) (suc j) d (omega arith) (omega arith)

both_below : (x y : ℤ) → x <ℤ y → y <ℤ x → ⊥
both_below x y a b = omega (arith, ints)

-- of two rising lists with the same numbers both begin with the same
first_same : (x y : ℤ) (xs ys : List ℤ) → IsRising (x ∷ xs) → IsRising (y ∷ ys) → HaveSameMembers (x ∷ xs) (y ∷ ys) → x ≡ y
first_same x y xs ys one other same = by_places (front_or_behind y x ys (same.0 x (in_front x xs))) (front_or_behind x y xs (same.1 y (in_front y ys)))
  where
    by_places : (y ≡ x) ⊎ Contains ys x → (x ≡ y) ⊎ Contains xs y → x ≡ y
    by_places (inl e) place = sym e
    by_places (inr late) (inl e) = e
    by_places (inr late) (inr later) = absurd (both_below x y (below_rest x y xs one later) (below_rest y x ys other late))

-- and what is behind it has the same numbers
rest_in : (x : ℤ) (xs ys : List ℤ) → IsRising (x ∷ xs) → ((z : ℤ) → Contains (x ∷ xs) z → Contains (x ∷ ys) z) → (z : ℤ) → Contains xs z → Contains ys z
rest_in x xs ys rising whole z h = by_place (front_or_behind x z ys (whole z (behind x z xs h)))
  where
    by_place : (x ≡ z) ⊎ Contains ys z → Contains ys z
    by_place (inl e) = absurd (let below = below_rest x z xs rising h in omega (arith, ints))
    by_place (inr late) = late

-- where both begin with the same, what is behind it has the same numbers
rest_same : (x y : ℤ) (xs ys : List ℤ) → IsRising (x ∷ xs) → IsRising (y ∷ ys) → HaveSameMembers (x ∷ xs) (y ∷ ys) → x ≡ y → HaveSameMembers xs ys
rest_same x y xs ys one other same e =
    let at_x : IsRising (x ∷ ys) = subst (λ z. IsRising (z ∷ ys)) (sym e) other in
    let members : HaveSameMembers (x ∷ xs) (x ∷ ys) = subst (λ z. HaveSameMembers (x ∷ xs) (z ∷ ys)) (sym e) same in
    (rest_in x xs ys one members.0, rest_in x ys xs at_x members.1)

-- rising lists with the same numbers are one
pub rising_same : (xs ys : List ℤ) → IsRising xs → IsRising ys → HaveSameMembers xs ys → xs ≡ ys
rising_same [] [] one other same = refl
rising_same [] (y ∷ ys) one other same = absurd (never_in y (same.1 y (in_front y ys)))
rising_same (x ∷ xs) [] one other same = absurd (never_in x (same.0 x (in_front x xs)))
rising_same (x ∷ xs) (y ∷ ys) one other same =
    let e = first_same x y xs ys one other same in
    ap (λ l. x ∷ l) (rising_same xs ys (rest_rises x xs one) (rest_rises y ys other) (rest_same x y xs ys one other same e)) ∙ ap (λ z. z ∷ ys) e

-- a problem has one list of candidates for each group
pub candidates_same : (i : Inputs) (a b : List (List ℤ)) → AreCandidates i a → AreCandidates i b → a ≡ b
candidates_same i a b one other =
    fill_by_all (list_at a) a (length a) [] refl (λ k below. refl)
    ∙ sym (fill_by_all (list_at a) b (length a) [] (other.long ∙ sym one.long) (λ k below. sym (each k below)))
  where
    each : (group : ℕ) → group < length a → list_at a group ≡ list_at b group
    each group below =
        let there : group < length i.peaks = omega (arith, one.long) in
        rising_same (list_at a group) (list_at b group) (one.rising group [] below) (other.rising group [] (omega (arith, one.long, other.long))) (
          λ power h. other.each group there power (one.drawn group there power h),
          λ power h. one.each group there power (other.drawn group there power h),
        )

-- a rising list with one number more
record HasMore (x : ℤ) (xs ys : List ℤ) : Type 0 where
  rises : IsRising ys
  new : (z : ℤ) → Contains ys z → (x ≡ z) ⊎ Contains xs z
  here : Contains ys x
  old : (z : ℤ) → Contains xs z → Contains ys z

all_above : (x : ℤ) (xs : List ℤ) → ((z : ℤ) → Contains xs z → x <ℤ z) → All (λ z. x <ℤ z) xs
all_above x xs above k d inside = above (get_or xs k d) (Contains-get_or xs k d inside)

order : (x y : ℤ) → (x <ℤ y) ⊎ ((x ≡ y) ⊎ (y <ℤ x))
order x y = grind (arith, ints)

with_more : (x : ℤ) (xs : List ℤ) → IsRising xs → (ys : List ℤ) × HasMore x xs ys
with_more x [] rising = (
  x ∷ [],
  record {
    rises = λ i j d earlier later. absurd (omega arith);
    new = λ z h. front_or_behind x z [] h;
    here = in_front x [];
    old = λ z h. absurd (never_in z h);
  },
)
with_more x (y ∷ ys) rising = elim (order x y) [
  | inl below ↦ (
    x ∷ y ∷ ys,
    record {
      rises = AllPairs-cons (λ a b. a <ℤ b) x (y ∷ ys) (all_above x (y ∷ ys) (λ z h. elim (front_or_behind y z ys h) [
        | inl e ↦ subst (λ w. x <ℤ w) e below
        | inr late ↦ (let above = below_rest y z ys rising late in omega (arith, ints))
      ])) rising;
      new = λ z h. front_or_behind x z (y ∷ ys) h;
      here = in_front x (y ∷ ys);
      old = λ z h. behind x z (y ∷ ys) h;
    },
  )
  | inr (inl same) ↦ (y ∷ ys, record { rises = rising; new = λ z h. inr h; here = subst (Contains (y ∷ ys)) (sym same) (in_front y ys); old = λ z h. h })
  | inr (inr above) ↦ (let more = with_more x ys (rest_rises y ys rising) in (
    y ∷ more.0,
    record {
      rises = AllPairs-cons (λ a b. a <ℤ b) y more.0 (all_above y more.0 (λ z h. elim (more.1.new z h) [
        | inl e ↦ subst (λ w. y <ℤ w) e above
        | inr late ↦ below_rest y z ys rising late
      ])) more.1.rises;
      new = λ z h. elim (front_or_behind y z more.0 h) [
        | inl e ↦ inr (subst (Contains (y ∷ ys)) e (in_front y ys))
        | inr late ↦ elim (more.1.new z late) [ inl e ↦ inl e | inr old ↦ inr (behind y z ys old) ]
      ];
      here = behind y x more.0 more.1.here;
      old = λ z h. elim (front_or_behind y z ys h) [
        | inl e ↦ subst (Contains (y ∷ more.0)) e (in_front y more.0)
        | inr late ↦ behind y z more.0 (more.1.old z late)
      ];
    },
  ))
]

-- the numbers of each list have a rising list
pub risen : (xs : List ℤ) → (ys : List ℤ) × IsRising ys × HaveSameMembers xs ys
risen [] = ([], λ i j d earlier later. absurd (omega arith), (λ z h. h, λ z h. h))
risen (x ∷ xs) =
    let rest = risen xs in
    let more = with_more x rest.0 rest.1 in (
      more.0,
      more.1.rises,
      (
        λ z h. elim (front_or_behind x z xs h) [ inl e ↦ subst (Contains more.0) e more.1.here | inr late ↦ more.1.old z (rest.2.0 z late) ],
        λ z h. elim (more.1.new z h) [ inl e ↦ subst (Contains (x ∷ xs)) e (in_front x xs) | inr old ↦ behind x z xs (rest.2.1 z old) ],
      ),
    )

-- the power that a mode draws is found
found_drawn : (i : Inputs) (group t mode : ℕ) → (found : Option ℤ) × IsFoundDrawn i group t mode found
found_drawn i group t mode = by_both (is_in_group i t group) (arc_of i t mode) refl refl
  where
    by_both : (held : Bool) (arc : Option Arc) → is_in_group i t group ≡ held → arc_of i t mode ≡ arc → (found : Option ℤ) × IsFoundDrawn i group t mode found
    by_both true (Some arc) held there = (Some arc.power, record { held = held; arc = arc; there = there; drawn = refl })
    by_both true None held there = (None, λ power drawn. let at = drawn.there in cc)
    by_both false arc held there = (None, λ power drawn. let at = drawn.held in cc)

-- what a group may draw up to a place
drawn_to : (i : Inputs) (group n : ℕ) → n ≤ length i.net * length i.storage.modes → (list : List ℤ) × AreDrawnTo i group n list
drawn_to i group zero within = ([], record { drawn = λ power h. absurd (never_in power h); each = λ place power below. absurd (omega arith) })
drawn_to i group (suc n) within = by_found (found_drawn i group (n / length i.storage.modes) (n % length i.storage.modes)) (drawn_to i group n (omega arith))
  where
    one : n + 1 ≡ suc n
    one = omega arith

    by_found : (found : Option ℤ) × IsFoundDrawn i group (n / length i.storage.modes) (n % length i.storage.modes) found
        → (list : List ℤ) × AreDrawnTo i group n list → (list : List ℤ) × AreDrawnTo i group (suc n) list
    by_found (None, none) before =
        (before.0, subst (λ k. AreDrawnTo i group k before.0) one (drawn_same i group (length i.storage.modes) n before.0 refl before.1 none))
    by_found (Some power, here) before = (
      before.0 ++ power ∷ [],
      subst (λ k. AreDrawnTo i group k (before.0 ++ power ∷ [])) one
          (drawn_more i group (length i.net) (length i.storage.modes) n before.0 (before.0 ++ power ∷ []) power refl refl (omega arith) before.1 here refl),
    )

-- the candidates of a group
of_group : (i : Inputs) (group : ℕ) → (list : List ℤ) × IsRising list × AreDrawn i group list
of_group i group =
    let count = length i.net * length i.storage.modes in
    let gathered = drawn_to i group count (omega arith) in
    let all = drawn_all i group count gathered.0 refl gathered.1 in
    let risen = risen gathered.0 in
    (risen.0, risen.1, record { drawn = λ power h. all.drawn power (risen.2.1 power h); each = λ power c. risen.2.0 power (all.each power c) })

-- each problem has its candidates
pub candidates_there : (i : Inputs) → (lists : List (List ℤ)) × AreCandidates i lists
candidates_there i = (
  map (λ group. (of_group i group).0) (range_with_len 0 (length i.peaks)),
  record {
    long = length-map-range_with_len (λ group. (of_group i group).0) 0 (length i.peaks);
    rising = λ k d inside. subst IsRising (sym (at k d (omega (arith, length-map-range_with_len (λ group. (of_group i group).0) 0 (length i.peaks))))) (of_group i k).1;
    drawn = λ group there power h. (of_group i group).2.drawn power (subst (λ (l : List ℤ). Contains l power) (at group [] there) h);
    each = λ group there power c. subst (λ (l : List ℤ). Contains l power) (sym (at group [] there)) ((of_group i group).2.each power c);
  },
)
  where
    at : (k : ℕ) (d : List ℤ) → k < length i.peaks → get_or (map (λ group. (of_group i group).0) (range_with_len 0 (length i.peaks))) k d ≡ (of_group i k).0
    at k d below = get_or-map-range_with_len (λ group. (of_group i group).0) 0 (length i.peaks) k k d below (omega arith)
