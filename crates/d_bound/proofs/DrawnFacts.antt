-- The powers that are gathered for each group are its candidates, and the ranges of the root go from the least to the greatest.
use Rattle.std.proofs.Common.{◌≡◌, ◌⊎◌, inl, inr, ℕ, ℤ, ◌+◌, ◌*◌, ◌/◌, ◌%◌, ◌<◌, ◌≤◌, List, [], ◌∷◌, ◌++◌, length, Option, Some, None, refl, sym, ap, ◌∙◌, subst, arith, get_or, slice_get, replicate, Vec, Global}
use Rattle.std.specs.List.{Contains, All}
use Rattle.std.proofs.lemmas.Bool.{cases_eq}
use Rattle.std.proofs.lemmas.Nat.{div-mul-add, mod-mul-add, mul-add-lt, row_below_turned}
use Rattle.std.proofs.lemmas.List.{map_push, length_push, get_or_push, get_or_append_left, get_or_past, length-replicate, get_or-replicate}
use Rattle.std.proofs.lemmas.List.Elements.{Contains-append_left, Contains-push, Contains-push_cases}
use Rattle.std.proofs.lemmas.List.FromFn.{fill_by_all}
use Rattle.std.proofs.lemmas.Option.{slice_get_within}
use Rattle.d_batt.specs.declared.mode.Mode.{Mode}
use Rattle.d_box.specs.declared.space.Range.{Range}
use Rattle.d_box.specs.declared.space.Space.{Space}
use Rattle.d_box.specs.Boxes.{nothing, range_at}
use Rattle.d_box.specs.Candidates.{IsRising, AreCandidatesOf, lists_of, list_at, range_of}
use Rattle.d_bill.specs.Inputs.{Inputs}
use Rattle.d_bill.specs.Flows.{arc_of}
use Rattle.d_bound.specs.Roots.{IsCandidate, AreCandidates}
use Rattle.d_bound.specs.RootSteps.{IsDrawnAt, AreDrawnTo, AreDrawn, AreDrawnLists, IsRootTo, IsRootBy}

-- a candidate's mode is one of the battery's
mode_inside : (i : Inputs) (group : ℕ) (power : ℤ) (c : IsCandidate i group power) → c.mode < length i.storage.modes
mode_inside i group power c = by_mode (slice_get i.storage.modes c.mode) refl
  where
    by_mode : (found : Option Mode) → slice_get i.storage.modes c.mode ≡ found → c.mode < length i.storage.modes
    by_mode (Some mode) e = slice_get_within i.storage.modes c.mode mode e
    by_mode None none = let there = c.there in let nowhere : arc_of i c.interval c.mode ≡ None = rw none refl in absurd (cc)

module _ (i : Inputs) (group : ℕ) where
  -- the power at a place of the list that goes interval by interval
  abbrev pub IsPlaced : ℕ → ℕ → ℤ → Type 0
  IsPlaced modes place power = IsDrawnAt i group (place / modes) (place % modes) power

  -- nothing is drawn at one more place
  pub drawn_same : (modes place : ℕ) (list : List ℤ) → modes ≡ length i.storage.modes → AreDrawnTo i group place list → ((power : ℤ) → IsPlaced modes place power → ⊥)
      → AreDrawnTo i group (place + 1) list
  drawn_same modes place list count to none = record {
    drawn = to.drawn;
    each = λ at power below here. elim (cases_eq at place) [
      | inl e ↦ absurd (none power (subst (λ (k : ℕ). IsPlaced k place power) (sym count) (subst (λ (k : ℕ). IsPlaced (length i.storage.modes) k power) e here)))
      | inr apart ↦ to.each at power (omega arith) here
    ];
  }

  -- the power at one more place
  pub drawn_more : (net modes place : ℕ) (list new : List ℤ) (power : ℤ) → net ≡ length i.net → modes ≡ length i.storage.modes → place < net * modes
      → AreDrawnTo i group place list → IsPlaced modes place power → new ≡ list ++ power ∷ [] → AreDrawnTo i group (place + 1) new
  drawn_more net modes place list new power long count below to found push = subst (λ (l : List ℤ). AreDrawnTo i group (place + 1) l) (sym push) (record {
    drawn = λ other has. elim (Contains-push_cases list power other has) [
      | inl before ↦ to.drawn other before
      | inr e ↦ subst (λ (p : ℤ). IsCandidate i group p) e candidate
    ];
    each = λ at other earlier here. elim (cases_eq at place) [
      | inl e ↦ subst (λ (p : ℤ). Contains (list ++ power ∷ []) p)
          (same other (subst (λ (k : ℕ). IsPlaced k place other) (sym count) (subst (λ (k : ℕ). IsPlaced (length i.storage.modes) k other) e here))) (Contains-push list power)
      | inr apart ↦ Contains-append_left list (power ∷ []) other (to.each at other (omega arith) here)
    ];
  })
    where
      candidate : IsCandidate i group power
      candidate = record {
        interval = place / modes;
        inside = subst (λ (n : ℕ). place / modes < n) long (row_below_turned place modes net modes below (omega arith)).1;
        held = found.held;
        mode = place % modes;
        arc = found.arc;
        there = found.there;
        drawn = found.drawn;
      }

      same : (other : ℤ) → IsPlaced modes place other → power ≡ other
      same other here = let a = found.there in let b = here.there in let x = found.drawn in let y = here.drawn in cc

  -- what is gathered at all places
  pub drawn_all : (count : ℕ) (list : List ℤ) → count ≡ length i.net * length i.storage.modes → AreDrawnTo i group count list → AreDrawn i group list
  drawn_all count list whole to = record {
    drawn = to.drawn;
    each = λ power c.
        let modes = length i.storage.modes in
        let there = mode_inside i group power c in
        let below : c.interval * modes + c.mode < length i.net * modes = omega (arith, mul-add-lt c.interval modes c.mode (length i.net) c.inside there) in
        to.each (c.interval * modes + c.mode) power (subst (λ (n : ℕ). c.interval * modes + c.mode < n) (sym whole) below) (at_place power c there);
  }
    where
      at_place : (power : ℤ) (c : IsCandidate i group power) → c.mode < length i.storage.modes
          → IsDrawnAt i group ((c.interval * length i.storage.modes + c.mode) / length i.storage.modes) ((c.interval * length i.storage.modes + c.mode) % length i.storage.modes) power
      at_place power c there =
          rw (div-mul-add c.interval (length i.storage.modes) c.mode there, mod-mul-add c.interval (length i.storage.modes) c.mode there)
          (record { held = c.held; arc = c.arc; there = c.there; drawn = c.drawn })

-- one more group's list
lists_more : (i : Inputs) (n : ℕ) (lists : List (List ℤ)) (list : List ℤ) → AreDrawnLists i n lists → AreDrawn i n list → AreDrawnLists i (n + 1) (lists ++ list ∷ [])
lists_more i n lists list to more = record {
  long = length_push lists list ∙ ap (λ (k : ℕ). k + 1) to.long;
  each = λ group below. elim (cases_eq group n) [
    | inl e ↦ subst (λ (k : ℕ). AreDrawn i k (list_at (lists ++ list ∷ []) k)) (sym e) (subst (λ (l : List ℤ). AreDrawn i n l) (sym (get_or_push lists list [] n to.long)) more)
    | inr apart ↦ subst (λ (l : List ℤ). AreDrawn i group l) (sym (get_or_append_left lists (list ∷ []) [] group (omega (arith, to.long)))) (to.each group (omega arith))
  ];
}

-- the same of vectors
pub vectors_more : (i : Inputs) (n : ℕ) (lists new : List (Vec ℤ Global)) (list : Vec ℤ Global) → AreDrawnLists i n (lists_of lists) → AreDrawn i n list.items
    → new ≡ lists ++ list ∷ [] → AreDrawnLists i (n + 1) (lists_of new)
vectors_more i n lists new list to more push =
    subst (λ (l : List (List ℤ)). AreDrawnLists i (n + 1) l) (sym (ap lists_of push ∙ map_push (λ (v : Vec ℤ Global). v.items) lists list)) (lists_more i n (lists_of lists) list.items to more)

-- the lists that are made of these, each rising, are the candidates
pub candidates_are : (i : Inputs) (lists sorted : List (List ℤ)) → AreDrawnLists i (length i.peaks) lists → AreCandidatesOf lists sorted → All IsRising sorted → AreCandidates i sorted
candidates_are i lists sorted drawn same rising = record {
  long = same.long ∙ drawn.long;
  rising = rising;
  drawn = λ group below power has. (drawn.each group below).drawn power ((same.same group (omega (arith, drawn.long))).1 power has);
  each = λ group below power c. (same.same group (omega (arith, drawn.long))).0 power ((drawn.each group below).each power c);
}

module _ (lists : List (List ℤ)) where
  -- a box whose ranges are all 0 to 0
  pub root_none : (space : Space) → space.peaks ≡ replicate 37 nothing → space.totals ≡ replicate 36 nothing → IsRootTo lists 0 space
  root_none space peaks totals = record {
    long = ap length peaks ∙ length-replicate 37 nothing;
    peaks = λ group below. absurd (omega arith);
    rest = λ group past inside. ap (λ (ranges : List Range). range_at ranges group) peaks ∙ get_or-replicate 37 group nothing nothing inside;
    totals = totals ∙ fill_by_all (λ (k : ℕ). nothing) (replicate 36 nothing) 36 nothing (length-replicate 36 nothing) (λ k inside. get_or-replicate 36 k nothing nothing inside);
  }

  -- the ranges of all groups
  pub root_all : (group : ℕ) (space : Space) → IsRootTo lists group space → length lists ≤ group → IsRootBy lists space
  root_all group space to past = space_is space _ _ (fill_by_all (λ k. range_of (list_at lists k)) space.peaks 37 nothing to.long each) to.totals
    where
      each : (k : ℕ) → k < 37 → get_or space.peaks k nothing ≡ range_of (list_at lists k)
      each k inside = by_place (below_or k group)
        where
          below_or : (k n : ℕ) → (k < n) ⊎ (n ≤ k)
          below_or k n = grind arith

          by_place : (k < group) ⊎ (group ≤ k) → get_or space.peaks k nothing ≡ range_of (list_at lists k)
          by_place (inl below) = to.peaks k below
          by_place (inr over) = to.rest k over inside ∙ sym (ap range_of (get_or_past lists k [] (omega arith)))

      space_is : (space : Space) (peaks totals : List Range) → space.peaks ≡ peaks → space.totals ≡ totals → space ≡ record { peaks = peaks; totals = totals }
      space_is space peaks totals a b = rw (sym a, sym b) refl
