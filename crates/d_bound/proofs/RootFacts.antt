-- The root of a problem holds every feasible schedule, and of the halves of a box one does.
use Rattle.std.proofs.Common.{◌≡◌, ◌⊎◌, inl, inr, ℕ, ℤ, pos, ◌-◌, ◌≤◌, ◌<◌, List, [], ◌∷◌, length, All, refl, sym, ap, ◌∙◌, subst, arith, get_or, slice_get}
use Rattle.std.specs.List.{Contains}
use Rattle.std.proofs.lemmas.Int.{ints}
use Rattle.std.proofs.lemmas.List.{get_or_past, length-map}
use Rattle.std.proofs.lemmas.List.Elements.{Contains-get_or}
use Rattle.std.proofs.lemmas.List.FromFn.{length-map-range_with_len, get_or-map-range_with_len}
use Rattle.d_num.specs.Amount.{IsWatt}
use Rattle.d_box.specs.declared.space.Range.{Range}
use Rattle.d_box.specs.declared.space.Split.TheVariants.{Total, Peak}
use Rattle.d_box.specs.Boxes.{IsIn, nothing, range_at, number_at, AreRanges}
use Rattle.d_box.specs.Candidates.{IsRising, list_at, range_of, IsRangeOf, RangeHas}
use Rattle.d_box.specs.Halves.{OneOf}
use Rattle.d_box.proofs.HalfFacts.{written, ends_are, peak_cover, total_cover, boxes, keep_ends}
use Rattle.d_box.proofs.ListFacts.{range_has}
use Rattle.d_bill.specs.Inputs.{Inputs, IsInRange}
use Rattle.d_bill.specs.Flows.{flow_at}
use Rattle.d_bill.specs.Totals.{import_to, peak_to}
use Rattle.d_bill.specs.Schedules.{IsFeasible}
use Rattle.d_bill.specs.Slopes.{tiered}
use Rattle.d_bill.proofs.ChargeFacts.{few_groups}
use Rattle.d_bill.proofs.Values.{values_read, values_long}
use Rattle.d_bound.specs.Roots.{IsCandidate, AreCandidates, total_range, root_box, peaks_of, tiered_totals, HoldsSchedule, IsDrawnRange, IsProblemBox}
use Rattle.d_bound.specs.BoxLaws.{RootsAreBoxes, RootsHold, HalvesAreBoxes, HalvesHold}
use Rattle.d_bound.proofs.CandidateFacts.{candidate_watt, peak_drawn, IsUndrawn}

-- the lists of candidates
module _ (i : Inputs) (lists : List (List ℤ)) (fine : IsInRange i) (candidates : AreCandidates i lists) where
  inside_or : (k n : ℕ) → (k < n) ⊎ (n ≤ k)
  inside_or k n = grind arith

  -- each list rises, also where there is no such group
  list_rises : (group : ℕ) → IsRising (list_at lists group)
  list_rises group = elim (inside_or group (length lists)) [
    | inl there ↦ candidates.rising group [] there
    | inr past ↦ subst IsRising (sym (get_or_past lists group [] past)) (λ j k d earlier later. absurd (omega arith))
  ]

  -- and has powers alone
  list_watt : (group : ℕ) → All IsWatt (list_at lists group)
  list_watt group = elim (inside_or group (length lists)) [
    | inl there ↦ λ k d below.
        candidate_watt i group (get_or (list_at lists group) k d) fine
        (candidates.drawn group (omega (arith, candidates.long)) (get_or (list_at lists group) k d) (Contains-get_or (list_at lists group) k d below))
    | inr past ↦ subst (λ (list : List ℤ). All IsWatt list) (sym (get_or_past lists group [] past)) (λ k d below. absurd (omega arith))
  ]

  list_has : (group : ℕ) → RangeHas (list_at lists group)
  list_has group = range_has (list_at lists group) (list_rises group) (list_watt group)

  -- the root's range of a group
  root_peak : (group : ℕ) → group < 37 → range_at (root_box i lists).peaks group ≡ range_of (list_at lists group)
  root_peak group below = get_or-map-range_with_len (λ k. range_of (list_at lists k)) 0 37 group group nothing below (omega arith)

  -- no range of the root is empty
  root_peaks : AreRanges (root_box i lists).peaks
  root_peaks group = elim (inside_or group 37) [
    | inl below ↦ rw (root_peak group below) ((list_has group).ends.floor, (list_has group).ends.order)
    | inr past ↦ rw (get_or_past (root_box i lists).peaks group nothing (omega (arith, length-map-range_with_len (λ k. range_of (list_at lists k)) 0 37))) (omega (arith, ints), omega (arith, ints))
  ]

  -- where no period is tiered the ranges of totals are 0 to 0
  root_totals : tiered i ≡ [] → AreRanges (root_box i lists).totals
  root_totals none k = elim (inside_or k 36) [
    | inl below ↦
        rw (get_or-map-range_with_len (λ j. total_range i (slice_get (tiered i) j)) 0 36 k k nothing below (omega arith) ∙ ap (λ (l : List ℕ). total_range i (slice_get l k)) none) (omega (arith, ints), omega (arith, ints))
    | inr past ↦ rw (get_or_past (root_box i lists).totals k nothing (omega (arith, length-map-range_with_len (λ j. total_range i (slice_get (tiered i) j)) 0 36))) (omega (arith, ints), omega (arith, ints))
  ]

  -- a range of a list goes from a candidate to a candidate, or is 0 to 0
  range_drawn : (list : List ℤ) → IsDrawnRange list (range_of list)
  range_drawn [] = inr (refl, refl)
  range_drawn (x ∷ rest) = inl (Contains-get_or (x ∷ rest) 0 (pos 0) (omega arith), Contains-get_or (x ∷ rest) (length (x ∷ rest) - 1) (pos 0) (omega arith))

  group_below : (group : ℕ) → group < length lists → group < 37
  group_below group there = few_groups i group fine (omega (arith, candidates.long))

  -- the root is a box of the problem
  root_is : tiered i ≡ [] → IsProblemBox lists (root_box i lists)
  root_is none = record {
    box = record {
      peaks_long = length-map-range_with_len (λ k. range_of (list_at lists k)) 0 37;
      totals_long = length-map-range_with_len (λ k. total_range i (slice_get (tiered i) k)) 0 36;
      peaks = root_peaks;
      totals = root_totals none;
    };
    ends = λ group there. subst (λ (r : Range). IsRangeOf (list_at lists group) r) (sym (root_peak group (group_below group there))) (list_has group).ends;
    drawn = λ group there. subst (λ (r : Range). IsDrawnRange (list_at lists group) r) (sym (root_peak group (group_below group there))) (range_drawn (list_at lists group));
  }

  -- a group that draws nothing has no candidate
  undrawn_list : (group : ℕ) → group < length i.peaks → IsUndrawn i group → list_at lists group ≡ []
  undrawn_list group there undrawn = by_list (list_at lists group) (λ power contained. let c = candidates.drawn group there power contained in undrawn c.interval c.inside c.held)
    where
      by_list : (list : List ℤ) → ((power : ℤ) → Contains list power → ⊥) → list ≡ []
      by_list [] never = refl
      by_list (x ∷ rest) never = absurd (never x (Contains-get_or (x ∷ rest) 0 x (omega arith)))

  -- the highest demand of a feasible schedule is in the root's range
  peak_in_root : (s : List ℕ) → IsFeasible i s → (group : ℕ) → group < length i.peaks → IsIn (range_of (list_at lists group)) (peak_to i (flow_at i s) (length i.net) group)
  peak_in_root s feasible group there = elim (peak_drawn i s group feasible) [
    | inl drawn ↦ (list_has group).each (peak_to i (flow_at i s) (length i.net) group) (candidates.each group there (peak_to i (flow_at i s) (length i.net) group) drawn)
    | inr none ↦ rw (undrawn_list group there none.1, none.0) (record { low = omega (arith, ints); high = omega (arith, ints) })
  ]

  -- the root holds every feasible schedule
  root_holds : (s : List ℕ) → tiered i ≡ [] → IsFeasible i s → HoldsSchedule i (root_box i lists) s
  root_holds s none feasible = record {
    peaks_in = λ group below.
        let there : group < length i.peaks = omega (arith, values_long (length i.peaks) (peak_to i (flow_at i s) (length i.net))) in
        rw (root_peak group (few_groups i group fine there), values_read (length i.peaks) (peak_to i (flow_at i s) (length i.net)) group (pos 0) there) (peak_in_root s feasible group there);
    totals_in = λ k below.
        let long : length (tiered_totals i s) ≡ length (tiered i) = length-map (tiered i) (import_to i (flow_at i s) (length i.net)) in
        let empty : length (tiered i) ≡ 0 = ap (λ (l : List ℕ). length l) none in
        absurd (omega arith);
  }

  -- the peak at which a group's range is cut is a candidate
  cut_drawn : (s : List ℕ) → IsFeasible i s → (group : ℕ) → group < length i.peaks → (at : ℤ) → Contains (list_at lists group) at
      → Contains (list_at lists group) (number_at (peaks_of i s) group)
  cut_drawn s feasible group there at contained =
      rw (values_read (length i.peaks) (peak_to i (flow_at i s) (length i.net)) group (pos 0) there)
      (by_drawn (peak_drawn i s group feasible))
    where
      by_drawn : IsCandidate i group (peak_to i (flow_at i s) (length i.net) group) ⊎ ((peak_to i (flow_at i s) (length i.net) group ≡ pos 0) × IsUndrawn i group)
          → Contains (list_at lists group) (peak_to i (flow_at i s) (length i.net) group)
      by_drawn (inl drawn) = candidates.each group there (peak_to i (flow_at i s) (length i.net) group) drawn
      by_drawn (inr none) = absurd (let c = candidates.drawn group there at contained in none.1 c.interval c.inside c.held)

-- the root is a box that goes from candidate to candidate
pub roots_boxes : RootsAreBoxes
roots_boxes i lists untiered candidates = root_is i lists untiered.range candidates untiered.none

-- and holds every feasible schedule
pub roots_holds : RootsHold
roots_holds i lists s untiered candidates feasible = root_holds i lists untiered.range candidates s untiered.none feasible

-- the halves of such a box are such boxes
pub halves_boxes : HalvesAreBoxes
halves_boxes lists space (Total index at) cut box =
    let both = boxes lists space (Total index at) cut box.box in
    let ends = keep_ends lists space (Total index at) cut box.ends in
    (record { box = both.0; ends = ends.0; drawn = box.drawn }, record { box = both.1; ends = ends.1; drawn = box.drawn })
halves_boxes lists space (Peak group at) cut box =
    let both = boxes lists space (Peak group at) cut box.box in
    let ends = keep_ends lists space (Peak group at) cut box.ends in
    let old = ends_are (list_at lists group) (range_at space.peaks group) at _ cut.2 (box.ends group cut.1) in
    let P : ℕ → Range → Type 0 = λ k range. k < length lists → IsDrawnRange (list_at lists k) range in (
      record { box = both.0; ends = ends.0; drawn = written P space.peaks group _ cut.0 (λ there. inl (old.0, cut.2.there)) box.drawn },
      record { box = both.1; ends = ends.1; drawn = written P space.peaks group _ cut.0 (λ there. inl (cut.2.there_above, old.1)) box.drawn },
    )

-- a feasible schedule that a box holds is held by one of its halves
pub halves_holds : HalvesHold
halves_holds i lists space (Total index at) s untiered candidates cut feasible holds = total_cover space index at lists (peaks_of i s) (tiered_totals i s) cut holds
halves_holds i lists space (Peak group at) s untiered candidates cut feasible holds =
    let there : group < length i.peaks = omega (arith, candidates.long, cut.1) in
    either _ _
    (peak_cover space group at lists (peaks_of i s) (tiered_totals i s) cut (omega (arith, values_long (length i.peaks) (peak_to i (flow_at i s) (length i.net))))
    (cut_drawn i lists untiered.range candidates s feasible group there at cut.2.there) holds)
  where
    either : (A B : Type 0) → OneOf A B → A ⊎ B
    either A B (inl one) = inl one.0
    either A B (inr other) = inr other.0
