-- What the halves of a box hold.
use Rattle.std.proofs.Common.{ℕ, ℤ, pos, ◌≤ℤ◌, ◌<ℤ◌, ◌≡◌, ◌<◌, ◌≤◌, ◌∙◌, List, length, slice_set, sym, subst, inl, inr, arith}
use Rattle.std.specs.List.{Contains}
use Rattle.std.proofs.lemmas.List.{get_or-set_same, get_or-set_other, length-set}
use Rattle.std.proofs.lemmas.Bool.{cases_eq}
use Rattle.std.proofs.lemmas.Int.{ints, by_lt_z}
use Rattle.d_box.specs.declared.space.Range.{Range}
use Rattle.d_box.specs.declared.space.Split.TheVariants.{Total, Peak}
use Rattle.d_box.specs.Boxes.{IsIn, nothing, range_at, number_at, AreIn, ended, begun, IsPeakCut, AreRangesWithin, AreRanges}
use Rattle.d_box.specs.Candidates.{list_at, IsRangeOf}
use Rattle.d_box.specs.Halves.{SplitsAreCuts, IsPeakCover, IsTotalCover, AreWithin, AreBoxes, AreHalvesEnds}

-- what is true of each range, after one was written
pub written : (P : ℕ → Range → Type 0) (ranges : List Range) (k : ℕ) (r : Range) → k < length ranges → P k r → ((i : ℕ) → P i (range_at ranges i)) → (i : ℕ) → P i (range_at (slice_set ranges k r) i)
written P ranges k r lt here others i = elim (cases_eq k i) [
  | inl e ↦ subst (λ (j : ℕ). P j (range_at (slice_set ranges k r) j)) e (subst (λ (q : Range). P k q) (sym (get_or-set_same ranges k r nothing lt)) here)
  | inr ne ↦ subst (λ (q : Range). P i q) (sym (get_or-set_other ranges k i r nothing (λ e. ne (sym e)))) (others i)
]

in_ended : (ranges : List Range) (numbers : List ℤ) (k : ℕ) (x : ℤ) → k < length ranges → AreIn ranges numbers → number_at numbers k ≤ℤ x → AreIn (ended ranges k x) numbers
in_ended ranges numbers k x lt all le =
    written (λ i r. i < length numbers → IsIn r (number_at numbers i)) ranges k (record { low = (range_at ranges k).low; high = x }) lt (λ h. record { low = (all k h).low; high = le }) all

in_begun : (ranges : List Range) (numbers : List ℤ) (k : ℕ) (x : ℤ) → k < length ranges → AreIn ranges numbers → x ≤ℤ number_at numbers k → AreIn (begun ranges k x) numbers
in_begun ranges numbers k x lt all le =
    written (λ i r. i < length numbers → IsIn r (number_at numbers i)) ranges k (record { low = x; high = (range_at ranges k).high }) lt (λ h. record { low = le; high = (all k h).high }) all

-- what was written is there
in_written : (ranges : List Range) (numbers : List ℤ) (k : ℕ) (r : Range) → k < length ranges → k < length numbers → AreIn (slice_set ranges k r) numbers → IsIn r (number_at numbers k)
in_written ranges numbers k r lt there all = subst (λ (q : Range). IsIn q (number_at numbers k)) (get_or-set_same ranges k r nothing lt) (all k there)

inside : (k n long most : ℕ) → k < n → n ≤ most → long ≡ most → k < long
inside k n long most lt le e = omega arith

not_same : (low high at above : ℤ) → low ≤ℤ at → at <ℤ above → above ≤ℤ high → low ≡ high → ⊥
not_same low high at above a b c e = omega (arith, ints)

under : (a b c : ℤ) → a ≤ℤ b → b ≤ℤ c → a ≤ℤ c
under a b c x y = omega (arith, ints)

apart_z : (x at above : ℤ) → at <ℤ above → x ≤ℤ at → above ≤ℤ x → ⊥
apart_z x at above lt le ge = omega (arith, ints)

pub peak_cover : IsPeakCover
peak_cover space group at candidates peaks totals cut in_peaks one held = elim (cut.2.next (number_at peaks group) one) [
  | inl le ↦ inl (
    record { peaks_in = in_ended space.peaks peaks group at cut.0 held.peaks_in le; totals_in = held.totals_in },
    λ h. apart_z (number_at peaks group) at _ cut.2.apart le (in_written space.peaks peaks group _ cut.0 in_peaks h.peaks_in).low,
  )
  | inr ge ↦ inr (
    record { peaks_in = in_begun space.peaks peaks group _ cut.0 held.peaks_in ge; totals_in = held.totals_in },
    λ h. apart_z (number_at peaks group) at _ cut.2.apart (in_written space.peaks peaks group _ cut.0 in_peaks h.peaks_in).high ge,
  )
]

pub total_cover : IsTotalCover
total_cover space index at candidates peaks totals cut held = by_lt_z (number_at totals index) at
    (λ lt. inl (record { peaks_in = held.peaks_in; totals_in = in_ended space.totals totals index at cut.0 held.totals_in (omega (arith, ints)) }))
    (λ ge. inr (record { peaks_in = held.peaks_in; totals_in = in_begun space.totals totals index at cut.0 held.totals_in ge }))

same_z : (x : ℤ) → x ≤ℤ x
same_z x = omega (arith, ints)

same_ranges : (ranges : List Range) → AreRangesWithin ranges ranges
same_ranges ranges = record { low = λ k. same_z _; high = λ k. same_z _ }

ended_within : (ranges : List Range) (k : ℕ) (x : ℤ) → k < length ranges → x ≤ℤ (range_at ranges k).high → AreRangesWithin (ended ranges k x) ranges
ended_within ranges k x lt le = record {
  low = written (λ i r. (range_at ranges i).low ≤ℤ r.low) ranges k _ lt (same_z _) (λ i. same_z _);
  high = written (λ i r. r.high ≤ℤ (range_at ranges i).high) ranges k _ lt le (λ i. same_z _);
}

begun_within : (ranges : List Range) (k : ℕ) (x : ℤ) → k < length ranges → (range_at ranges k).low ≤ℤ x → AreRangesWithin (begun ranges k x) ranges
begun_within ranges k x lt le = record {
  low = written (λ i r. (range_at ranges i).low ≤ℤ r.low) ranges k _ lt le (λ i. same_z _);
  high = written (λ i r. r.high ≤ℤ (range_at ranges i).high) ranges k _ lt (same_z _) (λ i. same_z _);
}

le_z : (x y : ℤ) → x <ℤ y → x ≤ℤ y
le_z x y lt = omega (arith, ints)

between_z : (a b c d : ℤ) → a ≤ℤ b → b ≤ℤ c → c ≤ℤ d → (a ≤ℤ c) × (b ≤ℤ d)
between_z a b c d x y z = (omega (arith, ints), omega (arith, ints))

pub parts : AreWithin
parts candidates space (Total index at) cut = let m = between_z _ _ _ _ (le_z _ _ cut.1.low) (same_z at) (le_z _ _ cut.1.high) in (
  record { peaks = same_ranges space.peaks; totals = ended_within space.totals index at cut.0 m.1 },
  record { peaks = same_ranges space.peaks; totals = begun_within space.totals index at cut.0 m.0 },
)
parts candidates space (Peak group at) cut = let m = between_z _ _ _ _ cut.2.low (le_z _ _ cut.2.apart) cut.2.high in (
  record { peaks = ended_within space.peaks group at cut.0 m.1; totals = same_ranges space.totals },
  record { peaks = begun_within space.peaks group _ cut.0 m.0; totals = same_ranges space.totals },
)

ended_ranges : (ranges : List Range) (k : ℕ) (x : ℤ) → k < length ranges → (range_at ranges k).low ≤ℤ x → AreRanges ranges → AreRanges (ended ranges k x)
ended_ranges ranges k x lt le all = written (λ i r. (pos 0 ≤ℤ r.low) × (r.low ≤ℤ r.high)) ranges k _ lt ((all k).0, le) all

begun_ranges : (ranges : List Range) (k : ℕ) (x : ℤ) → k < length ranges → (range_at ranges k).low ≤ℤ x → x ≤ℤ (range_at ranges k).high → AreRanges ranges → AreRanges (begun ranges k x)
begun_ranges ranges k x lt ge le all = written (λ i r. (pos 0 ≤ℤ r.low) × (r.low ≤ℤ r.high)) ranges k _ lt (let low = (all k).0 in omega (arith, ints), le) all

pub boxes : AreBoxes
boxes candidates space (Total index at) cut box = let low = le_z _ _ cut.1.low in (
  record {
    peaks_long = box.peaks_long;
    totals_long = length-set space.totals index _ ∙ box.totals_long;
    peaks = box.peaks;
    totals = ended_ranges space.totals index at cut.0 low box.totals;
  },
  record {
    peaks_long = box.peaks_long;
    totals_long = length-set space.totals index _ ∙ box.totals_long;
    peaks = box.peaks;
    totals = begun_ranges space.totals index at cut.0 low (le_z _ _ cut.1.high) box.totals;
  },
)
boxes candidates space (Peak group at) cut box = let m = between_z _ _ _ _ cut.2.low (le_z _ _ cut.2.apart) cut.2.high in (
  record {
    peaks_long = length-set space.peaks group _ ∙ box.peaks_long;
    totals_long = box.totals_long;
    peaks = ended_ranges space.peaks group at cut.0 cut.2.low box.peaks;
    totals = box.totals;
  },
  record {
    peaks_long = length-set space.peaks group _ ∙ box.peaks_long;
    totals_long = box.totals_long;
    peaks = begun_ranges space.peaks group _ cut.0 m.0 cut.2.high box.peaks;
    totals = box.totals;
  },
)

-- a box may be split where its split is
pub cuts : SplitsAreCuts
cuts space energy groups candidates (Total index at) box few_totals few_groups long split =
    (inside index (length energy) (length space.totals) 36 split.inside few_totals box.totals_long, record { low = split.lowest.above; high = split.lowest.below })
cuts space energy groups candidates (Peak group at) box few_totals few_groups long split =
    (inside group (length groups) (length space.peaks) 37 split.widest.inside few_groups box.peaks_long, subst (λ n. group < n) (sym long) split.widest.inside, split.cut.cut)

-- an end of a range is one of the candidates
pub ends_are : (candidates : List ℤ) (range : Range) (at above : ℤ) → IsPeakCut candidates range at above → IsRangeOf candidates range
    → Contains candidates range.low × Contains candidates range.high
ends_are candidates range at above cut range_of = elim range_of.ends [
  | inl both ↦ both
  | inr same ↦ absurd (not_same range.low range.high at above cut.low cut.apart cut.high same)
]

pub keep_ends : AreHalvesEnds
keep_ends candidates space (Total index at) cut ends = (ends, ends)
keep_ends candidates space (Peak group at) cut ends =
    let e = ends_are _ _ _ _ cut.2 (ends group cut.1) in
    let m = between_z _ _ _ _ cut.2.low (le_z _ _ cut.2.apart) cut.2.high in
    let h = ends group cut.1 in (
      written (λ i r. i < length candidates → IsRangeOf (list_at candidates i) r) space.peaks group _ cut.0
          (λ lt. record { floor = h.floor; order = cut.2.low; limit = under _ _ _ m.1 h.limit; ends = inl (e.0, cut.2.there) }) ends,
      written (λ i r. i < length candidates → IsRangeOf (list_at candidates i) r) space.peaks group _ cut.0
          (λ lt. record { floor = under _ _ _ h.floor m.0; order = cut.2.high; limit = h.limit; ends = inl (cut.2.there_above, e.1) }) ends,
    )
