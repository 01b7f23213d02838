-- Lines that stand from the first one on to the end are those of a certificate in range.
use Rattle.std.proofs.Common.{◌≡◌, ◌∙◌, ◌≤◌, ◌+◌, ◌*◌, ◌==◌, ◌&&◌, ℕ, zero, suc, ℤ, pos, true, List, [], ◌∷◌, ◌++◌, length, arith, refl, sym, ap, ap₂, subst, append_assoc, nat_le, inl, inr}
use Rattle.std.specs.Prelude.{unsigned_abs, int_lt, None}
use Rattle.std.specs.List.{list_all, All}
use Rattle.std.proofs.lemmas.Bool.{eqb-true, and_parts, and_from, cases_lt}
use Rattle.std.proofs.lemmas.List.{append-nil}
use Rattle.jiff_core.specs.Calendar.{days_in_month}
use Rattle.jiff_core.proofs.CalendarLemmas.{days_in_month_bounds}
use Rattle.d_certline.specs.declared.kind.Kind.{Kind}
use Rattle.d_certline.specs.declared.kind.Kind.TheVariants.{Least, Gap, Nothing}
use Rattle.d_certline.specs.declared.place.Place.{Place}
use Rattle.d_certline.specs.declared.place.Stage.{Stage}
use Rattle.d_certline.specs.declared.place.Stage.TheVariants as stage
use Rattle.d_certline.specs.Lines.{Line, text_of, version, label, month, minutes, intervals, levels, modes, groups, tiered, verdict, day, bill, lower, finish}
use Rattle.d_certline.specs.Ranges.{from_to, is_index, is_number, is_label, is_length, are_levels, is_amount, per_day, width, most_nodes, most_potentials, potentials}
use Rattle.d_certline.specs.Places.{stands, in_range, first, after_at, Stand, at_version, at_label, at_month, at_minutes, at_intervals, at_levels, at_modes, at_groups, at_tiered, at_verdict, at_day, at_bill, at_lower, behind_verdict, behind_day, behind_bill}
use Rattle.d_certline.specs.Certificates.{Found, least, gap, nothing, Certificate, certificate_lines, certificate_text, head_lines, found_lines, tree_lines, day_lines, kind_of, Tree, nodes_of, leaves_of, IsDay, IsPlan, IsFound, IsTree, IsInRange, days_of, levels_of}
use Rattle.d_certline.specs.Faults.{FaultOf, Faulty}
use Rattle.d_certline.proofs.LineFacts.{after_is, stood, stand_none, stand_more}
use Rattle.d_certline.proofs.MadeFacts.{day_next, day_last}
use Rattle.d_certline.proofs.RangeFacts.{ranged, if_so}
use Rattle.d_certline.proofs.ShapeFacts.{IsRoomy, IsForest, forest, one_tree}

-- before the end a line stands next
front : (ls : List Line) (p q : Place) (s : Stage) → (s ≡ stage.Done → ⊥) → p.stage ≡ s → q.stage ≡ stage.Done → Stand p ls q
    → (l : Line) × (rest : List Line) × (m : Place) × (ls ≡ l ∷ rest) × (after_at s p l ≡ stands m) × Stand m rest q
front [] p q s before here done e = absurd (before (sym here ∙ ap (λ (c : Place). c.stage) (stand_none p q e) ∙ done))
front (l ∷ ls) p q s before here done e = let t = stand_more p q l ls e in (l, ls, t.0, refl, sym (after_is s p l here) ∙ t.1, t.2)

take_version : (p q : Place) (ls : List Line) → p.stage ≡ stage.Version → q.stage ≡ stage.Done → Stand p ls q
    → (rest : List Line) × (ls ≡ version ∷ rest) × Stand (record p { stage = stage.Label }) rest q
unfolding after_at at_version
take_version p q ls here done s =
    let n = front ls p q stage.Version (λ e. cc) here done s in
    let i = version_is p n.2 n.0 n.4 in
    (n.1, n.3 ∙ ap (λ (k : Line). k ∷ n.1) i.0, subst (λ (c : Place). Stand c n.1 q) (sym i.1) n.5)
  where
    version_is : (p m : Place) (l : Line) → at_version p l ≡ stands m → (l ≡ version) × (record p { stage = stage.Label } ≡ m)
    version_is p m version e = (refl, stood (record p { stage = stage.Label }) m e)
    version_is p m l e = absurd cc

label_is : (p m : Place) (l : Line) → at_label p l ≡ stands m → (text : List ℕ) × (l ≡ label text) × (is_label text ≡ true) × (record p { stage = stage.Month } ≡ m)
unfolding at_label
label_is p m (label text) e = let t = if_so (is_label text) (stands (record p { stage = stage.Month })) m e in (text, refl, t.0, stood (record p { stage = stage.Month }) m t.1)
label_is p m l e = absurd cc

take_label : (p q : Place) (ls : List Line) → p.stage ≡ stage.Label → q.stage ≡ stage.Done → Stand p ls q
    → (text : List ℕ) × (rest : List Line) × (ls ≡ label text ∷ rest) × (is_label text ≡ true) × Stand (record p { stage = stage.Month }) rest q
unfolding after_at
take_label p q ls here done s =
    let n = front ls p q stage.Label (λ e. cc) here done s in
    let i = label_is p n.2 n.0 n.4 in
    (i.0, n.1, n.3 ∙ ap (λ (k : Line). k ∷ n.1) i.1, i.2, subst (λ (c : Place). Stand c n.1 q) (sym i.3) n.5)

minutes_is : (p m : Place) (l : Line) → at_minutes p l ≡ stands m → (z : ℤ) × (l ≡ minutes z) × (is_length z ≡ true) × (record p { stage = stage.Intervals; minutes = unsigned_abs z } ≡ m)
unfolding at_minutes
minutes_is p m (minutes z) e = let t = ranged (is_length z) (record p { stage = stage.Intervals; minutes = unsigned_abs z }) m e in (z, refl, t.0, t.1)
minutes_is p m l e = absurd cc

take_minutes : (p q : Place) (ls : List Line) → p.stage ≡ stage.Minutes → q.stage ≡ stage.Done → Stand p ls q
    → (z : ℤ) × (rest : List Line) × (ls ≡ minutes z ∷ rest) × (is_length z ≡ true) × Stand (record p { stage = stage.Intervals; minutes = unsigned_abs z }) rest q
unfolding after_at
take_minutes p q ls here done s =
    let n = front ls p q stage.Minutes (λ e. cc) here done s in
    let i = minutes_is p n.2 n.0 n.4 in
    (i.0, n.1, n.3 ∙ ap (λ (k : Line). k ∷ n.1) i.1, i.2, subst (λ (c : Place). Stand c n.1 q) (sym i.3) n.5)

intervals_is : (p m : Place) (l : Line) → at_intervals p l ≡ stands m → (z : ℤ) × (l ≡ intervals z) × (is_number (p.days * per_day p.minutes) z ≡ true) × (record p { stage = stage.Levels; intervals = unsigned_abs z } ≡ m)
unfolding at_intervals
intervals_is p m (intervals z) e = let t = ranged (is_number (p.days * per_day p.minutes) z) (record p { stage = stage.Levels; intervals = unsigned_abs z }) m e in (z, refl, t.0, t.1)
intervals_is p m l e = absurd cc

take_intervals : (p q : Place) (ls : List Line) → p.stage ≡ stage.Intervals → q.stage ≡ stage.Done → Stand p ls q
    → (z : ℤ) × (rest : List Line) × (ls ≡ intervals z ∷ rest) × (is_number (p.days * per_day p.minutes) z ≡ true) × Stand (record p { stage = stage.Levels; intervals = unsigned_abs z }) rest q
unfolding after_at
take_intervals p q ls here done s =
    let n = front ls p q stage.Intervals (λ e. cc) here done s in
    let i = intervals_is p n.2 n.0 n.4 in
    (i.0, n.1, n.3 ∙ ap (λ (k : Line). k ∷ n.1) i.1, i.2, subst (λ (c : Place). Stand c n.1 q) (sym i.3) n.5)

modes_is : (p m : Place) (l : Line) → at_modes p l ≡ stands m → (z : ℤ) × (l ≡ modes z) × (from_to 1 64 z ≡ true) × (record p { stage = stage.Groups; modes = unsigned_abs z } ≡ m)
unfolding at_modes
modes_is p m (modes z) e = let t = ranged (from_to 1 64 z) (record p { stage = stage.Groups; modes = unsigned_abs z }) m e in (z, refl, t.0, t.1)
modes_is p m l e = absurd cc

take_modes : (p q : Place) (ls : List Line) → p.stage ≡ stage.Modes → q.stage ≡ stage.Done → Stand p ls q
    → (z : ℤ) × (rest : List Line) × (ls ≡ modes z ∷ rest) × (from_to 1 64 z ≡ true) × Stand (record p { stage = stage.Groups; modes = unsigned_abs z }) rest q
unfolding after_at
take_modes p q ls here done s =
    let n = front ls p q stage.Modes (λ e. cc) here done s in
    let i = modes_is p n.2 n.0 n.4 in
    (i.0, n.1, n.3 ∙ ap (λ (k : Line). k ∷ n.1) i.1, i.2, subst (λ (c : Place). Stand c n.1 q) (sym i.3) n.5)

groups_is : (p m : Place) (l : Line) → at_groups p l ≡ stands m → (z : ℤ) × (l ≡ groups z) × (from_to 0 37 z ≡ true) × (record p { stage = stage.Tiered; groups = unsigned_abs z } ≡ m)
unfolding at_groups
groups_is p m (groups z) e = let t = ranged (from_to 0 37 z) (record p { stage = stage.Tiered; groups = unsigned_abs z }) m e in (z, refl, t.0, t.1)
groups_is p m l e = absurd cc

take_groups : (p q : Place) (ls : List Line) → p.stage ≡ stage.Groups → q.stage ≡ stage.Done → Stand p ls q
    → (z : ℤ) × (rest : List Line) × (ls ≡ groups z ∷ rest) × (from_to 0 37 z ≡ true) × Stand (record p { stage = stage.Tiered; groups = unsigned_abs z }) rest q
unfolding after_at
take_groups p q ls here done s =
    let n = front ls p q stage.Groups (λ e. cc) here done s in
    let i = groups_is p n.2 n.0 n.4 in
    (i.0, n.1, n.3 ∙ ap (λ (k : Line). k ∷ n.1) i.1, i.2, subst (λ (c : Place). Stand c n.1 q) (sym i.3) n.5)

tiered_is : (p m : Place) (l : Line) → at_tiered p l ≡ stands m → (z : ℤ) × (l ≡ tiered z) × (from_to 0 36 z ≡ true) × (record p { stage = stage.Verdict; tiered = unsigned_abs z } ≡ m)
unfolding at_tiered
tiered_is p m (tiered z) e = let t = ranged (from_to 0 36 z) (record p { stage = stage.Verdict; tiered = unsigned_abs z }) m e in (z, refl, t.0, t.1)
tiered_is p m l e = absurd cc

take_tiered : (p q : Place) (ls : List Line) → p.stage ≡ stage.Tiered → q.stage ≡ stage.Done → Stand p ls q
    → (z : ℤ) × (rest : List Line) × (ls ≡ tiered z ∷ rest) × (from_to 0 36 z ≡ true) × Stand (record p { stage = stage.Verdict; tiered = unsigned_abs z }) rest q
unfolding after_at
take_tiered p q ls here done s =
    let n = front ls p q stage.Tiered (λ e. cc) here done s in
    let i = tiered_is p n.2 n.0 n.4 in
    (i.0, n.1, n.3 ∙ ap (λ (k : Line). k ∷ n.1) i.1, i.2, subst (λ (c : Place). Stand c n.1 q) (sym i.3) n.5)

bill_is : (p m : Place) (l : Line) → at_bill p l ≡ stands m → (z : ℤ) × (l ≡ bill z) × (is_amount z ≡ true) × (record p { stage = behind_bill p.kind; bill = z } ≡ m)
unfolding at_bill
bill_is p m (bill z) e = let t = ranged (is_amount z) (record p { stage = behind_bill p.kind; bill = z }) m e in (z, refl, t.0, t.1)
bill_is p m l e = absurd cc

take_bill : (p q : Place) (ls : List Line) → p.stage ≡ stage.Bill → q.stage ≡ stage.Done → Stand p ls q
    → (z : ℤ) × (rest : List Line) × (ls ≡ bill z ∷ rest) × (is_amount z ≡ true) × Stand (record p { stage = behind_bill p.kind; bill = z }) rest q
unfolding after_at
take_bill p q ls here done s =
    let n = front ls p q stage.Bill (λ e. cc) here done s in
    let i = bill_is p n.2 n.0 n.4 in
    (i.0, n.1, n.3 ∙ ap (λ (k : Line). k ∷ n.1) i.1, i.2, subst (λ (c : Place). Stand c n.1 q) (sym i.3) n.5)

lower_is : (p m : Place) (l : Line) → at_lower p l ≡ stands m → (z : ℤ) × (l ≡ lower z) × ((is_amount z && int_lt z p.bill) ≡ true) × (record p { stage = stage.Tree } ≡ m)
unfolding at_lower
lower_is p m (lower z) e = let t = ranged (is_amount z && int_lt z p.bill) (record p { stage = stage.Tree }) m e in (z, refl, t.0, t.1)
lower_is p m l e = absurd cc

take_lower : (p q : Place) (ls : List Line) → p.stage ≡ stage.Lower → q.stage ≡ stage.Done → Stand p ls q
    → (z : ℤ) × (rest : List Line) × (ls ≡ lower z ∷ rest) × ((is_amount z && int_lt z p.bill) ≡ true) × Stand (record p { stage = stage.Tree }) rest q
unfolding after_at
take_lower p q ls here done s =
    let n = front ls p q stage.Lower (λ e. cc) here done s in
    let i = lower_is p n.2 n.0 n.4 in
    (i.0, n.1, n.3 ∙ ap (λ (k : Line). k ∷ n.1) i.1, i.2, subst (λ (c : Place). Stand c n.1 q) (sym i.3) n.5)

month_is : (p m : Place) (l : Line) → at_month p l ≡ stands m
    → (y : ℕ) × (n : ℕ) × (l ≡ month y n) × ((nat_le 1 y && nat_le y 9999) ≡ true) × ((nat_le 1 n && nat_le n 12) ≡ true) × (record p { stage = stage.Minutes; days = days_in_month (pos y) n } ≡ m)
unfolding at_month
month_is p m (month y n) e =
    let r : Place = record p { stage = stage.Minutes; days = days_in_month (pos y) n } in
    let t = if_so (nat_le y 9999 && nat_le n 99) (in_range (nat_le 1 y && (nat_le 1 n && nat_le n 12)) r) m e in
    let u = ranged (nat_le 1 y && (nat_le 1 n && nat_le n 12)) r m t.1 in
    let both = and_parts (nat_le 1 y) (nat_le 1 n && nat_le n 12) u.0 in
    (y, n, refl, and_from (nat_le 1 y) (nat_le y 9999) both.0 (and_parts (nat_le y 9999) (nat_le n 99) t.0).0, both.1, u.1)
month_is p m l e = absurd cc

take_month : (p q : Place) (ls : List Line) → p.stage ≡ stage.Month → q.stage ≡ stage.Done → Stand p ls q
    → (y : ℕ) × (n : ℕ) × (rest : List Line) × (ls ≡ month y n ∷ rest) × ((nat_le 1 y && nat_le y 9999) ≡ true) × ((nat_le 1 n && nat_le n 12) ≡ true)
    × Stand (record p { stage = stage.Minutes; days = days_in_month (pos y) n }) rest q
unfolding after_at
take_month p q ls here done s =
    let n = front ls p q stage.Month (λ e. cc) here done s in
    let i = month_is p n.2 n.0 n.4 in
    (i.0, i.1, n.1, n.3 ∙ ap (λ (k : Line). k ∷ n.1) i.2, i.3, i.4, subst (λ (c : Place). Stand c n.1 q) (sym i.5) n.5)

levels_is : (p m : Place) (l : Line) → at_levels p l ≡ stands m
    → (f : ℤ) × (c : ℤ) × (s : ℤ) × (n : ℤ) × (l ≡ levels f c s n) × (are_levels f c s n ≡ true) × (record p { stage = stage.Modes; floor = unsigned_abs f; capacity = unsigned_abs c } ≡ m)
unfolding at_levels
levels_is p m (levels f c s n) e =
    let t = ranged (are_levels f c s n) (record p { stage = stage.Modes; floor = unsigned_abs f; capacity = unsigned_abs c }) m e in
    (f, c, s, n, refl, t.0, t.1)
levels_is p m l e = absurd cc

take_levels : (p q : Place) (ls : List Line) → p.stage ≡ stage.Levels → q.stage ≡ stage.Done → Stand p ls q
    → (f : ℤ) × (c : ℤ) × (s : ℤ) × (n : ℤ) × (rest : List Line) × (ls ≡ levels f c s n ∷ rest) × (are_levels f c s n ≡ true)
    × Stand (record p { stage = stage.Modes; floor = unsigned_abs f; capacity = unsigned_abs c }) rest q
unfolding after_at
take_levels p q ls here done s =
    let n = front ls p q stage.Levels (λ e. cc) here done s in
    let i = levels_is p n.2 n.0 n.4 in
    (i.0, i.1, i.2, i.3, n.1, n.3 ∙ ap (λ (k : Line). k ∷ n.1) i.4, i.5, subst (λ (d : Place). Stand d n.1 q) (sym i.6) n.5)

verdict_is : (p m : Place) (l : Line) → at_verdict p l ≡ stands m → (k : Kind) × (l ≡ verdict k) × (record p { stage = behind_verdict k; kind = k } ≡ m)
unfolding at_verdict
verdict_is p m (verdict k) e = (k, refl, stood (record p { stage = behind_verdict k; kind = k }) m e)
verdict_is p m l e = absurd cc

take_verdict : (p q : Place) (ls : List Line) → p.stage ≡ stage.Verdict → q.stage ≡ stage.Done → Stand p ls q
    → (k : Kind) × (rest : List Line) × (ls ≡ verdict k ∷ rest) × Stand (record p { stage = behind_verdict k; kind = k }) rest q
unfolding after_at
take_verdict p q ls here done s =
    let n = front ls p q stage.Verdict (λ e. cc) here done s in
    let i = verdict_is p n.2 n.0 n.4 in
    (i.0, n.1, n.3 ∙ ap (λ (k : Line). k ∷ n.1) i.1, subst (λ (d : Place). Stand d n.1 q) (sym i.2) n.5)

-- the days of a month
day_is : (d : ℕ) (p m : Place) (l : Line) → at_day d p l ≡ stands m
    → (ms : List ℤ) × (l ≡ day d ms) × IsDay (per_day p.minutes) p.modes ms × (record p { stage = behind_day d p.days } ≡ m)
unfolding at_day
day_is d p m (day n ms) e =
    let r : Place = record p { stage = behind_day d p.days } in
    let t = if_so ((n == d) && (length ms == per_day p.minutes)) (in_range (list_all (is_index p.modes) ms) r) m e in
    let both = and_parts (n == d) (length ms == per_day p.minutes) t.0 in
    let u = ranged (list_all (is_index p.modes) ms) r m t.1 in
    (ms, ap (λ (k : ℕ). day k ms) (eqb-true n d both.0), record { count = eqb-true (length ms) (per_day p.minutes) both.1; ranged = u.0 }, u.1)
day_is d p m l e = absurd cc

all_days : (P : List ℤ → Type 0) (x : List ℤ) (xs : List (List ℤ)) → P x → All P xs → All P (x ∷ xs)
all_days P x xs h t zero d within = h
all_days P x xs h t (suc k) d within = t k d (omega arith)

-- days from this one on to the last one
abbrev DaysFrom : ℕ → Place → List Line → Place → Type 0
DaysFrom d p ls q = (days : List (List ℤ)) × (rest : List Line) × (ls ≡ day_lines d days ++ rest) × (d + length days ≡ p.days + 1)
    × All (IsDay (per_day p.minutes) p.modes) days × Stand (record p { stage = stage.Bill }) rest q

take_days : (ls : List Line) (d : ℕ) (p q : Place) → p.stage ≡ stage.Day d → d ≤ p.days → q.stage ≡ stage.Done → Stand p ls q → DaysFrom d p ls q
unfolding after_at day_lines
take_days [] d p q here few done s = absurd (let bad : stage.Day d ≡ stage.Done = sym here ∙ ap (λ (c : Place). c.stage) (stand_none p q s) ∙ done in cc)
take_days (l ∷ ls) d p q here few done s =
    let t = stand_more p q l ls s in
    let i = day_is d p t.0 l (sym (after_is (stage.Day d) p l here) ∙ t.1) in
    let there : Stand (record p { stage = behind_day d p.days }) ls q = subst (λ (c : Place). Stand c ls q) (sym i.3) t.2 in
    elim (cases_lt d p.days) [
      | inl less ↦
          let next : Stand (record p { stage = stage.Day (suc d) }) ls q = subst (λ (k : Stage). Stand (record p { stage = k }) ls q) (day_next d p.days less) there in
          let more = take_days ls (suc d) (record p { stage = stage.Day (suc d) }) q refl (omega arith) done next in
          (i.0 ∷ more.0, more.1, ap₂ (λ (k : Line) (ks : List Line). k ∷ ks) i.1 more.2, omega (arith, more.3), all_days (IsDay (per_day p.minutes) p.modes) i.0 more.0 i.2 more.4, more.5)
      | inr most ↦
          let last : Stand (record p { stage = stage.Bill }) ls q = subst (λ (k : Stage). Stand (record p { stage = k }) ls q) (day_last d p.days most) there in
          (i.0 ∷ [], ls, ap (λ (k : Line). k ∷ ls) i.1, omega arith, all_days (IsDay (per_day p.minutes) p.modes) i.0 [] i.2 (λ k e within. absurd (omega arith)), last)
    ]

-- what was found, and the place behind it
abbrev FoundBy : Kind → Place → List Line → Place → Type 0
FoundBy k base ls q = (f : Found) × (z : ℤ) × (rest : List Line) × (kind_of f ≡ k) × (ls ≡ found_lines f ++ rest)
    × IsFound base.days (per_day base.minutes) base.modes f × Stand (record base { stage = stage.Tree; kind = k; bill = z }) rest q

plan_of : (count : ℕ) (n m : ℕ) (days : List (List ℤ)) → 1 + length days ≡ count + 1 → All (IsDay n m) days → IsPlan count n m days
plan_of count n m days long each = record { all = omega arith; each = each }

take_found : (k : Kind) (base q : Place) (ls : List Line) → 1 ≤ base.days → q.stage ≡ stage.Done
    → Stand (record base { stage = behind_verdict k; kind = k }) ls q → FoundBy k base ls q
unfolding behind_verdict behind_bill kind_of found_lines IsFound
take_found Least base q ls some done s =
    let a = take_days ls 1 (record base { stage = stage.Day 1; kind = Least }) q refl some done s in
    let b = take_bill (record base { stage = stage.Bill; kind = Least }) q a.1 refl done a.5 in (
      least a.0 b.0,
      b.0,
      b.1,
      refl,
      a.2 ∙ ap (λ (r : List Line). day_lines 1 a.0 ++ r) b.2 ∙ sym (append_assoc (day_lines 1 a.0) (bill b.0 ∷ []) b.1),
      (plan_of base.days (per_day base.minutes) base.modes a.0 a.3 a.4, b.3),
      b.4,
    )
take_found Gap base q ls some done s =
    let a = take_days ls 1 (record base { stage = stage.Day 1; kind = Gap }) q refl some done s in
    let b = take_bill (record base { stage = stage.Bill; kind = Gap }) q a.1 refl done a.5 in
    let c = take_lower (record base { stage = stage.Lower; kind = Gap; bill = b.0 }) q b.1 refl done b.4 in (
      gap a.0 b.0 c.0,
      b.0,
      c.1,
      refl,
      a.2 ∙ ap (λ (r : List Line). day_lines 1 a.0 ++ r) (b.2 ∙ ap (λ (r : List Line). bill b.0 ∷ r) c.2) ∙ sym (append_assoc (day_lines 1 a.0) (bill b.0 ∷ lower c.0 ∷ []) c.1),
      (plan_of base.days (per_day base.minutes) base.modes a.0 a.3 a.4, b.3, c.3),
      c.4,
    )
take_found Nothing base q ls some done s = (nothing, base.bill, ls, refl, refl, tt, s)

-- no leaf has no potentials
no_potentials : (i w : ℕ) → potentials 0 i w ≤ most_potentials
unfolding potentials
no_potentials i w =
    let front : 0 * (i + 1) ≡ 0 = omega arith in
    let all : 0 * (i + 1) * w ≡ 0 * w = ap (λ (k : ℕ). k * w) front in
    omega arith

-- no tree has begun, and one is owed
abbrev IsFresh : Place → Type 0
IsFresh p = (p.owed ≡ 1) × (p.need ≡ 1) × (p.leaves ≡ 0)

fresh_room : (p : Place) → IsFresh p → IsRoomy p
fresh_room p fresh =
    (omega (arith, fresh.1), subst (λ (v : ℕ). potentials v p.intervals (width p.floor p.capacity) ≤ most_potentials) (sym fresh.2) (no_potentials p.intervals (width p.floor p.capacity)))

-- what was found, the tree and the last line
record IsBody (days daily intervals levels modes groups tiered : ℕ) (ls : List Line) : Type 0 where
  found : Found
  tree : Tree
  lines_are : ls ≡ verdict (kind_of found) ∷ (found_lines found ++ (tree_lines tree ++ finish ∷ []))
  found_fits : IsFound days daily modes found
  tree_fits : IsTree tiered groups intervals levels tree
  nodes : nodes_of tree ≤ most_nodes
  few : potentials (leaves_of tree) intervals levels ≤ most_potentials

read_tree : (p q : Place) (ls : List Line) → p.stage ≡ stage.Tree → IsFresh p → q.stage ≡ stage.Done → Stand p ls q
    → IsForest p.tiered p.groups p.intervals (width p.floor p.capacity) 1 1 0 ls
read_tree p q ls here fresh done s =
    subst (λ (v : ℕ). IsForest p.tiered p.groups p.intervals (width p.floor p.capacity) 1 1 v ls) fresh.2
    (subst (λ (n : ℕ). IsForest p.tiered p.groups p.intervals (width p.floor p.capacity) 1 n p.leaves ls) fresh.1
    (subst (λ (o : ℕ). IsForest p.tiered p.groups p.intervals (width p.floor p.capacity) o p.need p.leaves ls) fresh.0
    (forest ls p q here done (fresh_room p fresh) s)))

read_body : (p q : Place) (ls : List Line) → p.stage ≡ stage.Verdict → IsFresh p → 1 ≤ p.days → q.stage ≡ stage.Done → Stand p ls q
    → IsBody p.days (per_day p.minutes) p.intervals (width p.floor p.capacity) p.modes p.groups p.tiered ls
read_body p q ls here fresh some done s =
    let k = take_verdict p q ls here done s in
    let l = take_found k.0 p q k.1 some done k.3 in
    let m = one_tree p.tiered p.groups p.intervals (width p.floor p.capacity) l.2 (read_tree (record p { stage = stage.Tree; kind = k.0; bill = l.1 }) q l.2 refl fresh done l.6) in
    record {
      found = l.0;
      tree = m.0;
      lines_are = k.2 ∙ ap₂ (λ (x : Kind) (r : List Line). verdict x ∷ r) (sym l.3) (l.4 ∙ ap (λ (r : List Line). found_lines l.0 ++ r) m.1);
      found_fits = l.5;
      tree_fits = m.2;
      nodes = m.3;
      few = m.4;
    }

-- the counts before it
record IsCounted (days daily intervals levels : ℕ) (ls : List Line) : Type 0 where
  mode_count : ℤ
  group_count : ℤ
  tier_count : ℤ
  rest : List Line
  lines_are : ls ≡ modes mode_count ∷ groups group_count ∷ tiered tier_count ∷ rest
  modes_fit : from_to 1 64 mode_count ≡ true
  groups_fit : from_to 0 37 group_count ≡ true
  tiers_fit : from_to 0 36 tier_count ≡ true
  body : IsBody days daily intervals levels (unsigned_abs mode_count) (unsigned_abs group_count) (unsigned_abs tier_count) rest

read_counts : (p q : Place) (ls : List Line) → p.stage ≡ stage.Modes → IsFresh p → 1 ≤ p.days → q.stage ≡ stage.Done → Stand p ls q
    → IsCounted p.days (per_day p.minutes) p.intervals (width p.floor p.capacity) ls
read_counts p q ls here fresh some done s =
    let h = take_modes p q ls here done s in
    let i = take_groups (record p { stage = stage.Groups; modes = unsigned_abs h.0 }) q h.1 refl done h.4 in
    let j = take_tiered (record p { stage = stage.Tiered; modes = unsigned_abs h.0; groups = unsigned_abs i.0 }) q i.1 refl done i.4 in
    record {
      mode_count = h.0;
      group_count = i.0;
      tier_count = j.0;
      rest = j.1;
      lines_are = h.2 ∙ ap (λ (r : List Line). modes h.0 ∷ r) (i.2 ∙ ap (λ (r : List Line). groups i.0 ∷ r) j.2);
      modes_fit = h.3;
      groups_fit = i.3;
      tiers_fit = j.3;
      body = read_body (record p { stage = stage.Verdict; modes = unsigned_abs h.0; groups = unsigned_abs i.0; tiered = unsigned_abs j.0 }) q j.1 refl fresh some done j.4;
    }

-- the lengths and levels before them
record IsMeasured (days : ℕ) (ls : List Line) : Type 0 where
  span : ℤ
  count : ℤ
  lowest : ℤ
  highest : ℤ
  start : ℤ
  least_end : ℤ
  rest : List Line
  lines_are : ls ≡ minutes span ∷ intervals count ∷ levels lowest highest start least_end ∷ rest
  span_fits : is_length span ≡ true
  count_fits : is_number (days * per_day (unsigned_abs span)) count ≡ true
  levels_fit : are_levels lowest highest start least_end ≡ true
  counted : IsCounted days (per_day (unsigned_abs span)) (unsigned_abs count) (width (unsigned_abs lowest) (unsigned_abs highest)) rest

read_lengths : (p q : Place) (ls : List Line) → p.stage ≡ stage.Minutes → IsFresh p → 1 ≤ p.days → q.stage ≡ stage.Done → Stand p ls q → IsMeasured p.days ls
read_lengths p q ls here fresh some done s =
    let e = take_minutes p q ls here done s in
    let f = take_intervals (record p { stage = stage.Intervals; minutes = unsigned_abs e.0 }) q e.1 refl done e.4 in
    let g = take_levels (record p { stage = stage.Levels; minutes = unsigned_abs e.0; intervals = unsigned_abs f.0 }) q f.1 refl done f.4 in
    record {
      span = e.0;
      count = f.0;
      lowest = g.0;
      highest = g.1;
      start = g.2;
      least_end = g.3;
      rest = g.4;
      lines_are = e.2 ∙ ap (λ (r : List Line). minutes e.0 ∷ r) (f.2 ∙ ap (λ (r : List Line). intervals f.0 ∷ r) g.5);
      span_fits = e.3;
      count_fits = f.3;
      levels_fit = g.6;
      counted = read_counts (record p { stage = stage.Modes; minutes = unsigned_abs e.0; intervals = unsigned_abs f.0; floor = unsigned_abs g.0; capacity = unsigned_abs g.1 }) q g.4 refl fresh some done g.7;
    }

-- all lines
record IsNamed (ls : List Line) : Type 0 where
  name : List ℕ
  year : ℕ
  twelfth : ℕ
  rest : List Line
  lines_are : ls ≡ version ∷ label name ∷ month year twelfth ∷ rest
  name_fits : is_label name ≡ true
  year_fits : (nat_le 1 year && nat_le year 9999) ≡ true
  month_fits : (nat_le 1 twelfth && nat_le twelfth 12) ≡ true
  measured : IsMeasured (days_in_month (pos year) twelfth) rest

read_names : (ls : List Line) (q : Place) → q.stage ≡ stage.Done → Stand first ls q → IsNamed ls
unfolding first
read_names ls q done s =
    let a = take_version first q ls refl done s in
    let b = take_label (record first { stage = stage.Label }) q a.0 refl done a.2 in
    let d = take_month (record first { stage = stage.Month }) q b.1 refl done b.4 in
    let some : 1 ≤ days_in_month (pos d.0) d.1 = omega (arith, (days_in_month_bounds (pos d.0) d.1).1) in
    record {
      name = b.0;
      year = d.0;
      twelfth = d.1;
      rest = d.2;
      lines_are = a.1 ∙ ap (λ (r : List Line). version ∷ r) (b.2 ∙ ap (λ (r : List Line). label b.0 ∷ r) d.3);
      name_fits = b.3;
      year_fits = d.4;
      month_fits = d.5;
      measured = read_lengths (record first { stage = stage.Minutes; days = days_in_month (pos d.0) d.1 }) q d.2 refl (refl, refl, refl) some done d.6;
    }

-- the certificate that was read
said : (ls : List Line) → IsNamed ls → Certificate
said ls n = record {
  label = n.name;
  year = n.year;
  month = n.twelfth;
  minutes = n.measured.span;
  intervals = n.measured.count;
  floor = n.measured.lowest;
  capacity = n.measured.highest;
  start = n.measured.start;
  least_end = n.measured.least_end;
  modes = n.measured.counted.mode_count;
  groups = n.measured.counted.group_count;
  tiered = n.measured.counted.tier_count;
  found = n.measured.counted.body.found;
  tree = n.measured.counted.body.tree;
}

said_fits : (ls : List Line) (n : IsNamed ls) → IsInRange (said ls n)
unfolding said days_of levels_of
said_fits ls n = record {
  label = n.name_fits;
  year = n.year_fits;
  month = n.month_fits;
  minutes = n.measured.span_fits;
  intervals = n.measured.count_fits;
  levels = n.measured.levels_fit;
  modes = n.measured.counted.modes_fit;
  groups = n.measured.counted.groups_fit;
  tiered = n.measured.counted.tiers_fit;
  found = n.measured.counted.body.found_fits;
  tree = n.measured.counted.body.tree_fits;
  nodes = n.measured.counted.body.nodes;
  leaves = n.measured.counted.body.few;
}

said_lines : (ls : List Line) (n : IsNamed ls) → ls ≡ certificate_lines (said ls n)
unfolding said certificate_lines head_lines
said_lines ls n =
    let m = n.measured in
    let k = m.counted in
    n.lines_are ∙ ap (λ (r : List Line). version ∷ label n.name ∷ month n.year n.twelfth ∷ r)
    (m.lines_are ∙ ap (λ (r : List Line). minutes m.span ∷ intervals m.count ∷ levels m.lowest m.highest m.start m.least_end ∷ r)
    (k.lines_are ∙ ap (λ (r : List Line). modes k.mode_count ∷ groups k.group_count ∷ tiered k.tier_count ∷ r) k.body.lines_are))

pub only : (bytes : List ℕ) → FaultOf bytes None → (c : Certificate) × IsInRange c × (bytes ≡ certificate_text c)
unfolding Faulty certificate_text
only bytes f =
    let n = read_names f.lines f.place f.faulty.0 f.divides.stand in (
      said f.lines n,
      said_fits f.lines n,
      f.divides.parts ∙ ap (λ (k : List ℕ). text_of f.lines ++ k) f.faulty.1 ∙ append-nil (text_of f.lines) ∙ ap text_of (said_lines f.lines n),
    )
