-- What holds of each place at which lines that stand end, and of each line that stands.
use Rattle.std.proofs.Common.{◌≡◌, ◌<◌, ◌≤◌, ◌+◌, ◌-◌, ◌*◌, ◌^◌, ◌==◌, ◌&&◌, ◌||◌, ℕ, zero, suc, ℤ, pos, Bool, true, false, List, [], ◌∷◌, ◌++◌, length, map, arith, refl, sym, ap, inl, inr, subst, nat_le, nat_lt}
use Rattle.std.specs.Prelude.{◌⊎◌, unsigned_abs, if◌then◌else◌, codes, int_lt}
use Rattle.std.specs.List.{list_all, AllByRecursion}
use Rattle.std.proofs.lemmas.Bool.{leb-true, ltb-true, ltb-false, eqb-true, and_parts}
use Rattle.std.proofs.lemmas.List.{length-map, length-append}
use Rattle.std.proofs.lemmas.Nat.{mul-le}
use Rattle.jiff_core.specs.Calendar.{days_in_month}
use Rattle.jiff_core.proofs.CalendarLemmas.{days_in_month_bounds}
use Rattle.d_num.specs.declared.pot.Pot.{Pot}
use Rattle.d_num.specs.declared.pot.Pot.TheVariants.{To, NoWay}
use Rattle.d_certline.specs.declared.kind.Kind.{Kind}
use Rattle.d_certline.specs.declared.kind.Kind.TheVariants.{Least, Gap, Nothing}
use Rattle.d_certline.specs.declared.place.Place.{Place}
use Rattle.d_certline.specs.declared.place.Stage.{Stage}
use Rattle.d_certline.specs.declared.place.Stage.TheVariants as stage
use Rattle.d_certline.specs.Wholes.{padded}
use Rattle.d_certline.specs.Lines.{Line, version, label, month, minutes, intervals, levels, modes, groups, tiered, verdict, day, bill, lower, total, peak, leaf, slopes, layer, finish, word, parts, kind_text}
use Rattle.d_certline.specs.Ranges.{from_to, is_index, is_number, is_label, is_length, are_levels, is_amount, is_slope, is_potential, is_cut, is_printed, per_day, width, most_nodes, most_potentials, potentials}
use Rattle.d_certline.specs.Places.{stands, first, after, after_at, Stand, in_range, at_version, at_label, at_month, at_minutes, at_intervals, at_levels, at_modes, at_groups, at_tiered, at_verdict, at_day, at_bill, at_lower, at_tree, at_split, at_leaf, at_slopes, at_layer, behind_verdict, behind_day, behind_bill, below}
use Rattle.d_certline.proofs.DigitFacts.{AreDigits, padded_digits, padded_four, padded_two}
use Rattle.d_certline.proofs.LineFacts.{stood, stand_none, stand_more}
use Rattle.d_certline.proofs.RangeFacts.{ranged, if_so, if_not, from_to_is, is_index_is, is_number_of, is_length_is, are_levels_is, is_amount_is, is_slope_is, is_cut_is, per_day_le, per_day_none}

-- the numbers of a stage are in range
abbrev pub IsStaged : Stage → ℕ → Type 0
IsStaged (stage.Day d) n = (1 ≤ d) × (d ≤ 31)
IsStaged (stage.Layer t) n = t ≤ n
IsStaged s n = Unit {0}

-- what all places share
pub record IsSound (p : Place) : Type 0 where
  pub staged : IsStaged p.stage p.intervals
  pub floor : p.floor ≤ p.capacity
  pub capacity : p.capacity ≤ 255
  pub modes : p.modes ≤ 64
  pub tiered : p.tiered ≤ 36
  pub groups : p.groups ≤ 37
  pub days : p.days ≤ 31
  pub intervals : p.intervals ≤ 2976
  pub minutes : p.minutes ≤ 60
  pub timed : (p.minutes ≡ 0) ⊎ (15 ≤ p.minutes)
  pub daily : per_day p.minutes ≤ 96
  pub bill : unsigned_abs p.bill ≤ 10 ^ 36
  pub owed : p.owed ≤ p.need
  pub need : p.need ≤ 65535
  pub leaves : p.leaves ≤ 2 ^ 24

-- a line that has at most 257 numbers of at most 37 digits behind at most 128 bytes, none of which is a line feed
abbrev pub IsSmall : Pot → Type 0
IsSmall NoWay = Unit {0}
IsSmall (To z) = unsigned_abs z < 10 ^ 37

pub record IsNear (l : Line) : Type 0 where
  pub plain : AllByRecursion (λ byte. 32 ≤ byte) (word l)
  pub brief : length (word l) ≤ 128
  pub few : length (parts l) ≤ 257
  pub small : AllByRecursion IsSmall (parts l)

-- of a line that stands both are known
abbrev IsStep : Line → Place → Type 0
IsStep l q = IsSound q × IsNear l

pub sound_first : IsSound first
unfolding first
sound_first = record {
  staged = tt;
  floor = omega arith;
  capacity = omega arith;
  modes = omega arith;
  tiered = omega arith;
  groups = omega arith;
  days = omega arith;
  intervals = omega arith;
  minutes = omega arith;
  timed = inl refl;
  daily = omega (arith, per_day_none);
  bill = omega arith;
  owed = omega arith;
  need = omega arith;
  leaves = omega arith;
}

-- the stage alone goes on
staged : (p : Place) (s : Stage) → IsSound p → IsStaged s p.intervals → IsSound (record p { stage = s })
staged p s sound next = record {
  staged = next;
  floor = sound.floor;
  capacity = sound.capacity;
  modes = sound.modes;
  tiered = sound.tiered;
  groups = sound.groups;
  days = sound.days;
  intervals = sound.intervals;
  minutes = sound.minutes;
  timed = sound.timed;
  daily = sound.daily;
  bill = sound.bill;
  owed = sound.owed;
  need = sound.need;
  leaves = sound.leaves;
}

moved : (r q : Place) → stands r ≡ stands q → IsSound r → IsSound q
moved r q e sound = subst IsSound (stood r q e) sound

-- what lines are made of
plain_of : (bytes : List ℕ) → list_all (λ byte. nat_le 32 byte) bytes ≡ true → AllByRecursion (λ byte. 32 ≤ byte) bytes
plain_of [] e = tt
plain_of (byte ∷ bytes) e = let both = and_parts (nat_le 32 byte) (list_all (λ b. nat_le 32 b) bytes) e in (leb-true 32 byte both.0, plain_of bytes both.1)

plain_append : (a b : List ℕ) → AllByRecursion (λ byte. 32 ≤ byte) a → AllByRecursion (λ byte. 32 ≤ byte) b → AllByRecursion (λ byte. 32 ≤ byte) (a ++ b)
plain_append [] b x y = y
plain_append (byte ∷ a) b x y = (x.0, plain_append a b x.1 y)

plain_digits : (bytes : List ℕ) → AreDigits bytes → AllByRecursion (λ byte. 32 ≤ byte) bytes
plain_digits [] all = tt
plain_digits (byte ∷ bytes) all = (omega (arith, all.0.0), plain_digits bytes all.1)

plain_printed : (bytes : List ℕ) → list_all is_printed bytes ≡ true → AllByRecursion (λ byte. 32 ≤ byte) bytes
unfolding is_printed
plain_printed [] e = tt
plain_printed (byte ∷ bytes) e =
    let both = and_parts (is_printed byte) (list_all is_printed bytes) e in
    let least : 33 ≤ byte = leb-true 33 byte (and_parts (nat_le 33 byte) (nat_le byte 126) both.0).0 in
    (omega arith, plain_printed bytes both.1)

mapped : (test : ℤ → Bool) (zs : List ℤ) → ((z : ℤ) → test z ≡ true → unsigned_abs z < 10 ^ 37) → list_all test zs ≡ true → AllByRecursion IsSmall (map (λ z. To z) zs)
mapped test [] each e = tt
mapped test (z ∷ zs) each e = let both = and_parts (test z) (list_all test zs) e in (each z both.0, mapped test zs each both.1)

potentials_small : (ps : List Pot) → list_all is_potential ps ≡ true → AllByRecursion IsSmall ps
unfolding is_potential
potentials_small [] e = tt
potentials_small (NoWay ∷ ps) e = (tt, potentials_small ps (and_parts true (list_all is_potential ps) e).1)
potentials_small (To z ∷ ps) e =
    let both = and_parts (is_amount z) (list_all is_potential ps) e in
    let most = is_amount_is z both.0 in
    (omega arith, potentials_small ps both.1)

index_small : (count : ℕ) (z : ℤ) → count ≤ 100 → is_index count z ≡ true → unsigned_abs z < 10 ^ 37
index_small count z few e = let less = (is_index_is count z e).1 in omega arith

ranged_small : (least most : ℕ) (z : ℤ) → most ≤ 10 ^ 14 → from_to least most z ≡ true → unsigned_abs z < 10 ^ 37
ranged_small least most z few e = let less = (from_to_is least most z e).2 in omega arith

-- a line with a word and one number
near_one : (l : Line) (z : ℤ) → AllByRecursion (λ byte. 32 ≤ byte) (word l) → length (word l) ≤ 128 → parts l ≡ To z ∷ [] → unsigned_abs z < 10 ^ 37 → IsNear l
near_one l z plain brief one small =
    record { plain = plain; brief = brief; few = rw one (omega arith); small = subst (AllByRecursion IsSmall) (sym one) (small, tt) }

-- a line with a word alone
near_none : (l : Line) → AllByRecursion (λ byte. 32 ≤ byte) (word l) → length (word l) ≤ 128 → parts l ≡ [] → IsNear l
near_none l plain brief none =
    record { plain = plain; brief = brief; few = rw none (omega arith); small = subst (AllByRecursion IsSmall) (sym none) tt }

step_version : (p q : Place) (l : Line) → IsSound p → at_version p l ≡ stands q → IsStep l q
unfolding at_version word parts
step_version p q version sound e =
    (moved (record p { stage = stage.Label }) q e (staged p stage.Label sound tt), near_none version (plain_of (codes "dispatch-certificate 1") refl) (omega arith) refl)
step_version p q l sound e = absurd cc

step_label : (p q : Place) (l : Line) → IsSound p → at_label p l ≡ stands q → IsStep l q
unfolding at_label word parts is_label
step_label p q (label text) sound e =
    let t = if_so (is_label text) (stands (record p { stage = stage.Month })) q e in
    let both = and_parts (nat_le 1 (length text) && nat_le (length text) 64) (list_all is_printed text) t.0 in
    let most = leb-true (length text) 64 (and_parts (nat_le 1 (length text)) (nat_le (length text) 64) both.0).1 in
    let brief : length (codes "label " ++ text) ≤ 128 = omega (arith, length-append (codes "label ") text) in (
      moved (record p { stage = stage.Month }) q t.1 (staged p stage.Month sound tt),
      near_none (label text) (plain_append (codes "label ") text (plain_of (codes "label ") refl) (plain_printed text both.1)) brief refl,
    )
step_label p q l sound e = absurd cc

step_month : (p q : Place) (l : Line) → IsSound p → at_month p l ≡ stands q → IsStep l q
unfolding at_month word parts
step_month p q (month year m) sound e =
    let r : Place = record p { stage = stage.Minutes; days = days_in_month (pos year) m } in
    let t = if_so (nat_le year 9999 && nat_le m 99) (in_range (nat_le 1 year && (nat_le 1 m && nat_le m 12)) r) q e in
    let both = and_parts (nat_le year 9999) (nat_le m 99) t.0 in
    let s = ranged (nat_le 1 year && (nat_le 1 m && nat_le m 12)) r q t.1 in
    let next : IsSound r = record {
      staged = tt;
      floor = sound.floor;
      capacity = sound.capacity;
      modes = sound.modes;
      tiered = sound.tiered;
      groups = sound.groups;
      days = (days_in_month_bounds (pos year) m).0;
      intervals = sound.intervals;
      minutes = sound.minutes;
      timed = sound.timed;
      daily = sound.daily;
      bill = sound.bill;
      owed = sound.owed;
      need = sound.need;
      leaves = sound.leaves;
    } in
    let first_long : length (padded 4 year) ≡ 4 = padded_four year (leb-true year 9999 both.0) in
    let second_long : length (padded 2 m) ≡ 2 = padded_two m (leb-true m 99 both.1) in
    let brief : length (codes "month " ++ (padded 4 year ++ 45 ∷ padded 2 m)) ≤ 128 =
    omega (arith, length-append (codes "month ") (padded 4 year ++ 45 ∷ padded 2 m), length-append (padded 4 year) (45 ∷ padded 2 m)) in
    let tail : AllByRecursion (λ byte. 32 ≤ byte) (45 ∷ padded 2 m) = (omega arith, plain_digits (padded 2 m) (padded_digits 2 m)) in
    let plain = plain_append (codes "month ") (padded 4 year ++ 45 ∷ padded 2 m) (plain_of (codes "month ") refl)
    (plain_append (padded 4 year) (45 ∷ padded 2 m) (plain_digits (padded 4 year) (padded_digits 4 year)) tail) in
    (subst IsSound s.1 next, near_none (month year m) plain brief refl)
step_month p q l sound e = absurd cc

step_minutes : (p q : Place) (l : Line) → IsSound p → at_minutes p l ≡ stands q → IsStep l q
unfolding at_minutes word parts
step_minutes p q (minutes m) sound e =
    let r : Place = record p { stage = stage.Intervals; minutes = unsigned_abs m } in
    let t = ranged (is_length m) r q e in
    let is : (15 ≤ unsigned_abs m) × (unsigned_abs m ≤ 60) = length_bounds (unsigned_abs m) (is_length_is m t.0) in
    let next : IsSound r = record {
      staged = tt;
      floor = sound.floor;
      capacity = sound.capacity;
      modes = sound.modes;
      tiered = sound.tiered;
      groups = sound.groups;
      days = sound.days;
      intervals = sound.intervals;
      minutes = is.1;
      timed = inr is.0;
      daily = per_day_le (unsigned_abs m) is.0;
      bill = sound.bill;
      owed = sound.owed;
      need = sound.need;
      leaves = sound.leaves;
    } in
    (subst IsSound t.1 next, near_one (minutes m) m (plain_of (codes "minutes") refl) (omega arith) refl (omega arith))
  where
    length_bounds : (n : ℕ) → (n ≡ 15) ⊎ ((n ≡ 30) ⊎ (n ≡ 60)) → (15 ≤ n) × (n ≤ 60)
    length_bounds n (inl a) = (omega arith, omega arith)
    length_bounds n (inr (inl a)) = (omega arith, omega arith)
    length_bounds n (inr (inr a)) = (omega arith, omega arith)
step_minutes p q l sound e = absurd cc

step_intervals : (p q : Place) (l : Line) → IsSound p → at_intervals p l ≡ stands q → IsStep l q
unfolding at_intervals word parts
step_intervals p q (intervals n) sound e =
    let r : Place = record p { stage = stage.Levels; intervals = unsigned_abs n } in
    let t = ranged (is_number (p.days * per_day p.minutes) n) r q e in
    let is = is_number_of (p.days * per_day p.minutes) n t.0 in
    let most = mul-le p.days (per_day p.minutes) 31 96 sound.days sound.daily in
    let next : IsSound r = record {
      staged = tt;
      floor = sound.floor;
      capacity = sound.capacity;
      modes = sound.modes;
      tiered = sound.tiered;
      groups = sound.groups;
      days = sound.days;
      intervals = omega arith;
      minutes = sound.minutes;
      timed = sound.timed;
      daily = sound.daily;
      bill = sound.bill;
      owed = sound.owed;
      need = sound.need;
      leaves = sound.leaves;
    } in
    (subst IsSound t.1 next, near_one (intervals n) n (plain_of (codes "intervals") refl) (omega arith) refl (omega arith))
step_intervals p q l sound e = absurd cc

step_levels : (p q : Place) (l : Line) → IsSound p → at_levels p l ≡ stands q → IsStep l q
unfolding at_levels word parts
step_levels p q (levels f c s n) sound e =
    let r : Place = record p { stage = stage.Modes; floor = unsigned_abs f; capacity = unsigned_abs c } in
    let t = ranged (are_levels f c s n) r q e in
    let is = are_levels_is f c s n t.0 in
    let next : IsSound r = record {
      staged = tt;
      floor = omega (arith, is.0, is.1);
      capacity = is.2;
      modes = sound.modes;
      tiered = sound.tiered;
      groups = sound.groups;
      days = sound.days;
      intervals = sound.intervals;
      minutes = sound.minutes;
      timed = sound.timed;
      daily = sound.daily;
      bill = sound.bill;
      owed = sound.owed;
      need = sound.need;
      leaves = sound.leaves;
    } in (
      subst IsSound t.1 next,
      record {
        plain = plain_of (codes "levels") refl;
        brief = omega arith;
        few = omega arith;
        small = (omega (arith, is.0, is.1, is.2), (omega (arith, is.2), (omega (arith, is.1, is.2), (omega (arith, is.2, is.3), tt))));
      },
    )
step_levels p q l sound e = absurd cc

step_modes : (p q : Place) (l : Line) → IsSound p → at_modes p l ≡ stands q → IsStep l q
unfolding at_modes word parts
step_modes p q (modes n) sound e =
    let r : Place = record p { stage = stage.Groups; modes = unsigned_abs n } in
    let t = ranged (from_to 1 64 n) r q e in
    let next : IsSound r = record {
      staged = tt;
      floor = sound.floor;
      capacity = sound.capacity;
      modes = (from_to_is 1 64 n t.0).2;
      tiered = sound.tiered;
      groups = sound.groups;
      days = sound.days;
      intervals = sound.intervals;
      minutes = sound.minutes;
      timed = sound.timed;
      daily = sound.daily;
      bill = sound.bill;
      owed = sound.owed;
      need = sound.need;
      leaves = sound.leaves;
    } in
    (subst IsSound t.1 next, near_one (modes n) n (plain_of (codes "modes") refl) (omega arith) refl (ranged_small 1 64 n (omega arith) t.0))
step_modes p q l sound e = absurd cc

step_groups : (p q : Place) (l : Line) → IsSound p → at_groups p l ≡ stands q → IsStep l q
unfolding at_groups word parts
step_groups p q (groups n) sound e =
    let r : Place = record p { stage = stage.Tiered; groups = unsigned_abs n } in
    let t = ranged (from_to 0 37 n) r q e in
    let next : IsSound r = record {
      staged = tt;
      floor = sound.floor;
      capacity = sound.capacity;
      modes = sound.modes;
      tiered = sound.tiered;
      groups = (from_to_is 0 37 n t.0).2;
      days = sound.days;
      intervals = sound.intervals;
      minutes = sound.minutes;
      timed = sound.timed;
      daily = sound.daily;
      bill = sound.bill;
      owed = sound.owed;
      need = sound.need;
      leaves = sound.leaves;
    } in
    (subst IsSound t.1 next, near_one (groups n) n (plain_of (codes "groups") refl) (omega arith) refl (ranged_small 0 37 n (omega arith) t.0))
step_groups p q l sound e = absurd cc

step_tiered : (p q : Place) (l : Line) → IsSound p → at_tiered p l ≡ stands q → IsStep l q
unfolding at_tiered word parts
step_tiered p q (tiered n) sound e =
    let r : Place = record p { stage = stage.Verdict; tiered = unsigned_abs n } in
    let t = ranged (from_to 0 36 n) r q e in
    let next : IsSound r = record {
      staged = tt;
      floor = sound.floor;
      capacity = sound.capacity;
      modes = sound.modes;
      tiered = (from_to_is 0 36 n t.0).2;
      groups = sound.groups;
      days = sound.days;
      intervals = sound.intervals;
      minutes = sound.minutes;
      timed = sound.timed;
      daily = sound.daily;
      bill = sound.bill;
      owed = sound.owed;
      need = sound.need;
      leaves = sound.leaves;
    } in
    (subst IsSound t.1 next, near_one (tiered n) n (plain_of (codes "tiered") refl) (omega arith) refl (ranged_small 0 36 n (omega arith) t.0))
step_tiered p q l sound e = absurd cc

verdict_staged : (k : Kind) (n : ℕ) → IsStaged (behind_verdict k) n
unfolding behind_verdict
verdict_staged Least n = (omega arith, omega arith)
verdict_staged Gap n = (omega arith, omega arith)
verdict_staged Nothing n = tt

near_verdict : (k : Kind) → IsNear (verdict k)
unfolding word parts kind_text
near_verdict Least = near_none (verdict Least) (plain_of (codes "verdict least") refl) (omega arith) refl
near_verdict Gap = near_none (verdict Gap) (plain_of (codes "verdict gap") refl) (omega arith) refl
near_verdict Nothing = near_none (verdict Nothing) (plain_of (codes "verdict none") refl) (omega arith) refl

step_verdict : (p q : Place) (l : Line) → IsSound p → at_verdict p l ≡ stands q → IsStep l q
unfolding at_verdict
step_verdict p q (verdict k) sound e =
    let r : Place = record p { stage = behind_verdict k; kind = k } in
    let next : IsSound r = record {
      staged = verdict_staged k p.intervals;
      floor = sound.floor;
      capacity = sound.capacity;
      modes = sound.modes;
      tiered = sound.tiered;
      groups = sound.groups;
      days = sound.days;
      intervals = sound.intervals;
      minutes = sound.minutes;
      timed = sound.timed;
      daily = sound.daily;
      bill = sound.bill;
      owed = sound.owed;
      need = sound.need;
      leaves = sound.leaves;
    } in
    (moved r q e next, near_verdict k)
step_verdict p q l sound e = absurd cc

day_staged : (d days n : ℕ) → days ≤ 31 → IsStaged (behind_day d days) n
unfolding behind_day
day_staged d days n few = test (nat_lt d days) (λ e. ltb-true d days e)
  where
    test : (b : Bool) → (b ≡ true → d < days) → IsStaged (if b then stage.Day (suc d) else stage.Bill) n
    test true less = (omega arith, let k = less refl in omega arith)
    test false less = tt

step_day : (d : ℕ) (p q : Place) (l : Line) → d ≤ 31 → IsSound p → at_day d p l ≡ stands q → IsStep l q
unfolding at_day word parts
step_day d p q (day n ms) small sound e =
    let r : Place = record p { stage = behind_day d p.days } in
    let t = if_so ((n == d) && (length ms == per_day p.minutes)) (in_range (list_all (is_index p.modes) ms) r) q e in
    let both = and_parts (n == d) (length ms == per_day p.minutes) t.0 in
    let s = ranged (list_all (is_index p.modes) ms) r q t.1 in
    let one = eqb-true n d both.0 in
    let all = eqb-true (length ms) (per_day p.minutes) both.1 in (
      moved r q (ap (λ j. stands j) s.1) (staged p (behind_day d p.days) sound (day_staged d p.days p.intervals sound.days)),
      record {
        plain = plain_of (codes "day") refl;
        brief = omega arith;
        few = omega (arith, length-map ms (λ z. To z), sound.daily);
        small = (omega arith, mapped (is_index p.modes) ms (λ z f. index_small p.modes z (omega (arith, sound.modes)) f) s.0);
      },
    )
step_day d p q l small sound e = absurd cc

bill_staged : (k : Kind) (n : ℕ) → IsStaged (behind_bill k) n
unfolding behind_bill
bill_staged Least n = tt
bill_staged Gap n = tt
bill_staged Nothing n = tt

step_bill : (p q : Place) (l : Line) → IsSound p → at_bill p l ≡ stands q → IsStep l q
unfolding at_bill word parts
step_bill p q (bill z) sound e =
    let r : Place = record p { stage = behind_bill p.kind; bill = z } in
    let t = ranged (is_amount z) r q e in
    let most = is_amount_is z t.0 in
    let next : IsSound r = record {
      staged = bill_staged p.kind p.intervals;
      floor = sound.floor;
      capacity = sound.capacity;
      modes = sound.modes;
      tiered = sound.tiered;
      groups = sound.groups;
      days = sound.days;
      intervals = sound.intervals;
      minutes = sound.minutes;
      timed = sound.timed;
      daily = sound.daily;
      bill = most;
      owed = sound.owed;
      need = sound.need;
      leaves = sound.leaves;
    } in
    (subst IsSound t.1 next, near_one (bill z) z (plain_of (codes "bill") refl) (omega arith) refl (omega arith))
step_bill p q l sound e = absurd cc

step_lower : (p q : Place) (l : Line) → IsSound p → at_lower p l ≡ stands q → IsStep l q
unfolding at_lower word parts
step_lower p q (lower z) sound e =
    let r : Place = record p { stage = stage.Tree } in
    let t = ranged (is_amount z && int_lt z p.bill) r q e in
    let most = is_amount_is z (and_parts (is_amount z) (int_lt z p.bill) t.0).0 in
    (subst IsSound t.1 (staged p stage.Tree sound tt), near_one (lower z) z (plain_of (codes "lower") refl) (omega arith) refl (omega arith))
step_lower p q l sound e = absurd cc

or_false : (a b : Bool) → (a || b) ≡ false → b ≡ false
or_false true b e = absurd cc
or_false false b e = e

-- a part of a product whose other parts are some
product_most : (a b c : ℕ) → 1 ≤ b → 1 ≤ c → a ≤ a * b * c
product_most a b c x y =
    let front : a * 1 ≤ a * b = mul-le a 1 a b (omega arith) x in
    let all : a * b * 1 ≤ a * b * c = mul-le (a * b) 1 (a * b) c (omega arith) y in
    omega arith

near_split : (l : Line) (n at : ℤ) → AllByRecursion (λ byte. 32 ≤ byte) (word l) → length (word l) ≤ 128 → parts l ≡ To n ∷ To at ∷ [] → unsigned_abs n < 10 ^ 37 → unsigned_abs at < 10 ^ 37 → IsNear l
near_split l n at plain brief two x y =
    record { plain = plain; brief = brief; few = rw two (omega arith); small = subst (AllByRecursion IsSmall) (sym two) (x, (y, tt)) }

step_split : (count : ℕ) (p q : Place) (n at : ℤ) → count ≤ 100 → IsSound p → p.stage ≡ stage.Tree → at_split count p n at ≡ stands q
    → IsSound q × (unsigned_abs n < 10 ^ 37) × (unsigned_abs at < 10 ^ 37)
unfolding at_split
step_split count p q n at few sound here e =
    let r : Place = record p { owed = p.owed + 1; need = p.need + 2 } in
    let t = if_not ((p.owed == 0) || nat_lt most_nodes (p.need + 2)) (in_range (is_index count n && is_cut at) r) q e in
    let room = ltb-false 65535 (p.need + 2) (or_false (p.owed == 0) (nat_lt most_nodes (p.need + 2)) t.0) in
    let s = ranged (is_index count n && is_cut at) r q t.1 in
    let both = and_parts (is_index count n) (is_cut at) s.0 in
    let cut = is_cut_is at both.1 in
    let next : IsSound r = record {
      staged = sound.staged;
      floor = sound.floor;
      capacity = sound.capacity;
      modes = sound.modes;
      tiered = sound.tiered;
      groups = sound.groups;
      days = sound.days;
      intervals = sound.intervals;
      minutes = sound.minutes;
      timed = sound.timed;
      daily = sound.daily;
      bill = sound.bill;
      owed = omega (arith, sound.owed);
      need = room;
      leaves = sound.leaves;
    } in
    (subst IsSound s.1 next, index_small count n few both.0, omega arith)

step_leaf : (p q : Place) → IsSound p → at_leaf p ≡ stands q → IsSound q
unfolding at_leaf potentials width
step_leaf p q sound e =
    let r : Place = record p { stage = stage.Slopes; owed = p.owed - 1; leaves = p.leaves + 1 } in
    let t = if_not ((p.owed == 0) || nat_lt most_potentials (potentials (p.leaves + 1) p.intervals (width p.floor p.capacity))) (stands r) q e in
    let room = ltb-false most_potentials (potentials (p.leaves + 1) p.intervals (width p.floor p.capacity)) (or_false (p.owed == 0) (nat_lt most_potentials (potentials (p.leaves + 1) p.intervals (width p.floor p.capacity))) t.0) in
    let some = product_most (p.leaves + 1) (p.intervals + 1) ((p.capacity + 1) - p.floor) (omega arith) (omega (arith, sound.floor)) in
    let next : IsSound r = record {
      staged = tt;
      floor = sound.floor;
      capacity = sound.capacity;
      modes = sound.modes;
      tiered = sound.tiered;
      groups = sound.groups;
      days = sound.days;
      intervals = sound.intervals;
      minutes = sound.minutes;
      timed = sound.timed;
      daily = sound.daily;
      bill = sound.bill;
      owed = omega (arith, sound.owed);
      need = sound.need;
      leaves = omega (arith, room, some);
    } in
    moved r q t.1 next

step_tree : (p q : Place) (l : Line) → p.stage ≡ stage.Tree → IsSound p → at_tree p l ≡ stands q → IsStep l q
unfolding at_tree word parts
step_tree p q (total n at) here sound e =
    let t = step_split p.tiered p q n at (omega (arith, sound.tiered)) sound here e in
    (t.0, near_split (total n at) n at (plain_of (codes "split total") refl) (omega arith) refl t.1 t.2)
step_tree p q (peak n at) here sound e =
    let t = step_split p.groups p q n at (omega (arith, sound.groups)) sound here e in
    (t.0, near_split (peak n at) n at (plain_of (codes "split peak") refl) (omega arith) refl t.1 t.2)
step_tree p q leaf here sound e = (step_leaf p q sound e, near_none leaf (plain_of (codes "leaf") refl) (omega arith) refl)
step_tree p q finish here sound e =
    let t = if_so (p.owed == 0) (stands (record p { stage = stage.Done })) q e in
    (moved (record p { stage = stage.Done }) q t.1 (staged p stage.Done sound tt), near_none finish (plain_of (codes "end") refl) (omega arith) refl)
step_tree p q l here sound e = absurd cc

step_slopes : (p q : Place) (l : Line) → IsSound p → at_slopes p l ≡ stands q → IsStep l q
unfolding at_slopes word parts
step_slopes p q (slopes zs) sound e =
    let r : Place = record p { stage = stage.Layer p.intervals } in
    let t = if_so (length zs == p.tiered) (in_range (list_all is_slope zs) r) q e in
    let all = eqb-true (length zs) p.tiered t.0 in
    let s = ranged (list_all is_slope zs) r q t.1 in (
      moved r q (ap (λ j. stands j) s.1) (staged p (stage.Layer p.intervals) sound (omega arith)),
      record {
        plain = plain_of (codes "slopes") refl;
        brief = omega arith;
        few = omega (arith, length-map zs (λ z. To z), sound.tiered);
        small = mapped is_slope zs (λ z f. let most = is_slope_is z f in omega arith) s.0;
      },
    )
step_slopes p q l sound e = absurd cc

below_staged : (t n : ℕ) → t ≤ n → IsStaged (below t) n
unfolding below
below_staged zero n few = tt
below_staged (suc t) n few = omega arith

step_layer : (t : ℕ) (p q : Place) (l : Line) → t ≤ p.intervals → IsSound p → at_layer t p l ≡ stands q → IsStep l q
unfolding at_layer word parts width
step_layer t p q (layer n ps) few sound e =
    let r : Place = record p { stage = below t } in
    let u = if_so ((n == t) && (length ps == width p.floor p.capacity)) (in_range (list_all is_potential ps) r) q e in
    let both = and_parts (n == t) (length ps == width p.floor p.capacity) u.0 in
    let s = ranged (list_all is_potential ps) r q u.1 in
    let one = eqb-true n t both.0 in
    let all = eqb-true (length ps) ((p.capacity + 1) - p.floor) both.1 in (
      moved r q (ap (λ j. stands j) s.1) (staged p (below t) sound (below_staged t p.intervals few)),
      record {
        plain = plain_of (codes "at") refl;
        brief = omega arith;
        few = omega (arith, sound.capacity);
        small = (omega (arith, sound.intervals), potentials_small ps s.0);
      },
    )
step_layer t p q l few sound e = absurd cc

step_at : (s : Stage) (p q : Place) (l : Line) → p.stage ≡ s → IsStaged s p.intervals → IsSound p → after_at s p l ≡ stands q → IsStep l q
unfolding after_at
step_at stage.Version p q l here in_place sound e = step_version p q l sound e
step_at stage.Label p q l here in_place sound e = step_label p q l sound e
step_at stage.Month p q l here in_place sound e = step_month p q l sound e
step_at stage.Minutes p q l here in_place sound e = step_minutes p q l sound e
step_at stage.Intervals p q l here in_place sound e = step_intervals p q l sound e
step_at stage.Levels p q l here in_place sound e = step_levels p q l sound e
step_at stage.Modes p q l here in_place sound e = step_modes p q l sound e
step_at stage.Groups p q l here in_place sound e = step_groups p q l sound e
step_at stage.Tiered p q l here in_place sound e = step_tiered p q l sound e
step_at stage.Verdict p q l here in_place sound e = step_verdict p q l sound e
step_at (stage.Day d) p q l here in_place sound e = step_day d p q l in_place.1 sound e
step_at stage.Bill p q l here in_place sound e = step_bill p q l sound e
step_at stage.Lower p q l here in_place sound e = step_lower p q l sound e
step_at stage.Tree p q l here in_place sound e = step_tree p q l here sound e
step_at stage.Slopes p q l here in_place sound e = step_slopes p q l sound e
step_at (stage.Layer t) p q l here in_place sound e = step_layer t p q l in_place sound e
step_at stage.Done p q l here in_place sound e = absurd cc

-- behind a line that stands a place is sound again
pub sound_after : (p q : Place) (l : Line) → IsSound p → after p l ≡ stands q → IsSound q
unfolding after
sound_after p q l sound e = (step_at p.stage p q l refl sound.staged sound e).0

-- a line that stands at a sound place is near
pub near_after : (p q : Place) (l : Line) → IsSound p → after p l ≡ stands q → IsNear l
unfolding after
near_after p q l sound e = (step_at p.stage p q l refl sound.staged sound e).1

pub sound_stand : (ls : List Line) (p q : Place) → IsSound p → Stand p ls q → IsSound q
sound_stand [] p q sound s = subst IsSound (stand_none p q s) sound
sound_stand (l ∷ ls) p q sound s =
    let t = stand_more p q l ls s in
    sound_stand ls t.0 q (sound_after p t.0 l sound t.1) t.2
