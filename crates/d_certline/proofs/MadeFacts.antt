-- The lines of a certificate in range stand.
use Rattle.std.proofs.Common.{◌≡◌, ◌∙◌, ◌<◌, ◌≤◌, ◌+◌, ◌-◌, ◌*◌, ◌==◌, ◌&&◌, ◌||◌, ℕ, zero, suc, ℤ, pos, Bool, true, false, List, [], ◌∷◌, ◌++◌, length, arith, refl, sym, subst, append_assoc, nat_le, nat_lt}
use Rattle.std.specs.Prelude.{unsigned_abs, if◌then◌else◌, int_lt, None}
use Rattle.std.specs.List.{list_all, All}
use Rattle.std.proofs.lemmas.Bool.{eq-eqb, ne_eqb, lt-ltb, le-ltb, le-leb, leb-true, and_parts, and_from}
use Rattle.std.proofs.lemmas.List.{append-nil}
use Rattle.std.proofs.lemmas.Nat.{mul-le}
use Rattle.jiff_core.specs.Calendar.{days_in_month}
use Rattle.jiff_core.proofs.CalendarLemmas.{days_in_month_bounds}
use Rattle.d_num.specs.declared.pot.Pot.{Pot}
use Rattle.d_certline.specs.declared.kind.Kind.{Kind}
use Rattle.d_certline.specs.declared.kind.Kind.TheVariants.{Least, Gap}
use Rattle.d_certline.specs.declared.place.Place.{Place}
use Rattle.d_certline.specs.declared.place.Stage.{Stage}
use Rattle.d_certline.specs.declared.place.Stage.TheVariants as stage
use Rattle.d_certline.specs.Lines.{Line, text_of}
use Rattle.d_certline.specs.Lines as line
use Rattle.d_certline.specs.Ranges.{from_to, is_index, is_number, is_label, is_length, are_levels, is_amount, is_slope, is_potential, is_cut, per_day, width, most_nodes, most_potentials, potentials}
use Rattle.d_certline.specs.Places.{stands, form, in_range, first, after, after_at, Stand, at_version, at_label, at_month, at_minutes, at_intervals, at_levels, at_modes, at_groups, at_tiered, at_verdict, at_day, at_bill, at_lower, at_tree, at_split, at_leaf, at_slopes, at_layer, behind_verdict, behind_day, behind_bill, below}
use Rattle.d_certline.specs.Certificates.{Tree, leaf_of, total_at, peak_at, Found, least, gap, nothing, Certificate, certificate_lines, certificate_text, head_lines, found_lines, tree_lines, layer_lines, day_lines, kind_of, nodes_of, leaves_of, IsLayer, IsTree, IsDay, IsPlan, IsFound, IsInRange, days_of, levels_of}
use Rattle.d_certline.specs.Faults.{FaultOf, Faulty}
use Rattle.d_certline.proofs.LineFacts.{after_is, stand_cons, Stand-nil, Stand-append}
use Rattle.d_certline.proofs.RangeFacts.{in_range_so, if_true, if_false}

-- the same place with other counts, at a stage of the tree
abbrev pub spot : Place → Stage → ℕ → ℕ → ℕ → Place
spot base s o n v = record base { stage = s; owed = o; need = n; leaves = v }

-- each tree has a node and a leaf
pub some_nodes : (t : Tree) → 1 ≤ nodes_of t
unfolding nodes_of
some_nodes (leaf_of rates layers) = omega arith
some_nodes (total_at n at left right) = omega arith
some_nodes (peak_at n at left right) = omega arith

-- fewer leaves have fewer potentials
pub fewer_leaves : (a b i w : ℕ) → a ≤ b → potentials b i w ≤ most_potentials → potentials a i w ≤ most_potentials
unfolding potentials
fewer_leaves a b i w less room =
    let front : a * (i + 1) ≤ b * (i + 1) = mul-le a (i + 1) b (i + 1) less (omega arith) in
    let all : a * (i + 1) * w ≤ b * (i + 1) * w = mul-le (a * (i + 1)) w (b * (i + 1)) w front (omega arith) in
    omega arith

neither : (a b : Bool) → a ≡ false → b ≡ false → (a || b) ≡ false
neither true b x y = absurd cc
neither false b x y = y

-- what stands where
layer_stands : (base : Place) (o n v t : ℕ) (pots : List Pot) (m : ℕ) → m ≡ t → IsLayer (width base.floor base.capacity) pots
    → after (spot base (stage.Layer t) o n v) (line.layer m pots) ≡ stands (spot base (below t) o n v)
unfolding after after_at at_layer
layer_stands base o n v t pots m e is =
    if_true ((m == t) && (length pots == width base.floor base.capacity)) (in_range (list_all is_potential pots) (spot base (below t) o n v)) form
    (and_from (m == t) (length pots == width base.floor base.capacity) (eq-eqb m t e) (eq-eqb (length pots) (width base.floor base.capacity) is.count))
    ∙ in_range_so (list_all is_potential pots) (spot base (below t) o n v) is.ranged

below_zero : (t : ℕ) → t ≡ 0 → below t ≡ stage.Tree
unfolding below
below_zero zero e = refl
below_zero (suc t) e = absurd (omega arith)

layers_stand : (base : Place) (o n v t : ℕ) (layers : List (List Pot)) (rest : List Line) (q : Place) → length layers ≡ t + 1
    → All (IsLayer (width base.floor base.capacity)) layers → Stand (spot base stage.Tree o n v) rest q
    → Stand (spot base (stage.Layer t) o n v) (layer_lines layers ++ rest) q
unfolding layer_lines below
layers_stand base o n v t [] rest q count each s = absurd (omega arith)
layers_stand base o n v zero (pots ∷ []) rest q count each s =
    stand_cons (spot base (stage.Layer 0) o n v) (spot base stage.Tree o n v) q (line.layer 0 pots) rest
    (layer_stands base o n v 0 pots 0 refl (each 0 pots (omega arith))) s
layers_stand base o n v (suc t) (pots ∷ []) rest q count each s = absurd (omega arith)
layers_stand base o n v zero (pots ∷ more ∷ layers) rest q count each s = absurd (omega arith)
layers_stand base o n v (suc t) (pots ∷ more ∷ layers) rest q count each s =
    stand_cons (spot base (stage.Layer (suc t)) o n v) (spot base (stage.Layer t) o n v) q (line.layer (length (more ∷ layers)) pots) (layer_lines (more ∷ layers) ++ rest)
    (layer_stands base o n v (suc t) pots (length (more ∷ layers)) (omega arith) (each 0 pots (omega arith)))
    (layers_stand base o n v t (more ∷ layers) rest q (omega arith) (λ k d within. each (suc k) d (omega arith)) s)

split_stands : (base : Place) (count o n v : ℕ) (index at : ℤ) → (is_index count index && is_cut at) ≡ true → 0 < o → n + 2 ≤ 65535
    → at_split count (spot base stage.Tree o n v) index at ≡ stands (spot base stage.Tree (o + 1) (n + 2) v)
unfolding at_split
split_stands base count o n v index at is some room =
    if_false ((o == 0) || nat_lt most_nodes (n + 2)) form (in_range (is_index count index && is_cut at) (spot base stage.Tree (o + 1) (n + 2) v))
    (neither (o == 0) (nat_lt most_nodes (n + 2)) (ne_eqb o 0 (λ e. omega arith)) (le-ltb most_nodes (n + 2) room))
    ∙ in_range_so (is_index count index && is_cut at) (spot base stage.Tree (o + 1) (n + 2) v) is

total_stands : (base : Place) (o n v : ℕ) (index at : ℤ) → (is_index base.tiered index && is_cut at) ≡ true → 0 < o → n + 2 ≤ 65535
    → after (spot base stage.Tree o n v) (line.total index at) ≡ stands (spot base stage.Tree (o + 1) (n + 2) v)
unfolding after after_at at_tree
total_stands base o n v index at is some room = split_stands base base.tiered o n v index at is some room

peak_stands : (base : Place) (o n v : ℕ) (index at : ℤ) → (is_index base.groups index && is_cut at) ≡ true → 0 < o → n + 2 ≤ 65535
    → after (spot base stage.Tree o n v) (line.peak index at) ≡ stands (spot base stage.Tree (o + 1) (n + 2) v)
unfolding after after_at at_tree
peak_stands base o n v index at is some room = split_stands base base.groups o n v index at is some room

leaf_stands : (base : Place) (o n v : ℕ) → potentials (v + 1) base.intervals (width base.floor base.capacity) ≤ most_potentials
    → after (spot base stage.Tree (o + 1) n v) line.leaf ≡ stands (spot base stage.Slopes (o + 1 - 1) n (v + 1))
unfolding after after_at at_tree at_leaf
leaf_stands base o n v room =
    if_false ((o + 1 == 0) || nat_lt most_potentials (potentials (v + 1) base.intervals (width base.floor base.capacity))) form (stands (spot base stage.Slopes (o + 1 - 1) n (v + 1)))
    (neither (o + 1 == 0) (nat_lt most_potentials (potentials (v + 1) base.intervals (width base.floor base.capacity))) (ne_eqb (o + 1) 0 (λ e. omega arith))
    (le-ltb most_potentials (potentials (v + 1) base.intervals (width base.floor base.capacity)) room))

slopes_stand : (base : Place) (o n v : ℕ) (rates : List ℤ) → length rates ≡ base.tiered → list_all is_slope rates ≡ true
    → after (spot base stage.Slopes o n v) (line.slopes rates) ≡ stands (spot base (stage.Layer base.intervals) o n v)
unfolding after after_at at_slopes
slopes_stand base o n v rates count ranged =
    if_true (length rates == base.tiered) (in_range (list_all is_slope rates) (spot base (stage.Layer base.intervals) o n v)) form (eq-eqb (length rates) base.tiered count)
    ∙ in_range_so (list_all is_slope rates) (spot base (stage.Layer base.intervals) o n v) ranged

-- the lines of a tree stand where one is owed
pub tree_stands : (t : Tree) (base : Place) (o n n2 v v2 : ℕ) (rest : List Line) (q : Place)
    → IsTree base.tiered base.groups base.intervals (width base.floor base.capacity) t
    → n + nodes_of t ≡ n2 + 1 → n2 ≤ 65535 → v + leaves_of t ≡ v2 → potentials v2 base.intervals (width base.floor base.capacity) ≤ most_potentials
    → Stand (spot base stage.Tree o n2 v2) rest q → Stand (spot base stage.Tree (o + 1) n v) (tree_lines t ++ rest) q
unfolding tree_lines IsTree nodes_of leaves_of
tree_stands (leaf_of rates layers) base o n n2 v v2 rest q is nodes most leaves room s =
    let there : Stand (spot base stage.Tree (o + 1 - 1) n (v + 1)) rest q =
    subst (λ (x : ℕ). Stand (spot base stage.Tree (o + 1 - 1) x (v + 1)) rest q) (let e : n2 ≡ n = omega arith in e)
    (subst (λ (x : ℕ). Stand (spot base stage.Tree x n2 (v + 1)) rest q) (let e : o ≡ o + 1 - 1 = omega arith in e)
    (subst (λ (x : ℕ). Stand (spot base stage.Tree o n2 x) rest q) (sym leaves) s)) in
    let last = layers_stand base (o + 1 - 1) n (v + 1) base.intervals layers rest q is.count is.layers_are there in
    stand_cons (spot base stage.Tree (o + 1) n v) (spot base stage.Slopes (o + 1 - 1) n (v + 1)) q line.leaf (line.slopes rates ∷ (layer_lines layers ++ rest))
    (leaf_stands base o n v (subst (λ (x : ℕ). potentials x base.intervals (width base.floor base.capacity) ≤ most_potentials) (sym leaves) room))
    (stand_cons (spot base stage.Slopes (o + 1 - 1) n (v + 1)) (spot base (stage.Layer base.intervals) (o + 1 - 1) n (v + 1)) q (line.slopes rates) (layer_lines layers ++ rest)
    (slopes_stand base (o + 1 - 1) n (v + 1) rates is.slopes is.ranged) last)
tree_stands (total_at index at left right) base o n n2 v v2 rest q is nodes most leaves room s =
    let x = some_nodes left in
    let y = some_nodes right in
    let second : Stand (spot base stage.Tree (o + 1) (n + 1 + nodes_of left) (v + leaves_of left)) (tree_lines right ++ rest) q =
    tree_stands right base o (n + 1 + nodes_of left) n2 (v + leaves_of left) v2 rest q is.2 (omega arith) most (omega arith) room s in
    let both : Stand (spot base stage.Tree (o + 1 + 1) (n + 2) v) (tree_lines left ++ (tree_lines right ++ rest)) q =
    tree_stands left base (o + 1) (n + 2) (n + 1 + nodes_of left) v (v + leaves_of left) (tree_lines right ++ rest) q is.1 (omega arith) (omega arith) refl
    (fewer_leaves (v + leaves_of left) v2 base.intervals (width base.floor base.capacity) (omega arith) room) second in
    stand_cons (spot base stage.Tree (o + 1) n v) (spot base stage.Tree (o + 1 + 1) (n + 2) v) q (line.total index at) ((tree_lines left ++ tree_lines right) ++ rest)
    (total_stands base (o + 1) n v index at is.0 (omega arith) (omega arith))
    (subst (λ (ls : List Line). Stand (spot base stage.Tree (o + 1 + 1) (n + 2) v) ls q) (sym (append_assoc (tree_lines left) (tree_lines right) rest)) both)
tree_stands (peak_at index at left right) base o n n2 v v2 rest q is nodes most leaves room s =
    let x = some_nodes left in
    let y = some_nodes right in
    let second : Stand (spot base stage.Tree (o + 1) (n + 1 + nodes_of left) (v + leaves_of left)) (tree_lines right ++ rest) q =
    tree_stands right base o (n + 1 + nodes_of left) n2 (v + leaves_of left) v2 rest q is.2 (omega arith) most (omega arith) room s in
    let both : Stand (spot base stage.Tree (o + 1 + 1) (n + 2) v) (tree_lines left ++ (tree_lines right ++ rest)) q =
    tree_stands left base (o + 1) (n + 2) (n + 1 + nodes_of left) v (v + leaves_of left) (tree_lines right ++ rest) q is.1 (omega arith) (omega arith) refl
    (fewer_leaves (v + leaves_of left) v2 base.intervals (width base.floor base.capacity) (omega arith) room) second in
    stand_cons (spot base stage.Tree (o + 1) n v) (spot base stage.Tree (o + 1 + 1) (n + 2) v) q (line.peak index at) ((tree_lines left ++ tree_lines right) ++ rest)
    (peak_stands base (o + 1) n v index at is.0 (omega arith) (omega arith))
    (subst (λ (ls : List Line). Stand (spot base stage.Tree (o + 1 + 1) (n + 2) v) ls q) (sym (append_assoc (tree_lines left) (tree_lines right) rest)) both)

-- the lines of days stand
day_stands : (base : Place) (d : ℕ) (numbers : List ℤ) → IsDay (per_day base.minutes) base.modes numbers
    → after (record base { stage = stage.Day d }) (line.day d numbers) ≡ stands (record base { stage = behind_day d base.days })
unfolding after after_at at_day
day_stands base d numbers is =
    if_true ((d == d) && (length numbers == per_day base.minutes)) (in_range (list_all (is_index base.modes) numbers) (record base { stage = behind_day d base.days })) form
    (and_from (d == d) (length numbers == per_day base.minutes) (eq-eqb d d refl) (eq-eqb (length numbers) (per_day base.minutes) is.count))
    ∙ in_range_so (list_all (is_index base.modes) numbers) (record base { stage = behind_day d base.days }) is.ranged

stage_if : (b : Bool) (s t : Stage) → b ≡ true → (if b then s else t) ≡ s
stage_if true s t e = refl
stage_if false s t e = absurd cc

stage_else : (b : Bool) (s t : Stage) → b ≡ false → (if b then s else t) ≡ t
stage_else true s t e = absurd cc
stage_else false s t e = refl

pub day_next : (d days : ℕ) → d < days → behind_day d days ≡ stage.Day (suc d)
unfolding behind_day
day_next d days less = stage_if (nat_lt d days) (stage.Day (suc d)) stage.Bill (lt-ltb d days less)

pub day_last : (d days : ℕ) → days ≤ d → behind_day d days ≡ stage.Bill
unfolding behind_day
day_last d days most = stage_else (nat_lt d days) (stage.Day (suc d)) stage.Bill (le-ltb d days most)

days_stand : (days : List (List ℤ)) (base : Place) (d : ℕ) (rest : List Line) (q : Place) → d + length days ≡ base.days + 1 → 0 < length days
    → All (IsDay (per_day base.minutes) base.modes) days → Stand (record base { stage = stage.Bill }) rest q
    → Stand (record base { stage = stage.Day d }) (day_lines d days ++ rest) q
unfolding day_lines
days_stand [] base d rest q count some each s = absurd (omega arith)
days_stand (numbers ∷ []) base d rest q count some each s =
    let last : behind_day d base.days ≡ stage.Bill = day_last d base.days (omega arith) in
    stand_cons (record base { stage = stage.Day d }) (record base { stage = behind_day d base.days }) q (line.day d numbers) rest
    (day_stands base d numbers (each 0 numbers (omega arith)))
    (subst (λ (x : Stage). Stand (record base { stage = x }) rest q) (sym last) s)
days_stand (numbers ∷ more ∷ days) base d rest q count some each s =
    let next : behind_day d base.days ≡ stage.Day (suc d) = day_next d base.days (omega arith) in
    stand_cons (record base { stage = stage.Day d }) (record base { stage = behind_day d base.days }) q (line.day d numbers) (day_lines (suc d) (more ∷ days) ++ rest)
    (day_stands base d numbers (each 0 numbers (omega arith)))
    (subst (λ (x : Stage). Stand (record base { stage = x }) (day_lines (suc d) (more ∷ days) ++ rest) q) (sym next)
    (days_stand (more ∷ days) base (suc d) rest q (omega arith) (omega arith) (λ k e within. each (suc k) e (omega arith)) s))

-- what was found
bill_stands : (base : Place) (z : ℤ) → is_amount z ≡ true → after (record base { stage = stage.Bill }) (line.bill z) ≡ stands (record base { stage = behind_bill base.kind; bill = z })
unfolding after after_at at_bill
bill_stands base z is = in_range_so (is_amount z) (record base { stage = behind_bill base.kind; bill = z }) is

lower_stands : (base : Place) (z : ℤ) → (is_amount z && int_lt z base.bill) ≡ true → after (record base { stage = stage.Lower }) (line.lower z) ≡ stands (record base { stage = stage.Tree })
unfolding after after_at at_lower
lower_stands base z is = in_range_so (is_amount z && int_lt z base.bill) (record base { stage = stage.Tree }) is

-- the bill that stands behind what was found
unfoldable pub bill_of : ℤ → Found → ℤ
bill_of before (least days bill) = bill
bill_of before (gap days bill bound) = bill
bill_of before nothing = before

-- all days of a month begin at its first
plan_stands : (base : Place) (days : List (List ℤ)) (rest : List Line) (q : Place) → 1 ≤ base.days → IsPlan base.days (per_day base.minutes) base.modes days
    → Stand (record base { stage = stage.Bill }) rest q → Stand (record base { stage = stage.Day 1 }) (day_lines 1 days ++ rest) q
plan_stands base days rest q some is s = let all = is.all in days_stand days base 1 rest q (omega arith) (omega arith) is.each s

found_stands : (f : Found) (base : Place) (rest : List Line) (q : Place) → 1 ≤ base.days → IsFound base.days (per_day base.minutes) base.modes f
    → Stand (record base { stage = stage.Tree; kind = kind_of f; bill = bill_of base.bill f }) rest q
    → Stand (record base { stage = behind_verdict (kind_of f); kind = kind_of f }) (found_lines f ++ rest) q
unfolding found_lines kind_of bill_of behind_verdict behind_bill IsFound
found_stands (least days bill) base rest q some is s =
    let p : Place = record base { kind = Least } in
    let last : Stand (record p { stage = stage.Bill }) (line.bill bill ∷ rest) q =
    stand_cons (record p { stage = stage.Bill }) (record p { stage = stage.Tree; bill = bill }) q (line.bill bill) rest (bill_stands p bill is.1) s in
    subst (λ (ls : List Line). Stand (record p { stage = stage.Day 1 }) ls q) (sym (append_assoc (day_lines 1 days) (line.bill bill ∷ []) rest))
    (plan_stands p days (line.bill bill ∷ rest) q some is.0 last)
found_stands (gap days bill bound) base rest q some is s =
    let p : Place = record base { kind = Gap } in
    let end : Stand (record p { stage = stage.Lower; bill = bill }) (line.lower bound ∷ rest) q =
    stand_cons (record p { stage = stage.Lower; bill = bill }) (record p { stage = stage.Tree; bill = bill }) q (line.lower bound) rest (lower_stands (record p { bill = bill }) bound is.2) s in
    let last : Stand (record p { stage = stage.Bill }) (line.bill bill ∷ line.lower bound ∷ rest) q =
    stand_cons (record p { stage = stage.Bill }) (record p { stage = stage.Lower; bill = bill }) q (line.bill bill) (line.lower bound ∷ rest) (bill_stands p bill is.1) end in
    subst (λ (ls : List Line). Stand (record p { stage = stage.Day 1 }) ls q) (sym (append_assoc (day_lines 1 days) (line.bill bill ∷ line.lower bound ∷ []) rest))
    (plan_stands p days (line.bill bill ∷ line.lower bound ∷ rest) q some is.0 last)
found_stands nothing base rest q some is s = s

-- the place behind the verdict, where this was said before
unfoldable pub head_place : Certificate → Place
head_place c = record {
  stage = behind_verdict (kind_of c.found);
  days = days_of c;
  minutes = unsigned_abs c.minutes;
  intervals = unsigned_abs c.intervals;
  floor = unsigned_abs c.floor;
  capacity = unsigned_abs c.capacity;
  modes = unsigned_abs c.modes;
  groups = unsigned_abs c.groups;
  tiered = unsigned_abs c.tiered;
  kind = kind_of c.found;
  bill = pos 0;
  owed = 1;
  need = 1;
  leaves = 0;
}

-- the lines of the head, one at a place each
version_stands : (p : Place) → p.stage ≡ stage.Version → after p line.version ≡ stands (record p { stage = stage.Label })
unfolding after_at at_version
version_stands p e = after_is stage.Version p line.version e

label_stands : (p : Place) (text : List ℕ) → p.stage ≡ stage.Label → is_label text ≡ true → after p (line.label text) ≡ stands (record p { stage = stage.Month })
unfolding after_at at_label
label_stands p text e is = after_is stage.Label p (line.label text) e ∙ if_true (is_label text) (stands (record p { stage = stage.Month })) form is

month_stands : (p : Place) (y m : ℕ) → p.stage ≡ stage.Month → (nat_le 1 y && nat_le y 9999) ≡ true → (nat_le 1 m && nat_le m 12) ≡ true
    → after p (line.month y m) ≡ stands (record p { stage = stage.Minutes; days = days_in_month (pos y) m })
unfolding after_at at_month
month_stands p y m e year twelve =
    let r : Place = record p { stage = stage.Minutes; days = days_in_month (pos y) m } in
    let a = and_parts (nat_le 1 y) (nat_le y 9999) year in
    let b = and_parts (nat_le 1 m) (nat_le m 12) twelve in
    let most : m ≤ 12 = leb-true m 12 b.1 in
    after_is stage.Month p (line.month y m) e
    ∙ if_true (nat_le y 9999 && nat_le m 99) (in_range (nat_le 1 y && (nat_le 1 m && nat_le m 12)) r) form (and_from (nat_le y 9999) (nat_le m 99) a.1 (le-leb m 99 (omega arith)))
    ∙ in_range_so (nat_le 1 y && (nat_le 1 m && nat_le m 12)) r (and_from (nat_le 1 y) (nat_le 1 m && nat_le m 12) a.0 twelve)

minutes_stand : (p : Place) (z : ℤ) → p.stage ≡ stage.Minutes → is_length z ≡ true → after p (line.minutes z) ≡ stands (record p { stage = stage.Intervals; minutes = unsigned_abs z })
unfolding after_at at_minutes
minutes_stand p z e is = after_is stage.Minutes p (line.minutes z) e ∙ in_range_so (is_length z) (record p { stage = stage.Intervals; minutes = unsigned_abs z }) is

intervals_stand : (p : Place) (z : ℤ) → p.stage ≡ stage.Intervals → is_number (p.days * per_day p.minutes) z ≡ true → after p (line.intervals z) ≡ stands (record p { stage = stage.Levels; intervals = unsigned_abs z })
unfolding after_at at_intervals
intervals_stand p z e is = after_is stage.Intervals p (line.intervals z) e ∙ in_range_so (is_number (p.days * per_day p.minutes) z) (record p { stage = stage.Levels; intervals = unsigned_abs z }) is

levels_stand : (p : Place) (f c s n : ℤ) → p.stage ≡ stage.Levels → are_levels f c s n ≡ true → after p (line.levels f c s n) ≡ stands (record p { stage = stage.Modes; floor = unsigned_abs f; capacity = unsigned_abs c })
unfolding after_at at_levels
levels_stand p f c s n e is = after_is stage.Levels p (line.levels f c s n) e ∙ in_range_so (are_levels f c s n) (record p { stage = stage.Modes; floor = unsigned_abs f; capacity = unsigned_abs c }) is

modes_stand : (p : Place) (z : ℤ) → p.stage ≡ stage.Modes → from_to 1 64 z ≡ true → after p (line.modes z) ≡ stands (record p { stage = stage.Groups; modes = unsigned_abs z })
unfolding after_at at_modes
modes_stand p z e is = after_is stage.Modes p (line.modes z) e ∙ in_range_so (from_to 1 64 z) (record p { stage = stage.Groups; modes = unsigned_abs z }) is

groups_stand : (p : Place) (z : ℤ) → p.stage ≡ stage.Groups → from_to 0 37 z ≡ true → after p (line.groups z) ≡ stands (record p { stage = stage.Tiered; groups = unsigned_abs z })
unfolding after_at at_groups
groups_stand p z e is = after_is stage.Groups p (line.groups z) e ∙ in_range_so (from_to 0 37 z) (record p { stage = stage.Tiered; groups = unsigned_abs z }) is

tiered_stand : (p : Place) (z : ℤ) → p.stage ≡ stage.Tiered → from_to 0 36 z ≡ true → after p (line.tiered z) ≡ stands (record p { stage = stage.Verdict; tiered = unsigned_abs z })
unfolding after_at at_tiered
tiered_stand p z e is = after_is stage.Tiered p (line.tiered z) e ∙ in_range_so (from_to 0 36 z) (record p { stage = stage.Verdict; tiered = unsigned_abs z }) is

verdict_stands : (p : Place) (k : Kind) → p.stage ≡ stage.Verdict → after p (line.verdict k) ≡ stands (record p { stage = behind_verdict k; kind = k })
unfolding after_at at_verdict
verdict_stands p k e = after_is stage.Verdict p (line.verdict k) e

head_stands : (c : Certificate) → IsInRange c → Stand first (head_lines c) (head_place c)
unfolding head_lines head_place first days_of
head_stands c is =
    let p0 : Place = first in
    let p1 : Place = record p0 { stage = stage.Label } in
    let p2 : Place = record p1 { stage = stage.Month } in
    let p3 : Place = record p2 { stage = stage.Minutes; days = days_in_month (pos c.year) c.month } in
    let p4 : Place = record p3 { stage = stage.Intervals; minutes = unsigned_abs c.minutes } in
    let p5 : Place = record p4 { stage = stage.Levels; intervals = unsigned_abs c.intervals } in
    let p6 : Place = record p5 { stage = stage.Modes; floor = unsigned_abs c.floor; capacity = unsigned_abs c.capacity } in
    let p7 : Place = record p6 { stage = stage.Groups; modes = unsigned_abs c.modes } in
    let p8 : Place = record p7 { stage = stage.Tiered; groups = unsigned_abs c.groups } in
    let p9 : Place = record p8 { stage = stage.Verdict; tiered = unsigned_abs c.tiered } in
    let q : Place = record p9 { stage = behind_verdict (kind_of c.found); kind = kind_of c.found } in
    let s9 = stand_cons p9 q q (line.verdict (kind_of c.found)) [] (verdict_stands p9 (kind_of c.found) refl) (Stand-nil q) in
    let s8 = stand_cons p8 p9 q (line.tiered c.tiered) (line.verdict (kind_of c.found) ∷ []) (tiered_stand p8 c.tiered refl is.tiered) s9 in
    let s7 = stand_cons p7 p8 q (line.groups c.groups) (line.tiered c.tiered ∷ line.verdict (kind_of c.found) ∷ []) (groups_stand p7 c.groups refl is.groups) s8 in
    let l7 : List Line = line.groups c.groups ∷ line.tiered c.tiered ∷ line.verdict (kind_of c.found) ∷ [] in
    let l6 : List Line = line.modes c.modes ∷ l7 in
    let s6 : Stand p6 l6 q = stand_cons p6 p7 q (line.modes c.modes) l7 (modes_stand p6 c.modes refl is.modes) s7 in
    let l5 : List Line = line.levels c.floor c.capacity c.start c.least_end ∷ l6 in
    let s5 : Stand p5 l5 q = stand_cons p5 p6 q (line.levels c.floor c.capacity c.start c.least_end) l6 (levels_stand p5 c.floor c.capacity c.start c.least_end refl is.levels) s6 in
    let l4 : List Line = line.intervals c.intervals ∷ l5 in
    let s4 : Stand p4 l4 q = stand_cons p4 p5 q (line.intervals c.intervals) l5 (intervals_stand p4 c.intervals refl is.intervals) s5 in
    let l3 : List Line = line.minutes c.minutes ∷ l4 in
    let s3 : Stand p3 l3 q = stand_cons p3 p4 q (line.minutes c.minutes) l4 (minutes_stand p3 c.minutes refl is.minutes) s4 in
    let l2 : List Line = line.month c.year c.month ∷ l3 in
    let s2 : Stand p2 l2 q = stand_cons p2 p3 q (line.month c.year c.month) l3 (month_stands p2 c.year c.month refl is.year is.month) s3 in
    let l1 : List Line = line.label c.label ∷ l2 in
    let s1 : Stand p1 l1 q = stand_cons p1 p2 q (line.label c.label) l2 (label_stands p1 c.label refl is.label) s2 in
    stand_cons p0 p1 q line.version l1 (version_stands p0 refl) s1

-- the place at the end
unfoldable pub end_place : Certificate → Place
end_place c = record (head_place c) { stage = stage.Done; bill = bill_of (pos 0) c.found; owed = 0; need = nodes_of c.tree; leaves = leaves_of c.tree }

finish_stands : (base : Place) (n v : ℕ) → after (spot base stage.Tree 0 n v) line.finish ≡ stands (spot base stage.Done 0 n v)
unfolding after after_at at_tree
finish_stands base n v = refl

pub lines_stand : (c : Certificate) → IsInRange c → Stand first (certificate_lines c) (end_place c)
unfolding certificate_lines end_place head_place days_of levels_of
lines_stand c is =
    let base : Place = record (head_place c) { stage = stage.Tree; bill = bill_of (pos 0) c.found } in
    let some : 1 ≤ days_in_month (pos c.year) c.month = omega (arith, (days_in_month_bounds (pos c.year) c.month).1) in
    let last : Stand (spot base stage.Tree 0 (nodes_of c.tree) (leaves_of c.tree)) (line.finish ∷ []) (end_place c) =
    stand_cons (spot base stage.Tree 0 (nodes_of c.tree) (leaves_of c.tree)) (end_place c) (end_place c) line.finish [] (finish_stands base (nodes_of c.tree) (leaves_of c.tree)) (Stand-nil (end_place c)) in
    let tree : Stand (spot base stage.Tree (0 + 1) 1 0) (tree_lines c.tree ++ line.finish ∷ []) (end_place c) =
    tree_stands c.tree base 0 1 (nodes_of c.tree) 0 (leaves_of c.tree) (line.finish ∷ []) (end_place c) is.tree (omega arith) (omega (arith, is.nodes)) (omega arith) is.leaves last in
    let found : Stand (head_place c) (found_lines c.found ++ (tree_lines c.tree ++ line.finish ∷ [])) (end_place c) =
    found_stands c.found (head_place c) (tree_lines c.tree ++ line.finish ∷ []) (end_place c) some is.found tree in
    Stand-append (head_lines c) (found_lines c.found ++ (tree_lines c.tree ++ line.finish ∷ [])) first (head_place c) (end_place c) (head_stands c is) found

pub made : (c : Certificate) → IsInRange c → FaultOf (certificate_text c) None
unfolding certificate_text Faulty end_place
made c is = record {
  lines = certificate_lines c;
  place = end_place c;
  rest = [];
  divides = record { parts = sym (append-nil (text_of (certificate_lines c))); stand = lines_stand c is };
  faulty = (refl, refl);
}
