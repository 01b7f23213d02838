-- Certificates as plain values, and their texts. The form is our own rule.
use Rattle.std.specs.Prelude.{◌≡◌, ℕ, suc, ◌+◌, ◌*◌, ◌≤◌, ℤ, int_lt, ◌&&◌, nat_le, unsigned_abs, List, [], ◌∷◌, ◌++◌, length, true, ⊤}
use Rattle.std.specs.List.{list_all, All}
use Rattle.jiff_core.specs.Calendar.{days_in_month}
use Rattle.std.specs.Prelude.{pos}
use Rattle.d_num.specs.declared.pot.Pot.{Pot}
use Rattle.d_certline.specs.declared.kind.Kind.{Kind}
use Rattle.d_certline.specs.declared.kind.Kind.TheVariants.{Least, Gap, Nothing}
use Rattle.d_certline.specs.Lines.{Line, text_of}
use Rattle.d_certline.specs.Lines as line
use Rattle.d_certline.specs.Ranges.{from_to, is_index, is_number, is_label, is_length, are_levels, is_amount, is_slope, is_potential, is_cut, per_day, width, most_nodes, most_potentials, potentials}

-- a tree: a leaf with its slopes and its layers, that of the month's end first and that of interval 0 last; or a split of the total of a tiered
-- period or of the peak of a group, with the trees of both halves
pub data Tree : Type 0 where
  leaf_of : List ℤ → List (List Pot) → Tree
  total_at : ℤ → ℤ → Tree → Tree → Tree
  peak_at : ℤ → ℤ → Tree → Tree → Tree

-- what was found: the modes of each day and the bill, beside it a bound where it isn't least; or that no schedule is feasible
pub data Found : Type 0 where
  least : List (List ℤ) → ℤ → Found
  gap : List (List ℤ) → ℤ → ℤ → Found
  nothing : Found

-- a certificate
pub record Certificate : Type 0 where
  -- the record's label
  pub label : List ℕ
  -- the month
  pub year : ℕ
  pub month : ℕ
  -- the length of an interval in minutes, and how many the month has
  pub minutes : ℤ
  pub intervals : ℤ
  -- the battery's levels, in steps
  pub floor : ℤ
  pub capacity : ℤ
  pub start : ℤ
  pub least_end : ℤ
  -- how many modes the battery has, and how many groups and tiered periods the month has
  pub modes : ℤ
  pub groups : ℤ
  pub tiered : ℤ
  pub found : Found
  pub tree : Tree

-- the claim of what was found
unfoldable pub kind_of : Found → Kind
kind_of (least days bill) = Least
kind_of (gap days bill bound) = Gap
kind_of nothing = Nothing

-- the lines of days, the first of which has this number
unfoldable pub day_lines : ℕ → List (List ℤ) → List Line
day_lines d [] = []
day_lines d (numbers ∷ rest) = line.day d numbers ∷ day_lines (suc d) rest

-- the lines of what was found
unfoldable pub found_lines : Found → List Line
found_lines (least days bill) = day_lines 1 days ++ line.bill bill ∷ []
found_lines (gap days bill bound) = day_lines 1 days ++ line.bill bill ∷ line.lower bound ∷ []
found_lines nothing = []

-- the lines of layers, each of which has as its number how many come behind it
unfoldable pub layer_lines : List (List Pot) → List Line
layer_lines [] = []
layer_lines (pots ∷ rest) = line.layer (length rest) pots ∷ layer_lines rest

-- the lines of a tree: a split, the left tree, the right tree
unfoldable pub tree_lines : Tree → List Line
tree_lines (leaf_of rates layers) = line.leaf ∷ line.slopes rates ∷ layer_lines layers
tree_lines (total_at n at left right) = line.total n at ∷ (tree_lines left ++ tree_lines right)
tree_lines (peak_at n at left right) = line.peak n at ∷ (tree_lines left ++ tree_lines right)

-- the lines in front of what was found
unfoldable pub head_lines : Certificate → List Line
head_lines c = line.version ∷ line.label c.label ∷ line.month c.year c.month ∷ line.minutes c.minutes ∷ line.intervals c.intervals
    ∷ line.levels c.floor c.capacity c.start c.least_end ∷ line.modes c.modes ∷ line.groups c.groups ∷ line.tiered c.tiered
    ∷ line.verdict (kind_of c.found) ∷ []

-- the lines of a certificate
unfoldable pub certificate_lines : Certificate → List Line
certificate_lines c = head_lines c ++ (found_lines c.found ++ (tree_lines c.tree ++ line.finish ∷ []))

-- the text of a certificate
unfoldable pub certificate_text : Certificate → List ℕ
certificate_text c = text_of (certificate_lines c)

-- how many nodes a tree has
unfoldable pub nodes_of : Tree → ℕ
nodes_of (leaf_of rates layers) = 1
nodes_of (total_at n at left right) = nodes_of left + nodes_of right + 1
nodes_of (peak_at n at left right) = nodes_of left + nodes_of right + 1

-- how many leaves a tree has
unfoldable pub leaves_of : Tree → ℕ
leaves_of (leaf_of rates layers) = 1
leaves_of (total_at n at left right) = leaves_of left + leaves_of right
leaves_of (peak_at n at left right) = leaves_of left + leaves_of right

-- a layer has one potential a level, each in range
pub record IsLayer (levels : ℕ) (pots : List Pot) : Type 0 where
  pub count : length pots ≡ levels
  pub ranged : list_all is_potential pots ≡ true

-- a leaf has one slope a tiered period and a layer for each interval and for the month's end
pub record IsLeaf (tiered intervals levels : ℕ) (rates : List ℤ) (layers : List (List Pot)) : Type 0 where
  pub slopes : length rates ≡ tiered
  pub ranged : list_all is_slope rates ≡ true
  pub count : length layers ≡ intervals + 1
  pub layers_are : All (IsLayer levels) layers

-- each split of a tree names a tiered period or a group that is there, and a place in range; each leaf is one
unfoldable pub IsTree : ℕ → ℕ → ℕ → ℕ → Tree → Type 0
IsTree tiered groups intervals levels (leaf_of rates layers) = IsLeaf tiered intervals levels rates layers
IsTree tiered groups intervals levels (total_at n at left right) =
    ((is_index tiered n && is_cut at) ≡ true) × IsTree tiered groups intervals levels left × IsTree tiered groups intervals levels right
IsTree tiered groups intervals levels (peak_at n at left right) =
    ((is_index groups n && is_cut at) ≡ true) × IsTree tiered groups intervals levels left × IsTree tiered groups intervals levels right

-- a day has one mode an interval, each of which is there
pub record IsDay (intervals modes : ℕ) (numbers : List ℤ) : Type 0 where
  pub count : length numbers ≡ intervals
  pub ranged : list_all (is_index modes) numbers ≡ true

-- a schedule has all days of the month
pub record IsPlan (count intervals modes : ℕ) (days : List (List ℤ)) : Type 0 where
  pub all : length days ≡ count
  pub each : All (IsDay intervals modes) days

-- what was found has a schedule of the month and amounts in range, and a bound is below its bill
unfoldable pub IsFound : ℕ → ℕ → ℕ → Found → Type 0
IsFound count intervals modes (least days bill) = IsPlan count intervals modes days × (is_amount bill ≡ true)
IsFound count intervals modes (gap days bill bound) =
    IsPlan count intervals modes days × (is_amount bill ≡ true) × ((is_amount bound && int_lt bound bill) ≡ true)
IsFound count intervals modes nothing = ⊤

-- how many days the certificate's month has
unfoldable pub days_of : Certificate → ℕ
days_of c = days_in_month (pos c.year) c.month

-- how many levels its battery has
unfoldable pub levels_of : Certificate → ℕ
levels_of c = width (unsigned_abs c.floor) (unsigned_abs c.capacity)

-- all numbers of a certificate are in range, and its tree keeps its limits
pub record IsInRange (c : Certificate) : Type 0 where
  pub label : is_label c.label ≡ true
  pub year : (nat_le 1 c.year && nat_le c.year 9999) ≡ true
  pub month : (nat_le 1 c.month && nat_le c.month 12) ≡ true
  pub minutes : is_length c.minutes ≡ true
  pub intervals : is_number (days_of c * per_day (unsigned_abs c.minutes)) c.intervals ≡ true
  pub levels : are_levels c.floor c.capacity c.start c.least_end ≡ true
  pub modes : from_to 1 64 c.modes ≡ true
  pub groups : from_to 0 37 c.groups ≡ true
  pub tiered : from_to 0 36 c.tiered ≡ true
  pub found : IsFound (days_of c) (per_day (unsigned_abs c.minutes)) (unsigned_abs c.modes) c.found
  pub tree : IsTree (unsigned_abs c.tiered) (unsigned_abs c.groups) (unsigned_abs c.intervals) (levels_of c) c.tree
  pub nodes : nodes_of c.tree ≤ most_nodes
  pub leaves : potentials (leaves_of c.tree) (unsigned_abs c.intervals) (levels_of c) ≤ most_potentials
