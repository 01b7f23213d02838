-- Which line of a certificate may stand where. All of it is our own rule.
use Rattle.std.specs.Prelude.{ℕ, zero, suc, ◌+◌, ◌-◌, ◌*◌, ◌==◌, ◌&&◌, ◌||◌, if◌then◌else◌, ℤ, pos, unsigned_abs, int_lt, Bool, nat_le, nat_lt, List, [], ◌∷◌, length, ◌≡◌}
use Rattle.std.specs.List.{list_all}
use Rattle.jiff_core.specs.Calendar.{days_in_month}
use Rattle.d_certline.specs.declared.kind.Kind.{Kind}
use Rattle.d_certline.specs.declared.kind.Kind.TheVariants.{Least, Gap, Nothing}
use Rattle.d_certline.specs.declared.place.Place.{Place}
use Rattle.d_certline.specs.declared.place.Stage.{Stage}
use Rattle.d_certline.specs.declared.place.Stage.TheVariants as stage
use Rattle.d_certline.specs.Lines.{Line, version, label, month, minutes, intervals, levels, modes, groups, tiered, verdict, day, bill, lower, total, peak, leaf, slopes, layer, finish}
use Rattle.d_certline.specs.Ranges.{from_to, is_index, is_number, is_label, is_length, are_levels, is_amount, is_slope, is_potential, is_cut, per_day, width, most_nodes, most_potentials, potentials}

-- what is said of a line where it stands: it may stand there, and this is where the next one stands; or a number of it is out of range; or no
-- line of its form may stand there
pub data Judgement : Type 0 where
  stands : Place → Judgement
  number : Judgement
  form : Judgement

-- a line of the right form, by whether its numbers are in range
unfoldable pub in_range : Bool → Place → Judgement
in_range test next = if test then stands next else number

-- the first line stands here: one tree is owed
unfoldable pub first : Place
first = record { stage = stage.Version; days = 0; minutes = 0; intervals = 0; floor = 0; capacity = 0; modes = 0; groups = 0; tiered = 0; kind = Nothing; bill = pos 0; owed = 1; need = 1; leaves = 0 }

-- the version comes first
unfoldable pub at_version : Place → Line → Judgement
at_version p version = stands (record p { stage = stage.Label })
at_version p l = form

-- a label with other bytes, or of another length, has no form
unfoldable pub at_label : Place → Line → Judgement
at_label p (label text) = if is_label text then stands (record p { stage = stage.Month }) else form
at_label p l = form

-- a year has four digits and a month two, and any other number of digits has no form
unfoldable pub at_month : Place → Line → Judgement
at_month p (month year m) = if nat_le year 9999 && nat_le m 99
    then in_range (nat_le 1 year && (nat_le 1 m && nat_le m 12)) (record p { stage = stage.Minutes; days = days_in_month (pos year) m })
    else form
at_month p l = form

-- the length of an interval
unfoldable pub at_minutes : Place → Line → Judgement
at_minutes p (minutes m) = in_range (is_length m) (record p { stage = stage.Intervals; minutes = unsigned_abs m })
at_minutes p l = form

-- the intervals are those of the month
unfoldable pub at_intervals : Place → Line → Judgement
at_intervals p (intervals n) = in_range (is_number (p.days * per_day p.minutes) n) (record p { stage = stage.Levels; intervals = unsigned_abs n })
at_intervals p l = form

-- the battery's levels
unfoldable pub at_levels : Place → Line → Judgement
at_levels p (levels f c s e) = in_range (are_levels f c s e) (record p { stage = stage.Modes; floor = unsigned_abs f; capacity = unsigned_abs c })
at_levels p l = form

-- the number of modes
unfoldable pub at_modes : Place → Line → Judgement
at_modes p (modes n) = in_range (from_to 1 64 n) (record p { stage = stage.Groups; modes = unsigned_abs n })
at_modes p l = form

-- the number of groups
unfoldable pub at_groups : Place → Line → Judgement
at_groups p (groups n) = in_range (from_to 0 37 n) (record p { stage = stage.Tiered; groups = unsigned_abs n })
at_groups p l = form

-- the number of tiered periods
unfoldable pub at_tiered : Place → Line → Judgement
at_tiered p (tiered n) = in_range (from_to 0 36 n) (record p { stage = stage.Verdict; tiered = unsigned_abs n })
at_tiered p l = form

-- where there is a schedule its days come next
unfoldable pub behind_verdict : Kind → Stage
behind_verdict Least = stage.Day 1
behind_verdict Gap = stage.Day 1
behind_verdict Nothing = stage.Tree

-- what is claimed
unfoldable pub at_verdict : Place → Line → Judgement
at_verdict p (verdict k) = stands (record p { stage = behind_verdict k; kind = k })
at_verdict p l = form

-- the next day, or the bill behind the last one
unfoldable pub behind_day : ℕ → ℕ → Stage
behind_day d days = if nat_lt d days then stage.Day (suc d) else stage.Bill

-- a day is the one whose turn it is, and has one mode an interval
unfoldable pub at_day : ℕ → Place → Line → Judgement
at_day d p (day n ms) = if (n == d) && (length ms == per_day p.minutes)
    then in_range (list_all (is_index p.modes) ms) (record p { stage = behind_day d p.days })
    else form
at_day d p l = form

-- a gap has a bound as well
unfoldable pub behind_bill : Kind → Stage
behind_bill Gap = stage.Lower
behind_bill Least = stage.Tree
behind_bill Nothing = stage.Tree

-- the bill, behind which a gap has its bound
unfoldable pub at_bill : Place → Line → Judgement
at_bill p (bill z) = in_range (is_amount z) (record p { stage = behind_bill p.kind; bill = z })
at_bill p l = form

-- the bound is below the bill
unfoldable pub at_lower : Place → Line → Judgement
at_lower p (lower z) = in_range (is_amount z && int_lt z p.bill) (record p { stage = stage.Tree })
at_lower p l = form

-- a split of one of so many: where a tree is owed, and where the whole tree then hasn't too many nodes
unfoldable pub at_split : ℕ → Place → ℤ → ℤ → Judgement
at_split count p n at = if (p.owed == 0) || nat_lt most_nodes (p.need + 2) then form
    else in_range (is_index count n && is_cut at) (record p { owed = p.owed + 1; need = p.need + 2 })

-- a leaf: where a tree is owed, and where all leaves together then haven't too many potentials
unfoldable pub at_leaf : Place → Judgement
at_leaf p = if (p.owed == 0) || nat_lt most_potentials (potentials (p.leaves + 1) p.intervals (width p.floor p.capacity)) then form
    else stands (record p { stage = stage.Slopes; owed = p.owed - 1; leaves = p.leaves + 1 })

-- a split or a leaf, and the last line where no tree is owed
unfoldable pub at_tree : Place → Line → Judgement
at_tree p (total n at) = at_split p.tiered p n at
at_tree p (peak n at) = at_split p.groups p n at
at_tree p leaf = at_leaf p
at_tree p finish = if p.owed == 0 then stands (record p { stage = stage.Done }) else form
at_tree p l = form

-- one slope for each tiered period
unfoldable pub at_slopes : Place → Line → Judgement
at_slopes p (slopes zs) = if length zs == p.tiered then in_range (list_all is_slope zs) (record p { stage = stage.Layer p.intervals }) else form
at_slopes p l = form

-- the layer before, or the next tree behind the layer of interval 0
unfoldable pub below : ℕ → Stage
below zero = stage.Tree
below (suc t) = stage.Layer t

-- a layer is the one whose turn it is, and has one potential a level
unfoldable pub at_layer : ℕ → Place → Line → Judgement
at_layer t p (layer n ps) = if (n == t) && (length ps == width p.floor p.capacity)
    then in_range (list_all is_potential ps) (record p { stage = below t })
    else form
at_layer t p l = form

-- what is said of a line at a stage
unfoldable pub after_at : Stage → Place → Line → Judgement
after_at stage.Version p l = at_version p l
after_at stage.Label p l = at_label p l
after_at stage.Month p l = at_month p l
after_at stage.Minutes p l = at_minutes p l
after_at stage.Intervals p l = at_intervals p l
after_at stage.Levels p l = at_levels p l
after_at stage.Modes p l = at_modes p l
after_at stage.Groups p l = at_groups p l
after_at stage.Tiered p l = at_tiered p l
after_at stage.Verdict p l = at_verdict p l
after_at (stage.Day d) p l = at_day d p l
after_at stage.Bill p l = at_bill p l
after_at stage.Lower p l = at_lower p l
after_at stage.Tree p l = at_tree p l
after_at stage.Slopes p l = at_slopes p l
after_at (stage.Layer t) p l = at_layer t p l
after_at stage.Done p l = form

-- what is said of a line at a place
unfoldable pub after : Place → Line → Judgement
after p l = after_at p.stage p l

-- from one place on these lines may stand one behind the other, and behind them the next line stands at the other place
unfoldable pub Stand : Place → List Line → Place → Type 0
Stand p [] q = p ≡ q
Stand p (l ∷ ls) q = (m : Place) × (after p l ≡ stands m) × Stand m ls q
