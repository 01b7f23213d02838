-- The cap of an interval, group by group, and what the modes cost within it.
use Rattle.std.proofs.Common.{◌≡◌, ℕ, ℤ, pos, ◌+◌, ◌*◌, ◌^◌, ◌<◌, ◌≤◌, ◌+ℤ◌, ◌≤ℤ◌, Bool, true, false, not, ◌||◌, ◌&&◌, if◌then◌else◌, List, [], ◌++◌, length, get_or, take, drop, Option, Some, None, slice_get, refl, ap, ◌∙◌, sym, arith, add-one, int_le}
use Rattle.std.specs.Int.{int_min}
use Rattle.std.proofs.Math.Path.{ap₂}
use Rattle.std.proofs.Math.Nat.{suc-mul, mul-le-mul_right}
use Rattle.std.proofs.Math.Seq.{take-add}
use Rattle.std.proofs.lemmas.Nat.{div-mul-add, mod-mul-add, mul-add-lt}
use Rattle.std.proofs.lemmas.Int.{ints, clamps}
use Rattle.std.proofs.lemmas.List.{ext_get_or, get_or-take, get_or-drop, length-take-le, length-drop}
use Rattle.std.proofs.lemmas.Slice.{take-put_mid}
use Rattle.std.proofs.lemmas.Bool.Decides.{nat_tests}
use borrow.Rule.Slice.PartMut.{put_mid}
use Rattle.d_num.specs.declared.pot.Pot.{Pot}
use Rattle.d_num.specs.declared.pot.Pot.TheVariants.{NoWay}
use Rattle.d_batt.specs.declared.mode.Mode.{Mode}
use Rattle.d_box.specs.declared.space.Space.{Space}
use Rattle.d_box.specs.Boxes.{range_at}
use Rattle.d_bill.specs.declared.arc.Arc.{Arc}
use Rattle.d_bill.specs.Inputs.{Inputs, IsInRange, is_in_group}
use Rattle.d_bill.specs.Flows.{net_at, grid_of, power_of, arc_of}
use Rattle.d_bill.specs.Slopes.{rates_of}
use Rattle.d_bill.proofs.RuleFacts.{arc_permitted}
use Rattle.d_bill.proofs.SizeFacts.{power_small}
use Rattle.d_bill.proofs.WalkFacts.{grid_small}
use Rattle.d_bound.specs.PlanWays.{all_powers, priced, mode_cost, mode_costs}
use Rattle.d_bound.specs.Caps.{all_below, is_under, is_capped}
use Rattle.d_bound.specs.Bounders.{IsCapOf, power_in, mode_powers, free_costs, capped_costs}
use Rattle.d_bound.specs.CapSteps.{IsCapTo, CapsInterval, lesser_cap, within_cap}
use Rattle.d_bound.proofs.PlanArcs.{costs_long, costs_read}
use Rattle.d_bound.proofs.PowerFacts.{powers_read}

-- one more test
all_more : (n : ℕ) (test : ℕ → Bool) → all_below (n + 1) test ≡ (all_below n test && test n)
unfolding all_below
all_more n test = rw add-one refl

module _ (i : Inputs) (space : Space) (t : ℕ) where
  -- no group caps a power up to the highest
  pub cap_begins : IsCapTo i space t 0 (pos (10 ^ 13))
  unfolding all_below
  cap_begins power small = within power (pos (10 ^ 13)) small
    where
      within : (x y : ℤ) → x ≤ℤ y → int_le x y ≡ true
      within x y h = grind (arith, ints)

  -- a group that doesn't hold the interval leaves its cap
  pub cap_passes : (n : ℕ) (cap : ℤ) → is_in_group i t n ≡ false → IsCapTo i space t n cap → IsCapTo i space t (n + 1) cap
  cap_passes n cap out so_far power small =
      stays (is_in_group i t n) (int_le power (range_at space.peaks n).high) (all_below n (is_under i space t power)) out (so_far power small)
      ∙ sym (all_more n (is_under i space t power))
    where
      stays : {one : Bool} (held under before : Bool) → held ≡ false → one ≡ before → one ≡ (before && (not held || under))
      stays false under true out e = e
      stays false under false out e = e
      stays true under before out e = absurd (cc)

  -- one that does lowers it to the high end of its range
  pub cap_lowers : (n : ℕ) (cap : ℤ) → is_in_group i t n ≡ true → IsCapTo i space t n cap → IsCapTo i space t (n + 1) (lesser_cap cap (range_at space.peaks n))
  cap_lowers n cap held so_far power small =
      within_both power cap (range_at space.peaks n).high
      ∙ lowers (is_in_group i t n) (int_le power (range_at space.peaks n).high) (all_below n (is_under i space t power)) held (so_far power small)
      ∙ sym (all_more n (is_under i space t power))
    where
      within_both : (x a b : ℤ) → int_le x (int_min a b) ≡ (int_le x a && int_le x b)
      within_both x a b = grind (arith, ints, clamps, nat_tests)

      lowers : {one : Bool} (held under before : Bool) → held ≡ true → one ≡ before → (one && under) ≡ (before && (not held || under))
      lowers true under before held e = ap (λ (b : Bool). b && under) e
      lowers false under before held e = absurd (cc)

-- a cost stands where its power is within the cap
pub cost_stands : (cap power : ℤ) (cost : Pot) → int_le power cap ≡ true → cost ≡ within_cap cap power cost
cost_stands cap power cost within = rw within refl

-- and there is no way where it is above
pub cost_falls : (cap power : ℤ) (cost : Pot) → int_le power cap ≡ false → NoWay ≡ within_cap cap power cost
cost_falls cap power cost above = rw above refl

-- a part that has what the whole has behind the first entries, written behind them
part_joins : (begin count : ℕ) (before part whole : List Pot) → begin ≤ length before → length part ≡ count → take begin before ≡ take begin whole
    → part ≡ take count (drop begin whole) → take (begin + count) (put_mid begin count before part) ≡ take (begin + count) whole
part_joins begin count before part whole within long so_far is =
    take-put_mid begin count before part (begin + count) (omega arith) within ∙ ap₂ ◌++◌ so_far is ∙ sym (take-add begin count whole)

-- the row of an interval ends within a list that has an entry an interval and mode
pub row_within : {t modes rows count long : ℕ} → t < rows → modes ≡ count → long ≡ rows * count → t * modes + modes ≤ long
row_within {t} {modes} {rows} {count} {long} inside same whole = rw (same, whole) (omega (arith, suc-mul t count, mul-le-mul_right count inside))

module _ (i : Inputs) (space : Space) (t : ℕ) where
  -- the power of an arc is at most the highest
  arc_small : (m : ℕ) (arc : Arc) → IsInRange i → t < length i.net → arc_of i t m ≡ Some arc → arc.power ≤ℤ pos (10 ^ 13)
  arc_small m arc fine inside there = by_mode (slice_get i.storage.modes m) refl
    where
      by_mode : (found : Option Mode) → slice_get i.storage.modes m ≡ found → arc.power ≤ℤ pos (10 ^ 13)
      by_mode None none = let nothing : arc_of i t m ≡ None = rw none refl in absurd (cc)
      by_mode (Some mode) e =
          let is : arc.power ≡ power_of i.minutes (net_at i t +ℤ grid_of i m) = ap (λ (a : Arc). a.power) (arc_permitted i t m mode arc e there).1 in
          let net = fine.net t (pos 0) inside in
          let grid = grid_small i m fine in
          let power = power_small i.minutes (net_at i t +ℤ grid_of i m) fine.minutes (omega (arith, ints, net.0, grid.0), omega (arith, ints, net.1, grid.1)) in
          rw is (omega (arith, ints, power))

  -- within the cap of its interval a mode costs what it costs within the caps of the box
  cost_within : (rates : List ℤ) (m : ℕ) (cap : ℤ) → IsInRange i → t < length i.net → IsCapOf i space t cap
      → within_cap cap (power_in (arc_of i t m)) (mode_cost i all_powers rates t m) ≡ mode_cost i (is_capped i space) rates t m
  cost_within rates m cap fine inside is_cap = by_arc (arc_of i t m) refl
    where
      nothing : (b : Bool) → (if b then NoWay else NoWay) ≡ NoWay
      nothing true = refl
      nothing false = refl

      by_arc : (found : Option Arc) → arc_of i t m ≡ found → within_cap cap (power_in found) (priced i all_powers rates t found) ≡ priced i (is_capped i space) rates t found
      by_arc None none = nothing (int_le (pos 0) cap)
      by_arc (Some arc) there = ap (λ (b : Bool). if b then priced i all_powers rates t (Some arc) else NoWay) (is_cap arc.power (arc_small m arc fine inside there))

-- the row of an interval: so many entries from its beginning on, one a mode
module _ (i : Inputs) (t begin count : ℕ) (inside : t < length i.net) (begins : begin ≡ t * length i.storage.modes) (counted : count ≡ length i.storage.modes) where
  -- the cost of a mode
  cost_in_row : (allows : ℕ → ℤ → Bool) (rates : List ℤ) (m : ℕ) → m < count → get_or (take count (drop begin (mode_costs i allows rates))) m NoWay ≡ mode_cost i allows rates t m
  cost_in_row allows rates m below =
      let modes = length i.storage.modes in
      let there : m < modes = omega arith in
      let within = mul-add-lt t modes m (length i.net) inside there in
      get_or-take count (drop begin (mode_costs i allows rates)) m NoWay below ∙ get_or-drop begin (mode_costs i allows rates) m NoWay
      ∙ ap (λ (k : ℕ). get_or (mode_costs i allows rates) (k + m) NoWay) begins ∙ costs_read i allows rates (t * modes + m) NoWay (omega arith)
      ∙ ap₂ (mode_cost i allows rates) (div-mul-add t modes m there) (mod-mul-add t modes m there)

  -- its power
  power_in_row : (m : ℕ) → m < count → get_or (take count (drop begin (mode_powers i))) m (pos 0) ≡ power_in (arc_of i t m)
  power_in_row m below =
      let modes = length i.storage.modes in
      let there : m < modes = omega arith in
      let within = mul-add-lt t modes m (length i.net) inside there in
      get_or-take count (drop begin (mode_powers i)) m (pos 0) below ∙ get_or-drop begin (mode_powers i) m (pos 0)
      ∙ ap (λ (k : ℕ). get_or (mode_powers i) (k + m) (pos 0)) begins ∙ powers_read i (t * modes + m) (pos 0) (omega arith)
      ∙ ap₂ (λ (k n : ℕ). power_in (arc_of i k n)) (div-mul-add t modes m there) (mod-mul-add t modes m there)

  -- how many costs it has
  row_long : (allows : ℕ → ℤ → Bool) (rates : List ℤ) → length (take count (drop begin (mode_costs i allows rates))) ≡ count
  row_long allows rates =
      let within = row_within inside counted (costs_long i allows rates) in
      let here : begin ≡ t * count = begins ∙ ap (λ (k : ℕ). t * k) (sym counted) in
      length-take-le count (drop begin (mode_costs i allows rates)) (omega (arith, length-drop begin (mode_costs i allows rates)))

  -- what its modes cost within the cap of the interval is what they cost within the caps of the box
  row_capped : (space : Space) (cap : ℤ) (costs : List Pot) (powers : List ℤ) (part : List Pot) → IsInRange i → IsCapOf i space t cap → costs ≡ free_costs i → powers ≡ mode_powers i
      → CapsInterval cap (take count (drop begin costs)) (take count (drop begin powers)) part → part ≡ take count (drop begin (capped_costs i space))
  row_capped space cap costs powers part fine is_cap free drawn capped =
      let rates = rates_of i [] in
      let same : length (take count (drop begin costs)) ≡ count = ap (λ (l : List Pot). length (take count (drop begin l))) free ∙ row_long all_powers rates in
      ext_get_or NoWay part (take count (drop begin (capped_costs i space))) (capped.long ∙ same ∙ sym (row_long (is_capped i space) rates))
      (λ m below. let there : m < count = omega (arith, capped.long) in
      capped.each m (omega (arith, capped.long))
      ∙ ap₂ (within_cap cap)
      (ap (λ (l : List ℤ). get_or (take count (drop begin l)) m (pos 0)) drawn ∙ power_in_row m there)
      (ap (λ (l : List Pot). get_or (take count (drop begin l)) m NoWay) free ∙ cost_in_row all_powers rates m there)
      ∙ cost_within i space t rates m cap fine inside is_cap
      ∙ sym (cost_in_row (is_capped i space) rates m there))

  -- with that row written behind the rows so far, there is one more
  pub rows_more : (space : Space) (cap : ℤ) (costs : List Pot) (powers : List ℤ) (before part : List Pot) → IsInRange i → IsCapOf i space t cap → costs ≡ free_costs i → powers ≡ mode_powers i
      → CapsInterval cap (take count (drop begin costs)) (take count (drop begin powers)) part → length before ≡ length i.net * length i.storage.modes
      → take begin before ≡ take begin (capped_costs i space) → take (begin + count) (put_mid begin count before part) ≡ take (begin + count) (capped_costs i space)
  rows_more space cap costs powers before part fine is_cap free drawn capped long so_far =
      let is = row_capped space cap costs powers part fine is_cap free drawn capped in
      let within = row_within inside counted long in
      let here : begin ≡ t * count = begins ∙ ap (λ (k : ℕ). t * k) (sym counted) in
      part_joins begin count before part (capped_costs i space) (omega arith) (ap (λ (l : List Pot). length l) is ∙ row_long (is_capped i space) (rates_of i [])) so_far is
