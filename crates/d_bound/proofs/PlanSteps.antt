-- A step of a way is an interval in which every rule is kept.
use Rattle.std.proofs.Common.{◌≡◌, ◌≢◌, ℕ, ℤ, pos, ◌<◌, ◌+ℤ◌, ◌-ℤ◌, ◌*ℤ◌, ◌≤ℤ◌, Bool, true, false, List, Option, Some, None, refl, sym, ap, ◌∙◌, arith, length, slice_get, if◌then◌else◌, nat_le, int_le, nat_abs, ◌&&◌}
use Rattle.std.proofs.lemmas.Int.{ints}
use Rattle.std.proofs.lemmas.Bool.Decides.{nat_tests}
use Rattle.std.proofs.lemmas.Option.{slice_get_within}
use Rattle.d_num.specs.declared.pot.Pot.TheVariants.{To, NoWay}
use Rattle.d_bill.specs.declared.arc.Arc.{Arc}
use Rattle.d_batt.specs.declared.mode.Mode.{Mode}
use Rattle.d_bill.specs.Inputs.{Inputs, period_in, sell_at}
use Rattle.d_bill.specs.Flows.{IsPermitted, arc_of, net_at, grid_of, flow_of, power_of}
use Rattle.d_bill.specs.Schedules.{KeepsRules, change_of}
use Rattle.d_bill.specs.Prices.{step_cost, rate_of}
use Rattle.d_bill.proofs.RuleFacts.{arc_permitted, arc_there, change_there}
use Rattle.d_path.specs.Arcs.{level_after}
use Rattle.d_bound.specs.PlanWays.{priced, mode_cost, plan_arcs}
use Rattle.d_bound.proofs.PlanArcs.{level_after_is, level_after_none}

-- the mode of this number leads from this level to that one, which is its change higher, and costs what its flow costs
pub record Steps (i : Inputs) (allows : ℕ → ℤ → Bool) (rates : List ℤ) (t m level after : ℕ) : Type 0 where
  pub leads : level_after (plan_arcs i allows rates) level m ≡ Some after
  pub higher : pos after ≡ pos level +ℤ change_of i m
  pub costs : mode_cost i allows rates t m ≡ To (step_cost i rates t (net_at i t +ℤ grid_of i m))

-- what a mode that is there adds to a reading
grid_there : (i : Inputs) (number : ℕ) (mode : Mode) → slice_get i.storage.modes number ≡ Some mode → grid_of i number ≡ mode.grid
grid_there i number mode there = rw there refl

-- a level that is a natural number
level_there : (z : ℤ) → pos 0 ≤ℤ z → (n : ℕ) × (pos n ≡ z)
level_there (pos n) h = (n, refl)
level_there z h = absurd (omega (arith, ints))

-- the level after a change, where it may be begun and the battery has it
abbrev changed : ℕ → ℕ → ℕ → ℕ → ℕ → ℤ → Option ℕ
changed floor capacity level low high change =
    let after = pos level +ℤ change in
    if (nat_le low level && nat_le level high) && (int_le (pos floor) after && int_le after (pos capacity)) then Some (nat_abs after) else None

-- levels that are kept lead on
changed_some : (floor capacity level after low high : ℕ) (change : ℤ) → pos low ≤ℤ pos level → pos level ≤ℤ pos high →
    pos floor ≤ℤ (pos level +ℤ change) → (pos level +ℤ change) ≤ℤ pos capacity → pos after ≡ pos level +ℤ change →
    changed floor capacity level low high change ≡ Some after
changed_some floor capacity level after low high change above below least most e = grind (arith, ints, nat_tests)

-- and what leads on keeps them
some_changed : (floor capacity level after low high : ℕ) (change : ℤ) → changed floor capacity level low high change ≡ Some after →
    (pos low ≤ℤ pos level) × (pos level ≤ℤ pos high) × (pos floor ≤ℤ (pos level +ℤ change)) × ((pos level +ℤ change) ≤ℤ pos capacity) × (pos after ≡ pos level +ℤ change)
some_changed floor capacity level after low high change e = grind (arith, ints, nat_tests)

-- what is allowed costs what it does
allowed_cost : (b : Bool) (cost : ℤ) → b ≡ true → (if b then To cost else NoWay) ≡ To cost
allowed_cost b cost e = rw e refl

-- and what costs anything is allowed
cost_allowed : (b : Bool) (cost : ℤ) → (if b then To cost else NoWay) ≢ NoWay → b ≡ true
cost_allowed true cost there = refl
cost_allowed false cost there = absurd (there refl)

-- an interval in which every rule is kept is a step
pub step_of : (i : Inputs) (allows : ℕ → ℤ → Bool) (rates : List ℤ) (t m level : ℕ) → KeepsRules i t m (pos level) → allows t (power_of i.minutes (net_at i t +ℤ grid_of i m)) ≡ true
    → (after : ℕ) × Steps i allows rates t m level after
step_of i allows rates t m level keeps allowed =
    let mode = keeps.mode in
    let moved = change_there i m mode keeps.there in
    let low : pos 0 ≤ℤ (pos level +ℤ mode.change) = let least = keeps.floor in omega (arith, ints) in
    let after = level_there (pos level +ℤ mode.change) low in (
      after.0,
      record {
        leads = level_after_is i allows rates level m mode keeps.there ∙ changed_some i.storage.floor i.storage.capacity level after.0 mode.low mode.high mode.change keeps.low keeps.high keeps.floor keeps.capacity after.1;
        higher = after.1 ∙ ap (λ (z : ℤ). pos level +ℤ z) (sym moved);
        costs = ap (priced i allows rates t) (sym (arc_there i t m mode keeps.there keeps.permitted))
            ∙ allowed_cost (allows t (power_of i.minutes (flow_of i t mode))) (step_cost i rates t (flow_of i t mode))
            (ap (λ (z : ℤ). allows t (power_of i.minutes (net_at i t +ℤ z))) (sym (grid_there i m mode keeps.there)) ∙ allowed)
            ∙ ap (λ (z : ℤ). To (step_cost i rates t (net_at i t +ℤ z))) (sym (grid_there i m mode keeps.there));
      },
    )

-- in interval t every rule is kept from this level to that one, and the power may be drawn
pub record IsKept (i : Inputs) (allows : ℕ → ℤ → Bool) (t m level after : ℕ) : Type 0 where
  pub rules : KeepsRules i t m (pos level)
  pub higher : pos after ≡ pos level +ℤ change_of i m
  pub allowed : allows t (power_of i.minutes (net_at i t +ℤ grid_of i m)) ≡ true

-- and a step is one in which every rule is kept
pub keeps_of : (i : Inputs) (allows : ℕ → ℤ → Bool) (rates : List ℤ) (t m level after : ℕ) → level_after (plan_arcs i allows rates) level m ≡ Some after → mode_cost i allows rates t m ≢ NoWay → IsKept i allows t m level after
keeps_of i allows rates t m level after leads costs = by_mode (slice_get i.storage.modes m) refl
  where
    by_arc : (mode : Mode) → slice_get i.storage.modes m ≡ Some mode → (found : Option Arc) → arc_of i t m ≡ found
        → IsPermitted i t mode × (allows t (power_of i.minutes (net_at i t +ℤ grid_of i m)) ≡ true)
    by_arc mode there None e = absurd (costs (ap (priced i allows rates t) e))
    by_arc mode there (Some arc) e =
        let facts = arc_permitted i t m mode arc there e in
        let some : (if allows t arc.power then To (rate_of rates (period_in i t) *ℤ arc.import -ℤ sell_at i t *ℤ arc.export) else NoWay) ≢ NoWay = λ none. costs (ap (priced i allows rates t) e ∙ none) in
        (facts.0, ap (allows t) (sym (ap (λ (a : Arc). a.power) facts.1)) ∙ cost_allowed (allows t arc.power) (rate_of rates (period_in i t) *ℤ arc.import -ℤ sell_at i t *ℤ arc.export) some)

    by_mode : (found : Option Mode) → slice_get i.storage.modes m ≡ found → IsKept i allows t m level after
    by_mode None none = let nowhere = level_after_none i allows rates level m none in absurd (cc)
    by_mode (Some mode) there =
        let moved = change_there i m mode there in
        let facts = some_changed i.storage.floor i.storage.capacity level after mode.low mode.high mode.change (sym (level_after_is i allows rates level m mode there) ∙ leads) in
        let arc = by_arc mode there (arc_of i t m) refl in
        record {
          rules = record { mode = mode; there = there; permitted = arc.0; low = facts.0; high = facts.1; floor = facts.2; capacity = facts.3 };
          higher = facts.4 ∙ ap (λ (z : ℤ). pos level +ℤ z) (sym moved);
          allowed = arc.1;
        }

-- what leads on is the number of a mode
pub mode_within : (i : Inputs) (allows : ℕ → ℤ → Bool) (rates : List ℤ) (m level after : ℕ) → level_after (plan_arcs i allows rates) level m ≡ Some after → m < length i.storage.modes
mode_within i allows rates m level after leads = by_mode (slice_get i.storage.modes m) refl
  where
    by_mode : (found : Option Mode) → slice_get i.storage.modes m ≡ found → m < length i.storage.modes
    by_mode None none = let nowhere = level_after_none i allows rates level m none in absurd (cc)
    by_mode (Some mode) there = slice_get_within i.storage.modes m mode there
