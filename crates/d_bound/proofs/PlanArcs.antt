-- What the ways of a problem are: how many intervals they have, what each mode costs and where it leads.
use Rattle.std.proofs.Common.{◌≡◌, ℕ, ℤ, pos, ◌+◌, ◌*◌, ◌/◌, ◌%◌, ◌^◌, ◌<◌, ◌≤ℤ◌, ◌-ℤ◌, ◌*ℤ◌, List, [], ◌∷◌, ◌++◌, length, map, Option, Some, None, refl, sym, ap, ◌∙◌, subst, arith, get_or, slice_get, option_and_then, Bool, true, false, if◌then◌else◌}
use Rattle.std.specs.List.{range_with_len}
use Rattle.std.specs.Option.{option_map}
use Rattle.std.proofs.Math.Path.{ap₂}
use Rattle.std.proofs.Math.Nat.{mul-div_cancel}
use Rattle.std.proofs.lemmas.Nat.{div-mul-add, mod-mul-add, mul-add-lt}
use Rattle.std.proofs.lemmas.Int.{ints}
use Rattle.std.proofs.lemmas.List.{length-map}
use Rattle.std.proofs.lemmas.List.FromFn.{length-map-range_with_len, get_or-map-range_with_len, map-range_with_len_more}
use Rattle.std.proofs.lemmas.Option.{slice_get-map}
use Rattle.d_num.specs.declared.pot.Pot.{Pot}
use Rattle.d_num.specs.declared.pot.Pot.TheVariants.{To, NoWay}
use Rattle.d_num.specs.Pot.{IsPotWithin}
use Rattle.d_num.specs.Amount.{IsWithin}
use Rattle.d_num.proofs.Products.{product_within}
use Rattle.d_batt.specs.declared.mode.Mode.{Mode}
use Rattle.d_bill.specs.declared.arc.Arc.{Arc}
use Rattle.d_bill.specs.Inputs.{Inputs, period_in, sell_at}
use Rattle.d_bill.specs.Flows.{permitted_arc, flow_of, import_of, export_of}
use Rattle.d_bill.specs.Prices.{rate_of}
use Rattle.d_bill.proofs.RuleFacts.{flow_permitted}
use Rattle.d_path.specs.Arcs.{intervals_of, arc_cost, next_level, level_after, IsSound}
use Rattle.d_bound.specs.Fair.{IsFair}
use Rattle.d_bound.specs.PlanWays.{priced, mode_cost, cost_at, mode_costs, move_of, plan_arcs, AreRates}
use Rattle.d_bound.proofs.RateFacts.{rate_within, sell_within}

module _ (i : Inputs) (allows : ℕ → ℤ → Bool) (rates : List ℤ) where
  -- there is one cost an interval and mode
  pub costs_long : length (mode_costs i allows rates) ≡ length i.net * length i.storage.modes
  unfolding mode_costs
  costs_long = length-map-range_with_len (cost_at i allows rates) 0 (length i.net * length i.storage.modes)

  -- there are as many moves as modes
  pub moves_long : length (map move_of i.storage.modes) ≡ length i.storage.modes
  moves_long = length-map i.storage.modes move_of

  -- the cost at a place
  pub costs_read : (place : ℕ) (d : Pot) → place < length i.net * length i.storage.modes → get_or (mode_costs i allows rates) place d ≡ cost_at i allows rates place
  unfolding mode_costs
  costs_read place d within = get_or-map-range_with_len (cost_at i allows rates) 0 (length i.net * length i.storage.modes) place place d within (omega arith)

  -- one more cost
  pub costs_more : (place modes : ℕ) (costs new : List Pot) (cost : Pot) → modes ≡ length i.storage.modes → costs ≡ map (cost_at i allows rates) (range_with_len 0 place)
      → cost ≡ mode_cost i allows rates (place / modes) (place % modes) → new ≡ costs ++ cost ∷ [] → new ≡ map (cost_at i allows rates) (range_with_len 0 (place + 1))
  costs_more place modes costs new cost count so_far here push =
      let at : cost ≡ cost_at i allows rates place = here ∙ ap (λ (k : ℕ). mode_cost i allows rates (place / k) (place % k)) count in
      push ∙ ap₂ (λ (list : List Pot) (last : Pot). list ++ last ∷ []) so_far at ∙ sym (map-range_with_len_more (cost_at i allows rates) 0 place place (omega arith))

  -- all costs
  pub costs_all : (place : ℕ) → place ≡ length i.net * length i.storage.modes → map (cost_at i allows rates) (range_with_len 0 place) ≡ mode_costs i allows rates
  unfolding mode_costs
  costs_all place whole = ap (λ (n : ℕ). map (cost_at i allows rates) (range_with_len 0 n)) whole

  -- the ways have the month's intervals
  pub intervals_is : IsFair i → intervals_of (plan_arcs i allows rates) ≡ length i.net
  intervals_is fine =
      let some : 0 < length i.storage.modes = omega (arith, fine.storage.some_mode) in
      ap₂ ◌/◌ costs_long moves_long ∙ mul-div_cancel (length i.net) some

  -- what the mode of a number costs in an interval
  pub arc_cost_is : (t m : ℕ) → t < length i.net → m < length i.storage.modes → arc_cost (plan_arcs i allows rates) t m ≡ mode_cost i allows rates t m
  arc_cost_is t m inside there =
      let place : t * length (map move_of i.storage.modes) + m ≡ t * length i.storage.modes + m = ap (λ (k : ℕ). t * k + m) moves_long in
      let within = mul-add-lt t (length i.storage.modes) m (length i.net) inside there in
      ap (λ (j : ℕ). get_or (mode_costs i allows rates) j NoWay) place
      ∙ costs_read (t * length i.storage.modes + m) NoWay (omega arith)
      ∙ ap₂ (mode_cost i allows rates) (div-mul-add t (length i.storage.modes) m there) (mod-mul-add t (length i.storage.modes) m there)

  -- where the mode of a number leads
  pub level_after_is : (level m : ℕ) (mode : Mode) → slice_get i.storage.modes m ≡ Some mode
      → level_after (plan_arcs i allows rates) level m ≡ next_level (plan_arcs i allows rates) level (move_of mode)
  level_after_is level m mode there =
      ap (option_and_then (next_level (plan_arcs i allows rates) level)) (slice_get-map move_of i.storage.modes m ∙ ap (option_map move_of) there)

  -- where there is no mode of a number it leads nowhere
  pub level_after_none : (level m : ℕ) → slice_get i.storage.modes m ≡ None → level_after (plan_arcs i allows rates) level m ≡ None
  level_after_none level m none =
      ap (option_and_then (next_level (plan_arcs i allows rates) level)) (slice_get-map move_of i.storage.modes m ∙ ap (option_map move_of) none)

  -- import and export are at most the battery's limits, so a cost is at most 10^32 in size
  pub mode_cost_within : (t m : ℕ) → IsFair i → AreRates rates → IsPotWithin (10 ^ 32) (mode_cost i allows rates t m)
  mode_cost_within t m fine fair = by_mode (slice_get i.storage.modes m) refl
    where
      small : (amount most : ℤ) → pos 0 ≤ℤ amount → amount ≤ℤ most → most ≤ℤ pos (10 ^ 10) → IsWithin (10 ^ 10) amount
      small amount most low high limit = (omega (arith, ints), omega (arith, ints))

      low_import : (flow : ℤ) → pos 0 ≤ℤ import_of flow
      low_import flow = grind (arith, ints)

      low_export : (flow : ℤ) → pos 0 ≤ℤ export_of flow
      low_export flow = grind (arith, ints)

      difference : (bought sold : ℤ) → IsWithin (3 * 10 ^ 21 * 10 ^ 10) bought → IsWithin (3 * 10 ^ 21 * 10 ^ 10) sold → IsWithin (10 ^ 32) (bought -ℤ sold)
      difference bought sold a b = (omega (arith, ints, a.0, a.1, b.0, b.1), omega (arith, ints, a.0, a.1, b.0, b.1))

      where_allowed : (b : Bool) (cost : ℤ) → IsWithin (10 ^ 32) cost → IsPotWithin (10 ^ 32) (if b then To cost else NoWay)
      where_allowed true cost small = small
      where_allowed false cost small = tt

      by_arc : (flow : ℤ) (found : Option Arc) → permitted_arc i flow ≡ found → IsPotWithin (10 ^ 32) (priced i allows rates t found)
      by_arc flow None e = tt
      by_arc flow (Some arc) e =
          let facts = flow_permitted i flow arc e in
          let import : IsWithin (10 ^ 10) arc.import = rw facts.1.1 (small (import_of flow) i.storage.max_import (low_import flow) facts.0 fine.storage.max_import.1) in
          let export : IsWithin (10 ^ 10) arc.export = rw facts.1.1 (small (export_of flow) i.storage.max_export (low_export flow) facts.1.0 fine.storage.max_export.1) in
          where_allowed (allows t arc.power) (rate_of rates (period_in i t) *ℤ arc.import -ℤ sell_at i t *ℤ arc.export)
          (difference (rate_of rates (period_in i t) *ℤ arc.import) (sell_at i t *ℤ arc.export)
          (product_within (3 * 10 ^ 21) (10 ^ 10) (rate_of rates (period_in i t)) arc.import (rate_within rates (period_in i t) fair) import)
          (product_within (3 * 10 ^ 21) (10 ^ 10) (sell_at i t) arc.export (sell_within i (period_in i t) fine) export))

      by_mode : (found : Option Mode) → slice_get i.storage.modes m ≡ found → IsPotWithin (10 ^ 32) (mode_cost i allows rates t m)
      by_mode None e = rw e tt
      by_mode (Some mode) e = rw e (by_arc (flow_of i t mode) (permitted_arc i (flow_of i t mode)) refl)

  -- the ways are within the limits
  pub plan_sound : IsFair i → AreRates rates → IsSound (plan_arcs i allows rates)
  plan_sound fine fair = record {
    some_move = omega (arith, moves_long, fine.storage.some_mode);
    few_moves = omega (arith, moves_long, fine.storage.few_modes);
    few_intervals = omega (arith, intervals_is fine, fine.few_intervals);
    all_costs = costs_long ∙ ap₂ ◌*◌ (sym (intervals_is fine)) (sym moves_long);
    costs_within = λ k d within.
        let inside : k < length i.net * length i.storage.modes = omega (arith, costs_long) in
        subst (λ (p : Pot). IsPotWithin (10 ^ 32) p) (sym (costs_read k d inside)) (mode_cost_within (k / length i.storage.modes) (k % length i.storage.modes) fine fair);
    start_in = (fine.storage.floor, fine.storage.start);
    end_in = fine.storage.end;
  }
