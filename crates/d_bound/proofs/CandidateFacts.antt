-- A group's highest demand in a feasible schedule is a power that a mode draws in one of the group's intervals.
use Rattle.std.proofs.Common.{◌≡◌, ◌⊎◌, inl, inr, ℕ, zero, suc, ℤ, pos, negsuc, ◌*◌, ◌^◌, ◌<◌, ◌+ℤ◌, ◌*ℤ◌, ◌≤ℤ◌, List, length, Option, Some, None, refl, sym, ap, ◌∙◌, subst, arith, slice_get, slice_index, Bool, true, false, if◌then◌else◌}
use Rattle.std.specs.Prelude.{int_div}
use Rattle.std.proofs.lemmas.Int.{ints, clamps}
use Rattle.d_num.specs.Amount.{IsWithin, IsUpTo, IsWatt}
use Rattle.d_num.specs.Sums.{greatest_of_first}
use Rattle.d_batt.specs.declared.mode.Mode.{Mode}
use Rattle.d_bill.specs.declared.arc.Arc.{Arc}
use Rattle.d_bill.specs.Inputs.{Inputs, IsInRange, is_in_group}
use Rattle.d_bill.specs.Flows.{net_at, import_of, flow_of, flow_at, grid_of, power_of, arc_of, arc_of_flow}
use Rattle.d_bill.specs.Totals.{peak_to}
use Rattle.d_bill.specs.Schedules.{IsFeasible}
use Rattle.d_bill.proofs.RuleFacts.{arc_permitted, arc_there}
use Rattle.d_bill.proofs.SizeFacts.{power_small}
use Rattle.d_bill.proofs.WalkFacts.{grid_small}
use Rattle.d_bound.specs.PlanWays.{power_at}
use Rattle.d_bound.specs.Roots.{IsCandidate}
use Rattle.d_bound.proofs.SumFacts.{last_or, greatest_above, IsTerm, greatest_reached}

-- no power is below 0
pub power_low : (minutes : ℕ) (flow : ℤ) → pos 0 ≤ℤ power_of minutes flow
power_low minutes flow = by_import (import_of flow) (import_low flow)
  where
    import_low : (flow : ℤ) → pos 0 ≤ℤ import_of flow
    import_low flow = omega (arith, ints, clamps)

    by_import : (import : ℤ) → pos 0 ≤ℤ import → pos 0 ≤ℤ int_div (import *ℤ pos 60) (pos minutes)
    by_import (pos n) low = omega (arith, ints)
    by_import (negsuc n) low = absurd (omega (arith, ints))

-- a candidate is a power from 0 to 8 * 10^9 W
pub candidate_small : (i : Inputs) (group : ℕ) (power : ℤ) → IsInRange i → IsCandidate i group power → IsUpTo (8 * 10 ^ 9) power
candidate_small i group power fine candidate = by_mode (slice_get i.storage.modes candidate.mode) refl
  where
    by_mode : (found : Option Mode) → slice_get i.storage.modes candidate.mode ≡ found → IsUpTo (8 * 10 ^ 9) power
    by_mode None none = let there = candidate.there in let nothing : arc_of i candidate.interval candidate.mode ≡ None = rw none refl in absurd (cc)
    by_mode (Some mode) e =
        let arc = (arc_permitted i candidate.interval candidate.mode mode candidate.arc e candidate.there).1 in
        let flow = net_at i candidate.interval +ℤ grid_of i candidate.mode in
        let is : power ≡ power_of i.minutes flow = candidate.drawn ∙ ap (λ (a : Arc). a.power) arc in
        let small : IsWithin (2 * 10 ^ 9) flow = any_flow i candidate.interval candidate.mode fine candidate.inside in
        rw is (power_low i.minutes flow, power_small i.minutes flow fine.minutes small)
      where
        any_flow : (i : Inputs) (t number : ℕ) → IsInRange i → t < length i.net → IsWithin (2 * 10 ^ 9) (net_at i t +ℤ grid_of i number)
        any_flow i t number fine inside =
            let net = fine.net t (pos 0) inside in
            let grid = grid_small i number fine in
            (omega (arith, ints, net.0, grid.0), omega (arith, ints, net.1, grid.1))

pub candidate_watt : (i : Inputs) (group : ℕ) (power : ℤ) → IsInRange i → IsCandidate i group power → IsWatt power
candidate_watt i group power fine candidate = let small = candidate_small i group power fine candidate in (small.0, omega (arith, ints, small.1))

-- a feasible schedule draws a candidate in each interval of a group
drawn_at : (i : Inputs) (s : List ℕ) (group t : ℕ) → IsFeasible i s → t < length i.net → is_in_group i t group ≡ true → IsCandidate i group (power_at i s t)
drawn_at i s group t feasible inside held =
    let keeps = feasible.keeps t inside in
    let grid : grid_of i (slice_index s t) ≡ keeps.mode.grid = rw keeps.there refl in
    record {
      interval = t;
      inside = inside;
      held = held;
      mode = slice_index s t;
      arc = arc_of_flow i.minutes (flow_of i t keeps.mode);
      there = sym (arc_there i t (slice_index s t) keeps.mode keeps.there keeps.permitted);
      drawn = ap (λ (z : ℤ). power_of i.minutes (net_at i t +ℤ z)) grid;
    }

-- no interval is in the group
abbrev pub IsUndrawn : Inputs → ℕ → Type 0
IsUndrawn i group = (t : ℕ) → t < length i.net → is_in_group i t group ≡ true → ⊥

-- a number below n that passes a test
record Passes (n : ℕ) (test : ℕ → Bool) : Type 0 where
  place : ℕ
  inside : place < n
  passes : test place ≡ true

-- some number passes, or none
some_or_none : (n : ℕ) (test : ℕ → Bool) → Passes n test ⊎ ((k : ℕ) → k < n → test k ≡ true → ⊥)
some_or_none zero test = inr (λ k below passes. absurd (omega arith))
some_or_none (suc n) test = elim (some_or_none n test) [
  | inl found ↦ inl (record { place = found.place; inside = omega (arith, found.inside); passes = found.passes })
  | inr none ↦ by_last none (test n) refl
]
  where
    by_last : ((k : ℕ) → k < n → test k ≡ true → ⊥) → (last : Bool) → test n ≡ last → Passes (suc n) test ⊎ ((k : ℕ) → k < suc n → test k ≡ true → ⊥)
    by_last none true here = inl (record { place = n; inside = omega arith; passes = here })
    by_last none false here = inr (λ k below passes. elim (last_or k n below) [
      | inl same ↦ let there : test n ≡ true = rw same at passes in absurd (cc)
      | inr less ↦ none k less passes
    ])

-- a group's highest demand is a candidate; or it is 0, where no interval is in the group
pub peak_drawn : (i : Inputs) (s : List ℕ) (group : ℕ) → IsFeasible i s
    → IsCandidate i group (peak_to i (flow_at i s) (length i.net) group) ⊎ ((peak_to i (flow_at i s) (length i.net) group ≡ pos 0) × IsUndrawn i group)
peak_drawn i s group feasible = by_held (some_or_none (length i.net) (λ t. is_in_group i t group)) (greatest_reached (length i.net) drawn)
  where
    drawn : ℕ → ℤ
    drawn t = if is_in_group i t group then power_of i.minutes (flow_at i s t) else pos 0

    is_power : (t : ℕ) → is_in_group i t group ≡ true → drawn t ≡ power_at i s t
    is_power t held = rw held refl

    is_none : (t : ℕ) → is_in_group i t group ≡ false → drawn t ≡ pos 0
    is_none t out = rw out refl

    peak : ℤ
    peak = greatest_of_first (length i.net) drawn

    -- some interval is in the group, and the peak is 0
    at_zero : Passes (length i.net) (λ t. is_in_group i t group) → peak ≡ pos 0 → IsCandidate i group peak
    at_zero held none =
        let here = drawn_at i s group held.place feasible held.inside held.passes in
        let above = greatest_above (length i.net) drawn held.place held.inside in
        let same : power_at i s held.place ≡ peak = between (power_at i s held.place) (drawn held.place) peak (is_power held.place held.passes) (power_low i.minutes (flow_at i s held.place)) above none in
        subst (λ (z : ℤ). IsCandidate i group z) same here
      where
        between : (power term peak : ℤ) → term ≡ power → pos 0 ≤ℤ power → term ≤ℤ peak → peak ≡ pos 0 → power ≡ peak
        between power term peak e low high none = omega (arith, ints)

    all_zero : IsUndrawn i group → (peak ≡ pos 0) ⊎ IsTerm (length i.net) drawn peak → peak ≡ pos 0
    all_zero undrawn (inl none) = none
    all_zero undrawn (inr term) = term.is ∙ by_test (is_in_group i term.place group) refl
      where
        by_test : (held : Bool) → is_in_group i term.place group ≡ held → drawn term.place ≡ pos 0
        by_test true held = absurd (undrawn term.place term.inside held)
        by_test false out = is_none term.place out

    by_held : Passes (length i.net) (λ t. is_in_group i t group) ⊎ ((t : ℕ) → t < length i.net → is_in_group i t group ≡ true → ⊥) → (peak ≡ pos 0) ⊎ IsTerm (length i.net) drawn peak
        → IsCandidate i group peak ⊎ ((peak ≡ pos 0) × IsUndrawn i group)
    by_held (inr undrawn) reached = inr (all_zero undrawn reached, undrawn)
    by_held (inl held) (inl none) = inl (at_zero held none)
    by_held (inl held) (inr term) = inl (by_test (is_in_group i term.place group) refl)
      where
        by_test : (test : Bool) → is_in_group i term.place group ≡ test → IsCandidate i group peak
        by_test true here = subst (λ (z : ℤ). IsCandidate i group z) (sym (term.is ∙ is_power term.place here)) (drawn_at i s group term.place feasible term.inside here)
        by_test false out = at_zero held (term.is ∙ is_none term.place out)
