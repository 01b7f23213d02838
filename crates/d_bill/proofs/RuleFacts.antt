-- What it means that a mode keeps the rules.
use Rattle.std.proofs.Common.{subst, ◌≡◌, ℕ, ℤ, pos, ◌+ℤ◌, ◌≤ℤ◌, ◌*◌, ◌^◌, Option, Some, None, true, refl, ap, arith, to_z, of_z, w64}
use Rattle.std.specs.Prelude.{slice_get, int_le, ◌&&◌, if◌then◌else◌}
use Rattle.std.specs.Ordering.{is_gt, int_cmp}
use Rattle.std.proofs.lemmas.Int.{ints}
use Rattle.std.proofs.lemmas.Bool.Decides.{nat_tests}
use Rattle.d_num.specs.Amount.{IsWithin}
use Rattle.d_batt.specs.declared.mode.Mode.{Mode}
use Rattle.d_bill.specs.declared.arc.Arc.{Arc}
use Rattle.d_bill.specs.Inputs.{Inputs}
use Rattle.d_bill.specs.Flows.{IsPermitted, import_of, export_of, flow_of, grid_of, net_at, arc_of, permitted_arc, arc_of_flow}
use Rattle.d_bill.specs.Schedules.{KeepsRules, change_of}

-- what compares as greater isn't at most that
pub is_over : (a limit most : ℤ) → limit ≡ most → true ≡ is_gt (int_cmp a limit) → a ≤ℤ most → ⊥
is_over a limit most is over within = grind (arith, ints, nat_tests)

-- what is within the battery's limits is permitted
pub permitted_some : (i : Inputs) (flow : ℤ) (arc : Arc) → arc ≡ arc_of_flow i.minutes flow → arc.import ≤ℤ i.storage.max_import → arc.export ≤ℤ i.storage.max_export →
    Some arc ≡ permitted_arc i flow
permitted_some i flow arc is import export =
    let in_is : arc.import ≡ import_of flow = ap (λ (a : Arc). a.import) is in
    let out_is : arc.export ≡ export_of flow = ap (λ (a : Arc). a.export) is in
    by_tests (import_of flow) (export_of flow) i.storage.max_import i.storage.max_export arc (arc_of_flow i.minutes flow) is (rw in_is at import) (rw out_is at export)
  where
    by_tests : (import export most_in most_out : ℤ) (arc made : Arc) → arc ≡ made → import ≤ℤ most_in → export ≤ℤ most_out → Some arc ≡ (if int_le import most_in && int_le export most_out then Some made else None)
    by_tests import export most_in most_out arc made e low high = grind (arith, ints, nat_tests)

-- what imports more isn't
pub not_imported : (i : Inputs) (flow : ℤ) (arc : Arc) → arc ≡ arc_of_flow i.minutes flow → (arc.import ≤ℤ i.storage.max_import → ⊥) → ◌≡◌ {A = Option Arc} None (permitted_arc i flow)
not_imported i flow arc is over =
    let in_is : arc.import ≡ import_of flow = ap (λ (a : Arc). a.import) is in
    by_tests (import_of flow) (export_of flow) i.storage.max_import i.storage.max_export (arc_of_flow i.minutes flow) (rw in_is at over)
  where
    by_tests : (import export most_in most_out : ℤ) (made : Arc) → (import ≤ℤ most_in → ⊥) → None ≡ (if int_le import most_in && int_le export most_out then Some made else None)
    by_tests import export most_in most_out made over = grind (arith, ints, nat_tests)

-- nor what exports more
pub not_exported : (i : Inputs) (flow : ℤ) (arc : Arc) → arc ≡ arc_of_flow i.minutes flow → (arc.export ≤ℤ i.storage.max_export → ⊥) → ◌≡◌ {A = Option Arc} None (permitted_arc i flow)
not_exported i flow arc is over =
    let out_is : arc.export ≡ export_of flow = ap (λ (a : Arc). a.export) is in
    by_tests (import_of flow) (export_of flow) i.storage.max_import i.storage.max_export (arc_of_flow i.minutes flow) (rw out_is at over)
  where
    by_tests : (import export most_in most_out : ℤ) (made : Arc) → (export ≤ℤ most_out → ⊥) → None ≡ (if int_le import most_in && int_le export most_out then Some made else None)
    by_tests import export most_in most_out made over = grind (arith, ints, nat_tests)

-- a flow with an arc is within the limits, and the arc is the flow's
pub flow_permitted : (i : Inputs) (flow : ℤ) (arc : Arc) → permitted_arc i flow ≡ Some arc →
    (import_of flow ≤ℤ i.storage.max_import) × ((export_of flow ≤ℤ i.storage.max_export) × (arc ≡ arc_of_flow i.minutes flow))
flow_permitted i flow arc e = by_tests (import_of flow) (export_of flow) i.storage.max_import i.storage.max_export (arc_of_flow i.minutes flow) arc e
  where
    by_tests : (import export most_in most_out : ℤ) (made arc : Arc) → (if int_le import most_in && int_le export most_out then Some made else None) ≡ Some arc →
        (import ≤ℤ most_in) × ((export ≤ℤ most_out) × (arc ≡ made))
    by_tests import export most_in most_out made arc e = grind (arith, ints, nat_tests)

-- the same at a mode that is there
pub arc_permitted : (i : Inputs) (t number : ℕ) (mode : Mode) (arc : Arc) → slice_get i.storage.modes number ≡ Some mode → arc_of i t number ≡ Some arc →
    IsPermitted i t mode × (arc ≡ arc_of_flow i.minutes (net_at i t +ℤ grid_of i number))
arc_permitted i t number mode arc there e =
    let here : permitted_arc i (flow_of i t mode) ≡ Some arc = rw there at e in
    let facts = flow_permitted i (flow_of i t mode) arc here in
    (record { import = facts.0; export = facts.1.0 }, rw there facts.1.1)

-- and a permitted mode that is there has an arc
pub arc_there : (i : Inputs) (t number : ℕ) (mode : Mode) → slice_get i.storage.modes number ≡ Some mode → IsPermitted i t mode →
    Some (arc_of_flow i.minutes (flow_of i t mode)) ≡ arc_of i t number
arc_there i t number mode there permitted = rw there (permitted_some i (flow_of i t mode) (arc_of_flow i.minutes (flow_of i t mode)) refl permitted.import permitted.export)

-- the rules of an interval in a given mode
pub record KeepsWith (i : Inputs) (t : ℕ) (mode : Mode) (level : ℤ) : Type 0 where
  pub permitted : IsPermitted i t mode
  pub low : pos mode.low ≤ℤ level
  pub high : level ≤ℤ pos mode.high
  pub floor : pos i.storage.floor ≤ℤ (level +ℤ mode.change)
  pub capacity : (level +ℤ mode.change) ≤ℤ pos i.storage.capacity

-- the mode of a number that keeps the rules is the one that stands there
pub keeps_with : (i : Inputs) (t number : ℕ) (level : ℤ) (mode : Mode) → slice_get i.storage.modes number ≡ Some mode → KeepsRules i t number level → KeepsWith i t mode level
keeps_with i t number level mode there k =
    let same : k.mode ≡ mode = cc in
    subst (λ (m : Mode). KeepsWith i t m level) same (record { permitted = k.permitted; low = k.low; high = k.high; floor = k.floor; capacity = k.capacity })

-- a mode that keeps them keeps the rules by its number
pub keeps_rules : (i : Inputs) (t number : ℕ) (level : ℤ) (mode : Mode) → slice_get i.storage.modes number ≡ Some mode → KeepsWith i t mode level → KeepsRules i t number level
keeps_rules i t number level mode there k =
    record { mode = mode; there = there; permitted = k.permitted; low = k.low; high = k.high; floor = k.floor; capacity = k.capacity }

-- the change of a mode that is there
pub change_there : (i : Inputs) (number : ℕ) (mode : Mode) → slice_get i.storage.modes number ≡ Some mode → change_of i number ≡ mode.change
change_there i number mode there = rw there refl

-- the sum of two readings, as the processor's 64-bit words hold it, is the sum
pub kept_sum : (a b : ℤ) → IsWithin (10 ^ 9) a → IsWithin (10 ^ 9) b → to_z w64 (of_z w64 (to_z w64 (of_z w64 a) +ℤ to_z w64 (of_z w64 b))) ≡ a +ℤ b
kept_sum a b in_a in_b = omega (arith, ints)

-- and it is at most 2 * 10^9 in size
pub sum_within : (a b : ℤ) → IsWithin (10 ^ 9) a → IsWithin (10 ^ 9) b → IsWithin (2 * 10 ^ 9) (to_z w64 (of_z w64 (to_z w64 (of_z w64 a) +ℤ to_z w64 (of_z w64 b))))
sum_within a b in_a in_b = (omega (arith, ints), omega (arith, ints))
