-- Different parts, tiers and periods have different places.
use Rattle.std.proofs.Common.{◌≡◌, ◌∙◌, ◌<◌, ◌≤◌, ◌+◌, ◌*◌, ◌==◌, ℕ, if◌then◌else◌, arith, refl, sym, ap}
use Rattle.d_columns.specs.declared.names.Structure.{Structure}
use Rattle.d_columns.specs.declared.names.Structure.TheVariants.{Energy, Demand, FlatDemand, Coincident}
use Rattle.d_columns.specs.declared.names.Part.{Part}
use Rattle.d_columns.specs.declared.names.Part.TheVariants.{Max, Unit, Rate, Adj, Sell}
use Rattle.d_columns.specs.Names.{structure_number, part_number}
use Rattle.d_columns.specs.Index.{period_place, part_place}

structure_of : ℕ → Structure
structure_of n = if n == 0 then Energy else (if n == 1 then Demand else (if n == 2 then FlatDemand else Coincident))

structure_back : (structure : Structure) → structure_of (structure_number structure) ≡ structure
unfolding structure_of
structure_back Energy = refl
structure_back Demand = refl
structure_back FlatDemand = refl
structure_back Coincident = refl

part_of : ℕ → Part
part_of n = if n == 0 then Max else (if n == 1 then Unit else (if n == 2 then Rate else (if n == 3 then Adj else Sell)))

part_back : (part : Part) → part_of (part_number part) ≡ part
unfolding part_of
part_back Max = refl
part_back Unit = refl
part_back Rate = refl
part_back Adj = refl
part_back Sell = refl

pub part_below : (part : Part) → part_number part < 5
part_below Max = omega arith
part_below Unit = omega arith
part_below Rate = omega arith
part_below Adj = omega arith
part_below Sell = omega arith

-- the parts have different numbers
pub part_same : (q r : Part) → part_number q ≡ part_number r → q ≡ r
part_same q r same = sym (part_back q) ∙ ap part_of same ∙ part_back r

-- a place tells the structure and the period
pub period_same : (s t : Structure) (p r : ℕ) → p ≤ 35 → r ≤ 35 → period_place s p ≡ period_place t r → (s ≡ t) × (p ≡ r)
period_same s t p r few many same =
    let numbers : structure_number s ≡ structure_number t = omega arith in
    (sym (structure_back s) ∙ ap structure_of numbers ∙ structure_back t, omega arith)

-- and of a part's place the tier and the part too
pub place_same : (s t : Structure) (p r k l : ℕ) (q u : Part) → p ≤ 35 → r ≤ 35 → k ≤ 15 → l ≤ 15 → part_place s p k q ≡ part_place t r l u
    → (s ≡ t) × (p ≡ r) × (k ≡ l) × (q ≡ u)
place_same s t p r k l q u few many low high same =
    let first = part_below q in
    let second = part_below u in
    let tiers : period_place s p * 16 + k ≡ period_place t r * 16 + l = omega arith in
    let periods : period_place s p ≡ period_place t r = omega arith in
    let whole = period_same s t p r few many periods in
    (whole.0, whole.1, omega arith, part_same q u (omega arith))
