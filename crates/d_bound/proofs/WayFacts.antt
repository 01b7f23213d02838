-- The ways that the code makes are those of the problem.
use Rattle.std.proofs.Common.{◌≡◌, ℕ, ℤ, List, map, Bool, refl}
use Rattle.d_num.specs.declared.pot.Pot.{Pot}
use Rattle.d_path.specs.declared.ways.Move.{Move}
use Rattle.d_bill.specs.Inputs.{Inputs}
use Rattle.d_bound.specs.declared.ways.Levels.{Levels}
use Rattle.d_bound.specs.PlanWays.{plan_arcs, mode_costs, move_of}
use Rattle.d_bound.specs.Bounders.{levels_in, arcs_over}

-- ways over the problem's levels, costs and moves
pub arcs_are : (i : Inputs) (allows : ℕ → ℤ → Bool) (rates : List ℤ) (levels : Levels) (costs : List Pot) (moves : List Move) → levels ≡ levels_in i → costs ≡ mode_costs i allows rates
    → moves ≡ map move_of i.storage.modes → arcs_over levels costs moves ≡ plan_arcs i allows rates
arcs_are i allows rates levels costs moves levels_is costs_is moves_is = rw (levels_is, costs_is, moves_is) refl
