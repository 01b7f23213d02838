-- What the two desks in memory tell.
use Rattle.std.specs.Prelude.{List}
use Rattle.d_desk.specs.declared.memory_desk.MemoryDesk.{MemoryDesk}
use Rattle.d_desk.specs.declared.plan.PlannedFault.{PlannedFault}
use Rattle.d_desk.specs.declared.sure_desk.SureDesk.{SureDesk}
use Rattle.d_desk.specs.KeptState.{kept_state}
use Rattle.d_desk.specs.State.{State}

-- a memory desk counts its faults itself
abbrev pub memory_state : MemoryDesk → State
memory_state d = kept_state d.faults d.kept

-- the calls that are to fail, in the order in which they were named
abbrev pub planned_faults : MemoryDesk → List PlannedFault
planned_faults d = d.plan.planned.items

-- a sure desk has no faults
abbrev pub sure_state : SureDesk → State
sure_state d = kept_state 0 d.kept
