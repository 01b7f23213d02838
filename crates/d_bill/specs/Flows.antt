-- What goes through the meter in an interval. Net billing looks at each interval by itself, as SAM's net billing does:
-- the import of one interval is never set against the export of another.
use Rattle.std.specs.Prelude.{ℕ, ℤ, pos, neg_ℤ, ◌+ℤ◌, ◌*ℤ◌, ◌≤ℤ◌, ◌&&◌, List, Option, Some, None, option_map, option_and_then, unwrap_or, if◌then◌else◌, slice_get, slice_index, slice_index_or, int_le, int_div}
use Rattle.std.specs.Int.{int_max}
use Rattle.d_batt.specs.declared.mode.Mode.{Mode}
use Rattle.d_bill.specs.declared.arc.Arc.{Arc}
use Rattle.d_bill.specs.Inputs.{Inputs}

-- the net reading of an interval
abbrev pub net_at : Inputs → ℕ → ℤ
net_at i t = slice_index_or i.net t (pos 0)

-- the reading and the mode's grid change together
abbrev pub flow_of : Inputs → ℕ → Mode → ℤ
flow_of i t mode = net_at i t +ℤ mode.grid

-- the import, from the grid: the larger of 0 and the flow
abbrev pub import_of : ℤ → ℤ
import_of flow = int_max (pos 0) flow

-- the export, into the grid: the larger of 0 and the flow turned round
abbrev pub export_of : ℤ → ℤ
export_of flow = int_max (pos 0) (neg_ℤ flow)

-- the import as an even power in W, from Wh in so many minutes
abbrev pub power_of : ℕ → ℤ → ℤ
power_of minutes flow = int_div (import_of flow *ℤ pos 60) (pos minutes)

-- import and export are within the battery's limits per interval
pub record IsPermitted (i : Inputs) (t : ℕ) (mode : Mode) : Type 0 where
  pub import : import_of (flow_of i t mode) ≤ℤ i.storage.max_import
  pub export : export_of (flow_of i t mode) ≤ℤ i.storage.max_export

-- import, export and power of a flow
abbrev pub arc_of_flow : ℕ → ℤ → Arc
arc_of_flow minutes flow = record { import = import_of flow; export = export_of flow; power = power_of minutes flow }

-- the same, where the battery's limits allow it
abbrev pub permitted_arc : Inputs → ℤ → Option Arc
permitted_arc i flow =
    if int_le (import_of flow) i.storage.max_import && int_le (export_of flow) i.storage.max_export
    then Some (arc_of_flow i.minutes flow) else None

-- import, export and power of an interval in the mode of this number; None where there is no such mode or it isn't permitted
abbrev pub arc_of : Inputs → ℕ → ℕ → Option Arc
arc_of i t number = option_and_then (λ mode. permitted_arc i (flow_of i t mode)) (slice_get i.storage.modes number)

-- what the mode of this number adds to a reading; 0 where there is no such mode
abbrev pub grid_of : Inputs → ℕ → ℤ
grid_of i number = unwrap_or (option_map (λ (mode : Mode). mode.grid) (slice_get i.storage.modes number)) (pos 0)

-- what goes through the meter in an interval of a schedule
abbrev pub flow_at : Inputs → List ℕ → ℕ → ℤ
flow_at i s t = net_at i t +ℤ grid_of i (slice_index s t)
