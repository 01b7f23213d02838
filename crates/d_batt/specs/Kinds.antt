-- What the rows of a battery file may be, by their first two cells. The names and their ranges are our own.
use Rattle.std.specs.Prelude.{ℕ, ◌+◌, ◌^◌, ℤ, pos, Result, Bool, ◌&&◌, ◌||◌, ◌==◌, nat_le, List, [], ◌∷◌, length, bytes_eq, codes, Option, None, Some, option_map, if◌then◌else◌}
use Rattle.std.specs.List.{list_all}
use Rattle.d_list.specs.Firsts.{first_of, each, when}
use Rattle.d_table.specs.Table.{row_at, cell_in}
use Rattle.d_text.specs.declared.decimal.DecimalFault.{DecimalFault}
use Rattle.d_batt.specs.Numbers.{within}
use Rattle.d_batt.specs.declared.setting.Setting.{Setting}
use Rattle.d_batt.specs.declared.setting.Setting.TheVariants.{Capacity, Floor, Start, End, MaxImport, MaxExport}
use Rattle.d_batt.specs.declared.kind.Kind.{Kind}
use Rattle.d_batt.specs.declared.kind.Kind.TheVariants.{Sets, HasMode}

-- the name of a setting in the file
abbrev pub setting_name : Setting → List ℕ
setting_name Capacity = codes "capacity"
setting_name Floor = codes "floor"
setting_name Start = codes "start"
setting_name End = codes "end"
setting_name MaxImport = codes "max_import_wh"
setting_name MaxExport = codes "max_export_wh"

-- the greatest value of a setting, in steps of levels or in Wh; the least is 0
abbrev pub setting_limit : Setting → ℕ
setting_limit Capacity = 255
setting_limit Floor = 255
setting_limit Start = 255
setting_limit End = 255
setting_limit MaxImport = 10 ^ 10
setting_limit MaxExport = 10 ^ 10

-- a number that was read, where it is in the setting's range
abbrev pub setting_within : Setting → Result ℤ DecimalFault → Option ℤ
setting_within setting number = within (pos 0) (pos (setting_limit setting)) number

-- the setting of that name
abbrev pub setting_of : List ℕ → Option Setting
setting_of name =
    if bytes_eq name (codes "capacity") then Some Capacity
    else if bytes_eq name (codes "floor") then Some Floor
    else if bytes_eq name (codes "start") then Some Start
    else if bytes_eq name (codes "end") then Some End
    else if bytes_eq name (codes "max_import_wh") then Some MaxImport
    else if bytes_eq name (codes "max_export_wh") then Some MaxExport
    else None

-- an ASCII letter or digit, an underscore or a minus
abbrev pub is_name_byte : ℕ → Bool
is_name_byte b = (nat_le 65 b && nat_le b 90) || (nat_le 97 b && nat_le b 122) || (nat_le 48 b && nat_le b 57) || (b == 95) || (b == 45)

-- a mode's name has 1 to 32 of these bytes
abbrev pub is_mode_name : List ℕ → Bool
is_mode_name name = nat_le 1 (length name) && nat_le (length name) 32 && list_all is_name_byte name

-- what a row of this kind and name is
abbrev pub kind_of : List ℕ → List ℕ → Option Kind
kind_of kind name =
    if bytes_eq kind (codes "set") then option_map Sets (setting_of name)
    else if bytes_eq kind (codes "mode") && is_mode_name name then Some HasMode
    else None

-- the cells of a data row, counted from 0 behind the header
abbrev pub cells_at : List (List (List ℕ)) → ℕ → List (List ℕ)
cells_at rows row = row_at rows (row + 1)

-- whether a row has this kind and name
abbrev pub is_named : List ℕ → List ℕ → List (List ℕ) → Bool
is_named kind name cells = bytes_eq (cell_in cells 0) kind && bytes_eq (cell_in cells 1) name

-- the first of so many data rows that has this kind and name
abbrev pub first_named : List (List (List ℕ)) → ℕ → List ℕ → List ℕ → Option ℕ
first_named rows count kind name = first_of (each count (λ row. when (is_named kind name (cells_at rows row)) row ∷ []))
