-- One more byte of a grid.
use Rattle.std.proofs.Common.{◌≡◌, ℕ, true, false, Option, None, Some, List, [], ◌∷◌, ◌++◌, length, take, arith, refl, sym, ap, ap₂, ◌∙◌}
use Rattle.std.proofs.lemmas.List.{take_all}
use Rattle.d_text.specs.Brackets.{Level, role_of, is_blank, is_closed, level_of, level_value, next_behind, next_end, next_within, next_waiting, row_reader, grid_reader, row_level, grid_level, Fits}
use Rattle.d_text.specs.declared.brackets.Stage.{Stage}
use Rattle.d_text.specs.declared.brackets.Stage.TheVariants.{Start, Open, Part, After, Closed}
use Rattle.d_text.specs.declared.grid.GridScan.{GridScan}

-- the first byte of a row
abbrev open_level : GridScan → ℕ → ℕ → Option (Level (Level (Option ℕ) ℕ) (List ℕ))
open_level s place byte = next_waiting (take s.count s.rows) (row_reader.next place row_reader.start byte) (is_blank (role_of byte))

open_is : (s : GridScan) (place byte : ℕ) → s.stage ≡ Open → grid_reader.next place (grid_level s) byte ≡ open_level s place byte
open_is s place byte e = ap (λ (stage : Stage). grid_reader.next place (level_of stage (take s.count s.rows) (row_level s.row)) byte) e

pub open-goes : (s t : GridScan) (place byte : ℕ) → s.stage ≡ Open → is_blank (role_of byte) ≡ false → row_reader.next place row_reader.start byte ≡ Some (row_level t.row)
    → t ≡ record s { stage = Part; row = t.row } → grid_reader.next place (grid_level s) byte ≡ Some (grid_level t)
open-goes s t place byte e blank first new =
    open_is s place byte e ∙ ap₂ (next_waiting (take s.count s.rows)) first blank ∙ sym (ap (λ (u : GridScan). Some (grid_level u)) new)

pub open-stops : (s : GridScan) (place byte : ℕ) → s.stage ≡ Open → is_blank (role_of byte) ≡ false → row_reader.next place row_reader.start byte ≡ None
    → grid_reader.next place (grid_level s) byte ≡ None
open-stops s place byte e blank first = open_is s place byte e ∙ ap₂ (next_waiting (take s.count s.rows)) first blank

-- a byte behind a complete row
pub close-is : (s : GridScan) (place byte : ℕ) → s.stage ≡ Part → s.row.stage ≡ Closed → s.row.count ≡ 24 → length s.row.numbers ≡ 24
    → grid_reader.next place (grid_level s) byte ≡ next_behind 12 (take s.count s.rows ++ s.row.numbers ∷ []) (row_level s.row) (role_of byte)
close-is s place byte e f count size =
    let all : take s.row.count s.row.numbers ≡ s.row.numbers = take_all s.row.count s.row.numbers (omega arith) in
    let row : row_level s.row ≡ level_of Closed (take s.row.count s.row.numbers) (Some s.row.number) = ap (λ (stage : Stage). level_of stage (take s.row.count s.row.numbers) (Some s.row.number)) f in
    ap (λ (stage : Stage). grid_reader.next place (level_of stage (take s.count s.rows) (row_level s.row)) byte) e
    ∙ ap₂ (λ (o : Option (Level (Option ℕ) ℕ)) (v : Option (List ℕ)). next_within (take s.count s.rows) o (next_end 12 (take s.count s.rows) (row_level s.row) v (role_of byte)))
    (ap (λ (l : Level (Option ℕ) ℕ). row_reader.next place l byte) row) (ap level_value row)
    ∙ ap (λ (v : List ℕ). next_behind 12 (take s.count s.rows ++ v ∷ []) (row_level s.row) (role_of byte)) all

pub closed_stage : (stage : Stage) → is_closed stage ≡ true → stage ≡ Closed
closed_stage Start e = cc
closed_stage Open e = cc
closed_stage Part e = cc
closed_stage After e = cc
closed_stage Closed e = refl

pub closed_count : (most count : ℕ) (stage : Stage) → stage ≡ Closed → Fits most stage count → count ≡ most
closed_count most count stage e h = rw e at h
