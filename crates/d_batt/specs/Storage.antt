-- A battery as plain values: levels, limits of the grid and numbered modes. All limits are our own.
use Rattle.std.specs.Prelude.{◌≡◌, ℕ, ℤ, List, Some, ◌≤◌, ◌^◌, length, All, slice_get}
use Rattle.d_num.specs.Amount.{IsWithin, IsUpTo}
use Rattle.d_batt.specs.declared.mode.Mode.{Mode}

-- what a schedule needs to know of a battery
pub record Storage : Type 0 where
  pub floor : ℕ
  pub capacity : ℕ
  pub start : ℕ
  pub end : ℕ
  pub max_import : ℤ
  pub max_export : ℤ
  pub modes : List Mode

-- a mode moves at most 255 levels and 10^9 Wh, and has a range of levels in which it may begin
pub record IsMode (mode : Mode) : Type 0 where
  pub change : IsWithin 255 mode.change
  pub grid : IsWithin (10 ^ 9) mode.grid
  pub ordered : mode.low ≤ mode.high
  pub top : mode.high ≤ 255

-- modes of one name are one mode
abbrev pub HasDifferentNames : List Mode → Type 0
HasDifferentNames modes =
    (j k : ℕ) (one other : Mode) → slice_get modes j ≡ Some one → slice_get modes k ≡ Some other → one.name ≡ other.name → j ≡ k

-- the levels are in order, the limits of the grid are from 0 to 10^10 Wh, and there are 1 to 64 modes of different names
pub record IsStorage (storage : Storage) : Type 0 where
  pub floor : storage.floor ≤ storage.start
  pub start : storage.start ≤ storage.capacity
  pub end : storage.end ≤ storage.capacity
  pub top : storage.capacity ≤ 255
  pub max_import : IsUpTo (10 ^ 10) storage.max_import
  pub max_export : IsUpTo (10 ^ 10) storage.max_export
  pub some_mode : 1 ≤ length storage.modes
  pub few_modes : length storage.modes ≤ 64
  pub modes : All IsMode storage.modes
  pub names : HasDifferentNames storage.modes
