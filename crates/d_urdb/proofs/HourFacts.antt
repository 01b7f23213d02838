-- The hours of a record's schedules.
use Rattle.std.proofs.Common.{◌≡◌, ◌∙◌, ℕ, ◌≤◌, Bool, true, false, not, ◌&&◌, ◌||◌, List, [], ◌∷◌, ◌++◌, length, All, Option, None, Some, Result, Ok, Err, refl, sym, ap, arith, replicate}
use Rattle.std.specs.Bool.{◌==◌}
use Rattle.std.proofs.Math.Dec.{eqb-suc-zero}
use Rattle.std.proofs.lemmas.Bool.{or_left, or_right}
use Rattle.std.proofs.lemmas.List.Elements.{All-replicate}
use Rattle.d_table.specs.Table.{column_of}
use Rattle.d_urdb.specs.declared.fault.Refused.{Refused}
use Rattle.d_columns.specs.declared.names.Structure.TheVariants.{Energy}
use Rattle.d_urdb.specs.Numbers.{CellReader, IsCellReader, IsHours, zero_hours}
use Rattle.d_urdb.specs.Refusals.{first_of, refusal, when}
use Rattle.d_columns.specs.Tiers.{Row, named_cell, has_tier}
use Rattle.d_urdb.specs.Hours.{grid_refusal, hours_in, occurs_in, weekday_name, weekend_name, missing_refusal, missing_refusals, hours_refusals}
use Rattle.d_urdb.specs.Checks.{Passes, Refuses}
use Rattle.d_urdb.specs.Energy.{HasPeriodTiers}
use Rattle.d_urdb.proofs.ReadOnce.{hours_once}
use Rattle.d_urdb.proofs.OneReader.{one_reader}
use Rattle.d_urdb.proofs.RefusalOrder.{each_none, both_pass, first_refuses, then_refuses}
use Rattle.d_urdb.specs.declared.cause.Cause.TheVariants as cause

-- an empty cell
pub blank : (cell : List ℕ) → true ≡ (length cell == 0) → cell ≡ []
blank [] is = refl
blank (byte ∷ bytes) is = absurd (let e : true ≡ false = is ∙ eqb-suc-zero (length bytes) in cc)

-- period 0 is one of the periods
pub zero_in_range : All (All (λ period. period ≤ 35)) zero_hours
zero_in_range =
    let month : All (λ period. period ≤ 35) (replicate 24 0) = All-replicate (λ (period : ℕ). period ≤ 35) 24 0 (omega arith) in
    All-replicate (All (λ period. period ≤ 35)) 12 (replicate 24 0) month

-- a cell is read in one way
pub cell_read : (row : Row) (name cell : List ℕ) (result : Result (List (List ℕ)) ℕ) → cell ≡ named_cell row name → IsHours cell result
    → (reader : CellReader) → IsCellReader reader → reader.hours (named_cell row name) ≡ result
cell_read row name cell result here is reader are =
    ap reader.hours (sym here) ∙ hours_once cell (reader.hours cell) result (are.hours_is cell) is

-- a schedule that is read or not
pub grid_passes : (row : Row) (name : List ℕ) (rows : List (List ℕ)) (reader : CellReader) → reader.hours (named_cell row name) ≡ Ok rows
    → first_of (grid_refusal reader row name ∷ []) ≡ None
unfolding first_of
grid_passes row name rows reader is = rw is refl

pub grid_value : (row : Row) (name : List ℕ) (rows : List (List ℕ)) (reader : CellReader) → reader.hours (named_cell row name) ≡ Ok rows
    → rows ≡ hours_in reader row name
grid_value row name rows reader is = rw is refl

pub grid_refuses : (row : Row) (name : List ℕ) (place : ℕ) (refused : Refused) (reader : CellReader) → reader.hours (named_cell row name) ≡ Err place
    → refusal row.header cause.Grid (column_of name row.header) place ≡ refused → first_of (grid_refusal reader row name ∷ []) ≡ Some refused
unfolding first_of
grid_refuses row name place refused reader is same = rw is (ap (λ r. Some r) same)

-- a period that no hour misses has a tier
tier_there : (occurs there : Bool) (refused : Refused) → first_of (when (occurs && not there) refused ∷ []) ≡ None → occurs ≡ true → there ≡ true
unfolding first_of
tier_there occurs true refused none is = refl
tier_there true false refused none is = absurd (let e : Some refused ≡ None = none in cc)
tier_there false false refused none is = is

period_there : (row : Row) (weekday weekend : List (List ℕ)) (period : ℕ) → Passes (λ reader. missing_refusals row weekday weekend) → period ≤ 35
    → (occurs_in period weekday || occurs_in period weekend) ≡ true → has_tier row Energy period 0 ≡ true
unfolding missing_refusals
period_there row weekday weekend period passes within occurs =
    let list : ℕ → List (Option Refused) = λ period. missing_refusal row weekday weekend period ∷ [] in
    tier_there (occurs_in period weekday || occurs_in period weekend) (has_tier row Energy period 0) (refusal row.header cause.EnergyMissing None period)
    (each_none 36 period list (omega (arith, within)) (passes one_reader.reader one_reader.is_reader)) occurs

pub weekday_there : (row : Row) (weekday weekend : List (List ℕ)) → Passes (λ reader. missing_refusals row weekday weekend) → HasPeriodTiers row weekday
weekday_there row weekday weekend passes period within occurs =
    period_there row weekday weekend period passes within (or_left (occurs_in period weekday) (occurs_in period weekend) occurs)

pub weekend_there : (row : Row) (weekday weekend : List (List ℕ)) → Passes (λ reader. missing_refusals row weekday weekend) → HasPeriodTiers row weekend
weekend_there row weekday weekend passes period within occurs =
    period_there row weekday weekend period passes within (or_right (occurs_in period weekday) (occurs_in period weekend) occurs)

-- the refusals of one schedule, and those of both
abbrev pub by_grid : Row → List ℕ → CellReader → List (Option Refused)
by_grid row name reader = grid_refusal reader row name ∷ []

abbrev pub by_missing : Row → CellReader → List (Option Refused)
by_missing row reader = missing_refusals row (hours_in reader row weekday_name) (hours_in reader row weekend_name)

-- these hours are those in a column, whichever way the cells are read
abbrev pub AreHoursIn : Row → List ℕ → List (List ℕ) → Type 0
AreHoursIn row name hours = (reader : CellReader) → IsCellReader reader → hours ≡ hours_in reader row name

-- what is missing from hours that are read
missing_first : (row : Row) (weekday weekend : List (List ℕ)) (answer : Option Refused) → AreHoursIn row weekday_name weekday → AreHoursIn row weekend_name weekend
    → ((reader : CellReader) → IsCellReader reader → first_of (missing_refusals row weekday weekend) ≡ answer)
    → (reader : CellReader) → IsCellReader reader → first_of (by_missing row reader) ≡ answer
missing_first row weekday weekend answer weekday_is weekend_is missing reader are =
    ap (λ hours. first_of (missing_refusals row hours (hours_in reader row weekend_name))) (sym (weekday_is reader are))
    ∙ ap (λ hours. first_of (missing_refusals row weekday hours)) (sym (weekend_is reader are))
    ∙ missing reader are

-- the checks of both schedules, one after the other
pub weekday_refuses : (row : Row) (refused : Refused) → Refuses (by_grid row weekday_name) refused → Refuses (λ reader. hours_refusals reader row) refused
weekday_refuses row refused here =
    first_refuses (by_grid row weekday_name) (λ reader. by_grid row weekend_name reader ++ by_missing row reader) refused here

pub weekend_refuses : (row : Row) (refused : Refused) → Passes (by_grid row weekday_name) → Refuses (by_grid row weekend_name) refused
    → Refuses (λ reader. hours_refusals reader row) refused
weekend_refuses row refused weekday here =
    then_refuses (by_grid row weekday_name) (λ reader. by_grid row weekend_name reader ++ by_missing row reader) refused weekday
    (first_refuses (by_grid row weekend_name) (by_missing row) refused here)

pub missing_refuses : (row : Row) (weekday weekend : List (List ℕ)) (refused : Refused) → Passes (by_grid row weekday_name) → Passes (by_grid row weekend_name)
    → AreHoursIn row weekday_name weekday → AreHoursIn row weekend_name weekend → Refuses (λ reader. missing_refusals row weekday weekend) refused
    → Refuses (λ reader. hours_refusals reader row) refused
missing_refuses row weekday weekend refused first second weekday_is weekend_is here =
    then_refuses (by_grid row weekday_name) (λ reader. by_grid row weekend_name reader ++ by_missing row reader) refused first
    (then_refuses (by_grid row weekend_name) (by_missing row) refused second
    (missing_first row weekday weekend (Some refused) weekday_is weekend_is here))

pub hours_pass : (row : Row) (weekday weekend : List (List ℕ)) → Passes (by_grid row weekday_name) → Passes (by_grid row weekend_name)
    → AreHoursIn row weekday_name weekday → AreHoursIn row weekend_name weekend → Passes (λ reader. missing_refusals row weekday weekend)
    → Passes (λ reader. hours_refusals reader row)
hours_pass row weekday weekend first second weekday_is weekend_is here =
    both_pass (by_grid row weekday_name) (λ reader. by_grid row weekend_name reader ++ by_missing row reader) first
    (both_pass (by_grid row weekend_name) (by_missing row) second
    (missing_first row weekday weekend None weekday_is weekend_is here))
