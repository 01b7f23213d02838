-- The outcome of a battery file, check by check.
use Rattle.std.proofs.Common.{◌≡◌, ◌↔◌, ◌⊎◌, inl, inr, ℕ, ℤ, Bool, true, false, ◌==◌, List, [], ◌∷◌, ◌++◌, length, map, bytes_eq, None, Ok, Err, IsTrue, refl, sym, ap, ◌∙◌}
use Rattle.std.specs.Cmp.Lexicographic.{pointwise}
use Rattle.std.specs.Str.{str_to_ascii_lowercase}
use Rattle.std.proofs.lemmas.Slice.Eq.{bytes_eq-Decides, slice_eq-Decides}
use Rattle.d_list.specs.Firsts.{first_of, when}
use Rattle.d_list.proofs.Firsts.{none_before}
use Rattle.d_table.specs.Table.{row_at, IsHeader}
use Rattle.d_batt.specs.declared.fault.BatteryFault.{BatteryFault}
use Rattle.d_batt.specs.declared.fault.BatteryFault.TheVariants.{Shape, Memory, NoModes}
use Rattle.d_batt.specs.declared.mode.Mode.{Mode}
use Rattle.d_batt.specs.declared.level.Levels.{Levels}
use Rattle.d_batt.specs.declared.setting.Setting.TheVariants.{MaxImport, MaxExport}
use Rattle.d_batt.specs.Storage.{Storage, IsStorage}
use Rattle.d_batt.specs.Numbers.{Reads}
use Rattle.d_batt.specs.Checks.{Passes, Refuses, Checks}
use Rattle.d_batt.specs.Levels.{AreLevels}
use Rattle.d_batt.specs.BatteryFile.{IsOutcome, battery_header, has_header, battery_outcome, battery_refusals, battery_of, refused_or, rows_refusals, level_refusals, modes, count_of, grid_limit}
use Rattle.d_batt.proofs.Readers.{one_reader}
use Rattle.d_batt.proofs.Names.{same_answer}
use Rattle.d_batt.proofs.Order.{test_first, test_next, first_fails, then_fails}
use Rattle.d_batt.proofs.Accepted.{battery_sound}

-- ---- the header

pub header_is : (rows : List (List (List ℕ))) (answer : Bool) → (IsTrue answer ↔ IsHeader battery_header (row_at rows 0)) → has_header rows ≡ answer
header_is rows answer is =
    let xs = map str_to_ascii_lowercase (row_at rows 0) in
    let decides = slice_eq-Decides bytes_eq-Decides xs battery_header (pointwise bytes_eq xs battery_header) refl in
    same_answer (has_header rows) answer (λ holds. is.1 (decides.0 holds)) (λ yes. decides.1 (is.0 yes))

pub no_header : (rows : List (List (List ℕ))) → has_header rows ≡ false → IsOutcome rows (Err Shape)
unfolding battery_outcome
no_header rows none = (one_reader.reader, one_reader.is_reader, rw none refl)

-- ---- refusals

pub file_refused : (A : Type 0) (rows : List (List (List ℕ))) (fault : BatteryFault) → has_header rows ≡ true
    → Checks {A = A} (λ reader. battery_refusals reader rows) (Err fault) → (fault ≡ Memory) ⊎ IsOutcome rows (Err fault)
unfolding battery_outcome
file_refused A rows fault header (inl memory) = inl memory
file_refused A rows fault header (inr refuses) =
    let reader = one_reader.reader in
    inr (reader, one_reader.is_reader, rw header (sym (ap (λ first. refused_or first (battery_of reader rows)) (refuses reader one_reader.is_reader))))

pub rows_refused : (A B : Type 0) (rows : List (List (List ℕ))) (fault : BatteryFault) → Checks {A = A} (λ reader. rows_refusals reader rows) (Err fault)
    → Checks {A = B} (λ reader. battery_refusals reader rows) (Err fault)
unfolding battery_refusals
rows_refused A B rows fault checks =
    first_fails A B (λ reader. rows_refusals reader rows)
    (λ reader. level_refusals reader rows ++ when (length (modes reader rows (count_of rows)) == 0) NoModes ∷ []) fault checks

pub levels_refused : (A B : Type 0) (rows : List (List (List ℕ))) (fault : BatteryFault) → Passes (λ reader. rows_refusals reader rows)
    → Checks {A = A} (λ reader. level_refusals reader rows) (Err fault) → Checks {A = B} (λ reader. battery_refusals reader rows) (Err fault)
unfolding battery_refusals
levels_refused A B rows fault pass checks =
    then_fails B B (λ reader. rows_refusals reader rows)
    (λ reader. level_refusals reader rows ++ when (length (modes reader rows (count_of rows)) == 0) NoModes ∷ []) fault pass
    (first_fails A B (λ reader. level_refusals reader rows) (λ reader. when (length (modes reader rows (count_of rows)) == 0) NoModes ∷ []) fault checks)

pub modes_refused : (rows : List (List (List ℕ))) (list : List Mode) (test : Bool) → Passes (λ reader. rows_refusals reader rows)
    → Passes (λ reader. level_refusals reader rows) → Reads (λ reader. modes reader rows (count_of rows)) list → test ≡ (length list == 0) → test ≡ true
    → Refuses (λ reader. battery_refusals reader rows) NoModes
unfolding battery_refusals
modes_refused rows list test pass levels is test_is none reader are =
    none_before (rows_refusals reader rows) _ (pass reader are) ∙ none_before (level_refusals reader rows) _ (levels reader are)
    ∙ test_first _ NoModes [] (sym (ap (λ (list : List Mode). length list == 0) (is reader are)) ∙ sym test_is ∙ none)

pub file_passes : (rows : List (List (List ℕ))) (list : List Mode) (test : Bool) → Passes (λ reader. rows_refusals reader rows)
    → Passes (λ reader. level_refusals reader rows) → Reads (λ reader. modes reader rows (count_of rows)) list → test ≡ (length list == 0) → test ≡ false
    → Passes (λ reader. battery_refusals reader rows)
unfolding battery_refusals first_of
file_passes rows list test pass levels is test_is some reader are =
    none_before (rows_refusals reader rows) _ (pass reader are) ∙ none_before (level_refusals reader rows) _ (levels reader are)
    ∙ test_next _ NoModes [] None (sym (ap (λ (list : List Mode). length list == 0) (is reader are)) ∙ sym test_is ∙ some) refl

-- ---- the battery

-- a battery of these values
unfoldable pub made : Levels → ℤ → ℤ → List Mode → Storage
made levels max_import max_export list = record {
  floor = levels.floor;
  capacity = levels.capacity;
  start = levels.start;
  end = levels.end;
  max_import = max_import;
  max_export = max_export;
  modes = list;
}

pub made_is : (rows : List (List (List ℕ))) (levels : Levels) (max_import max_export : ℤ) (list : List Mode) → AreLevels rows levels
    → Reads (λ reader. grid_limit reader rows MaxImport) max_import → Reads (λ reader. grid_limit reader rows MaxExport) max_export
    → Reads (λ reader. modes reader rows (count_of rows)) list → Reads (λ reader. battery_of reader rows) (made levels max_import max_export list)
unfolding made battery_of
made_is rows levels max_import max_export list are_levels import_is export_is modes_are reader are =
    rw (
      are_levels.capacity reader are,
      are_levels.floor reader are,
      are_levels.start reader are,
      are_levels.end reader are,
      import_is reader are,
      export_is reader are,
      modes_are reader are,
    ) refl

pub made_sound : (rows : List (List (List ℕ))) (storage : Storage) → Passes (λ reader. battery_refusals reader rows)
    → Reads (λ reader. battery_of reader rows) storage → IsStorage storage
made_sound rows storage passes is =
    let reader = one_reader.reader in
    rw (is reader one_reader.is_reader) (battery_sound reader rows (passes reader one_reader.is_reader))

pub file_accepted : (rows : List (List (List ℕ))) (storage : Storage) → has_header rows ≡ true → Passes (λ reader. battery_refusals reader rows)
    → Reads (λ reader. battery_of reader rows) storage → IsOutcome rows (Ok storage)
unfolding battery_outcome
file_accepted rows storage header passes is =
    let reader = one_reader.reader in (
      reader,
      one_reader.is_reader,
      rw header (ap (λ storage. Ok storage) (is reader one_reader.is_reader)
          ∙ sym (ap (λ first. refused_or first (battery_of reader rows)) (passes reader one_reader.is_reader))),
    )
