-- What the rows of a battery file are refused for.
use Rattle.std.proofs.Common.{◌≡◌, inl, inr, ℕ, suc, ◌+◌, ◌<◌, Bool, true, false, not, ℤ, List, [], ◌∷◌, ◌++◌, length, nat_le, Option, None, Some, is_some, Result, Ok, Err, OnOk, refl, sym, ap, ◌∙◌, arith}
use Rattle.std.specs.Option.{is_none}
use Rattle.d_text.specs.declared.decimal.DecimalFault.{DecimalFault}
use Rattle.d_list.specs.Firsts.{first_of, each, when}
use Rattle.d_list.proofs.Firsts.{one_more, each_here}
use Rattle.d_table.specs.Table.{cell_in}
use Rattle.d_batt.specs.declared.fault.BatteryFault.{BatteryFault}
use Rattle.d_batt.specs.declared.fault.BatteryFault.TheVariants.{Unknown, Twice, Number, Range, TooMany}
use Rattle.d_batt.specs.declared.mode.Mode.{Mode}
use Rattle.d_batt.specs.declared.setting.Setting.{Setting}
use Rattle.d_batt.specs.declared.kind.Kind.{Kind}
use Rattle.d_batt.specs.declared.kind.Kind.TheVariants.{Sets, HasMode}
use Rattle.d_batt.specs.Kinds.{kind_of, is_named, first_named, cells_at, setting_within}
use Rattle.d_batt.specs.Numbers.{Reader, IsReader, Reads, is_unread, level_number}
use Rattle.d_batt.specs.Checks.{Passes, Refuses, Checks}
use Rattle.d_batt.specs.BatteryFile.{kind_in, setting_refusals, mode_of, mode_in, mode_by, are_unread, has_unread, modes, with_mode, listed, number_refusals, mode_refusals, row_refusals, kind_refusals, twice_refusal}
use Rattle.d_batt.proofs.Order.{test_first, test_next, both_pass, then_fails}

-- ---- the first row of a name

pub none_named : (rows : List (List (List ℕ))) (kind name : List ℕ) → first_named rows 0 kind name ≡ None
unfolding first_of each
none_named rows kind name = refl

pub other_named : (rows : List (List (List ℕ))) (row : ℕ) (kind name : List ℕ) (test : Bool) → test ≡ is_named kind name (cells_at rows row) → test ≡ false
    → first_named rows row kind name ≡ None → first_named rows (row + 1) kind name ≡ None
unfolding first_of
other_named rows row kind name test is fails before =
    one_more row (λ row. when (is_named kind name (cells_at rows row)) row ∷ []) before (test_next _ row [] None (sym is ∙ fails) refl)

pub here_named : (rows : List (List (List ℕ))) (row count : ℕ) (kind name : List ℕ) (test : Bool) → row < count
    → test ≡ is_named kind name (cells_at rows row) → test ≡ true → first_named rows row kind name ≡ None → Some row ≡ first_named rows count kind name
here_named rows row count kind name test below is holds before =
    sym (each_here count row (λ row. when (is_named kind name (cells_at rows row)) row ∷ []) row below before (test_first _ row [] (sym is ∙ holds)))

-- ---- a row that sets a number

-- what a test says of a value
pub none_is : (value : Option ℤ) (test : Bool) → is_some value ≡ not test → is_none value ≡ test
none_is value true is = ap not is
none_is value false is = ap not is

module _ (rows : List (List (List ℕ))) (row : ℕ) (setting : Setting) (cell : List ℕ) (number : Result ℤ DecimalFault)
    (at : cell ≡ cell_in (cells_at rows row) 2) (reads : Reads (λ reader. reader cell) number) where
  -- the number as each reader reads it
  number_is : (reader : Reader) → IsReader reader → number ≡ reader (cell_in (cells_at rows row) 2)
  number_is reader are = reads reader are ∙ ap reader at

  pub setting_unread : (test : Bool) → test ≡ is_unread number → test ≡ true → Refuses (λ reader. setting_refusals reader rows row setting) (Number row)
  setting_unread test is holds reader are = test_first _ (Number row) _ (sym (ap is_unread (number_is reader are)) ∙ sym is ∙ holds)

  pub setting_beyond : (read : Bool) (value : Option ℤ) (test : Bool) → read ≡ is_unread number → read ≡ false
      → value ≡ setting_within setting number → is_some value ≡ not test → test ≡ true
      → Refuses (λ reader. setting_refusals reader rows row setting) (Range row)
  setting_beyond read value test is fails value_is none holds reader are =
      test_next _ (Number row) _ _ (sym (ap is_unread (number_is reader are)) ∙ sym is ∙ fails)
      (test_first _ (Range row) [] (sym (ap (λ n. is_none (setting_within setting n)) (number_is reader are)) ∙ ap is_none (sym value_is) ∙ none_is value test none ∙ holds))

  pub setting_passes : (read : Bool) (value : Option ℤ) (test : Bool) → read ≡ is_unread number → read ≡ false
      → value ≡ setting_within setting number → is_some value ≡ not test → test ≡ false
      → Passes (λ reader. setting_refusals reader rows row setting)
  unfolding first_of
  setting_passes read value test is fails value_is none out reader are =
      test_next _ (Number row) _ None (sym (ap is_unread (number_is reader are)) ∙ sym is ∙ fails)
      (test_next _ (Range row) [] None (sym (ap (λ n. is_none (setting_within setting n)) (number_is reader are)) ∙ ap is_none (sym value_is) ∙ none_is value test none ∙ out) refl)

-- ---- a row that has a mode

module _ (rows : List (List (List ℕ))) (row : ℕ) (name : List ℕ) (cell2 cell3 cell4 cell5 : List ℕ) (change grid low high : Result ℤ DecimalFault)
    (name_at : name ≡ cell_in (cells_at rows row) 1) (change_at : cell2 ≡ cell_in (cells_at rows row) 2) (grid_at : cell3 ≡ cell_in (cells_at rows row) 3)
    (low_at : cell4 ≡ cell_in (cells_at rows row) 4) (high_at : cell5 ≡ cell_in (cells_at rows row) 5)
    (change_is : Reads (λ reader. reader cell2) change) (grid_is : Reads (λ reader. reader cell3) grid)
    (low_is : Reads (λ reader. level_number reader 0 cell4) low) (high_is : Reads (λ reader. level_number reader 255 cell5) high) where
  unread_is : (reader : Reader) → IsReader reader → are_unread change grid low high ≡ has_unread reader (cells_at rows row)
  unread_is reader are =
      rw (change_is reader are, grid_is reader are, low_is reader are, high_is reader are, change_at, grid_at, low_at, high_at) refl

  mode_is : (reader : Reader) → IsReader reader → mode_of name change grid low high ≡ mode_in reader (cells_at rows row)
  mode_is reader are =
      rw (change_is reader are, grid_is reader are, low_is reader are, high_is reader are, change_at, grid_at, low_at, high_at, name_at) refl

  pub mode_unread : (test : Bool) → test ≡ are_unread change grid low high → test ≡ true → Refuses (λ reader. number_refusals reader rows row) (Number row)
  mode_unread test is holds reader are = test_first _ (Number row) _ (sym (unread_is reader are) ∙ sym is ∙ holds)

  pub mode_beyond : (test : Bool) → test ≡ are_unread change grid low high → test ≡ false → None ≡ mode_of name change grid low high
      → Refuses (λ reader. number_refusals reader rows row) (Range row)
  mode_beyond test is fails none reader are =
      test_next _ (Number row) _ _ (sym (unread_is reader are) ∙ sym is ∙ fails)
      (test_first _ (Range row) [] (ap is_none (sym (none ∙ mode_is reader are))))

  pub mode_passes : (test : Bool) (mode : Mode) → test ≡ are_unread change grid low high → test ≡ false → Some mode ≡ mode_of name change grid low high
      → Passes (λ reader. number_refusals reader rows row)
  unfolding first_of
  mode_passes test mode is fails some reader are =
      test_next _ (Number row) _ None (sym (unread_is reader are) ∙ sym is ∙ fails)
      (test_next _ (Range row) [] None (ap is_none (sym (some ∙ mode_is reader are))) refl)

  pub mode_read : (mode : Mode) → Some mode ≡ mode_of name change grid low high → Reads (λ reader. mode_in reader (cells_at rows row)) (Some mode)
  mode_read mode some reader are = some ∙ mode_is reader are

-- a row behind 64 modes, and one that isn't
pub mode_too_many : (rows : List (List (List ℕ))) (row : ℕ) (old : List Mode) → Reads (λ reader. modes reader rows row) old → nat_le 64 (length old) ≡ true
    → Passes (λ reader. number_refusals reader rows row) → Refuses (λ reader. mode_refusals reader rows row) (TooMany row)
mode_too_many rows row old old_is many passes = elim (then_fails Mode Mode (λ reader. number_refusals reader rows row) (λ reader. when (nat_le 64 (length (modes reader rows row))) (TooMany row) ∷ []) (TooMany row) passes
    (inr (λ reader are. test_first _ (TooMany row) [] (sym (ap (λ (list : List Mode). nat_le 64 (length list)) (old_is reader are)) ∙ many)))) [
      | inl memory ↦ absurd (let e : TooMany row ≡ BatteryFault.Memory = memory in cc)
      | inr refuses ↦ refuses
    ]

pub mode_fits : (rows : List (List (List ℕ))) (row : ℕ) (old : List Mode) → Reads (λ reader. modes reader rows row) old → nat_le 64 (length old) ≡ false
    → Passes (λ reader. number_refusals reader rows row) → Passes (λ reader. mode_refusals reader rows row)
unfolding first_of
mode_fits rows row old old_is few passes = both_pass (λ reader. number_refusals reader rows row) (λ reader. when (nat_le 64 (length (modes reader rows row))) (TooMany row) ∷ []) passes
    (λ reader are. test_next _ (TooMany row) [] None (sym (ap (λ (list : List Mode). nat_le 64 (length list)) (old_is reader are)) ∙ few) refl)

-- one mode more
pub mode_added : (rows : List (List (List ℕ))) (row : ℕ) (old new : List Mode) (mode : Mode) → Reads (λ reader. modes reader rows row) old
    → Reads (λ reader. mode_in reader (cells_at rows row)) (Some mode) → new ≡ old ++ mode ∷ [] → Reads (λ reader. with_mode reader rows row) new
mode_added rows row old new mode old_is mode_is more reader are =
    more ∙ ap (λ (list : List Mode). list ++ mode ∷ []) (old_is reader are) ∙ ap (λ (m : Option Mode). modes reader rows row ++ listed m) (mode_is reader are)

-- ---- a row

-- what a row is, by its first two cells
pub kind_is : (rows : List (List (List ℕ))) (row : ℕ) (kind name : List ℕ) (found : Option Kind) → kind ≡ cell_in (cells_at rows row) 0
    → name ≡ cell_in (cells_at rows row) 1 → found ≡ kind_of kind name → kind_in (cells_at rows row) ≡ found
kind_is rows row kind name found kind_at name_at is = sym (is ∙ ap (λ k. kind_of k name) kind_at ∙ ap (kind_of (cell_in (cells_at rows row) 0)) name_at)

-- whether a row before has its kind and name
pub twice_is : (rows : List (List (List ℕ))) (row : ℕ) (kind name : List ℕ) (first : Option ℕ) (test answer : Bool) → kind ≡ cell_in (cells_at rows row) 0
    → name ≡ cell_in (cells_at rows row) 1 → first ≡ first_named rows row kind name → test ≡ is_some first → test ≡ answer
    → is_some (first_named rows row (cell_in (cells_at rows row) 0) (cell_in (cells_at rows row) 1)) ≡ answer
twice_is rows row kind name first test answer kind_at name_at is some same =
    sym (ap is_some (is ∙ ap (λ k. first_named rows row k name) kind_at ∙ ap (first_named rows row (cell_in (cells_at rows row) 0)) name_at)) ∙ sym some ∙ same

pub row_unknown : (rows : List (List (List ℕ))) (row : ℕ) → kind_in (cells_at rows row) ≡ None → Refuses (λ reader. row_refusals reader rows row) (Unknown row)
unfolding row_refusals first_of
row_unknown rows row none reader are = ap (λ (k : Option Kind). first_of (kind_refusals reader rows row k)) none

pub row_twice : (rows : List (List (List ℕ))) (row : ℕ) (kind : Kind) → kind_in (cells_at rows row) ≡ Some kind
    → is_some (first_named rows row (cell_in (cells_at rows row) 0) (cell_in (cells_at rows row) 1)) ≡ true
    → Refuses (λ reader. row_refusals reader rows row) (Twice row)
unfolding row_refusals
row_twice rows row (Sets setting) is twice reader are =
    ap (λ (k : Option Kind). first_of (kind_refusals reader rows row k)) is ∙ test_first _ (Twice row) _ twice
row_twice rows row HasMode is twice reader are = ap (λ (k : Option Kind). first_of (kind_refusals reader rows row k)) is ∙ test_first _ (Twice row) _ twice

-- behind the test of its name
behind_twice : (A B : Type 0) (rows : List (List (List ℕ))) (row : ℕ) (kind : Kind) (list : Reader → List (Option BatteryFault)) (result : Result A BatteryFault)
    → ((reader : Reader) → kind_refusals reader rows row (Some kind) ≡ twice_refusal rows row ∷ list reader) → kind_in (cells_at rows row) ≡ Some kind
    → is_some (first_named rows row (cell_in (cells_at rows row) 0) (cell_in (cells_at rows row) 1)) ≡ false
    → Checks list result → Checks (λ reader. row_refusals reader rows row) result
unfolding row_refusals
behind_twice A B rows row kind list (Ok value) split is once passes = λ reader are.
    ap (λ (k : Option Kind). first_of (kind_refusals reader rows row k)) is ∙ ap first_of (split reader) ∙ test_next _ (Twice row) (list reader) None once (passes reader are)
behind_twice A B rows row kind list (Err fault) split is once (inl memory) = inl memory
behind_twice A B rows row kind list (Err fault) split is once (inr refuses) = inr (λ reader are.
    ap (λ (k : Option Kind). first_of (kind_refusals reader rows row k)) is ∙ ap first_of (split reader) ∙ test_next _ (Twice row) (list reader) (Some fault) once (refuses reader are))

pub row_sets : (A : Type 0) (rows : List (List (List ℕ))) (row : ℕ) (setting : Setting) (result : Result A BatteryFault)
    → kind_in (cells_at rows row) ≡ Some (Sets setting)
    → is_some (first_named rows row (cell_in (cells_at rows row) 0) (cell_in (cells_at rows row) 1)) ≡ false
    → Checks (λ reader. setting_refusals reader rows row setting) result → Checks (λ reader. row_refusals reader rows row) result
row_sets A rows row setting result is once checks =
    behind_twice A A rows row (Sets setting) (λ reader. setting_refusals reader rows row setting) result (λ reader. refl) is once checks

pub row_has : (A : Type 0) (rows : List (List (List ℕ))) (row : ℕ) (result : Result A BatteryFault)
    → kind_in (cells_at rows row) ≡ Some HasMode
    → is_some (first_named rows row (cell_in (cells_at rows row) 0) (cell_in (cells_at rows row) 1)) ≡ false
    → Checks (λ reader. mode_refusals reader rows row) result → Checks (λ reader. row_refusals reader rows row) result
row_has A rows row result is once checks =
    behind_twice A A rows row HasMode (λ reader. mode_refusals reader rows row) result (λ reader. refl) is once checks

-- ---- the modes of one row more

append_none : (list : List Mode) → list ++ [] ≡ list
append_none [] = refl
append_none (mode ∷ rest) = ap (λ (list : List Mode). mode ∷ list) (append_none rest)

modes_next : (reader : Reader) (rows : List (List (List ℕ))) (row : ℕ) (kind : Kind) → kind_in (cells_at rows row) ≡ Some kind
    → modes reader rows (row + 1) ≡ modes reader rows row ++ mode_by reader (cells_at rows row) (Some kind)
unfolding modes
modes_next reader rows row kind is =
    let next : suc row ≡ row + 1 = omega arith in
    sym (ap (λ n. modes reader rows n) next) ∙ ap (λ (k : Option Kind). modes reader rows row ++ mode_by reader (cells_at rows row) k) is

pub modes_kept : (rows : List (List (List ℕ))) (row : ℕ) (setting : Setting) (list : List Mode) → kind_in (cells_at rows row) ≡ Some (Sets setting)
    → Reads (λ reader. modes reader rows row) list → Reads (λ reader. modes reader rows (row + 1)) list
modes_kept rows row setting list is list_is reader are =
    list_is reader are ∙ sym (append_none (modes reader rows row)) ∙ sym (modes_next reader rows row (Sets setting) is)

pub modes_more : (rows : List (List (List ℕ))) (row : ℕ) (list : List Mode) → kind_in (cells_at rows row) ≡ Some HasMode
    → Reads (λ reader. with_mode reader rows row) list → Reads (λ reader. modes reader rows (row + 1)) list
modes_more rows row list is list_is reader are = list_is reader are ∙ sym (modes_next reader rows row HasMode is)

pub no_modes : (rows : List (List (List ℕ))) (list : List Mode) → list ≡ [] → Reads (λ reader. modes reader rows 0) list
unfolding modes
no_modes rows list none reader are = none

-- what is so where a check goes through
pub where_ok : (A F P : Type 0) (result : Result A F) → P → OnOk result P
where_ok A F P (Ok value) so = so
where_ok A F P (Err fault) so = tt

pub ok_since : (A F P Q : Type 0) (result : Result A F) → (P → Q) → OnOk result P → OnOk result Q
ok_since A F P Q (Ok value) since so = since so
ok_since A F P Q (Err fault) since so = tt
