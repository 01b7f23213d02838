-- What levels are refused for.
use Rattle.std.proofs.Common.{◌≡◌, ◌<◌, ◌≤◌, ℕ, true, false, nat_lt, ℤ, List, [], Option, None, Some, Result, refl, sym, ap, ◌∙◌, arith}
use Rattle.std.proofs.lemmas.Bool.Decides.{Decides-ltb}
use Rattle.std.specs.Option.{is_none}
use Rattle.d_text.specs.declared.decimal.DecimalFault.{DecimalFault}
use Rattle.d_list.specs.Firsts.{first_of}
use Rattle.d_table.specs.Table.{cell_in}
use Rattle.d_batt.specs.declared.fault.BatteryFault.TheVariants.{Missing, Range}
use Rattle.d_batt.specs.declared.setting.Setting.{Setting}
use Rattle.d_batt.specs.declared.setting.Setting.TheVariants.{Capacity, Floor, Start, End}
use Rattle.d_batt.specs.Kinds.{cells_at, setting_within}
use Rattle.d_batt.specs.Numbers.{Reader, IsReader, Reads}
use Rattle.d_batt.specs.Checks.{Passes, Refuses}
use Rattle.d_batt.specs.BatteryFile.{value_at, value_of, level, row_of, first_row, level_refusals, is_outside, capacity_of, floor_of, start_of, end_of}
use Rattle.d_batt.proofs.Order.{test_first, test_next}

-- ---- the number of a setting

pub value_none : (rows : List (List (List ℕ))) (setting : Setting) → None ≡ first_row rows setting → Reads (λ reader. value_of reader rows setting) None
unfolding value_of
value_none rows setting none reader are = ap (value_at reader rows setting) none

pub value_some : (rows : List (List (List ℕ))) (setting : Setting) (row : ℕ) (cell : List ℕ) (number : Result ℤ DecimalFault) (value : Option ℤ)
    → Some row ≡ first_row rows setting → cell ≡ cell_in (cells_at rows row) 2 → Reads (λ reader. reader cell) number → value ≡ setting_within setting number
    → Reads (λ reader. value_of reader rows setting) value
unfolding value_of
value_some rows setting row cell number value some at number_is value_is reader are =
    value_is ∙ ap (setting_within setting) (number_is reader are ∙ ap reader at) ∙ ap (value_at reader rows setting) some

-- ---- levels

pub no_capacity : (rows : List (List (List ℕ))) (value : Option ℤ) → Reads (λ reader. value_of reader rows Capacity) value → is_none value ≡ true
    → Refuses (λ reader. level_refusals reader rows) Missing
unfolding level_refusals
no_capacity rows value value_is none reader are = test_first _ Missing _ (ap is_none (sym (value_is reader are)) ∙ none)

module _ (rows : List (List (List ℕ))) (value : Option ℤ) (capacity floor start end : ℕ) (value_is : Reads (λ reader. value_of reader rows Capacity) value)
    (capacity_is : Reads (λ reader. capacity_of reader rows) capacity) (floor_is : Reads (λ reader. level reader rows Floor 0) floor)
    (start_is : Reads (λ reader. level reader rows Start floor) start) (end_is : Reads (λ reader. level reader rows End start) end) where
  pub start_too : Reads (λ reader. start_of reader rows) start
  start_too reader are = start_is reader are ∙ ap (λ absent. level reader rows Start absent) (floor_is reader are)

  pub end_too : Reads (λ reader. end_of reader rows) end
  end_too reader are = end_is reader are ∙ ap (λ absent. level reader rows End absent) (start_too reader are)

  -- one level below another
  below : (a b : ℕ) → a < b → nat_lt a b ≡ true
  below a b lt = (Decides-ltb a b).1 lt

  not_below : (a b : ℕ) → b ≤ a → nat_lt a b ≡ false
  not_below a b le = grind (arith, Decides-ltb a b)

  floor_test : (reader : Reader) → IsReader reader → nat_lt (capacity_of reader rows) (floor_of reader rows) ≡ nat_lt capacity floor
  floor_test reader are = rw (sym (capacity_is reader are), sym (floor_is reader are)) refl

  start_test : (reader : Reader) → IsReader reader → is_outside (start_of reader rows) (floor_of reader rows) (capacity_of reader rows) ≡ is_outside start floor capacity
  start_test reader are = rw (sym (capacity_is reader are), sym (start_too reader are), sym (floor_is reader are)) refl

  end_test : (reader : Reader) → IsReader reader → nat_lt (capacity_of reader rows) (end_of reader rows) ≡ nat_lt capacity end
  end_test reader are = rw (sym (capacity_is reader are), sym (end_too reader are)) refl

  pub floor_above : is_none value ≡ false → capacity < floor → Refuses (λ reader. level_refusals reader rows) (Range (row_of rows Floor))
  unfolding level_refusals
  floor_above some above reader are =
      test_next _ Missing _ _ (ap is_none (sym (value_is reader are)) ∙ some)
      (test_first _ (Range (row_of rows Floor)) _ (floor_test reader are ∙ below capacity floor above))

  pub start_outside : is_none value ≡ false → floor ≤ capacity → is_outside start floor capacity ≡ true
      → Refuses (λ reader. level_refusals reader rows) (Range (row_of rows Start))
  unfolding level_refusals
  start_outside some fits out reader are =
      test_next _ Missing _ _ (ap is_none (sym (value_is reader are)) ∙ some)
      (test_next _ (Range (row_of rows Floor)) _ _ (floor_test reader are ∙ not_below capacity floor fits)
      (test_first _ (Range (row_of rows Start)) _ (start_test reader are ∙ out)))

  pub end_above : is_none value ≡ false → floor ≤ capacity → is_outside start floor capacity ≡ false → capacity < end
      → Refuses (λ reader. level_refusals reader rows) (Range (row_of rows End))
  unfolding level_refusals
  end_above some fits inside above reader are =
      test_next _ Missing _ _ (ap is_none (sym (value_is reader are)) ∙ some)
      (test_next _ (Range (row_of rows Floor)) _ _ (floor_test reader are ∙ not_below capacity floor fits)
      (test_next _ (Range (row_of rows Start)) _ _ (start_test reader are ∙ inside)
      (test_first _ (Range (row_of rows End)) _ (end_test reader are ∙ below capacity end above))))

  pub levels_pass : is_none value ≡ false → floor ≤ capacity → is_outside start floor capacity ≡ false → end ≤ capacity
      → Passes (λ reader. level_refusals reader rows)
  unfolding level_refusals first_of
  levels_pass some fits inside last reader are =
      test_next _ Missing _ _ (ap is_none (sym (value_is reader are)) ∙ some)
      (test_next _ (Range (row_of rows Floor)) _ _ (floor_test reader are ∙ not_below capacity floor fits)
      (test_next _ (Range (row_of rows Start)) _ _ (start_test reader are ∙ inside)
      (test_next _ (Range (row_of rows End)) [] None (end_test reader are ∙ not_below capacity end last) refl)))
