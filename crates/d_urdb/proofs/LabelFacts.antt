-- The rows that have a label.
use Rattle.std.proofs.Common.{◌≡◌, ◌∙◌, ◌<◌, ◌+◌, ℕ, suc, Bool, true, false, List, [], ◌∷◌, ◌++◌, bytes_eq, length, take, drop, get_or, filter, cond, Option, None, Some, Err, arith, sym, ap}
use Rattle.std.proofs.lemmas.Grind.{get_or_after_one}
use Rattle.std.proofs.lemmas.List.{take-append-drop, length-drop}
use Rattle.std.proofs.lemmas.List.Elements.{filter_more, filter-append}
use Rattle.std.specs.Option.{is_some}
use Rattle.d_table.specs.Table.{column_of, cell_in, row_at, has_value}
use Rattle.d_urdb.specs.declared.rule.RuleChoice.{RuleChoice}
use Rattle.d_urdb.specs.Numbers.{CellReader}
use Rattle.d_urdb.specs.Refusals.{refusal}
use Rattle.d_urdb.specs.Record.{label_name, one_row_outcome, column_outcome, record_outcome}
use Rattle.d_urdb.specs.declared.cause.Cause.TheVariants as cause

-- of the first data rows, so many of them, none has the label in this column, or this one alone
abbrev pub IsOnly : List (List (List ℕ)) → List ℕ → ℕ → ℕ → Option ℕ → Type 0
IsOnly rows label column count None = filter (has_value (Some column) label) (take count (drop 1 rows)) ≡ []
IsOnly rows label column count (Some row) =
    (row < count) × (filter (has_value (Some column) label) (take count (drop 1 rows)) ≡ row_at rows (suc row) ∷ [])

-- whether a row has the label, by its cell
pub label_test : (rows : List (List (List ℕ))) (label cell : List ℕ) (column row : ℕ) (test is : Bool) → cell ≡ cell_in (row_at rows (row + 1)) column
    → test ≡ bytes_eq cell label → test ≡ is → has_value (Some column) label (row_at rows (suc row)) ≡ is
label_test rows label cell column row test is cell_is test_is same =
    ap (λ n. bytes_eq (cell_in (row_at rows n) column) label) (omega arith) ∙ ap (λ cell. bytes_eq cell label) (sym cell_is) ∙ sym test_is ∙ same

-- one more row
more : (rows : List (List (List ℕ))) (label : List ℕ) (column count : ℕ) (is : Bool) → count + 1 < length rows
    → has_value (Some column) label (row_at rows (suc count)) ≡ is
    → filter (has_value (Some column) label) (take (count + 1) (drop 1 rows))
    ≡ filter (has_value (Some column) label) (take count (drop 1 rows)) ++ cond is (row_at rows (suc count) ∷ []) []
more rows label column count is within test =
    let count_in : count < length (drop 1 rows) = omega (arith, length-drop 1 rows) in
    let here : get_or (drop 1 rows) count [] ≡ row_at rows (suc count) = get_or_after_one rows count [] ∙ ap (λ n. row_at rows n) (omega arith) in
    filter_more (has_value (Some column) label) (drop 1 rows) count [] count_in
    ∙ ap (λ row. filter (has_value (Some column) label) (take count (drop 1 rows)) ++ cond (has_value (Some column) label row) (row ∷ []) []) here
    ∙ ap (λ test. filter (has_value (Some column) label) (take count (drop 1 rows)) ++ cond test (row_at rows (suc count) ∷ []) []) test

-- a row of another label
pub only_other : (rows : List (List (List ℕ))) (label : List ℕ) (column count : ℕ) (found : Option ℕ) → count + 1 < length rows
    → has_value (Some column) label (row_at rows (suc count)) ≡ false → IsOnly rows label column count found → IsOnly rows label column (count + 1) found
only_other rows label column count None within other only = more rows label column count false within other ∙ ap (λ xs. xs ++ []) only
only_other rows label column count (Some row) within other only =
    (omega (arith, only.0), more rows label column count false within other ∙ ap (λ xs. xs ++ []) only.1)

-- the first row of the label
pub only_here : (rows : List (List (List ℕ))) (label : List ℕ) (column count : ℕ) (found : Option ℕ) → is_some found ≡ false → count + 1 < length rows
    → has_value (Some column) label (row_at rows (suc count)) ≡ true → IsOnly rows label column count found → IsOnly rows label column (count + 1) (Some count)
only_here rows label column count None none within here only =
    (omega arith, more rows label column count true within here ∙ ap (λ xs. xs ++ row_at rows (suc count) ∷ []) only)
only_here rows label column count (Some row) none within here only = let one : true ≡ false = none in absurd cc

-- the outcome, by the rows that have the label
outcome_of : (rows : List (List (List ℕ))) (label : List ℕ) (column : ℕ) (reader : CellReader) (rule : RuleChoice) (found : List (List (List ℕ)))
    → column_of label_name (row_at rows 0) ≡ Some column → filter (has_value (Some column) label) (drop 1 rows) ≡ found
    → record_outcome reader rows label rule ≡ one_row_outcome reader (row_at rows 0) rule found
outcome_of rows label column reader rule found named are =
    ap (λ o. column_outcome reader rows label rule o) named
    ∙ ap (λ o. one_row_outcome reader (row_at rows 0) rule (filter (has_value o label) (drop 1 rows))) named
    ∙ ap (λ found. one_row_outcome reader (row_at rows 0) rule found) are

-- a second row of the label is refused
pub second_refused : (rows : List (List (List ℕ))) (label : List ℕ) (column count : ℕ) (found : Option ℕ) (reader : CellReader) (rule : RuleChoice)
    → is_some found ≡ true → count + 1 < length rows
    → has_value (Some column) label (row_at rows (suc count)) ≡ true → IsOnly rows label column count found
    → column_of label_name (row_at rows 0) ≡ Some column
    → record_outcome reader rows label rule ≡ Err (refusal (row_at rows 0) cause.LabelTwice None 0)
second_refused rows label column count None reader rule some within here only named = let none : false ≡ true = some in absurd cc
second_refused rows label column count (Some row) reader rule some within here only named =
    let test = has_value (Some column) label in
    let two : filter test (take (count + 1) (drop 1 rows)) ≡ row_at rows (suc row) ∷ row_at rows (suc count) ∷ [] =
    more rows label column count true within here ∙ ap (λ xs. xs ++ row_at rows (suc count) ∷ []) only.1 in
    let all : filter test (drop 1 rows) ≡ row_at rows (suc row) ∷ row_at rows (suc count) ∷ filter test (drop (count + 1) (drop 1 rows)) =
    ap (λ xs. filter test xs) (sym (take-append-drop (count + 1) (drop 1 rows))) ∙ filter-append test (take (count + 1) (drop 1 rows)) (drop (count + 1) (drop 1 rows))
    ∙ ap (λ xs. xs ++ filter test (drop (count + 1) (drop 1 rows))) two in
    outcome_of rows label column reader rule _ named all
