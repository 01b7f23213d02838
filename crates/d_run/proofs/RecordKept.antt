-- Of a record file the first two rows of a label are kept: they have the outcome, and the line of a refusal, that all of them have.
use Rattle.std.proofs.Common.{◌≡◌, ◌∙◌, ℕ, List, [], ◌∷◌, take, filter, Option, None, Some, Result, refl, ap}
use Rattle.d_table.specs.Table.{kept_rows, has_value, column_of}
use Rattle.d_table.proofs.KeptFacts.{filter-first_two}
use Rattle.d_tariff.specs.Terms.{Terms}
use Rattle.d_urdb.specs.Numbers.{CellReader}
use Rattle.d_urdb.specs.Record.{IsOutcome, column_outcome, one_row_outcome, label_name}
use Rattle.d_urdb.specs.declared.fault.Refused.{Refused}
use Rattle.d_urdb.specs.declared.rule.RuleChoice.{RuleChoice}
use Rattle.d_run.specs.Record.{rows_with_label}
use Rattle.d_run.specs.RecordText.{record_text, hourly_text}
use Rattle.d_report.specs.Tariffs.{tariff_text}

-- none, one, or by the second row too many
first_two : (reader : CellReader) (header : List (List ℕ)) (rule : RuleChoice) (rows : List (List (List ℕ)))
    → one_row_outcome reader header rule (take 2 rows) ≡ one_row_outcome reader header rule rows
first_two reader header rule [] = refl
first_two reader header rule (row ∷ []) = refl
first_two reader header rule (row ∷ other ∷ more) = refl

column_kept : (reader : CellReader) (header : List (List ℕ)) (rows : List (List (List ℕ))) (label : List ℕ) (rule : RuleChoice) (column : Option ℕ)
    → column_outcome reader (header ∷ take 2 (filter (has_value (column_of label_name header) label) rows)) label rule column
    ≡ column_outcome reader (header ∷ filter (has_value (column_of label_name header) label) rows) label rule column
column_kept reader header rows label rule None = refl
column_kept reader header rows label rule (Some column) =
    let test = has_value (column_of label_name header) label in
    ap (one_row_outcome reader header rule) (filter-first_two test rows) ∙ first_two reader header rule (filter test (filter test rows))

-- the outcome in the kept rows is that in all rows of the label
pub outcome_kept : (rows : List (List (List ℕ))) (label : List ℕ) (rule : RuleChoice) (outcome : Result Terms Refused)
    → IsOutcome (kept_rows label_name label rows) label rule outcome → IsOutcome (rows_with_label label rows) label rule outcome
outcome_kept [] label rule outcome is = is
outcome_kept (header ∷ rows) label rule outcome is = (is.0, is.1, is.2 ∙ column_kept is.0 header rows label rule (column_of label_name header))

text_first : (header : List (List ℕ)) (rows : List (List (List ℕ))) (fault : Refused) → record_text (header ∷ take 2 rows) fault ≡ record_text (header ∷ rows) fault
text_first header [] fault = refl
text_first header (row ∷ rows) fault = refl

-- and so is a refusal's line, which shows a cell of the first row
pub text_kept : (rows : List (List (List ℕ))) (label : List ℕ) (fault : Refused)
    → record_text (kept_rows label_name label rows) fault ≡ record_text (rows_with_label label rows) fault
text_kept [] label fault = refl
text_kept (header ∷ rows) label fault = text_first header (filter (has_value (column_of label_name header) label) rows) fault

hourly_first : (header : List (List ℕ)) (rows : List (List (List ℕ))) → hourly_text (header ∷ take 2 rows) ≡ hourly_text (header ∷ rows)
hourly_first header [] = refl
hourly_first header (row ∷ rows) = refl

-- the line of a record that can't be settled
pub hourly_kept : (rows : List (List (List ℕ))) (label : List ℕ) → hourly_text (kept_rows label_name label rows) ≡ hourly_text (rows_with_label label rows)
hourly_kept [] label = refl
hourly_kept (header ∷ rows) label = hourly_first header (filter (has_value (column_of label_name header) label) rows)

-- the text of a tariff, which shows names of the header
pub tariff_kept : (rows : List (List (List ℕ))) (label : List ℕ) (terms : Terms)
    → tariff_text (kept_rows label_name label rows) label terms ≡ tariff_text (rows_with_label label rows) label terms
tariff_kept [] label terms = refl
tariff_kept (header ∷ rows) label terms = refl
