-- The record of a label in a record file.
use Rattle.std.specs.Prelude.{ℕ, List, Result, Ok, Err}
use Rattle.d_table.specs.Table.{IsRectangular, rows_where}
use Rattle.d_tariff.specs.Terms.{Terms}
use Rattle.d_urdb.specs.Record.{IsOutcome, label_name}
use Rattle.d_urdb.specs.declared.fault.Refused.{Refused}
use Rattle.d_urdb.specs.declared.rule.RuleChoice.{RuleChoice}

-- the header and the rows of this label
abbrev pub rows_with_label : List ℕ → List (List (List ℕ)) → List (List (List ℕ))
rows_with_label label rows = rows_where label_name label rows

-- the rows have one length, and this is the outcome of the record with this label
pub record HasOutcome (rows : List (List (List ℕ))) (label : List ℕ) (rule : RuleChoice) (outcome : Result Terms Refused) : Type 0 where
  pub rectangular : IsRectangular rows
  pub is : IsOutcome (rows_with_label label rows) label rule outcome

-- the record with this label has these terms
abbrev pub IsRecord : List (List (List ℕ)) → List ℕ → RuleChoice → Terms → Type 0
IsRecord rows label rule terms = HasOutcome rows label rule (Ok terms)

-- the record with this label is refused so
abbrev pub IsRecordFault : List (List (List ℕ)) → List ℕ → RuleChoice → Refused → Type 0
IsRecordFault rows label rule fault = HasOutcome rows label rule (Err fault)
