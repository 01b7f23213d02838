-- The outcome of a record by that of its row.
use Rattle.std.proofs.Common.{◌≡◌, ◌∙◌, ℕ, List, Some, Ok, Err, refl, sym, ap}
use Rattle.d_urdb.specs.declared.terms.Accepted.{Accepted}
use Rattle.d_tariff.specs.Terms.{Terms}
use Rattle.d_urdb.specs.declared.fault.Refused.{Refused}
use Rattle.d_urdb.specs.declared.fault.RecordFault.{RecordFault}
use Rattle.d_urdb.specs.declared.fault.RecordFault.TheVariants as fault
use Rattle.d_urdb.specs.declared.rule.RuleChoice.{RuleChoice}
use Rattle.d_urdb.specs.Numbers.{CellReader, IsCellReader}
use Rattle.d_columns.specs.Tiers.{data_row}
use Rattle.d_urdb.specs.Record.{record_outcome, row_outcome, row_refusals, row_terms, refused_or, IsOutcome, HasOneOutcome}
use Rattle.d_urdb.specs.Checks.{Passes, ChecksOrNot}
use Rattle.d_urdb.proofs.OneReader.{one_reader}

-- the record's outcome is that of this row
abbrev pub IsRowOf : List (List (List ℕ)) → List ℕ → ℕ → Type 0
IsRowOf rows label row =
    (reader : CellReader) (rule : RuleChoice) → record_outcome reader rows label rule ≡ row_outcome reader (data_row rows row) rule

-- a fault is one refusal
same_refused : (found refused : Refused) → fault.Refused found ≡ fault.Refused refused → found ≡ refused
same_refused found refused same = cc

-- no row has the label, or several have it
pub label_refused : (rows : List (List (List ℕ))) (label : List ℕ) (rule : RuleChoice) (found refused : Refused)
    → ((reader : CellReader) (rule : RuleChoice) → record_outcome reader rows label rule ≡ Err found) → fault.Refused found ≡ fault.Refused refused
    → IsOutcome rows label rule (Err refused)
label_refused rows label rule found refused outcome same =
    (one_reader.reader, one_reader.is_reader, sym (outcome one_reader.reader rule ∙ ap (λ r. Err r) (same_refused found refused same)))

-- the row is refused
pub row_refused : (rows : List (List (List ℕ))) (label : List ℕ) (row : ℕ) (rule : RuleChoice) (found : RecordFault) (refused : Refused) → IsRowOf rows label row
    → ChecksOrNot {A = Accepted} (λ reader. row_refusals reader (data_row rows row) rule) (Err found) → found ≡ fault.Refused refused
    → IsOutcome rows label rule (Err refused)
unfolding row_outcome
row_refused rows label row rule (fault.Refused found) refused is refuses same =
    let reader = one_reader.reader in
    let first = refuses reader one_reader.is_reader ∙ ap (λ r. Some r) (same_refused found refused same) in
    (reader, one_reader.is_reader, sym (is reader rule ∙ ap (λ first. refused_or first (row_terms reader (data_row rows row) rule)) first))
row_refused rows label row rule fault.Memory refused is refuses same = absurd (cc)

-- the row isn't refused, and these are its terms
pub row_read : (rows : List (List (List ℕ))) (label : List ℕ) (row : ℕ) (rule : RuleChoice) (terms : Terms) → IsRowOf rows label row
    → Passes (λ reader. row_refusals reader (data_row rows row) rule)
    → ((reader : CellReader) → IsCellReader reader → terms ≡ row_terms reader (data_row rows row) rule) → IsOutcome rows label rule (Ok terms)
unfolding row_outcome
row_read rows label row rule terms is passes terms_are =
    let reader = one_reader.reader in (
      reader,
      one_reader.is_reader,
      ap (λ terms. Ok terms) (terms_are reader one_reader.is_reader)
          ∙ sym (is reader rule ∙ ap (λ first. refused_or first (row_terms reader (data_row rows row) rule)) (passes reader one_reader.is_reader)),
    )

-- each record has one outcome
pub one_outcome : HasOneOutcome
one_outcome rows label rule = (
  record_outcome one_reader.reader rows label rule,
  (one_reader.reader, one_reader.is_reader, refl),
  λ other is. is.2 ∙ ap (λ (reader : CellReader). record_outcome reader rows label rule) (one_reader.only is.0 is.1),
)
