-- A record file has one record's terms, or one refusal.
use Rattle.std.proofs.Common.{◌≡◌, ◌⊎◌, inl, inr, ℕ, zero, suc, ◌+◌, ◌<◌, List, [], ◌∷◌, length, get_or, Result, Ok, Err, refl, sym, ap, subst, ◌∙◌, arith}
use Rattle.std.proofs.lemmas.List.{get_or_default}
use Rattle.d_table.specs.Table.{row_at, kept_rows, IsRectangular, IsFirstOdd}
use Rattle.d_tariff.specs.Terms.{Terms}
use Rattle.d_urdb.specs.Numbers.{CellReader}
use Rattle.d_urdb.proofs.OneReader.{one_reader}
use Rattle.d_urdb.specs.Record.{IsOutcome, label_name, record_outcome}
use Rattle.d_urdb.specs.declared.fault.Refused.{Refused}
use Rattle.d_urdb.specs.declared.rule.RuleChoice.{RuleChoice}
use Rattle.d_run.specs.Record.{HasOutcome, IsRecord, IsRecordFault, rows_with_label}
use Rattle.d_run.specs.RecordText.{record_text}
use Rattle.d_run.proofs.OddRows.{no_odd}
use Rattle.d_run.specs.Answer.{Answer, says, refused, RefusesRecord}
use Rattle.d_run.specs.declared.verdict.Verdict.TheVariants.{Record}
use Rattle.d_run.specs.declared.fault.Refusal.TheVariants.{RecordShape}
use Rattle.d_run.proofs.RecordKept.{outcome_kept, text_kept}
use Rattle.d_bill.proofs.Deciding.{Decided, holds, fails, same_number}
use Rattle.d_run.specs.Replies.{EndsBy}
use Rattle.d_run.specs.declared.fault.Fault.{Fault}
use Rattle.d_run.proofs.StageFacts.{IsKnown, known_refused, known_value, ends_weaker}

-- a record's refusal, told of the rows with its label, ends the answer
pub record_ends : (rows table : List (List (List ℕ))) (label text : List ℕ) (rule : RuleChoice) (why : Refused) (fault : Fault) → IsRectangular rows
    → table ≡ kept_rows label_name text rows → text ≡ label → IsOutcome table text rule (Err why) → EndsBy (λ end. end ≡ says Record (record_text table why)) fault
    → EndsBy (RefusesRecord rows label rule) fault
record_ends rows table label text rule why fault even kept same outcome ends =
    let P : List (List (List ℕ)) → Type 0 = λ t. IsOutcome t text rule (Err why) in
    let Q : List ℕ → Type 0 = λ l. IsOutcome (rows_with_label l rows) l rule (Err why) in
    let shown : record_text table why ≡ record_text (rows_with_label label rows) why =
    ap (λ (t : List (List (List ℕ))). record_text t why) kept ∙ text_kept rows text why ∙ ap (λ (l : List ℕ). record_text (rows_with_label l rows) why) same in
    ends_weaker (λ end. end ≡ says Record (record_text table why)) (RefusesRecord rows label rule) fault
    (λ end is. inr (why, record { rectangular = even; is = subst Q same (outcome_kept rows text rule (Err why) (subst P kept outcome)) }, is ∙ ap (λ (t : List ℕ). says Record t) shown)) ends

-- a record's terms in the kept rows are those of the file
pub record_is : (rows table : List (List (List ℕ))) (label text : List ℕ) (rule : RuleChoice) (terms : Terms) → IsRectangular rows
    → table ≡ kept_rows label_name text rows → text ≡ label → IsOutcome table text rule (Ok terms) → IsRecord rows label rule terms
record_is rows table label text rule terms even kept same outcome =
    let P : List (List (List ℕ)) → Type 0 = λ t. IsOutcome t text rule (Ok terms) in
    let Q : List ℕ → Type 0 = λ l. IsOutcome (rows_with_label l rows) l rule (Ok terms) in
    record { rectangular = even; is = subst Q same (outcome_kept rows text rule (Ok terms) (subst P kept outcome)) }

-- two rows that are first odd are one
odd_same : (rows : List (List (List ℕ))) (a b : ℕ) → IsFirstOdd rows a → IsFirstOdd rows b → a ≡ b
odd_same rows a b one other = order (λ lt. one.odd (other.before a lt)) (λ lt. other.odd (one.before b lt))
  where
    order : (a < b → ⊥) → (b < a → ⊥) → a ≡ b
    order low high = omega arith

-- the first n data rows have the header's length, or one of them is the first that hasn't
abbrev FirstOdd : List (List (List ℕ)) → ℕ → Type 0
FirstOdd rows n = ((row : ℕ) → row < n → length (row_at rows (row + 1)) ≡ length (row_at rows 0)) ⊎ ((row : ℕ) × IsFirstOdd rows row)

first_odd : (rows : List (List (List ℕ))) (n : ℕ) → n < length rows → FirstOdd rows n
first_odd rows zero there = inl (λ row lt. absurd (omega arith))
first_odd rows (suc n) there = by_first (first_odd rows n (omega (arith, there)))
  where
    last : ((row : ℕ) → row < n → length (row_at rows (row + 1)) ≡ length (row_at rows 0)) → length (row_at rows (n + 1)) ≡ length (row_at rows 0)
        → (row : ℕ) → row < suc n → Decided (row ≡ n) → length (row_at rows (row + 1)) ≡ length (row_at rows 0)
    last below at row lt (holds same) = rw same at
    last below at row lt (fails other) = below row (omega arith)

    by_last : ((row : ℕ) → row < n → length (row_at rows (row + 1)) ≡ length (row_at rows 0)) → Decided (length (row_at rows (n + 1)) ≡ length (row_at rows 0)) → FirstOdd rows (suc n)
    by_last below (holds at) = inl (λ row lt. last below at row lt (same_number row n))
    by_last below (fails odd) = inr (n, record { there = omega (arith, there); odd = odd; before = below })

    by_first : FirstOdd rows n → FirstOdd rows (suc n)
    by_first (inl below) = by_last below (same_number (length (row_at rows (n + 1))) (length (row_at rows 0)))
    by_first (inr first) = inr first

-- rows have one length, or a first odd one
even_or_odd : (rows : List (List (List ℕ))) → IsRectangular rows ⊎ ((row : ℕ) × IsFirstOdd rows row)
even_or_odd [] = inl (λ row d lt. absurd (omega (arith, lt)))
even_or_odd (header ∷ rest) = by_first (first_odd (header ∷ rest) (length rest) (omega arith))
  where
    by_first : FirstOdd (header ∷ rest) (length rest) → IsRectangular (header ∷ rest) ⊎ ((row : ℕ) × IsFirstOdd (header ∷ rest) row)
    by_first (inr odd) = inr odd
    by_first (inl even) = inl each
      where
        each : (row : ℕ) (d : List (List ℕ)) → row < length (header ∷ rest) → length (get_or (header ∷ rest) row d) ≡ length (row_at (header ∷ rest) 0)
        each zero d lt = refl
        each (suc row) d lt =
            let at : length (row_at (header ∷ rest) (row + 1)) ≡ length header = even row (omega (arith, lt)) in
            let next : row + 1 ≡ suc row = omega arith in
            ap (λ (cells : List (List ℕ)). length cells) (get_or_default (header ∷ rest) (suc row) d [] lt)
            ∙ sym (ap (λ (n : ℕ). length (row_at (header ∷ rest) n)) next) ∙ at

-- rows have one length, or they haven't
pub even_decided : (rows : List (List (List ℕ))) → Decided (IsRectangular rows)
even_decided rows = by_odd (even_or_odd rows)
  where
    by_odd : IsRectangular rows ⊎ ((row : ℕ) × IsFirstOdd rows row) → Decided (IsRectangular rows)
    by_odd (inl even) = holds even
    by_odd (inr odd) = fails (λ even. no_odd rows odd.0 even odd.1)

-- a record has one outcome
outcome_same : (rows : List (List (List ℕ))) (label : List ℕ) (rule : RuleChoice) (one other : Result Terms Refused) → HasOutcome rows label rule one
    → HasOutcome rows label rule other → one ≡ other
outcome_same rows label rule one other is is_other = known one is ∙ sym (known other is_other)
  where
    known : (outcome : Result Terms Refused) → HasOutcome rows label rule outcome → outcome ≡ record_outcome one_reader.reader (rows_with_label label rows) label rule
    known outcome has =
        has.is.2 ∙ ap (λ (reader : CellReader). record_outcome reader (rows_with_label label rows) label rule) (one_reader.only has.is.0 has.is.1)

-- a record file has one record's terms, or one refusal
pub record_known : (rows : List (List (List ℕ))) (label : List ℕ) (rule : RuleChoice) → IsKnown (RefusesRecord rows label rule) (IsRecord rows label rule)
record_known rows label rule = by_shape (even_or_odd rows)
  where
    odd_only : (row : ℕ) → IsFirstOdd rows row → (end : Answer) → RefusesRecord rows label rule end → end ≡ refused (RecordShape row)
    odd_only row odd end (inl other) = other.2 ∙ ap (λ (n : ℕ). refused (RecordShape n)) (odd_same rows other.0 row other.1 odd)
    odd_only row odd end (inr fault) = absurd (no_odd rows row fault.1.rectangular odd)

    fault_only : (fault : Refused) → IsRecordFault rows label rule fault → (end : Answer) → RefusesRecord rows label rule end
        → end ≡ says Record (record_text (rows_with_label label rows) fault)
    fault_only fault is end (inl odd) = absurd (no_odd rows odd.0 is.rectangular odd.1)
    fault_only fault is end (inr other) =
        let both = outcome_same rows label rule (Err other.0) (Err fault) other.1 is in
        let same : other.0 ≡ fault = cc in
        other.2 ∙ ap (λ (f : Refused). says Record (record_text (rows_with_label label rows) f)) same

    not_both : (terms : Terms) (fault : Refused) → IsRecord rows label rule terms → IsRecordFault rows label rule fault → ⊥
    not_both terms fault is is_fault = let both = outcome_same rows label rule (Ok terms) (Err fault) is is_fault in absurd (cc)

    not_refused : (terms : Terms) → IsRecord rows label rule terms → (end : Answer) → RefusesRecord rows label rule end → ⊥
    not_refused terms is end (inl odd) = no_odd rows odd.0 is.rectangular odd.1
    not_refused terms is end (inr fault) = not_both terms fault.0 is fault.1

    terms_same : (one other : Terms) → IsRecord rows label rule one → IsRecord rows label rule other → other ≡ one
    terms_same one other is is_other = let both = outcome_same rows label rule (Ok one) (Ok other) is is_other in cc

    by_outcome : (outcome : Result Terms Refused) → HasOutcome rows label rule outcome → IsKnown (RefusesRecord rows label rule) (IsRecord rows label rule)
    by_outcome (Ok terms) is = known_value terms is (λ other means. terms_same terms other is means) (not_refused terms is)
    by_outcome (Err fault) is = known_refused (says Record (record_text (rows_with_label label rows) fault)) (inr (fault, is, refl)) (fault_only fault is)
        (λ terms means. not_both terms fault means is)

    by_shape : IsRectangular rows ⊎ ((row : ℕ) × IsFirstOdd rows row) → IsKnown (RefusesRecord rows label rule) (IsRecord rows label rule)
    by_shape (inl even) = by_outcome (record_outcome one_reader.reader (rows_with_label label rows) label rule)
        (record { rectangular = even; is = (one_reader.reader, one_reader.is_reader, refl) })
    by_shape (inr odd) = known_refused (refused (RecordShape odd.0)) (inl (odd.0, odd.1, refl)) (odd_only odd.0 odd.1)
        (λ terms means. no_odd rows odd.0 means.rectangular odd.1)
