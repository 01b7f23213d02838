use Rattle.std.proofs.Common.{Err, subst}
use Rattle.std.proofs.lemmas.Result.{err_from_is_err_and}
use Rattle.d_columns.specs.Tiers.{Row}
use Rattle.d_tariff.specs.Shown.{terms_of}
use Rattle.d_urdb.specs.declared.terms.Accepted.{Accepted}
use Rattle.d_urdb.specs.Checks.{Passes, ChecksOrNot}
use Rattle.d_urdb.specs.Numbers.{Reads}
use Rattle.d_urdb.specs.Record.{row_refusals, row_terms}
use Rattle.d_urdb.proofs.OutcomeFacts.{label_refused, row_refused, row_read}
use Rattle.d_urdb.proofs.record.read_record.Goals as goal

pub returns-in_err-row-clause-refused : goal.returns-in_err-row-clause-refused
returns-in_err-row-clause-refused c =
    let p = err_from_is_err_and c.from_residual.result c.from_residual.ensures.1 in
    rw (p.1, p.2) (λ refused. label_refused c.args.table.now c.args.label.now c.args.rule c.in_err-row.field-0.0 refused c.in_err-row.ensures.refused)

pub returns-in_err-accepted-clause-refused : goal.returns-in_err-accepted-clause-refused
returns-in_err-accepted-clause-refused c =
    let p = err_from_is_err_and c.from_residual-in_err-accepted.result c.from_residual-in_err-accepted.ensures.1 in
    rw (p.1, p.2) (λ refused. row_refused c.args.table.now c.args.label.now c.in_ok-row.row c.args.rule c.in_err-accepted.field-0.0 refused
    c.in_ok-row.ensures.row
    (subst (λ (row : Row). ChecksOrNot {A = Accepted} (λ reader. row_refusals reader row c.args.rule) (Err c.in_err-accepted.field-0.0)) c.in_ok-cells.ensures
    c.in_err-accepted.ensures.refusals))

pub returns-clause-tariff : goal.returns-clause-tariff
returns-clause-tariff c =
    row_read c.args.table.now c.args.label.now c.in_ok-row.row c.args.rule (terms_of c.in_ok-tariff.tariff)
    c.in_ok-row.ensures.row
    (subst (λ (row : Row). Passes (λ reader. row_refusals reader row c.args.rule)) c.in_ok-cells.ensures c.in_ok-accepted.ensures.refusals)
    (subst (λ (row : Row). Reads (λ reader. row_terms reader row c.args.rule) (terms_of c.in_ok-tariff.tariff)) c.in_ok-cells.ensures c.in_ok-tariff.ensures)
