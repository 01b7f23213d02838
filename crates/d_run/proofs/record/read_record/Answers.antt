use Rattle.std.proofs.Common.{◌∙◌, ℕ, List, ap}
use Rattle.d_table.specs.Table.{rows_of, kept_rows}
use Rattle.d_urdb.specs.Record.{label_name}
use Rattle.d_tariff.specs.Shown.{terms_of}
use Rattle.d_run.proofs.RecordFound.{record_ends, record_is}
use Rattle.d_run.proofs.record.read_record.Goals as goal

pub returns-in-Ok-read_record : goal.returns-in-Ok-read_record
returns-in-Ok-read_record c = record {
  table = c.in-Ok.ensures.value ∙ ap (λ (text : List ℕ). kept_rows label_name text (rows_of c.args.bytes.now)) c.as_bytes-label.ensures.value;
  terms = record_is (rows_of c.args.bytes.now) c.in-Ok.table c.args.label.now c.as_bytes-label.result.now c.args.rule (terms_of c.in-Ok-read_record.tariff)
      c.in-Ok.ensures.rectangular c.in-Ok.ensures.value c.as_bytes-label.ensures.value c.in-Ok-read_record.ensures.tariff;
}

pub returns-in-Err-Refused : goal.returns-in-Err-Refused
returns-in-Err-Refused c =
    record_ends (rows_of c.args.bytes.now) c.in-Ok.table c.args.label.now c.as_bytes-label.result.now c.args.rule c.in-Err-Refused.refused c.record_fault.result
    c.in-Ok.ensures.rectangular c.in-Ok.ensures.value c.as_bytes-label.ensures.value (c.in-Err-Refused.ensures.refused c.in-Err-Refused.refused c.in-Err-Refused.field-0-is)
    c.record_fault.ensures
