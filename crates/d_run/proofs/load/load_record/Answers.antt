use Rattle.std.proofs.Common.{◌∙◌}
use Rattle.d_table.specs.Table.{rows_of}
use Rattle.d_run.specs.declared.record.Recorded.{Recorded}
use Rattle.d_run.specs.Replies.{IsRecorded}
use Rattle.d_run.specs.Answer.{RefusesRecord, longest_record}
use Rattle.d_run.specs.declared.fault.Refusal.TheVariants.{LongRecord}
use Rattle.d_run.proofs.StageFacts.{stage_from}
use Rattle.d_run.proofs.load.load_record.Goals as goal

pub returns-clause-told : goal.returns-clause-told
returns-clause-told g c t =
    let loaded = c.in_ok-bytes.ensures.told t in
    stage_from {T = Recorded} (g.D.Desk.scene c.args.desk.now).files c.args.name.now longest_record LongRecord c.as_slice.result.now
    (λ bytes recorded. IsRecorded (rows_of bytes) c.args.label.now c.args.rule recorded) (λ bytes. RefusesRecord (rows_of bytes) c.args.label.now c.args.rule)
    _ _ c.read_record.result loaded.0 (c.as_slice.ensures.value ∙ loaded.1.bytes_are) loaded.1.within c.read_record.ensures
