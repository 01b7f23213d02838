use Rattle.std.proofs.Common.{◌∙◌, ℕ, Vec}
use Rattle.std.specs.declared.alloc.Global.{Global}
use Rattle.d_table.specs.Table.{rows_of}
use Rattle.d_run.specs.Answer.{MeansSchedule, RefusesSchedule, longest_file}
use Rattle.d_run.specs.declared.fault.Refusal.TheVariants.{LongSchedule}
use Rattle.d_run.proofs.StageFacts.{stage_from}
use Rattle.d_run.proofs.load.load_schedule.Goals as goal

pub returns-clause-told : goal.returns-clause-told
returns-clause-told g c t =
    let loaded = c.in_ok-bytes.ensures.told t in
    stage_from {T = Vec ℕ Global} (g.D.Desk.scene c.args.desk.now).files c.args.name.now longest_file LongSchedule c.as_slice.result.now (λ bytes modes. MeansSchedule c.args.problem.now (rows_of bytes) modes.items)
    (λ bytes. RefusesSchedule c.args.problem.now (rows_of bytes)) _ _ c.read_modes.result loaded.0
    (c.as_slice.ensures.value ∙ loaded.1.bytes_are) loaded.1.within c.read_modes.ensures
