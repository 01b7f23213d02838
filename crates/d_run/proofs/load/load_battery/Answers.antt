use Rattle.std.proofs.Common.{◌∙◌}
use Rattle.d_table.specs.Table.{rows_of}
use Rattle.d_batt.specs.declared.battery.Battery.{Battery as Stored}
use Rattle.d_batt.specs.Shown.{storage_of}
use Rattle.d_run.specs.Answer.{MeansBattery, RefusesBattery, longest_file}
use Rattle.d_run.specs.declared.fault.Refusal.TheVariants.{LongBattery}
use Rattle.d_run.proofs.StageFacts.{stage_from}
use Rattle.d_run.proofs.load.load_battery.Goals as goal

pub returns-clause-told : goal.returns-clause-told
returns-clause-told g c t =
    let loaded = c.in_ok-bytes.ensures.told t in
    stage_from {T = Stored} (g.D.Desk.scene c.args.desk.now).files c.args.name.now longest_file LongBattery c.as_slice.result.now
    (λ bytes value. MeansBattery (rows_of bytes) (storage_of value)) (λ bytes. RefusesBattery (rows_of bytes)) _ _ c.read_battery.result loaded.0
    (c.as_slice.ensures.value ∙ loaded.1.bytes_are) loaded.1.within c.read_battery.ensures
