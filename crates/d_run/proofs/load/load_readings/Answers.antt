use Rattle.std.proofs.Common.{◌∙◌}
use Rattle.d_table.specs.Table.{rows_of}
use Rattle.d_meter.specs.declared.meter.Meter.{Meter}
use Rattle.d_meter.specs.Shown.{metered_of}
use Rattle.d_run.specs.Answer.{MeansReadings, RefusesReadings, longest_file}
use Rattle.d_run.specs.declared.fault.Refusal.TheVariants.{LongReadings}
use Rattle.d_run.proofs.StageFacts.{stage_from}
use Rattle.d_run.proofs.load.load_readings.Goals as goal

pub returns-clause-told : goal.returns-clause-told
returns-clause-told g c t =
    let loaded = c.in_ok-bytes.ensures.told t in
    stage_from {T = Meter} (g.D.Desk.scene c.args.desk.now).files c.args.name.now longest_file LongReadings c.as_slice.result.now
    (λ bytes value. MeansReadings (rows_of bytes) (metered_of value)) (λ bytes. RefusesReadings (rows_of bytes)) _ _ c.read_readings.result loaded.0
    (c.as_slice.ensures.value ∙ loaded.1.bytes_are) loaded.1.within c.read_readings.ensures
