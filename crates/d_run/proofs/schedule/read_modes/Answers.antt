use Rattle.std.proofs.Common.{◌≡◌, inr, List, ℕ, subst}
use Rattle.d_table.specs.Table.{rows_of}
use Rattle.d_bill.specs.ScheduleFile.{IsScheduleFault}
use Rattle.d_run.specs.Answer.{RefusesSchedule, refused}
use Rattle.d_run.specs.declared.fault.Refusal.TheVariants.{Schedule}
use Rattle.d_run.proofs.StageFacts.{ends_weaker}
use Rattle.d_run.proofs.schedule.read_modes.Goals as goal

pub returns : goal.returns
returns c =
    let i = c.args.problem.now in
    let table = c.in_ok-table.ensures in
    let P : List (List (List ℕ)) → Type 0 = λ rows. IsScheduleFault i rows c.in-Err.fault in
    let found = subst P table.0 c.in-Err.ensures.fault in
    ends_weaker (λ end. end ≡ refused (Schedule c.in-Err.fault)) (RefusesSchedule i (rows_of c.args.bytes.now)) c.fault.result
    (λ end same. inr (c.in-Err.fault, table.1, found, same)) c.fault.ensures
