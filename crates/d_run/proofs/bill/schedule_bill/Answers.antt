use Rattle.std.proofs.Common.{refl, ◌∙◌, ap}
use Rattle.std.proofs.lemmas.Result.{IfOk-weaker}
use Rattle.d_bill.specs.Totals.{tally_of}
use Rattle.d_report.specs.Charges.{bill_text}
use Rattle.d_run.specs.Answer.{says, billed, broken}
use Rattle.d_run.specs.Text.{break_text}
use Rattle.d_run.specs.declared.verdict.Verdict.TheVariants.{Done, NoSchedule}
use Rattle.d_run.proofs.bill.schedule_bill.Goals as goal

pub returns-in-Ok : goal.returns-in-Ok
returns-in-Ok c =
    IfOk-weaker c.bill_reply.result _ _ (λ reply says_bill. record {
      answer = says Done (bill_text c.args.problem.now c.args.label.now (tally_of c.args.problem.now c.args.schedule.now));
      is = billed c.in-Ok.ensures.feasible refl;
      verdict_is = says_bill.0;
      text_is = says_bill.1 ∙ ap (bill_text c.args.problem.now c.args.label.now) c.in-Ok.ensures.tally;
      alone = refl;
      unwritten = refl;
    }) c.bill_reply.ensures

pub returns-in-Err : goal.returns-in-Err
returns-in-Err c =
    IfOk-weaker c.break_reply.result _ _ (λ reply says_break. record {
      answer = says NoSchedule (break_text c.in-Err.at.interval);
      is = broken c.in-Err.at.interval c.in-Err.ensures.refused refl;
      verdict_is = says_break.0;
      text_is = says_break.1;
      alone = refl;
      unwritten = refl;
    }) c.break_reply.ensures
