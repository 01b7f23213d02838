use Rattle.d_run.proofs.request.answer_task.Goals as goal

pub returns-in-Plan-clause-told : goal.returns-in-Plan-clause-told
returns-in-Plan-clause-told g c t = rw c.in-Plan.is (c.answer_plan.ensures.told t)

pub returns-in-ScheduleBill-clause-told : goal.returns-in-ScheduleBill-clause-told
returns-in-ScheduleBill-clause-told g c t = rw c.in-ScheduleBill.is (c.answer_bill.ensures.told t)
