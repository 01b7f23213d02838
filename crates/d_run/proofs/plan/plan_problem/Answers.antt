use Rattle.std.proofs.Common.{arith}
use Rattle.std.proofs.lemmas.Result.{IfOk-weaker}
use Rattle.d_run.specs.declared.fault.Refusal.TheVariants.{Product}
use Rattle.d_run.specs.Answer.{IsPlanned, refusal_verdict, refusal_text}
use Rattle.d_run.specs.Replies.{IsReply, Shows}
use Rattle.d_run.proofs.PlanReplies.{large_reply, within_reply}
use Rattle.d_run.proofs.plan.plan_problem.Goals as goal

pub returns-then-size-gt-PRODUCT_LIMIT : goal.returns-then-size-gt-PRODUCT_LIMIT
returns-then-size-gt-PRODUCT_LIMIT c =
    let size = c.search_size-size.result in
    IfOk-weaker c.reply.result (Shows (refusal_verdict (Product size)) (refusal_text (Product size))) _
    (λ reply shows. large_reply c.args.problem.now c.args.given c.args.label.now c.budget_of-budget.result size c.budget_of-budget.ensures.value
    c.search_size-size.ensures reply (omega (arith, c.if-size-gt-PRODUCT_LIMIT.true)) shows)
    c.reply.ensures

pub returns-else-size-gt-PRODUCT_LIMIT : goal.returns-else-size-gt-PRODUCT_LIMIT
returns-else-size-gt-PRODUCT_LIMIT c =
    IfOk-weaker c.searched_plan.result (IsReply (IsPlanned c.args.problem.now c.budget_of-budget.result c.args.label.now)) _
    (λ reply is. within_reply c.args.problem.now c.args.given c.args.label.now c.budget_of-budget.result c.search_size-size.result
    c.budget_of-budget.ensures.value c.search_size-size.ensures reply (omega (arith, c.if-size-gt-PRODUCT_LIMIT.false)) is)
    c.searched_plan.ensures
