use Rattle.std.proofs.Common.{◌≡◌, codes, ap, sym, ◌∙◌}
use Rattle.std.proofs.lemmas.Result.{IfOk-weaker}
use Rattle.d_search.specs.declared.outcome.Verdict.TheVariants.{GapBudget, GapDuality, Infeasible, Least}
use Rattle.d_report.specs.Lines.{line}
use Rattle.d_report.specs.Plans.{plan_text}
use Rattle.d_report.specs.declared.finding.Found.TheVariants as found
use Rattle.d_run.specs.declared.verdict.Verdict.TheVariants as verdict
use Rattle.d_run.specs.Answer.{finding, gap_of}
use Rattle.d_run.specs.Replies.{Shows}
use Rattle.d_run.proofs.PlanReplies.{found_feasible, least_reply, gap_reply, none_reply}
use Rattle.d_run.proofs.plan.searched_plan.Goals as goal

pub least_reply-requires : goal.least_reply-requires
least_reply-requires c =
    let o = c.search-outcome.result in
    found_feasible c.args.problem.now c.args.budget c.in_ok-room.room.budget o c.intervals-count.ensures.range c.requires.untiered c.in_ok-room.ensures.budget
    c.search-outcome.ensures.outcome (λ none. let e : Least ≡ Infeasible = sym c.in-Least.is ∙ none in absurd cc)

pub returns-in-Least : goal.returns-in-Least
returns-in-Least c =
    let i = c.args.problem.now in
    let o = c.search-outcome.result in
    IfOk-weaker c.least_reply.result (Shows verdict.Done (plan_text i c.args.label.now o.schedule (finding found.Least o))) _
    (λ reply shows. least_reply i c.args.budget c.in_ok-room.room.budget o c.intervals-count.ensures.range c.requires.untiered c.in_ok-room.ensures.budget
    c.search-outcome.ensures.outcome c.args.label.now reply c.in-Least.is shows)
    c.least_reply.ensures

pub gap_reply-requires : goal.gap_reply-requires
gap_reply-requires c =
    let o = c.search-outcome.result in
    found_feasible c.args.problem.now c.args.budget c.in_ok-room.room.budget o c.intervals-count.ensures.range c.requires.untiered c.in_ok-room.ensures.budget
    c.search-outcome.ensures.outcome (λ none. let e : GapBudget ≡ Infeasible = sym c.in-GapBudget.is ∙ none in absurd cc)

pub returns-in-GapBudget : goal.returns-in-GapBudget
returns-in-GapBudget c =
    let i = c.args.problem.now in
    let o = c.search-outcome.result in
    IfOk-weaker c.gap_reply.result (Shows verdict.Gap (plan_text i c.args.label.now o.schedule (finding found.GapBudget o))) _
    (λ reply shows. gap_reply i c.args.budget c.in_ok-room.room.budget o c.intervals-count.ensures.range c.requires.untiered c.in_ok-room.ensures.budget
    c.search-outcome.ensures.outcome c.args.label.now reply found.GapBudget (ap gap_of c.in-GapBudget.is) shows)
    c.gap_reply.ensures

pub gap_reply-requires-in-GapDuality : goal.gap_reply-requires-in-GapDuality
gap_reply-requires-in-GapDuality c =
    let o = c.search-outcome.result in
    found_feasible c.args.problem.now c.args.budget c.in_ok-room.room.budget o c.intervals-count.ensures.range c.requires.untiered c.in_ok-room.ensures.budget
    c.search-outcome.ensures.outcome (λ none. let e : GapDuality ≡ Infeasible = sym c.in-GapDuality.is ∙ none in absurd cc)

pub returns-in-GapDuality : goal.returns-in-GapDuality
returns-in-GapDuality c =
    let i = c.args.problem.now in
    let o = c.search-outcome.result in
    IfOk-weaker c.gap_reply-in-GapDuality.result (Shows verdict.Gap (plan_text i c.args.label.now o.schedule (finding found.GapDuality o))) _
    (λ reply shows. gap_reply i c.args.budget c.in_ok-room.room.budget o c.intervals-count.ensures.range c.requires.untiered c.in_ok-room.ensures.budget
    c.search-outcome.ensures.outcome c.args.label.now reply found.GapDuality (ap gap_of c.in-GapDuality.is) shows)
    c.gap_reply-in-GapDuality.ensures

pub returns : goal.returns
returns c =
    let i = c.args.problem.now in
    let o = c.search-outcome.result in
    IfOk-weaker c.no_plan_reply.result (Shows verdict.NoSchedule (line (codes "no schedule"))) _
    (λ reply shows. none_reply i c.args.budget c.in_ok-room.room.budget o c.intervals-count.ensures.range c.requires.untiered c.in_ok-room.ensures.budget
    c.search-outcome.ensures.outcome c.args.label.now reply c.in-Infeasible.is shows)
    c.no_plan_reply.ensures
