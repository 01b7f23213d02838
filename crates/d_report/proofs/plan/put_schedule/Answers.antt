use Rattle.std.proofs.Common.{◌≡◌, ℕ, pos, List, Some, ◌++◌, length, arith, sym, ap, ◌∙◌, slice_get, slice_index}
use Rattle.std.proofs.lemmas.List.{append-nil}
use Rattle.d_batt.specs.declared.mode.Mode.{Mode}
use Rattle.d_batt.specs.Storage.{Storage}
use Rattle.d_report.specs.Plans.{schedule_line}
use Rattle.d_report.proofs.PlanTexts.{texts_none}
use Rattle.d_report.proofs.PlanLevels.{level_none, mode_at, mode_read, level_kept, interval_more}
use Rattle.d_report.proofs.plan.put_schedule.Goals as goal
use Rattle.d_report.proofs.plan.put_schedule.Goals.{After-index-modes-schedule}

-- the mode of the interval is the one of its number
mode_there : (c : After-index-modes-schedule) → slice_get c.args.problem.now.storage.modes (slice_index c.args.schedule.now c.loop-t.t) ≡ Some c.index-modes-schedule.result
mode_there c =
    mode_read c.args.problem.now c.args.schedule.now c.requires c.loop-t.t (omega (arith, c.loop-t-test.true, c.intervals-t-end.ensures.value))
    c.as_slice-modes.result.now c.index-modes-schedule.result (c.as_slice-modes.ensures ∙ ap (λ (s : Storage). s.modes) c.battery.ensures) c.index-modes-schedule.is

pub loop-t-init : goal.loop-t-init
loop-t-init c =
    let i = c.args.problem.now in
    let old = c.args.text.now.items in
    (sym (ap (λ (list : List ℕ). old ++ list) (texts_none (schedule_line i c.args.schedule.now)) ∙ append-nil old), ap (λ (s : Storage). pos s.start) c.battery-2.ensures ∙ level_none i c.args.schedule.now)

pub bounds-modes-schedule : goal.bounds-modes-schedule
bounds-modes-schedule c =
    let there = mode_at c.args.problem.now c.args.schedule.now c.requires c.loop-t.t (omega (arith, c.loop-t-test.true, c.intervals-t-end.ensures.value)) in
    let count = ap (λ (list : List Mode). length list) (c.as_slice-modes.ensures ∙ ap (λ (s : Storage). s.modes) c.battery.ensures) in
    omega (arith, there, count)

pub level_after-level-requires : goal.level_after-level-requires
level_after-level-requires c =
    level_kept c.args.problem.now c.args.schedule.now c.requires c.loop-t.t (omega (arith, c.loop-t-test.true, c.intervals-t-end.ensures.value))
    c.loop-t.level c.index-modes-schedule.result c.intervals-t-end.ensures.range (mode_there c) c.loop-t.invariant.1

pub loop-t-preserved : goal.loop-t-preserved
loop-t-preserved c =
    interval_more c.args.problem.now c.args.schedule.now c.loop-t.t c.loop-t.level c.level_after-level.result c.index-modes-schedule.result
    c.args.text.now.items c.loop-t.text.items c.put_interval.new.text.items (mode_there (goal.at.loop-t-preserved c).After-index-modes-schedule)
    c.loop-t.invariant.0 c.loop-t.invariant.1 c.level_after-level.ensures c.in_ok-put_interval.ensures
