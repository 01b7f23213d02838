use Rattle.std.proofs.Common.{◌≤◌, arith}
use Rattle.jiff_core.specs.Calendar.{days_in_month}
use Rattle.d_cal.proofs.StartPairs.{pairs, sizes, none_some, some_once}
use Rattle.d_cal.proofs.start.named_day.Goals as goal
use Rattle.d_cal.proofs.start.named_day.Goals.{else-day-ge1-via-then-day-ge1+else-day-days, else-day-ge1-via-else-day-ge1}

pub returns-in_err-day-clause-found : goal.returns-in_err-day-clause-found
returns-in_err-day-clause-found c = λ start is of_month.
    absurd (none_some _ (c.in_err-day.ensures.found start.day (sizes start is.in_calendar).day (pairs c.args.cell.now start is).day))

pub returns-then-day-days-clause-found : goal.returns-then-day-days-clause-found
returns-then-day-days-clause-found c = λ start is of_month.
    c.in_ok-day.ensures.found start.day (sizes start is.in_calendar).day (pairs c.args.cell.now start is).day

pub returns-else-day-ge1-clause-found : goal.returns-else-day-ge1-clause-found
returns-else-day-ge1-clause-found c = λ start is of_month.
    let day = some_once _ _ (c.in_ok-day.ensures.found start.day (sizes start is.in_calendar).day (pairs c.args.cell.now start is).day) in
    let first = is.in_calendar.day.from_first in
    let last : start.day ≤ days_in_month c.args.month.year c.args.month.number = rw (of_month.year, of_month.number) is.in_calendar.day.to_last in
    absurd (elim c.else-day-ge1.branch [
      | else-day-ge1-via-then-day-ge1+else-day-days w ↦ omega (arith, day, last, w.days.ensures, w.if-day-days.false)
      | else-day-ge1-via-else-day-ge1 w ↦ omega (arith, day, first, w.if-day-ge1.false)
    ])
