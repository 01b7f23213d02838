use Rattle.std.proofs.Common.{◌/◌, ◌%◌, Some, ap, arith}
use Rattle.d_cal.proofs.StartPairs.{pairs, none_some, some_once}
use Rattle.d_cal.proofs.start.named_minute.Goals as goal
use Rattle.d_cal.proofs.start.named_minute.Goals.{else-hour-lt24-via-then-hour-lt24+else-minute-lt60, else-hour-lt24-via-else-hour-lt24}

pub returns-in_err-hour-clause-found : goal.returns-in_err-hour-clause-found
returns-in_err-hour-clause-found c = λ start is.
    let small = is.in_calendar.minute in
    absurd (none_some _ (c.in_err-hour.ensures.found (start.minute / 60) (omega (arith, small)) (pairs c.args.cell.now start is).hour))

pub returns-in_err-minute-clause-found : goal.returns-in_err-minute-clause-found
returns-in_err-minute-clause-found c = λ start is.
    absurd (none_some _ (c.in_err-minute.ensures.found (start.minute % 60) (omega arith) (pairs c.args.cell.now start is).minute))

pub returns-then-minute-lt60-clause-found : goal.returns-then-minute-lt60-clause-found
returns-then-minute-lt60-clause-found c = λ start is.
    let small = is.in_calendar.minute in
    let p = pairs c.args.cell.now start is in
    let hour = some_once _ _ (c.in_ok-hour.ensures.found (start.minute / 60) (omega (arith, small)) p.hour) in
    let minute = some_once _ _ (c.in_ok-minute.ensures.found (start.minute % 60) (omega arith) p.minute) in
    ap Some (omega (arith, hour, minute))

pub returns-else-hour-lt24-clause-found : goal.returns-else-hour-lt24-clause-found
returns-else-hour-lt24-clause-found c = λ start is.
    let small = is.in_calendar.minute in
    let p = pairs c.args.cell.now start is in
    let hour = some_once _ _ (c.in_ok-hour.ensures.found (start.minute / 60) (omega (arith, small)) p.hour) in
    let minute = some_once _ _ (c.in_ok-minute.ensures.found (start.minute % 60) (omega arith) p.minute) in
    absurd (elim c.else-hour-lt24.branch [
      | else-hour-lt24-via-then-hour-lt24+else-minute-lt60 w ↦ omega (arith, minute, w.if-minute-lt60.false)
      | else-hour-lt24-via-else-hour-lt24 w ↦ omega (arith, small, hour, w.if-hour-lt24.false)
    ])
