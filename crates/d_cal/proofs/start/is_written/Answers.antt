use Rattle.std.proofs.Common.{◌↔◌, IsTrue, sym}
use Rattle.d_cal.specs.Starts.{IsMoment, date_text, time_text}
use Rattle.d_cal.proofs.StartParts.{date_length, time_length, date_part, time_part}
use Rattle.d_cal.proofs.StartPairs.{sizes}
use Rattle.d_cal.proofs.start.is_written.Goals as goal
use Rattle.d_cal.proofs.start.is_written.Goals.{After-is_moment}

moment : (c : After-is_moment)
    → IsTrue c.is_moment.result ↔ IsMoment c.args.cell.now (date_text c.args.start.year c.args.start.month c.args.start.day) (time_text c.args.start.minute)
moment c =
    let start = c.args.start in
    let text = c.text-text.result in
    let date = date_text start.year start.month start.day in
    let time = time_text start.minute in
    let ten = date_length start.year start.month start.day c.requires.month (sizes start c.requires).day in
    let five = time_length start.minute c.requires.minute in
    rw (sym (date_part text date time 84 c.text-text.ensures ten), sym (time_part text date time 84 c.text-text.ensures ten five)) c.is_moment.ensures

pub returns : goal.returns
returns c = (λ yes. record { in_calendar = c.requires; moment = (moment c).0 yes }, λ is. (moment c).1 is.moment)
