use Rattle.std.proofs.Common.{◌≡◌, ◌+◌, ◌*◌, ◌/◌, ◌%◌, pos, unsigned_abs, ◌∙◌, ap, arith, w16}
use Rattle.std.proofs.lemmas.Int.{to_z_pos}
use Rattle.d_cal.proofs.StartPairs.{pairs, sizes, none_some, some_once}
use Rattle.d_cal.proofs.StartLaws.{year_of_size, month_found}
use Rattle.d_cal.proofs.start.named_month.Goals as goal

pub returns-in_err-front : goal.returns-in_err-front
returns-in_err-front c = λ start is.
    let size = (sizes start is.in_calendar).year in
    absurd (none_some _ (c.in_err-front.ensures.found (unsigned_abs start.year / 100) (omega (arith, size)) (pairs c.args.cell.now start is).front))

pub returns-in_err-back : goal.returns-in_err-back
returns-in_err-back c = λ start is.
    absurd (none_some _ (c.in_err-back.ensures.found (unsigned_abs start.year % 100) (omega arith) (pairs c.args.cell.now start is).back))

pub returns-in_err-number : goal.returns-in_err-number
returns-in_err-number c = λ start is.
    absurd (none_some _ (c.in_err-number.ensures.found start.month (sizes start is.in_calendar).month (pairs c.args.cell.now start is).month))

pub returns : goal.returns
returns c = λ start is.
    let p = pairs c.args.cell.now start is in
    let size = sizes start is.in_calendar in
    let front = some_once _ _ (c.in_ok-front.ensures.found (unsigned_abs start.year / 100) (omega (arith, size.year)) p.front) in
    let back = some_once _ _ (c.in_ok-back.ensures.found (unsigned_abs start.year % 100) (omega arith) p.back) in
    let number = some_once _ _ (c.in_ok-number.ensures.found start.month size.month p.month) in
    let size_is : c.in_ok-front.front * 100 + c.in_ok-back.back ≡ unsigned_abs start.year = omega (arith, front, back) in
    let year = to_z_pos w16 (c.in_ok-front.front * 100 + c.in_ok-back.back) (omega (arith, size_is, size.year)) ∙ ap pos size_is
    ∙ year_of_size start.year start.month is.in_calendar.month in
    month_found start c.new.result _ _ is.in_calendar.month year number c.new.ensures.range c.new.ensures.year c.new.ensures.number
