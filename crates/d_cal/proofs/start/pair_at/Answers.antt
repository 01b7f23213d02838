use Rattle.std.proofs.Common.{◌/◌, ◌%◌, arith}
use Rattle.d_cal.proofs.StartPairs.{two_at}
use Rattle.d_cal.proofs.start.pair_at.Goals as goal

pub returns-then-cell-place-clause-found : goal.returns-then-cell-place-clause-found
returns-then-cell-place-clause-found c = λ number small pair.
    let at = two_at c.args.cell.now c.args.place _ _ pair in
    absurd (omega (arith, at.0, c.if-cell-place.true))

pub returns-in_err-tens-clause-found : goal.returns-in_err-tens-clause-found
returns-in_err-tens-clause-found c = λ number small pair.
    let at = two_at c.args.cell.now c.args.place _ _ pair in
    absurd (c.in_err-tens.ensures.none (number / 10) (omega (arith, small)) at.1)

pub returns-in_err-ones-clause-found : goal.returns-in_err-ones-clause-found
returns-in_err-ones-clause-found c = λ number small pair.
    let at = two_at c.args.cell.now c.args.place _ _ pair in
    absurd (c.in_err-ones.ensures.none (number % 10) (omega arith) at.2)
