use Rattle.std.proofs.Common.{◌≡◌, ◌*◌, ◌^◌, pos, ◌∙◌, arith, to_z, of_z, w64, slice_index_or}
use Rattle.std.specs.Prelude.{unsigned_abs}
use Rattle.std.proofs.lemmas.Int.{ints}
use Rattle.d_num.specs.Amount.{IsUpTo}
use Rattle.d_bill.proofs.SizeFacts.{month_total}
use Rattle.d_bill.proofs.ChargeFacts.{up_to_abs}
use Rattle.d_bill.proofs.problem.Problem.period_charge.Goals as goal
use Rattle.d_bill.proofs.problem.Problem.period_charge.Goals.{In-Some}

-- the total's size
small : (c : In-Some) → IsUpTo (2 * 10 ^ 13) (slice_index_or c.args.tally.now.totals c.args.period (pos 0))
small c = month_total c.args.self.now c.args.period c.args.tally.now c.energy.ensures.range c.requires.period c.requires.tally

-- the total, as the words hold it
total_is : (c : In-Some) → to_z w64 (of_z w64 c.value-total.result) ≡ slice_index_or c.args.tally.now.totals c.args.period (pos 0)
total_is c =
    let range = c.value-total.ensures.range in
    let same : to_z w64 (of_z w64 c.value-total.result) ≡ c.value-total.result = omega (arith, ints, range.0, range.1) in
    same ∙ c.value-total.ensures.value ∙ c.total_of.ensures

pub charge-requires : goal.charge-requires
charge-requires c = let s = (goal.at.charge-requires c).In-Some in rw (total_is s) (small s)

pub returns-in-Some-clause-small : goal.returns-in-Some-clause-small
returns-in-Some-clause-small c =
    let s = (goal.at.returns-in-Some-clause-small c).In-Some in
    let total = slice_index_or c.args.tally.now.totals c.args.period (pos 0) in
    c.charge.ensures.size (3 * 10 ^ 21) (unsigned_abs total) c.in-Some.ensures.prices.tiers (rw (total_is s) (up_to_abs total (small s).0))
