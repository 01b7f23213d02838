use Rattle.std.proofs.Common.{◌^◌, ◌-◌, ◌≤◌, ◌<◌, length, slice_index, unsigned_abs, to_z, of_z, w64, arith, rules}
use Rattle.std.proofs.lemmas.Int.{ints}
use Rattle.std.proofs.lemmas.List.Elements.{All-get_or}
use Rattle.d_tariff.proofs.MonthFacts.{IsShare, share_is}
use Rattle.d_tariff.proofs.tariff.Tariff.floor_of.Goals as goal
use Rattle.d_tariff.proofs.tariff.Tariff.floor_of.Goals.{After-value}

share : (c : After-value) → IsShare (slice_index c.args.self.now.ratchet (c.args.month.number - 1)) (unsigned_abs (to_z w64 (of_z w64 c.value.result)))
share c =
    let month = c.args.month.in_range in
    let range = c.value.ensures.range in
    let there : c.args.month.number - 1 < length c.args.self.now.ratchet = search rules in
    share_is _ _ (All-get_or (λ fraction. fraction ≤ 10 ^ 20) c.args.self.now.ratchet _ 0 there c.args.self.now.valid.ratchet) (omega (arith, ints, range.0, range.1))

pub overflow_mul-floor : goal.overflow_mul-floor
overflow_mul-floor c =
    let part = share (goal.at.overflow_mul-floor c).After-value in
    omega arith

pub unwrap-requires : goal.unwrap-requires
unwrap-requires c =
    let part = share (goal.at.unwrap-requires c).After-value in
    let range = c.value.ensures.range in
    c.new.ensures.range.1 (omega (arith, ints), omega (arith, ints, range.0, range.1))

pub returns-clause-most : goal.returns-clause-most
returns-clause-most c =
    let part = share (goal.at.returns-clause-most c).After-value in
    let range = c.value.ensures.range in
    let value = rw c.unwrap.ensures at c.new.ensures.value in
    omega (arith, ints, value, range.0, range.1)
