use Rattle.std.proofs.Common.{◌≤◌, ◌<◌, ◌^◌, arith, rules}
use Rattle.d_text.proofs.SizeFacts.{power-le, positive}
use Rattle.d_text.proofs.size.smaller.Goals as goal

pub pow-unit-requires : goal.pow-unit-requires
pow-unit-requires c = let le : 10 ^ c.args.power ≤ 10 ^ 38 = power-le c.args.power 38 (omega arith) in omega arith

pub nonzero_div-result : goal.nonzero_div-result
nonzero_div-result c = let some : 0 < 10 ^ c.args.power = positive c.args.power in search rules

pub nonzero_rem-number : goal.nonzero_rem-number
nonzero_rem-number c = let some : 0 < 10 ^ c.args.power = positive c.args.power in search rules
