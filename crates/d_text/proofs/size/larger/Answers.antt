use Rattle.std.proofs.Common.{◌≤◌, ◌^◌, arith}
use Rattle.d_text.proofs.SizeFacts.{power-le}
use Rattle.d_text.proofs.size.larger.Goals as goal

pub pow-requires : goal.pow-requires
pow-requires c = let le : 10 ^ c.args.power ≤ 10 ^ 28 = power-le c.args.power 28 (omega arith) in omega arith
