use Rattle.std.proofs.Common.{◌≡◌, arith, length}
use Rattle.d_columns.proofs.TierFacts.{more_value}
use Rattle.d_columns.proofs.reading.TierName.number.Goals as goal

pub returns-in_default : goal.returns-in_default
returns-in_default c =
    let digits = c.args.self.now.tier.now in
    let large = more_value digits c.requires (λ (one : length digits ≡ 1). omega arith) (λ (two : length digits ≡ 2). omega arith) in
    omega arith
