use Rattle.std.proofs.Common.{◌*◌, ◌^◌, subst, rules}
use Rattle.d_num.specs.Amount.{IsUpTo}
use Rattle.d_box.proofs.SizeFacts.{prices_within, power_of}
use Rattle.d_box.proofs.splits.charge_at.Goals as goal

pub returns-clause-size : goal.returns-clause-size
returns-clause-size c =
    c.charge.ensures.size (3 * 10 ^ 21) (10 ^ 13) (prices_within (3 * 10 ^ 21) c.args.peak.now.tiers c.requires.prices)
    (power_of c.new.result c.unwrap.result _ c.new.ensures.value c.unwrap.ensures (search rules))
    (subst (IsUpTo (10 ^ 13)) c.value-floor.ensures.value c.value-floor.ensures.range)
