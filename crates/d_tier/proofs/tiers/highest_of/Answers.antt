use Rattle.std.proofs.Common.{ℤ, ℕ, ◌≤ℤ◌, ◌<ℤ◌, arith, rules}
use Rattle.std.proofs.lemmas.Int.{ints}
use Rattle.d_tier.proofs.PriceFacts.{Contains-price, prices-more, All-prices}
use Rattle.d_tier.proofs.tiers.highest_of.Goals.{then-gt, else-gt}
use Rattle.d_tier.proofs.tiers.highest_of.Goals as goal

pub loop-tier-preserved : goal.loop-tier-preserved
loop-tier-preserved c =
    let ts = c.args.tiers.now in
    let i = c.loop-tier.tier-index in
    let tier = c.tier-item.result in
    let below = c.loop-tier-test.true in
    let before = c.loop-tier.invariant in
    elim c.if-gt.branch [
      | then-gt w ↦
          let test : c.loop-tier.highest <ℤ tier.price = search rules in
          rw w.highest-is (
            Contains-price ts i tier below c.tier-item.is,
            prices-more (λ (p : ℤ). p ≤ℤ tier.price) ts i tier below c.tier-item.is (omega (arith, ints)) (λ (k : ℕ) h. let old = before.1 k h in omega (arith, ints)),
          )
      | else-gt w ↦
          let test : tier.price ≤ℤ c.loop-tier.highest = search rules in
          rw w.highest-is (before.0, prices-more (λ (p : ℤ). p ≤ℤ c.loop-tier.highest) ts i tier below c.tier-item.is test before.1)
    ]

pub returns : goal.returns
returns c = record {
  one = c.loop-tier.invariant.0;
  highest = All-prices (λ (p : ℤ). p ≤ℤ c.loop-tier.highest) c.args.tiers.now c.loop-tier.tier-index c.loop-tier-test.false c.loop-tier.invariant.1;
}
