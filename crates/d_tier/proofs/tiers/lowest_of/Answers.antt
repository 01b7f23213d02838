use Rattle.std.proofs.Common.{ℤ, ℕ, ◌≤ℤ◌, ◌<ℤ◌, arith, rules}
use Rattle.std.proofs.lemmas.Int.{ints}
use Rattle.d_tier.proofs.PriceFacts.{Contains-price, prices-more, All-prices}
use Rattle.d_tier.proofs.tiers.lowest_of.Goals.{then-lt, else-lt}
use Rattle.d_tier.proofs.tiers.lowest_of.Goals as goal

pub loop-tier-preserved : goal.loop-tier-preserved
loop-tier-preserved c =
    let ts = c.args.tiers.now in
    let i = c.loop-tier.tier-index in
    let tier = c.tier-item.result in
    let below = c.loop-tier-test.true in
    let before = c.loop-tier.invariant in
    elim c.if-lt.branch [
      | then-lt w ↦
          let test : tier.price <ℤ c.loop-tier.lowest = search rules in
          rw w.lowest-is (
            Contains-price ts i tier below c.tier-item.is,
            prices-more (λ (p : ℤ). tier.price ≤ℤ p) ts i tier below c.tier-item.is (omega (arith, ints)) (λ (k : ℕ) h. let old = before.1 k h in omega (arith, ints)),
          )
      | else-lt w ↦
          let test : c.loop-tier.lowest ≤ℤ tier.price = search rules in
          rw w.lowest-is (before.0, prices-more (λ (p : ℤ). c.loop-tier.lowest ≤ℤ p) ts i tier below c.tier-item.is test before.1)
    ]

pub returns : goal.returns
returns c = record {
  one = c.loop-tier.invariant.0;
  lowest = All-prices (λ (p : ℤ). c.loop-tier.lowest ≤ℤ p) c.args.tiers.now c.loop-tier.tier-index c.loop-tier-test.false c.loop-tier.invariant.1;
}
