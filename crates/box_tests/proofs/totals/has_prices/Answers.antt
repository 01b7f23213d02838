use Rattle.box_tests.proofs.Prices.{all_within}
use Rattle.box_tests.proofs.totals.has_prices.Goals as goal

pub returns-then-is_small : goal.returns-then-is_small
returns-then-is_small c = λ t. all_within c.args.tiers.now c.lowest_price-lowest.result c.highest_price-highest.result
    c.lowest_price-lowest.ensures c.highest_price-highest.ensures (c.is_small.ensures.0 c.if-is_small.true) (c.is_small-then-is_small.ensures.0 t)
