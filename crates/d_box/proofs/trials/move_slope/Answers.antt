use Rattle.std.proofs.Common.{rules, ap, ◌∙◌, sym, subst, ◌-ℤ◌, ◌+ℤ◌}
use Rattle.std.specs.Int.{w128, int_max, int_min}
use Rattle.std.proofs.lemmas.Int.{to_z-of_z}
use Rattle.d_num.specs.Amount.{IsRate}
use Rattle.d_box.proofs.TrialFacts.{bounds, in_order, moved_is}
use Rattle.d_box.proofs.trials.move_slope.Goals as goal

pub minus-spread-requires : goal.minus-spread-requires
minus-spread-requires c =
    (bounds c.args.tiers.now _ _ c.requires.prices c.lowest_price-lowest.ensures c.highest_price-highest.ensures).spread

pub minus-requires : goal.minus-requires
minus-requires c =
    let b = bounds c.args.tiers.now _ _ c.requires.prices c.lowest_price-lowest.ensures c.highest_price-highest.ensures in
    subst (λ z. IsRate (c.lowest_price-lowest.result -ℤ z)) (sym c.minus-spread.ensures) b.least

pub plus-requires : goal.plus-requires
plus-requires c =
    let b = bounds c.args.tiers.now _ _ c.requires.prices c.lowest_price-lowest.ensures c.highest_price-highest.ensures in
    subst (λ z. IsRate (c.highest_price-highest.result +ℤ z)) (sym c.minus-spread.ensures) b.greatest

pub keep-requires : goal.keep-requires
keep-requires c =
    let b = bounds c.args.tiers.now _ _ c.requires.prices c.lowest_price-lowest.ensures c.highest_price-highest.ensures in
    in_order _ _ _ _ _ b c.minus-spread.ensures c.minus.ensures c.plus.ensures

pub returns : goal.returns
returns c =
    moved_is c.args.tiers.now _ _ _ _ _ c.shift-target.result c.args.slope c.keep.result c.args.step c.lowest_price-lowest.ensures
    c.highest_price-highest.ensures c.minus-spread.ensures c.minus.ensures c.plus.ensures c.shift-target.ensures
    (c.keep.ensures ∙ ap (λ z. int_max c.minus.result (int_min z c.plus.result)) (to_z-of_z w128 c.shift-target.result (search rules)))
