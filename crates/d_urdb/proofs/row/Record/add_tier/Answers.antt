use Rattle.std.proofs.Common.{◌≡◌, ◌-◌, suc, ℤ, true, false, sym, ap, ◌∙◌, arith}
use Rattle.d_tier.specs.Tables.{with_tier}
use Rattle.d_urdb.specs.Shown.{row_of}
use Rattle.d_columns.specs.Tiers.{has_tier}
use Rattle.d_urdb.specs.Periods.{tiers_to, price_of}
use Rattle.d_urdb.proofs.NumberReads.{kept_word}
use Rattle.d_urdb.proofs.TierRise.{Fits, fits, added, passed_by, no_end, prices_with}
use Rattle.d_urdb.proofs.row.Record.add_tier.Goals as goal

pub returns-then-not-has_tier-clause-value : goal.returns-then-not-has_tier-clause-value
returns-then-not-has_tier-clause-value c = λ reader are.
    let same : suc (c.args.tier - 1) ≡ c.args.tier = omega (arith, c.requires.tier.0) in
    let none : has_tier (row_of c.args.self.now) c.args.structure c.args.period (suc (c.args.tier - 1)) ≡ false = ap (has_tier (row_of c.args.self.now) c.args.structure c.args.period) same ∙ sym c.has_tier.ensures ∙ c.if-not-has_tier.true in
    passed_by reader (row_of c.args.self.now) c.args.structure c.args.period (c.args.tier - 1) c.args.tiers.now none (c.requires.before reader are) ∙ ap (tiers_to reader (row_of c.args.self.now) c.args.structure c.args.period) same

-- the tier fits behind those before it
fitting : (c : goal.After-price_of) → Fits c.args.tiers.now c.in-Some.end
fitting c =
    let same : suc (c.args.tier - 1) ≡ c.args.tier = omega (arith, c.requires.tier.0) in
    let there : has_tier (row_of c.args.self.now) c.args.structure c.args.period (suc (c.args.tier - 1)) ≡ true = ap (has_tier (row_of c.args.self.now) c.args.structure c.args.period) same ∙ sym c.has_tier.ensures ∙ c.if-not-has_tier.false in
    fits (row_of c.args.self.now) c.args.structure c.args.period (c.args.tier - 1) c.args.tiers.now c.in-Some.end c.requires.rising (omega (arith, c.requires.tier.1)) there c.requires.before
    (λ reader are. sym c.in-Some.is ∙ c.end_of.ensures.value reader are)

pub add-requires-clause-room : goal.add-requires-clause-room
add-requires-clause-room c = (fitting c).room

pub add-requires-clause-above : goal.add-requires-clause-above
add-requires-clause-above c = rw (kept_word c.in-Some.end c.in-Some.ensures.range) (fitting c).above

pub add-requires-clause-range : goal.add-requires-clause-range
add-requires-clause-range c = rw (kept_word c.in-Some.end c.in-Some.ensures.range) ((fitting c).from_1, c.in-Some.ensures.range.1)

pub returns-in-Some-clause-value : goal.returns-in-Some-clause-value
returns-in-Some-clause-value c = λ reader are.
    let same : suc (c.args.tier - 1) ≡ c.args.tier = omega (arith, c.requires.tier.0) in
    let there : has_tier (row_of c.args.self.now) c.args.structure c.args.period (suc (c.args.tier - 1)) ≡ true = ap (has_tier (row_of c.args.self.now) c.args.structure c.args.period) same ∙ sym c.has_tier.ensures ∙ c.if-not-has_tier.false in
    let costs = c.price_of.ensures.value reader are ∙ ap (price_of reader (row_of c.args.self.now) c.args.structure c.args.period) (sym same) in
    c.add.ensures.table
    ∙ ap (λ (end : ℤ). with_tier end c.price_of.result c.args.tiers.now) (kept_word c.in-Some.end c.in-Some.ensures.range)
    ∙ added reader (row_of c.args.self.now) c.args.structure c.args.period (c.args.tier - 1) c.args.tiers.now c.in-Some.end c.price_of.result there (c.requires.before reader are)
    (sym c.in-Some.is ∙ c.end_of.ensures.value reader are) costs
    ∙ ap (tiers_to reader (row_of c.args.self.now) c.args.structure c.args.period) same

pub returns-in-Some-clause-prices : goal.returns-in-Some-clause-prices
returns-in-Some-clause-prices c =
    rw (c.add.ensures.table, kept_word c.in-Some.end c.in-Some.ensures.range) (prices_with c.in-Some.end c.price_of.result c.args.tiers.now c.price_of.ensures.range c.requires.prices)

pub returns-in_default-clause-value : goal.returns-in_default-clause-value
returns-in_default-clause-value c = λ reader are.
    let same : suc (c.args.tier - 1) ≡ c.args.tier = omega (arith, c.requires.tier.0) in
    let there : has_tier (row_of c.args.self.now) c.args.structure c.args.period (suc (c.args.tier - 1)) ≡ true = ap (has_tier (row_of c.args.self.now) c.args.structure c.args.period) same ∙ sym c.has_tier.ensures ∙ c.if-not-has_tier.false in
    absurd (no_end (row_of c.args.self.now) c.args.structure c.args.period (c.args.tier - 1) c.requires.rising (omega (arith, c.requires.tier.1)) there (λ reader are. sym c.in_default.is ∙ c.end_of.ensures.value reader are))
