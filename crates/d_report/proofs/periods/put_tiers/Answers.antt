use Rattle.std.proofs.Common.{◌++◌, ◌∙◌, ℤ, Option, ap₂}
use Rattle.d_tier.specs.Tables.{end_at, price_at}
use Rattle.d_report.specs.Tariffs.{tier_line}
use Rattle.d_report.proofs.PlanTexts.{texts_begin, texts_go_on}
use Rattle.d_report.proofs.periods.put_tiers.Goals as goal

pub loop-tier-init : goal.loop-tier-init
loop-tier-init c = texts_begin c.args.text.now.items _

pub loop-tier-preserved : goal.loop-tier-preserved
loop-tier-preserved c =
    let before = c.loop-tier.text.items in
    texts_go_on c.args.text.now.items before c.put_tier.new.text.items c.loop-tier.tier
    (λ tier. tier_line tier (end_at c.args.tiers.now tier) (price_at c.args.tiers.now tier)) c.loop-tier.invariant
    (c.in_ok-put_tier.ensures ∙ ap₂ (λ (end : Option ℤ) (price : ℤ). before ++ tier_line c.loop-tier.tier end price) c.end.ensures.value c.price.ensures)
