use Rattle.std.proofs.Common.{◌++◌, ◌∙◌, List, Option, ap}
use Rattle.d_tier.specs.declared.tier.Tier.{Tier}
use Rattle.d_tariff.specs.Terms.{tiers_at}
use Rattle.d_report.specs.Tariffs.{demand_lines}
use Rattle.d_report.proofs.PlanTexts.{texts_begin, texts_go_on}
use Rattle.d_report.proofs.periods.put_demand_periods.Goals as goal

pub loop-number-init : goal.loop-number-init
loop-number-init c = texts_begin c.args.text.now.items _

pub loop-number-preserved : goal.loop-number-preserved
loop-number-preserved c =
    let before = c.loop-number.text.items in
    texts_go_on c.args.text.now.items before c.put_demand.new.text.items c.loop-number.number
    (λ number. demand_lines c.args.word.now number (tiers_at c.args.lists.now number)) c.loop-number.invariant
    (c.in_ok-put_demand.ensures ∙ ap (λ (tiers : Option (List Tier)). before ++ demand_lines c.args.word.now c.loop-number.number tiers) c.entry.ensures)
