use Rattle.std.proofs.Common.{◌++◌, ◌∙◌, Option, ap}
use Rattle.d_tariff.specs.declared.period.Period.{Period}
use Rattle.d_tariff.specs.Terms.{period_at}
use Rattle.d_report.specs.Tariffs.{energy_lines}
use Rattle.d_report.proofs.PlanTexts.{texts_begin, texts_go_on}
use Rattle.d_report.proofs.periods.put_energy_periods.Goals as goal

pub loop-number-init : goal.loop-number-init
loop-number-init c = texts_begin c.args.text.now.items _

pub loop-number-preserved : goal.loop-number-preserved
loop-number-preserved c =
    let before = c.loop-number.text.items in
    texts_go_on c.args.text.now.items before c.put_energy.new.text.items c.loop-number.number
    (λ number. energy_lines number (period_at c.args.periods.now number)) c.loop-number.invariant
    (c.in_ok-put_energy.ensures ∙ ap (λ (period : Option Period). before ++ energy_lines c.loop-number.number period) c.entry.ensures)
