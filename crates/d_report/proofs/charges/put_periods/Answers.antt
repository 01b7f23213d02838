use Rattle.std.proofs.Common.{◌≡◌, ◌++◌, ℕ, ap, ◌∙◌, arith}
use Rattle.d_tariff.specs.Terms.{period_at}
use Rattle.d_report.specs.Lines.{texts_of}
use Rattle.d_report.specs.Charges.{period_at_line}
use Rattle.d_report.proofs.PlanTexts.{texts_begin, texts_go_on}
use Rattle.d_report.proofs.charges.put_periods.Goals as goal

pub loop-period-init : goal.loop-period-init
loop-period-init c = texts_begin c.args.text.now.items _

pub loop-period-preserved : goal.loop-period-preserved
loop-period-preserved c =
    texts_go_on c.args.text.now.items c.loop-period.text.items c.put_period_at.new.text.items c.loop-period.period
    (λ number. period_at_line c.args.problem.now c.args.tally.now number (period_at c.args.problem.now.energy number))
    c.loop-period.invariant c.in_ok-put_period_at.ensures

pub returns : goal.returns
returns c =
    let all : c.loop-period.period ≡ 36 = omega (arith, c.loop-period.auto.period-end) in
    c.loop-period.invariant
    ∙ ap (λ (n : ℕ). c.args.text.now.items ++ texts_of n (λ number. period_at_line c.args.problem.now c.args.tally.now number (period_at c.args.problem.now.energy number))) all
