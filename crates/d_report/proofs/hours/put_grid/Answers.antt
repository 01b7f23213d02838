use Rattle.d_report.specs.Tariffs.{month_line}
use Rattle.d_report.proofs.PlanTexts.{texts_begin, texts_go_on}
use Rattle.d_report.proofs.hours.put_grid.Goals as goal

pub loop-month-init : goal.loop-month-init
loop-month-init c = texts_begin c.args.text.now.items _

pub loop-month-preserved : goal.loop-month-preserved
loop-month-preserved c =
    texts_go_on c.args.text.now.items c.loop-month.text.items c.put_month.new.text.items c.loop-month.month
    (month_line c.args.word.now c.args.grid.now) c.loop-month.invariant c.in_ok-put_month.ensures
