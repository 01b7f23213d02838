use Rattle.std.proofs.Common.{slice_index}
use Rattle.d_report.specs.Tariffs.{ignored_line}
use Rattle.d_report.proofs.PlanTexts.{texts_begin, texts_go_on}
use Rattle.d_report.proofs.tariff.put_ignored.Goals as goal

pub loop-column-init : goal.loop-column-init
loop-column-init c = texts_begin c.args.text.now.items _

pub loop-column-preserved : goal.loop-column-preserved
loop-column-preserved c =
    texts_go_on c.args.text.now.items c.loop-column.text.items c.put_column.new.text.items c.loop-column.column-index
    (λ place. ignored_line c.args.table.now (slice_index c.args.columns.now place)) c.loop-column.invariant c.in_ok-put_column.ensures
