use Rattle.d_meter.proofs.MonthLaw as law
use Rattle.d_meter.proofs.law.accepts_months.Goals as goal

pub returns : goal.returns
returns c = law.accepts_months
