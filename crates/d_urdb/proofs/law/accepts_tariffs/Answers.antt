use Rattle.d_urdb.proofs.law.accepts_tariffs.Goals as goal
use Rattle.d_urdb.proofs.TariffLaw as law

pub returns-clause-tariffs : goal.returns-clause-tariffs
returns-clause-tariffs c = law.accepts_tariffs

pub returns-clause-tables : goal.returns-clause-tables
returns-clause-tables c = law.accepts_tables

pub returns-clause-grids : goal.returns-clause-grids
returns-clause-grids c = law.accepts_grids
