use Rattle.d_urdb.proofs.LabelFacts.{IsOnly}
use Rattle.d_urdb.proofs.label.find_row.Given as goal

abbrev pub invariant-loop-row : goal.invariant-loop-row
invariant-loop-row l = IsOnly l.table l.label l.column l.row l.found
