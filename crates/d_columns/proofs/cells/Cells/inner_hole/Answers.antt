use Rattle.std.proofs.Common.{sym, arith}
use Rattle.d_columns.specs.Shown.{row_of}
use Rattle.d_columns.proofs.HoleFacts.{first_none, none_more}
use Rattle.d_columns.proofs.cells.Cells.inner_hole.Goals as goal

pub loop-tier-init : goal.loop-tier-init
loop-tier-init c = first_none (row_of c.args.self.now) c.args.structure c.args.period

pub returns-then-is_hole : goal.returns-then-is_hole
returns-then-is_hole c = (omega arith, (sym c.if-is_hole.ensures, c.loop-tier.invariant))

pub loop-tier-preserved : goal.loop-tier-preserved
loop-tier-preserved c = none_more (row_of c.args.self.now) c.args.structure c.args.period c.loop-tier.tier c.loop-tier.invariant (sym c.if-is_hole.ensures)

pub returns : goal.returns
returns c = λ tier within. c.loop-tier.invariant tier (omega (arith, within))
