use Rattle.std.proofs.Common.{◌∙◌, ap, sym}
use Rattle.csv.specs.Records.{prev}
use Rattle.csv.proofs.RecordFacts.{prev-first}
use Rattle.d_table.proofs.BlockFacts.{prev_before}
use Rattle.d_table.proofs.block.start_of.Goals as goal

pub returns-then-place-eq0 : goal.returns-then-place-eq0
returns-then-place-eq0 c = sym (ap (prev 0 c.args.ends.now) c.if-place-eq0.true ∙ prev-first c.args.ends.now)

pub returns-else-place-eq0 : goal.returns-else-place-eq0
returns-else-place-eq0 c = prev_before c.args.ends.now c.args.place c.if-place-eq0.false c.requires
