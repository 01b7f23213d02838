use Rattle.std.proofs.Common.{arith, sym}
use Rattle.d_table.specs.Table.{HasMark}
use Rattle.d_table.proofs.Marks.{strip_bom-mark, strip_bom-no_mark}
use Rattle.d_table.proofs.reading.behind_mark.Goals as goal

pub slice_bounds-result-count : goal.slice_bounds-result-count
slice_bounds-result-count c = let mark : HasMark c.args.bytes.now = c.has_mark.ensures.0 c.if-has_mark.true in omega (arith, mark.long)

pub slice_bounds-result-start : goal.slice_bounds-result-start
slice_bounds-result-start c = let mark : HasMark c.args.bytes.now = c.has_mark.ensures.0 c.if-has_mark.true in omega (arith, mark.long)

pub returns-then-has_mark : goal.returns-then-has_mark
returns-then-has_mark c = sym (strip_bom-mark c.args.bytes.now (c.has_mark.ensures.0 c.if-has_mark.true))

pub returns-else-has_mark : goal.returns-else-has_mark
returns-else-has_mark c = sym (strip_bom-no_mark c.args.bytes.now (λ mark. let yes = c.has_mark.ensures.1 mark in let no = c.if-has_mark.false in cc))
