use Rattle.std.proofs.Common.{◌∙◌, sym}
use Rattle.d_columns.specs.Ignored.{has_name}
use Rattle.d_columns.specs.Shown.{row_of}
use Rattle.d_columns.proofs.IgnoredFacts.{text_passes, text_fails, no_text_passes}
use Rattle.d_columns.proofs.cells.Cells.has_one_of.Goals as goal

pub returns-then-has_name : goal.returns-then-has_name
returns-then-has_name c =
    text_passes (has_name (row_of c.args.self.now) c.args.column) c.args.names.now c.loop-place.place c.loop-place-test.true
    (sym c.has_name.ensures ∙ c.if-has_name.true)

pub loop-place-preserved : goal.loop-place-preserved
loop-place-preserved c =
    text_fails (has_name (row_of c.args.self.now) c.args.column) c.args.names.now c.loop-place.place c.loop-place-test.true
    (sym c.has_name.ensures ∙ c.if-has_name.false) c.loop-place.invariant

pub returns : goal.returns
returns c =
    no_text_passes (has_name (row_of c.args.self.now) c.args.column) c.args.names.now c.loop-place.place c.loop-place-test.false c.loop-place.invariant
