use Rattle.std.proofs.Common.{◌≡◌, ◌∙◌, ℕ, List, false, true, take, arith, rules, sym, ap}
use Rattle.std.proofs.lemmas.List.{take_all}
use Rattle.d_text.specs.Grid.{IsRow, IsGridText}
use Rattle.d_text.specs.Brackets.{row_reader, row_level, grid_reader, grid_level, is_closed}
use Rattle.d_text.proofs.ReaderFacts.{run, run-more, stuck-refused, end-refused}
use Rattle.d_text.proofs.PartFacts.{GridGood, grid-recognizes}
use Rattle.d_text.proofs.GridFacts.{closed-form, not-closed, grid-hours}
use Rattle.d_text.proofs.grid.read_grid.Goals as goal

pub returns-then-not-step-clause-fault : goal.returns-then-not-step-clause-fault
returns-then-not-step-clause-fault c =
    stuck-refused grid_reader IsGridText GridGood grid-recognizes c.args.cell.now c.loop-place.place (grid_level c.loop-place.scan) c.loop-place-test.true c.loop-place.invariant.reads
    (c.step.ensures.stops c.loop-place.place c.if-not-step.true)

pub loop-place-preserved : goal.loop-place-preserved
loop-place-preserved c = record {
  reads = run-more grid_reader c.args.cell.now c.loop-place.place (grid_level c.loop-place.scan) (grid_level c.step.new.self) c.loop-place-test.true c.loop-place.invariant.reads
      (c.step.ensures.goes c.loop-place.place c.if-not-step.false);
  room = c.step.ensures.room c.if-not-step.false;
}

pub returns-then-is_closed-clause-value : goal.returns-then-is_closed-clause-value
returns-then-is_closed-clause-value c =
    let all : take c.loop-place.place c.args.cell.now ≡ c.args.cell.now = take_all c.loop-place.place c.args.cell.now (omega arith) in
    let closed : is_closed c.loop-place.scan.stage ≡ true = search rules in
    closed-form row_reader 12 IsRow GridGood grid-recognizes c.args.cell.now c.loop-place.scan.stage c.loop-place.scan.count c.loop-place.scan.rows (row_level c.loop-place.scan.row)
    (sym (ap (λ (t : List ℕ). run grid_reader 0 t grid_reader.start) all) ∙ c.loop-place.invariant.reads) closed c.loop-place.invariant.room.fits c.loop-place.invariant.room.size

pub returns-then-is_closed-clause-hours : goal.returns-then-is_closed-clause-hours
returns-then-is_closed-clause-hours c = grid-hours c.args.cell.now c.loop-place.scan.rows (returns-then-is_closed-clause-value c)

pub returns-else-is_closed-clause-fault : goal.returns-else-is_closed-clause-fault
returns-else-is_closed-clause-fault c =
    let all : take c.loop-place.place c.args.cell.now ≡ c.args.cell.now = take_all c.loop-place.place c.args.cell.now (omega arith) in
    let open' : is_closed c.loop-place.scan.stage ≡ false = search rules in
    end-refused grid_reader IsGridText GridGood grid-recognizes c.args.cell.now (grid_level c.loop-place.scan) (sym (ap (λ (t : List ℕ). run grid_reader 0 t grid_reader.start) all) ∙ c.loop-place.invariant.reads)
    (not-closed c.loop-place.scan.stage _ _ open')
