use Rattle.std.proofs.Common.{◌≡◌, Some, ◌∙◌, ℕ, List, false, true, take, arith, rules, sym, ap}
use Rattle.std.proofs.lemmas.List.{take_all}
use Rattle.d_text.specs.Grid.{IsItem, IsListText}
use Rattle.d_text.specs.Brackets.{item_reader, list_reader, list_level, is_closed}
use Rattle.d_text.proofs.ReaderFacts.{run, run-more, stuck-refused, end-refused}
use Rattle.d_text.proofs.PartFacts.{ListGood, list-recognizes}
use Rattle.d_text.proofs.GridFacts.{closed-form, not-closed, list-some, list-within}
use Rattle.d_text.proofs.items.split_list.Goals as goal

pub returns-then-not-step-clause-fault : goal.returns-then-not-step-clause-fault
returns-then-not-step-clause-fault c =
    stuck-refused list_reader IsListText ListGood list-recognizes c.args.cell.now c.loop-place.place (list_level c.loop-place.scan) c.loop-place-test.true c.loop-place.invariant.reads
    (c.step.ensures.stops c.if-not-step.true)

pub loop-place-preserved : goal.loop-place-preserved
loop-place-preserved c = record {
  reads = run-more list_reader c.args.cell.now c.loop-place.place (list_level c.loop-place.scan) (list_level c.step.new.self) c.loop-place-test.true c.loop-place.invariant.reads
      (c.step.ensures.goes c.if-not-step.false);
  room = c.step.ensures.room c.if-not-step.false;
}

pub returns-then-is_closed-clause-value : goal.returns-then-is_closed-clause-value
returns-then-is_closed-clause-value c =
    let all : take c.loop-place.place c.args.cell.now ≡ c.args.cell.now = take_all c.loop-place.place c.args.cell.now (omega arith) in
    let closed : is_closed c.loop-place.scan.stage ≡ true = search rules in
    closed-form item_reader 12 IsItem ListGood list-recognizes c.args.cell.now c.loop-place.scan.stage c.loop-place.scan.count c.loop-place.scan.spans (Some c.loop-place.scan.span)
    (sym (ap (λ (t : List ℕ). run list_reader 0 t list_reader.start) all) ∙ c.loop-place.invariant.reads) closed c.loop-place.invariant.room.fits c.loop-place.invariant.room.size

pub returns-then-is_closed-clause-within : goal.returns-then-is_closed-clause-within
returns-then-is_closed-clause-within c = list-some c.args.cell.now c.loop-place.scan.spans (returns-then-is_closed-clause-value c)

pub returns-then-is_closed-clause-ends : goal.returns-then-is_closed-clause-ends
returns-then-is_closed-clause-ends c = list-within c.args.cell.now c.loop-place.scan.spans (returns-then-is_closed-clause-value c)

pub returns-else-is_closed-clause-fault : goal.returns-else-is_closed-clause-fault
returns-else-is_closed-clause-fault c =
    let all : take c.loop-place.place c.args.cell.now ≡ c.args.cell.now = take_all c.loop-place.place c.args.cell.now (omega arith) in
    let open' : is_closed c.loop-place.scan.stage ≡ false = search rules in
    end-refused list_reader IsListText ListGood list-recognizes c.args.cell.now (list_level c.loop-place.scan) (sym (ap (λ (t : List ℕ). run list_reader 0 t list_reader.start) all) ∙ c.loop-place.invariant.reads)
    (not-closed c.loop-place.scan.stage _ _ open')
