use Rattle.std.proofs.Common.{◌≡◌, ◌<◌, ℕ, List, length, take, arith, rules, sym, ap, ◌∙◌}
use Rattle.std.proofs.lemmas.List.{take_all, take_more}
use Rattle.d_text.specs.declared.scan.Phase.TheVariants.{Start}
use Rattle.d_text.proofs.PhaseFacts.{run}
use Rattle.d_text.proofs.FaultFacts.{run-more, stuck-fault, end-fault}
use Rattle.d_text.proofs.decimal.scan.Goals as goal

pub returns-in-None-clause-fault : goal.returns-in-None-clause-fault
returns-in-None-clause-fault c =
    stuck-fault c.args.cell.now c.loop-place.place c.loop-place.scan (omega arith) c.loop-place.invariant.runs c.loop-place.invariant.holds c.in-None.ensures.phase

pub loop-place-preserved : goal.loop-place-preserved
loop-place-preserved c =
    let lt : c.loop-place.place < length c.args.cell.now = omega arith in
    record {
      runs = run-more c.args.cell.now c.loop-place.place c.loop-place.scan.phase c.in-Some.next.phase lt c.loop-place.invariant.runs c.in-Some.ensures.phase;
      holds = rw (take_more c.args.cell.now c.loop-place.place 0 lt) (c.in-Some.ensures.read (take c.loop-place.place c.args.cell.now) c.loop-place.invariant.holds);
      short = c.in-Some.ensures.room c.loop-place.place c.loop-place.invariant.short;
    }

pub returns-else-is_empty-clause-fault : goal.returns-else-is_empty-clause-fault
returns-else-is_empty-clause-fault c =
    let all : take c.loop-place.place c.args.cell.now ≡ c.args.cell.now = take_all c.loop-place.place c.args.cell.now (omega arith) in
    end-fault c.args.cell.now c.loop-place.scan (search rules) (sym (ap (λ (t : List ℕ). run t Start) all) ∙ c.loop-place.invariant.runs) (rw all at c.loop-place.invariant.holds) (search rules)
