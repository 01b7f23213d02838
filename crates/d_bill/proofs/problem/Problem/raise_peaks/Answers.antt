use Rattle.std.proofs.Common.{List, ℤ, ap, ◌∙◌, slice_set, get_or}
use Rattle.d_bill.proofs.CountFacts.{raised_none, raised_more}
use Rattle.d_bill.proofs.problem.Problem.raise_peaks.Goals as goal

pub loop-group-init : goal.loop-group-init
loop-group-init c = raised_none c.args.self.now c.args.t 37 c.args.peaks.now c.args.power c.requires.long

pub loop-group-preserved : goal.loop-group-preserved
loop-group-preserved c =
    let i = c.args.self.now in
    let t = c.args.t in
    let g = c.loop-group.group in
    let old = c.args.peaks.now in
    let power = c.args.power in
    let read = c.index-peaks-place.result in
    ap (λ (l : List ℤ). slice_set l g c.raised.result) c.loop-group.invariant
    ∙ raised_more i t 37 g old power read c.raised.result read c.loop-group-test.true (c.index-peaks-place.is ∙ ap (λ (l : List ℤ). get_or l g read) c.loop-group.invariant) c.raised.ensures
