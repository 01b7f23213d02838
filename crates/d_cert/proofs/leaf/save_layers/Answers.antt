use Rattle.std.proofs.lemmas.Result.{err_from_is_err_and}
use Rattle.std.proofs.Common.{◌-◌, ◌≤◌, arith, sym, refl, subst, ◌∙◌}
use Rattle.d_path.specs.Arcs.{Arcs, intervals_of}
use Rattle.d_bound.specs.Bounders.{held_arcs}
use Rattle.d_cert.proofs.RowFacts.{rows_begin, rows_step, rows_stop, rows_end, turned_row}
use Rattle.d_cert.proofs.leaf.save_layers.Goals as goal

pub loop-left-init : goal.loop-left-init
loop-left-init g c = record {
  within = omega arith;
  empty = c.requires.empty;
  sent = λ layers rows count t. rows_begin _ layers _ _ rows count;
  filled = c.requires.filled;
  arcs = refl;
  bounder = λ i b. b;
  candidates = refl;
  input = refl;
  output = refl;
  taken = refl;
  later = omega arith;
}

pub turn_to-requires-clause-inside : goal.turn_to-requires-clause-inside
turn_to-requires-clause-inside g c =
    subst (λ (a : Arcs). c.loop-left.left - 1 ≤ intervals_of a) (sym c.loop-left.invariant.arcs) (omega (arith, c.loop-left.invariant.within, c.requires.intervals))

pub loop-left-preserved : goal.loop-left-preserved
loop-left-preserved g c = record {
  within = omega (arith, c.loop-left.invariant.within);
  empty = c.in_ok-save_layer.ensures.empty;
  sent = λ layers rows count t. rows_step (held_arcs c.args.bounder.now) c.loop-left.left (c.loop-left.left - 1) c.layer.result.now _ _ _ _ (omega (arith, c.loop-left-test.true))
      (turned_row _ _ _ _ (c.turn_to.ensures.arcs ∙ c.loop-left.invariant.arcs) c.layer.ensures.cheapest c.layer.ensures.wide) (c.loop-left.invariant.sent layers rows count t)
      (c.in_ok-save_layer.ensures.told t);
  filled = c.turn_to.ensures.filled;
  arcs = c.turn_to.ensures.arcs ∙ c.loop-left.invariant.arcs;
  bounder = λ i b. c.turn_to.ensures.bounder i (c.loop-left.invariant.bounder i b);
  candidates = c.turn_to.ensures.candidates ∙ c.loop-left.invariant.candidates;
  input = cc;
  output = cc;
  taken = cc;
  later = omega (arith, c.loop-left.invariant.later, c.in_ok-save_layer.ensures.cause.later);
}

pub returns-in_err-save_layer-clause-told : goal.returns-in_err-save_layer-clause-told
returns-in_err-save_layer-clause-told g c = λ layers rows count t.
    let p = err_from_is_err_and c.from_residual.result c.from_residual.ensures.1 in
    rw p.1 (rows_stop (held_arcs c.args.bounder.now) c.loop-left.left (c.loop-left.left - 1) c.layer.result.now _ _ _ _ (omega (arith, c.loop-left-test.true))
    (turned_row _ _ _ _ (c.turn_to.ensures.arcs ∙ c.loop-left.invariant.arcs) c.layer.ensures.cheapest c.layer.ensures.wide) (c.loop-left.invariant.sent layers rows count t)
    (c.in_err-save_layer.ensures.told t))

pub returns-clause-told : goal.returns-clause-told
returns-clause-told g c = λ layers rows count t.
    rows_end (held_arcs c.args.bounder.now) c.loop-left.left _ _ _ (omega (arith, c.loop-left-test.false)) (c.loop-left.invariant.sent layers rows count t)
