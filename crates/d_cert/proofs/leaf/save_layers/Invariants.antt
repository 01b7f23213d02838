use Rattle.std.proofs.Common.{◌≡◌, ◌+◌, ◌≤◌, List, [], length}
use Rattle.d_num.specs.declared.pot.Pot.{Pot}
use Rattle.d_bill.specs.Inputs.{Inputs}
use Rattle.d_bound.specs.Bounders.{IsBounderOf, IsFilled, held_arcs}
use Rattle.d_certline.specs.Certificates.{layer_lines}
use Rattle.d_cert.specs.Written.{AreRows}
use Rattle.d_cert.proofs.RowFacts.{RowsLeft}
use Rattle.d_cert.proofs.leaf.save_layers.Given as goal

-- the layers so far were saved, and nothing else has changed
abbrev pub invariant-loop-left : goal.invariant-loop-left
invariant-loop-left g l = record {
  within : l.left ≤ l.intervals + 1;
  empty : l.line.items ≡ [];
  sent : (layers : List (List Pot)) → AreRows (held_arcs l.fn.bounder) layers → length layers ≡ l.intervals + 1 → g.D.Desk.tells
      → RowsLeft (held_arcs l.fn.bounder) l.left (layer_lines layers) (g.D.Desk.scene l.fn.desk) (g.D.Desk.scene l.desk);
  filled : IsFilled l.bounder;
  arcs : held_arcs l.bounder ≡ held_arcs l.fn.bounder;
  bounder : (i : Inputs) → IsBounderOf i l.fn.bounder → IsBounderOf i l.bounder;
  candidates : l.bounder.candidates ≡ l.fn.bounder.candidates;
  input : g.D.Desk.input_open l.desk ≡ g.D.Desk.input_open l.fn.desk;
  output : g.D.Desk.output_open l.desk ≡ g.D.Desk.output_open l.fn.desk;
  taken : g.D.Desk.taken l.desk ≡ g.D.Desk.taken l.fn.desk;
  later : g.D.Desk.faults l.fn.desk ≤ g.D.Desk.faults l.desk;
}

abbrev pub decreases-loop-left : goal.decreases-loop-left
decreases-loop-left g l = l.left
