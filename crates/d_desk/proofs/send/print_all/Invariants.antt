use Rattle.std.proofs.Common.{◌≡◌, ◌-◌, ◌≤◌, length, take}
use Rattle.d_desk.specs.Stages.{PrintsOnly}
use Rattle.d_desk.proofs.send.print_all.Given as goal

-- the first bytes of the part have gone out, and nothing else has changed
abbrev pub invariant-loop-done : goal.invariant-loop-done
invariant-loop-done g l = record {
  within : l.done ≤ length l.part;
  sent : g.D.Desk.tells → PrintsOnly (take l.done l.part) (g.D.Desk.scene l.fn.desk) (g.D.Desk.scene l.desk);
  input : g.D.Desk.input_open l.desk ≡ g.D.Desk.input_open l.fn.desk;
  output : g.D.Desk.output_open l.desk ≡ g.D.Desk.output_open l.fn.desk;
  taken : g.D.Desk.taken l.desk ≡ g.D.Desk.taken l.fn.desk;
  later : g.D.Desk.faults l.fn.desk ≤ g.D.Desk.faults l.desk;
}

abbrev pub decreases-loop-done : goal.decreases-loop-done
decreases-loop-done g l = length l.part - l.done
