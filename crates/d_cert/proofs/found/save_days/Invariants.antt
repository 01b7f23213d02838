use Rattle.std.proofs.Common.{◌≡◌, ◌-◌, ◌≤◌, []}
use Rattle.d_certline.specs.Certificates.{day_lines}
use Rattle.d_cert.specs.Written.{days_of}
use Rattle.d_cert.proofs.DayFacts.{AreLeft}
use Rattle.d_cert.proofs.found.save_days.Given as goal

-- the days so far were saved, and nothing else has changed
abbrev pub invariant-loop-day : goal.invariant-loop-day
invariant-loop-day g l = record {
  within : l.day ≤ l.days;
  empty : l.line.items ≡ [];
  sent : g.D.Desk.tells → AreLeft l.per_day (l.days - l.day) l.day l.rest (day_lines 1 (days_of l.per_day l.days l.modes)) (g.D.Desk.scene l.fn.desk) (g.D.Desk.scene l.desk);
  input : g.D.Desk.input_open l.desk ≡ g.D.Desk.input_open l.fn.desk;
  output : g.D.Desk.output_open l.desk ≡ g.D.Desk.output_open l.fn.desk;
  taken : g.D.Desk.taken l.desk ≡ g.D.Desk.taken l.fn.desk;
  later : g.D.Desk.faults l.fn.desk ≤ g.D.Desk.faults l.desk;
}

abbrev pub decreases-loop-day : goal.decreases-loop-day
decreases-loop-day g l = l.days - l.day
