use Rattle.std.proofs.Common.{◌≡◌}
use Rattle.d_bill.specs.Totals.{values_of}
use Rattle.d_bill.specs.Counting.{raised_peak}
use Rattle.d_bill.proofs.problem.Problem.raise_peaks.Given as goal

-- the peaks of the groups so far are raised
abbrev pub invariant-loop-group : goal.invariant-loop-group
invariant-loop-group l = l.peaks ≡ values_of 37 (raised_peak l.self l.t l.initial.peaks l.power l.group)
