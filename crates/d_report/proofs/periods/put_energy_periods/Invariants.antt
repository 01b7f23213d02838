use Rattle.std.proofs.Common.{◌≡◌, ◌++◌}
use Rattle.d_tariff.specs.Terms.{period_at}
use Rattle.d_report.specs.Tariffs.{energy_lines}
use Rattle.d_report.specs.Lines.{texts_of}
use Rattle.d_report.proofs.periods.put_energy_periods.Given as goal

-- the lines so far
abbrev pub invariant-loop-number : goal.invariant-loop-number
invariant-loop-number l = l.text.items ≡ l.fn.text.items ++ texts_of l.number (λ number. energy_lines number (period_at l.periods number))
