use Rattle.std.proofs.Common.{◌≡◌, ◌++◌}
use Rattle.d_tariff.specs.Terms.{tiers_at}
use Rattle.d_report.specs.Tariffs.{demand_lines}
use Rattle.d_report.specs.Lines.{texts_of}
use Rattle.d_report.proofs.periods.put_demand_periods.Given as goal

-- the lines so far
abbrev pub invariant-loop-number : goal.invariant-loop-number
invariant-loop-number l = l.text.items ≡ l.fn.text.items ++ texts_of l.number (λ number. demand_lines l.word number (tiers_at l.lists number))
