use Rattle.std.proofs.Common.{◌≡◌, ◌++◌}
use Rattle.d_tier.specs.Tables.{end_at, price_at}
use Rattle.d_report.specs.Tariffs.{tier_line}
use Rattle.d_report.specs.Lines.{texts_of}
use Rattle.d_report.proofs.periods.put_tiers.Given as goal

-- the lines so far
abbrev pub invariant-loop-tier : goal.invariant-loop-tier
invariant-loop-tier l = l.text.items ≡ l.fn.text.items ++ texts_of l.tier (λ tier. tier_line tier (end_at l.tiers tier) (price_at l.tiers tier))
