use Rattle.std.proofs.Common.{◌≡◌, ◌++◌, pos, codes, slice_index}
use Rattle.d_text.specs.Text.{whole_text}
use Rattle.d_report.specs.Lines.{texts_of}
use Rattle.d_report.proofs.hours.put_fractions.Given as goal

-- the lines so far
abbrev pub invariant-loop-fraction : goal.invariant-loop-fraction
invariant-loop-fraction l = l.text.items ≡ l.fn.text.items ++ texts_of l.fraction-index (λ place. codes " " ++ whole_text (pos (slice_index l.fractions place)))
