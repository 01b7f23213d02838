use Rattle.std.proofs.Common.{◌≡◌, ◌++◌, pos, codes, slice_index}
use Rattle.d_text.specs.Text.{whole_text}
use Rattle.d_report.specs.Lines.{texts_of}
use Rattle.d_report.proofs.hours.put_numbers.Given as goal

-- the lines so far
abbrev pub invariant-loop-number : goal.invariant-loop-number
invariant-loop-number l = l.text.items ≡ l.fn.text.items ++ texts_of l.number-index (λ place. codes " " ++ whole_text (pos (slice_index l.numbers place)))
