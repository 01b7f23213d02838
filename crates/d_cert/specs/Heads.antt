-- The lines in front of the tree, in parts.
use Rattle.std.specs.Prelude.{ℕ, pos, List, [], ◌∷◌, length, unsigned_abs}
use Rattle.d_bill.specs.Inputs.{Inputs}
use Rattle.d_bill.specs.Slopes.{tiered}
use Rattle.d_search.specs.declared.outcome.Verdict.{Verdict}
use Rattle.d_certline.specs.Lines.{Line}
use Rattle.d_certline.specs.Lines as line
use Rattle.d_certline.specs.Certificates.{kind_of}
use Rattle.d_cert.specs.Written.{found_by}

-- the version, the label, the month and its intervals
abbrev pub month_lines : Inputs → List ℕ → List Line
month_lines i label = line.version ∷ line.label label ∷ line.month (unsigned_abs i.year) i.number ∷ line.minutes (pos i.minutes)
    ∷ line.intervals (pos (length i.net)) ∷ []

-- the battery's levels, and how many modes, groups and tiered periods there are
abbrev pub size_lines : Inputs → List Line
size_lines i = line.levels (pos i.storage.floor) (pos i.storage.capacity) (pos i.storage.start) (pos i.storage.end)
    ∷ line.modes (pos (length i.storage.modes)) ∷ line.groups (pos (length i.peaks)) ∷ line.tiered (pos (length (tiered i))) ∷ []

-- what is claimed
abbrev pub verdict_line : Verdict → List Line
verdict_line verdict = line.verdict (kind_of (found_by verdict [] (pos 0) (pos 0))) ∷ []
