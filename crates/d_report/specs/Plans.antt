-- The text of a plan. All forms are our own.
use Rattle.std.specs.Prelude.{ℕ, ◌+◌, ℤ, pos, List, [], ◌∷◌, ◌++◌, Option, Some, None, length, slice_get, slice_index, option_map, unwrap_or, codes}
use Rattle.std.specs.Fmt.{signed_decimal}
use Rattle.d_text.specs.Text.{whole_text}
use Rattle.d_batt.specs.declared.mode.Mode.{Mode}
use Rattle.d_bill.specs.Inputs.{Inputs}
use Rattle.d_bill.specs.Flows.{flow_of}
use Rattle.d_bill.specs.Schedules.{level_at}
use Rattle.d_bill.specs.Totals.{tally_of}
use Rattle.d_bill.specs.Bills.{bill_of, metered_bill}
use Rattle.d_report.specs.Lines.{line, money_line, texts_of, start_text, title_lines}
use Rattle.d_report.specs.Charges.{bill_lines}
use Rattle.d_report.specs.declared.finding.Finding.{Finding}
use Rattle.d_report.specs.declared.finding.Found.{Found}
use Rattle.d_report.specs.declared.finding.Found.TheVariants.{Least, GapBudget, GapDuality}

-- the line of interval t in this mode, after which the battery is at this level: its start, the mode's name, the level and what flows
-- through the meter in Wh
abbrev pub level_line : Inputs → ℕ → Mode → ℤ → List ℕ
level_line i t mode level = line (start_text i t ++ 32 ∷ (mode.name ++ 32 ∷ (signed_decimal level ++ 32 ∷ signed_decimal (flow_of i t mode))))

-- the line of interval t of a schedule
abbrev pub schedule_line : Inputs → List ℕ → ℕ → List ℕ
schedule_line i s t = unwrap_or (option_map (λ mode. level_line i t mode (level_at i s (t + 1))) (slice_get i.storage.modes (slice_index s t))) []

-- the lines of all intervals
abbrev pub schedule_lines : Inputs → List ℕ → List ℕ
schedule_lines i s = texts_of (length i.net) (schedule_line i s)

-- the line that says whether the bill is the least; or that a smaller one may be possible, which more boxes may find, or which no number of
-- boxes finds
abbrev pub found_line : Found → List ℕ
found_line Least = line (codes "verdict least")
found_line GapBudget = line (codes "verdict gap budget")
found_line GapDuality = line (codes "verdict gap duality")

-- the line of the bill below which no schedule comes; nothing where none is known
abbrev pub bound_line : Option ℤ → List ℕ
bound_line None = []
bound_line (Some lower) = money_line (codes "lower ") lower

-- the same where it is shown: the plan's bill may not be the least
abbrev pub lower_line : Found → Option ℤ → List ℕ
lower_line Least lower = []
lower_line GapBudget lower = bound_line lower
lower_line GapDuality lower = bound_line lower

-- in how many boxes that was found
abbrev pub boxes_line : ℕ → List ℕ
boxes_line boxes = line (codes "boxes " ++ whole_text (pos boxes))

-- the lines of a plan before those of its bill: what is known of the bill, what it is, what the readings alone cost, and in how many boxes
-- that was found
abbrev pub verdict_lines : ℤ → ℤ → Finding → List ℕ
verdict_lines bill metered finding =
    found_line finding.found ++ (money_line (codes "bill ") bill ++ (lower_line finding.found finding.lower
    ++ (money_line (codes "metered ") metered ++ boxes_line finding.boxes)))

-- the text of a plan of which this is known
abbrev pub plan_text : Inputs → List ℕ → List ℕ → Finding → List ℕ
plan_text i label s finding =
    title_lines (codes "plan") i label ++ (verdict_lines (bill_of i s) (metered_bill i) finding ++ (bill_lines i (tally_of i s) ++ schedule_lines i s))
