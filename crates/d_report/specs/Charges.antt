-- The lines of a bill: what each energy period and each group of intervals is charged, what the export is paid, the fixed charge, the sum of
-- these, and the minimum. All forms are our own.
use Rattle.std.specs.Prelude.{ℕ, ℤ, pos, List, [], ◌++◌, Option, Some, None, length, slice_index_or, slice_get, option_map, unwrap_or, codes}
use Rattle.d_text.specs.Text.{whole_text}
use Rattle.d_tier.specs.declared.peak.Peak.{Peak}
use Rattle.d_tariff.specs.declared.period.Period.{Period}
use Rattle.d_tariff.specs.Terms.{period_at}
use Rattle.d_bill.specs.Inputs.{Inputs}
use Rattle.d_bill.specs.Totals.{Tallied}
use Rattle.d_bill.specs.Bills.{period_charge, group_charge, sum_of, bill_by}
use Rattle.d_report.specs.Lines.{line, money_line, texts_of, title_lines}

-- the line of an energy period: its number, its import of the month in Wh and what that is charged
abbrev pub period_line : ℕ → ℤ → ℤ → List ℕ
period_line number import charge = codes "period " ++ (whole_text (pos number) ++ (codes " import " ++ (whole_text import ++ money_line (codes " charge ") charge)))

-- the same of a problem and its tally; nothing where no interval is in the period
abbrev pub period_at_line : Inputs → Tallied → ℕ → Option Period → List ℕ
period_at_line i tally number None = []
period_at_line i tally number (Some period) = period_line number (slice_index_or tally.totals number (pos 0)) (period_charge i tally number)

-- the lines of all energy periods
abbrev pub period_lines : Inputs → Tallied → List ℕ
period_lines i tally = texts_of 36 (λ number. period_at_line i tally number (period_at i.energy number))

-- the least power in W that a group is charged for
abbrev pub floor_at : Inputs → ℕ → ℤ
floor_at i group = unwrap_or (option_map (λ (peak : Peak). peak.floor) (slice_get i.peaks group)) (pos 0)

-- the front of a group's line: the demand period for which it stands and its greatest power in W, or that it is flat demand's, its greatest
-- power and the least that is charged for
abbrev pub group_front : Option ℕ → ℤ → ℤ → List ℕ
group_front (Some number) peak floor = codes "group " ++ (whole_text (pos number) ++ (codes " peak " ++ whole_text peak))
group_front None peak floor = codes "flat peak " ++ (whole_text peak ++ (codes " floor " ++ whole_text floor))

-- the line of a group
abbrev pub group_line : Option ℕ → ℤ → ℤ → ℤ → List ℕ
group_line number peak floor charge = group_front number peak floor ++ money_line (codes " charge ") charge

-- the same of a problem and its tally
abbrev pub group_at_line : Inputs → Tallied → ℕ → List ℕ
group_at_line i tally group =
    group_line (slice_get i.demand_groups group) (slice_index_or tally.peaks group (pos 0)) (floor_at i group) (group_charge i tally group)

-- the lines of all groups
abbrev pub group_lines : Inputs → Tallied → List ℕ
group_lines i tally = texts_of (length i.peaks) (group_at_line i tally)

-- the line of the minimum
abbrev pub minimum_line : Option ℤ → List ℕ
minimum_line None = line (codes "minimum none")
minimum_line (Some minimum) = money_line (codes "minimum ") minimum

-- the lines behind the groups'
abbrev pub closing_lines : Inputs → Tallied → List ℕ
closing_lines i tally = money_line (codes "fixed ") i.fixed ++ (money_line (codes "sum ") (sum_of i tally) ++ minimum_line i.minimum)

-- the lines of a bill
abbrev pub bill_lines : Inputs → Tallied → List ℕ
bill_lines i tally = period_lines i tally ++ (money_line (codes "credit ") tally.credit ++ (group_lines i tally ++ closing_lines i tally))

-- the text of a bill
abbrev pub bill_text : Inputs → List ℕ → Tallied → List ℕ
bill_text i label tally = title_lines (codes "bill") i label ++ (money_line (codes "bill ") (bill_by i tally) ++ bill_lines i tally)
