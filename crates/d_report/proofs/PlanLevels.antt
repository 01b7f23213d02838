-- The modes and levels of a feasible schedule.
use Rattle.std.proofs.Common.{◌≡◌, ℕ, ℤ, pos, ◌+◌, ◌<◌, ◌+ℤ◌, List, ◌++◌, length, Some, refl, sym, ap, ◌∙◌, subst, arith, get_or, slice_get, slice_index, append_assoc}
use Rattle.std.proofs.lemmas.Int.{ints}
use Rattle.std.proofs.lemmas.Option.{slice_get_within, slice_get_read}
use Rattle.d_num.specs.Amount.{IsUpTo}
use Rattle.d_batt.specs.declared.mode.Mode.{Mode}
use Rattle.d_bill.specs.Inputs.{Inputs, IsInRange}
use Rattle.d_bill.specs.Schedules.{KeepsRules, IsFeasible, level_at, change_of}
use Rattle.d_bill.proofs.RuleFacts.{keeps_with, change_there}
use Rattle.d_num.proofs.Sums.{sum_more, sum_none}
use Rattle.d_report.specs.Lines.{texts_of}
use Rattle.d_report.specs.Plans.{level_line, schedule_line}
use Rattle.d_report.proofs.PlanTexts.{texts_more, line_there}

-- the level after one interval more
level_more : (i : Inputs) (s : List ℕ) (t level after : ℕ) → pos level ≡ level_at i s t → pos after ≡ pos level +ℤ change_of i (slice_index s t) → pos after ≡ level_at i s (t + 1)
level_more i s t level after before higher =
    let changes = sum_more t (λ k. change_of i (slice_index s k)) in
    omega (arith, ints, before, higher, changes)

-- the start
pub level_none : (i : Inputs) (s : List ℕ) → pos i.storage.start ≡ level_at i s 0
level_none i s = let changes = sum_none (λ k. change_of i (slice_index s k)) in omega (arith, ints, changes)

module _ (i : Inputs) (s : List ℕ) (feasible : IsFeasible i s) (t : ℕ) (inside : t < length i.net) where
  -- its number stands for a mode
  pub mode_at : slice_index s t < length i.storage.modes
  mode_at = let keeps = feasible.keeps t inside in slice_get_within i.storage.modes (slice_index s t) keeps.mode keeps.there

  -- the mode that was read is the one of that number
  pub mode_read : (modes : List Mode) (mode : Mode) → modes ≡ i.storage.modes → mode ≡ get_or modes (slice_index s t) mode → slice_get i.storage.modes (slice_index s t) ≡ Some mode
  mode_read modes mode same read =
      slice_get_read i.storage.modes (length i.storage.modes) (slice_index s t) mode refl mode_at (read ∙ ap (λ (list : List Mode). get_or list (slice_index s t) mode) same)

  -- the level after it is one that the battery has
  pub level_kept : (level : ℕ) (mode : Mode) → IsInRange i → slice_get i.storage.modes (slice_index s t) ≡ Some mode → pos level ≡ level_at i s t → IsUpTo 255 (pos level +ℤ mode.change)
  level_kept level mode fine there stands =
      let keeps : KeepsRules i t (slice_index s t) (pos level) = subst (λ (z : ℤ). KeepsRules i t (slice_index s t) z) (sym stands) (feasible.keeps t inside) in
      let kept = keeps_with i t (slice_index s t) (pos level) mode there keeps in
      let least = kept.floor in
      let most = kept.capacity in
      let top = fine.storage.top in
      (omega (arith, ints, least), omega (arith, ints, most, top))

-- one interval more: its line, and the level after it
pub interval_more : (i : Inputs) (s : List ℕ) (t level after : ℕ) (mode : Mode) (old before now : List ℕ) → slice_get i.storage.modes (slice_index s t) ≡ Some mode
    → before ≡ old ++ texts_of t (schedule_line i s) → pos level ≡ level_at i s t → pos after ≡ pos level +ℤ mode.change → now ≡ before ++ level_line i t mode (pos after)
    → (now ≡ old ++ texts_of (t + 1) (schedule_line i s)) × (pos after ≡ level_at i s (t + 1))
interval_more i s t level after mode old before now there lines stands moves put =
    let next : pos after ≡ level_at i s (t + 1) = level_more i s t level after stands (moves ∙ ap (λ (z : ℤ). pos level +ℤ z) (sym (change_there i (slice_index s t) mode there))) in (
      put
          ∙ ap (λ (list : List ℕ). list ++ level_line i t mode (pos after)) lines
          ∙ append_assoc old (texts_of t (schedule_line i s)) (level_line i t mode (pos after))
          ∙ ap (λ (list : List ℕ). old ++ list) (ap (λ (z : ℤ). texts_of t (schedule_line i s) ++ level_line i t mode z) next
          ∙ ap (λ (list : List ℕ). texts_of t (schedule_line i s) ++ list) (sym (line_there i s t mode there)) ∙ sym (texts_more t (schedule_line i s))),
      next,
    )
