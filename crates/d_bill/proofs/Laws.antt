-- Laws of feasible schedules: a schedule has one first break at most, and none where it is feasible.
use Rattle.std.proofs.Common.{◌≡◌, ◌⊎◌, inl, inr, ℕ, ℤ, pos, ◌<◌, ◌≤ℤ◌, ◌<ℤ◌, List, length, arith}
use Rattle.std.proofs.lemmas.Int.{ints}
use Rattle.d_bill.specs.Inputs.{Inputs}
use Rattle.d_bill.specs.Schedules.{KeepsAt, IsFeasible, IsFirstBreak, level_at}

-- nothing is above and at most the same number
not_both : (a b : ℤ) → a <ℤ b → b ≤ℤ a → ⊥
not_both a b above below = omega (arith, ints)

-- a schedule with a first break isn't feasible
pub break_excludes : (i : Inputs) (s : List ℕ) (t : ℕ) → IsFirstBreak i s t → IsFeasible i s → ⊥
break_excludes i s t first feasible = by_break first.breaks
  where
    by_break : ((t < length i.net) × (¬ KeepsAt i s t)) ⊎ ((t ≡ length i.net) × (level_at i s t <ℤ pos i.storage.end)) → ⊥
    by_break (inl broken) = broken.1 (feasible.keeps t broken.0)
    by_break (inr missed) = not_both (level_at i s t) (pos i.storage.end) missed.1 (rw missed.0 feasible.ends)

-- the first of two breaks can't come before the second
not_before : (i : Inputs) (s : List ℕ) (t u : ℕ) → IsFirstBreak i s t → IsFirstBreak i s u → t < u → ⊥
not_before i s t u first second before = by_breaks first.breaks second.breaks
  where
    by_breaks : ((t < length i.net) × (¬ KeepsAt i s t)) ⊎ ((t ≡ length i.net) × (level_at i s t <ℤ pos i.storage.end)) →
        ((u < length i.net) × (¬ KeepsAt i s u)) ⊎ ((u ≡ length i.net) × (level_at i s u <ℤ pos i.storage.end)) → ⊥
    by_breaks (inl broken) other = broken.1 (second.kept t before)
    by_breaks (inr missed) (inl broken) = let at_end = missed.0 in let inside = broken.0 in absurd (omega arith)
    by_breaks (inr missed) (inr again) = let at_end = missed.0 in let there = again.0 in absurd (omega arith)

-- a schedule has one first break at most
pub first_break_same : (i : Inputs) (s : List ℕ) (t u : ℕ) → IsFirstBreak i s t → IsFirstBreak i s u → t ≡ u
first_break_same i s t u first second = order (not_before i s t u first second) (not_before i s u t second first)
  where
    order : (t < u → ⊥) → (u < t → ⊥) → t ≡ u
    order low high = omega arith
