-- A schedule is feasible, or has a first break.
use Rattle.std.proofs.Common.{◌≡◌, ◌⊎◌, inl, inr, ℕ, zero, suc, ◌<◌, ℤ, pos, ◌≤ℤ◌, ◌<ℤ◌, ◌+ℤ◌, List, length, Option, None, Some, slice_get, slice_index, arith, refl, sym, subst, ◌∙◌}
use Rattle.std.proofs.lemmas.Int.{ints}
use Rattle.d_batt.specs.declared.mode.Mode.{Mode}
use Rattle.d_bill.specs.Inputs.{Inputs}
use Rattle.d_bill.specs.Flows.{IsPermitted}
use Rattle.d_bill.specs.Schedules.{KeepsRules, KeepsAt, IsFeasible, IsFirstBreak, level_at}
use Rattle.d_bill.proofs.Deciding.{Decided, holds, fails, both, restated, integer_at_most, same_number}

-- the rules with this mode
abbrev ModeKeeps : Inputs → ℕ → ℤ → Mode → Type 0
ModeKeeps i t level mode = IsPermitted i t mode × ((pos mode.low ≤ℤ level) × ((level ≤ℤ pos mode.high) × ((pos i.storage.floor ≤ℤ (level +ℤ mode.change)) × ((level +ℤ mode.change) ≤ℤ pos i.storage.capacity))))

mode_decided : (i : Inputs) (t : ℕ) (level : ℤ) (mode : Mode) → Decided (ModeKeeps i t level mode)
mode_decided i t level mode = both permitted_decided (both (integer_at_most (pos mode.low) level) (both (integer_at_most level (pos mode.high))
    (both (integer_at_most (pos i.storage.floor) (level +ℤ mode.change)) (integer_at_most (level +ℤ mode.change) (pos i.storage.capacity)))))
  where
    permitted_decided : Decided (IsPermitted i t mode)
    permitted_decided = restated (λ h. record { import = h.0; export = h.1 }) (λ p. (p.import, p.export)) (both (integer_at_most _ _) (integer_at_most _ _))

-- an interval keeps every rule or not
keeps_decided : (i : Inputs) (t number : ℕ) (level : ℤ) → Decided (KeepsRules i t number level)
keeps_decided i t number level = by_mode (slice_get i.storage.modes number) refl
  where
    by_mode : (found : Option Mode) → slice_get i.storage.modes number ≡ found → Decided (KeepsRules i t number level)
    by_mode None none = fails (λ keeps. let same : ◌≡◌ {A = Option Mode} None (Some keeps.mode) = sym none ∙ keeps.there in absurd (cc))
    by_mode (Some mode) there = restated
        (λ h. record { mode = mode; there = there; permitted = h.0; low = h.1.0; high = h.1.1.0; floor = h.1.1.1.0; capacity = h.1.1.1.1 })
        (λ keeps. let same : Some keeps.mode ≡ Some mode = sym keeps.there ∙ there in
        let mode_is : keeps.mode ≡ mode = cc in
        let P : Mode → Type 0 = ModeKeeps i t level in
        subst P mode_is (keeps.permitted, (keeps.low, (keeps.high, (keeps.floor, keeps.capacity)))))
        (mode_decided i t level mode)

-- the first n intervals keep every rule, or one of them is the first that doesn't
abbrev FirstBreaks : Inputs → List ℕ → ℕ → Type 0
FirstBreaks i s n = ((k : ℕ) → k < n → KeepsAt i s k) ⊎ ((t : ℕ) × (t < n) × ((k : ℕ) → k < t → KeepsAt i s k) × (KeepsAt i s t → ⊥))

first_breaks : (i : Inputs) (s : List ℕ) (n : ℕ) → FirstBreaks i s n
first_breaks i s zero = inl (λ k lt. absurd (omega arith))
first_breaks i s (suc n) = by_first (first_breaks i s n)
  where
    last : ((k : ℕ) → k < n → KeepsAt i s k) → KeepsAt i s n → (k : ℕ) → k < suc n → Decided (k ≡ n) → KeepsAt i s k
    last below at k lt (holds same) = rw same at
    last below at k lt (fails other) = below k (omega arith)

    by_last : ((k : ℕ) → k < n → KeepsAt i s k) → Decided (KeepsAt i s n) → FirstBreaks i s (suc n)
    by_last below (holds at) = inl (λ k lt. last below at k lt (same_number k n))
    by_last below (fails none) = inr (n, omega arith, below, none)

    by_first : FirstBreaks i s n → FirstBreaks i s (suc n)
    by_first (inl below) = by_last below (keeps_decided i n (slice_index s n) (level_at i s n))
    by_first (inr first) = inr (first.0, omega (arith, first.1), first.2, first.3)

-- a schedule of all intervals is feasible, or has a first break
pub break_or_feasible : (i : Inputs) (s : List ℕ) → length s ≡ length i.net → IsFeasible i s ⊎ ((t : ℕ) × IsFirstBreak i s t)
break_or_feasible i s long = by_first (first_breaks i s (length i.net))
  where
    at_end : ((k : ℕ) → k < length i.net → KeepsAt i s k) → Decided (pos i.storage.end ≤ℤ level_at i s (length i.net)) → IsFeasible i s ⊎ ((t : ℕ) × IsFirstBreak i s t)
    at_end keeps (holds enough) = inl (record { long = long; keeps = keeps; ends = enough })
    at_end keeps (fails few) = inr (length i.net, record { kept = keeps; breaks = inr (refl, below (pos i.storage.end) (level_at i s (length i.net)) few) })
      where
        below : (a b : ℤ) → (a ≤ℤ b → ⊥) → b <ℤ a
        below a b none = grind (arith, ints)

    by_first : FirstBreaks i s (length i.net) → IsFeasible i s ⊎ ((t : ℕ) × IsFirstBreak i s t)
    by_first (inl keeps) = at_end keeps (integer_at_most (pos i.storage.end) (level_at i s (length i.net)))
    by_first (inr first) = inr (first.0, record { kept = first.2; breaks = inl (first.1, first.3) })
