-- How far a walk has come.
use Rattle.std.proofs.Common.{◌≡◌, inl, inr, ℕ, ℤ, pos, ◌+◌, ◌*◌, ◌^◌, ◌<◌, ◌≤◌, ◌+ℤ◌, List, length, Option, Some, None, subst, refl, sym, arith, below_more, get_or}
use Rattle.std.specs.Prelude.{slice_get, slice_index}
use Rattle.std.proofs.lemmas.Int.{ints}
use Rattle.std.proofs.lemmas.Option.{slice_get_within, get_or_from_slice_get}
use Rattle.d_num.specs.Amount.{IsWithin}
use Rattle.d_num.proofs.Sums.{sum_more, sum_none}
use Rattle.d_batt.specs.declared.mode.Mode.{Mode}
use Rattle.d_batt.specs.Storage.{IsMode}
use Rattle.d_bill.specs.Inputs.{Inputs, IsInRange}
use Rattle.d_bill.specs.Flows.{net_at, grid_of, flow_at}
use Rattle.d_bill.specs.Schedules.{KeepsRules, KeepsAt, IsFeasible, IsFirstBreak, change_of, level_at}
use Rattle.d_bill.specs.Totals.{Tallied, tally_to, IsTalliedTo}

-- what a mode adds to a reading is small, also where there is no such mode
pub grid_small : (i : Inputs) (number : ℕ) → IsInRange i → IsWithin (10 ^ 9) (grid_of i number)
grid_small i number fine = by_mode (slice_get i.storage.modes number) refl
  where
    by_mode : (found : Option Mode) → slice_get i.storage.modes number ≡ found → IsWithin (10 ^ 9) (grid_of i number)
    by_mode None e = rw e (omega (arith, ints), omega (arith, ints))
    by_mode (Some mode) e =
        let stands : IsMode (get_or i.storage.modes number mode) = fine.storage.modes number mode (slice_get_within i.storage.modes number mode e) in
        let here : IsMode mode = rw (get_or_from_slice_get i.storage.modes number mode mode e) at stands in
        rw e here.grid

-- a reading and what a mode adds to it
pub flow_small : (i : Inputs) (s : List ℕ) (t : ℕ) → IsInRange i → t < length i.net → IsWithin (2 * 10 ^ 9) (flow_at i s t)
flow_small i s t fine there =
    let net = fine.net t (pos 0) there in
    let grid = grid_small i (slice_index s t) fine in
    (omega (arith, ints, net.0, grid.0), omega (arith, ints, net.1, grid.1))

-- the tally of the readings alone is one of a small flow
pub metered_tallied : (i : Inputs) (t : ℕ) (tally : Tallied) → IsInRange i → t ≤ length i.net → tally ≡ tally_to i (net_at i) t → IsTalliedTo i t tally
metered_tallied i t tally fine within is = record { flow = net_at i; small = λ k below. wider (net_at i k) (fine.net k (pos 0) (omega arith)); is = is }
  where
    wider : (z : ℤ) → IsWithin (10 ^ 9) z → IsWithin (2 * 10 ^ 9) z
    wider z h = (omega (arith, ints, h.0), omega (arith, ints, h.1))

-- before interval t the walk has kept every rule, stands at the schedule's level, and has the tally so far
pub record IsWalkedTo (i : Inputs) (s : List ℕ) (t level : ℕ) (tally : Tallied) : Type 0 where
  pub kept : (k : ℕ) → k < t → KeepsAt i s k
  pub stands : pos level ≡ level_at i s t
  pub counted : tally ≡ tally_to i (flow_at i s) t

-- its tally is one of some small flow
pub walked_tallied : (i : Inputs) (s : List ℕ) (t level : ℕ) (tally : Tallied) → IsInRange i → t ≤ length i.net → IsWalkedTo i s t level tally → IsTalliedTo i t tally
walked_tallied i s t level tally fine within walked = record { flow = flow_at i s; small = λ k below. flow_small i s k fine (omega arith); is = walked.counted }

-- the start
pub walked_none : (i : Inputs) (s : List ℕ) (tally : Tallied) → tally ≡ tally_to i (flow_at i s) 0 → IsWalkedTo i s 0 i.storage.start tally
walked_none i s tally counted = record {
  kept = λ k h. absurd (omega arith);
  stands = let e = sum_none (λ k. change_of i (slice_index s k)) in omega (arith, ints);
  counted = counted;
}

-- one interval more
pub walked_more : (i : Inputs) (s : List ℕ) (t level after : ℕ) (tally next : Tallied) → IsWalkedTo i s t level tally →
    KeepsRules i t (slice_index s t) (pos level) → pos after ≡ pos level +ℤ change_of i (slice_index s t) → next ≡ tally_to i (flow_at i s) (t + 1) →
    IsWalkedTo i s (t + 1) after next
walked_more i s t level after tally next walked keeps moves counted =
    let changes = sum_more t (λ k. change_of i (slice_index s k)) in
    let before = walked.stands in
    record {
      kept = below_more _ _ walked.kept (subst (λ (x : ℤ). KeepsRules i t (slice_index s t) x) walked.stands keeps);
      stands = omega (arith, ints, moves, before, changes);
      counted = counted;
    }

-- a broken rule after that is the first one
pub walked_break : (i : Inputs) (s : List ℕ) (t level : ℕ) (tally : Tallied) → IsWalkedTo i s t level tally → t < length i.net → (KeepsRules i t (slice_index s t) (pos level) → ⊥) → IsFirstBreak i s t
walked_break i s t level tally walked there broken = record {
  kept = walked.kept;
  breaks = inl (there, λ keeps. broken (subst (λ (x : ℤ). KeepsRules i t (slice_index s t) x) (sym walked.stands) keeps));
}

-- at the end only the end level can be missed
pub walked_short : (i : Inputs) (s : List ℕ) (t level : ℕ) (tally : Tallied) → IsWalkedTo i s t level tally → t ≡ length i.net → level < i.storage.end → IsFirstBreak i s t
walked_short i s t level tally walked last short = record {
  kept = walked.kept;
  breaks = inr (last, let before = walked.stands in rw (← before) (omega (arith, ints)));
}

-- where it isn't missed the schedule is feasible
pub walked_whole : (i : Inputs) (s : List ℕ) (t level : ℕ) (tally : Tallied) → IsWalkedTo i s t level tally → t ≡ length i.net → length s ≡ length i.net → i.storage.end ≤ level → IsFeasible i s
walked_whole i s t level tally walked last long enough = record {
  long = long;
  keeps = rw last at walked.kept;
  ends = let before : pos level ≡ level_at i s (length i.net) = rw last at walked.stands in rw (← before) (omega (arith, ints));
}
