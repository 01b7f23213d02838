-- Laws of a schedule's file: it is one schedule at most, one thing at most is wrong with it, and never both.
use Rattle.std.proofs.Common.{◌≡◌, ◌⊎◌, inl, inr, ℕ, ◌+◌, ◌<◌, List, length, refl, sym, ap, ap₂, ◌∙◌, arith}
use Rattle.std.specs.Prelude.{slice_index}
use Rattle.std.proofs.lemmas.List.{ext_get_or}
use Rattle.std.proofs.lemmas.Bool.{cases_order}
use Rattle.d_table.specs.Table.{row_at, cell_in}
use Rattle.d_bill.specs.declared.schedule.ScheduleFault.{ScheduleFault}
use Rattle.d_bill.specs.declared.schedule.ScheduleFault.TheVariants as fault
use Rattle.d_bill.specs.Inputs.{Inputs}
use Rattle.d_batt.specs.Storage.{IsStorage}
use Rattle.d_bill.specs.ScheduleFile.{IsRow, IsRightTo, IsMiscounted, IsWrongStart, IsWrongMode, IsScheduleFile, IsScheduleFault}
use Rattle.d_bill.proofs.ModeNames.{one_mode}

-- a file is one schedule at most, since the battery's modes have different names
pub schedule_same : (i : Inputs) (rows : List (List (List ℕ))) (s z : List ℕ) → IsStorage i.storage → IsScheduleFile i rows s → IsScheduleFile i rows z → s ≡ z
schedule_same i rows s z storage one other = ext_get_or 0 s z (one.long ∙ sym other.long) (λ t within. let there : t < length i.net = omega (arith, one.long) in
    one_mode i.storage.modes (cell_in (row_at rows (t + 1)) 1) (slice_index s t) (slice_index z t) storage.names (one.modes t there) (other.modes t there))

-- nothing is wrong with a schedule
pub schedule_right : (i : Inputs) (rows : List (List (List ℕ))) (s : List ℕ) (wrong : ScheduleFault) → IsScheduleFile i rows s → IsScheduleFault i rows wrong → ⊥
schedule_right i rows s fault.Shape file is = is file.header
schedule_right i rows s (fault.Count have need) file is = is.other (omega (arith, is.have_is, is.need_is, file.count))
schedule_right i rows s (fault.Start row) file is = is.wrong (file.starts row is.there)
schedule_right i rows s (fault.Mode row) file is = is.wrong (slice_index s row) (file.modes row is.there)

-- the first wrong row
record IsFirstWrong (i : Inputs) (rows : List (List (List ℕ))) (row : ℕ) : Type 0 where
  right : IsRightTo i rows row
  wrong : IsRow i rows row → ⊥

-- it is one
first_wrong_same : (i : Inputs) (rows : List (List (List ℕ))) (j k : ℕ) → IsFirstWrong i rows j → IsFirstWrong i rows k → j ≡ k
first_wrong_same i rows j k one other = by_order (cases_order j k)
  where
    by_order : (j ≡ k) ⊎ ((j < k) ⊎ (k < j)) → j ≡ k
    by_order (inl same) = same
    by_order (inr (inl below)) = absurd (one.wrong (other.right.before j below))
    by_order (inr (inr above)) = absurd (other.wrong (one.right.before k above))

-- a wrong start makes a row wrong
by_start : (i : Inputs) (rows : List (List (List ℕ))) (row : ℕ) → IsWrongStart i rows row → IsFirstWrong i rows row
by_start i rows row is = record { right = is.right; wrong = λ r. is.wrong r.start }

-- and so does an unknown mode
by_mode : (i : Inputs) (rows : List (List (List ℕ))) (row : ℕ) → IsWrongMode i rows row → IsFirstWrong i rows row
by_mode i rows row is = record { right = is.right; wrong = λ r. is.wrong r.number r.mode }

-- one of both can be wrong, the start first
not_both : (i : Inputs) (rows : List (List (List ℕ))) (j k : ℕ) → IsWrongStart i rows j → IsWrongMode i rows k → ⊥
not_both i rows j k one other =
    let same : k ≡ j = first_wrong_same i rows k j (by_mode i rows k other) (by_start i rows j one) in
    one.wrong (rw (sym same) other.start)

-- a wrong number of rows leaves none to be wrong
not_counted : (i : Inputs) (rows : List (List (List ℕ))) (have need row : ℕ) → IsMiscounted i rows have need → IsRightTo i rows row → ⊥
not_counted i rows have need row one right = one.other (omega (arith, one.have_is, one.need_is, right.count))

-- one thing at most is wrong with a file
pub fault_same : (i : Inputs) (rows : List (List (List ℕ))) (one other : ScheduleFault) → IsScheduleFault i rows one → IsScheduleFault i rows other → one ≡ other
fault_same i rows fault.Shape fault.Shape is also = refl
fault_same i rows fault.Shape (fault.Count have need) is also = absurd (is also.header)
fault_same i rows fault.Shape (fault.Start row) is also = absurd (is also.right.header)
fault_same i rows fault.Shape (fault.Mode row) is also = absurd (is also.right.header)
fault_same i rows (fault.Count have need) fault.Shape is also = absurd (also is.header)
fault_same i rows (fault.Count have need) (fault.Count much wanted) is also =
    ap₂ fault.Count (let e : have ≡ much = omega (arith, is.have_is, also.have_is) in e) (is.need_is ∙ sym also.need_is)
fault_same i rows (fault.Count have need) (fault.Start row) is also = absurd (not_counted i rows have need row is also.right)
fault_same i rows (fault.Count have need) (fault.Mode row) is also = absurd (not_counted i rows have need row is also.right)
fault_same i rows (fault.Start row) fault.Shape is also = absurd (also is.right.header)
fault_same i rows (fault.Start row) (fault.Count have need) is also = absurd (not_counted i rows have need row also is.right)
fault_same i rows (fault.Start row) (fault.Start k) is also = ap fault.Start (first_wrong_same i rows row k (by_start i rows row is) (by_start i rows k also))
fault_same i rows (fault.Start row) (fault.Mode k) is also = absurd (not_both i rows row k is also)
fault_same i rows (fault.Mode row) fault.Shape is also = absurd (also is.right.header)
fault_same i rows (fault.Mode row) (fault.Count have need) is also = absurd (not_counted i rows have need row also is.right)
fault_same i rows (fault.Mode row) (fault.Start k) is also = absurd (not_both i rows k row also is)
fault_same i rows (fault.Mode row) (fault.Mode k) is also = ap fault.Mode (first_wrong_same i rows row k (by_mode i rows row is) (by_mode i rows k also))
