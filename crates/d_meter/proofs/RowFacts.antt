-- What is refused of a row.
use Rattle.std.proofs.Common.{◌≡◌, ℕ, ℤ, true, false, List, [], ◌∷◌, None, Some, Result, Ok, Err, refl, sym}
use Rattle.d_cal.specs.declared.start.Start.{Start}
use Rattle.d_cal.specs.Starts.{start_of}
use Rattle.d_text.specs.declared.decimal.DecimalFault.{DecimalFault}
use Rattle.d_list.specs.Firsts.{first_of}
use Rattle.d_meter.specs.declared.fault.MeterFault.{MeterFault}
use Rattle.d_meter.specs.declared.fault.MeterFault.TheVariants as fault
use Rattle.d_meter.specs.Readings.{MeterReader, start_at, net_at, is_same, row_refusals, net_refusal}

module _ (reader : MeterReader) (rows : List (List (List ℕ))) (year : ℤ) (number minutes row : ℕ) where
  pub no_start : start_at reader rows row ≡ None → first_of (row_refusals reader rows year number minutes row) ≡ Some (fault.Start row)
  unfolding first_of
  no_start none = rw none refl

  pub not_due : (start : Start) → start_at reader rows row ≡ Some start → is_same start (start_of year number minutes row) ≡ false
      → first_of (row_refusals reader rows year number minutes row) ≡ Some (fault.Order row)
  unfolding first_of
  not_due start is other = rw (is, other) refl

  pub due : (start : Start) → start_at reader rows row ≡ Some start → is_same start (start_of year number minutes row) ≡ true
      → first_of (row_refusals reader rows year number minutes row) ≡ first_of (net_refusal (net_at reader rows row) row ∷ [])
  unfolding first_of
  due start is same = rw (is, same) refl

-- a net reading that is read or not
pub net_passes : (read : Result ℤ DecimalFault) (net : ℤ) (row : ℕ) → read ≡ Ok net → first_of (net_refusal read row ∷ []) ≡ None
unfolding first_of
net_passes read net row is = rw is refl

pub net_refuses : (read : Result ℤ DecimalFault) (fault_ : DecimalFault) (refused : MeterFault) (row : ℕ) → read ≡ Err fault_
    → Some refused ≡ net_refusal (Err fault_) row → first_of (net_refusal read row ∷ []) ≡ Some refused
unfolding first_of
net_refuses read fault_ refused row is same = rw (is, sym same) refl
