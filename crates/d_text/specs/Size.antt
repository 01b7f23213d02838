-- Sizes in whole units.
use Rattle.std.specs.Prelude.{◌≡◌, ℕ, ◌+◌, ◌*◌, ◌/◌, ◌%◌, ◌^◌, ◌<◌, ◌⊎◌, min, Bool, true, false}
use Rattle.d_text.specs.Decimal.{Written}
use Rattle.d_text.specs.Scan.{Keeps}
use Rattle.d_text.specs.declared.scan.Scan.{Scan}
use Rattle.d_text.specs.declared.size.Size.{Size}

-- over / under rounded down, and whether it is exactly that
pub record IsSize (s : Size) (over under : ℕ) : Type 0 where
  pub exact : s.exact ≡ true → s.floor * under ≡ over
  pub above : s.exact ≡ false → s.floor * under < over
  pub below : s.exact ≡ false → over < (s.floor + 1) * under

-- top / unit rounded down, and whether it is exactly that and nothing is lost
pub record IsQuotient (s : Size) (top unit : ℕ) (lost : Bool) : Type 0 where
  pub floor : s.floor ≡ top / unit
  pub exact : s.exact ≡ true → (top % unit ≡ 0) × (lost ≡ false)
  pub inexact : s.exact ≡ false → (0 < top % unit) ⊎ (lost ≡ true)

-- what is read of a decimal that says this
pub record Says (s : Scan) (w : Written) : Type 0 where
  pub minus : s.minus ≡ w.minus
  pub keeps : Keeps w.digits s.number.top s.number.dropped s.number.lost
  pub behind : s.behind ≡ w.behind
  pub down : s.down ≡ w.down
  pub power : s.power ≡ min w.power (10 ^ 30)
