-- Intervals that fill a month.
use Rattle.std.proofs.Common.{◌≡◌, ◌⊎◌, inl, inr, ℕ, ◌*◌, ◌/◌, arith}
use Rattle.std.proofs.lemmas.Bool.Decides.{nat_tests}
use Rattle.d_num.specs.Amount.{IsReadingLength}

paces : (minutes : ℕ) → IsReadingLength minutes → (minutes ≡ 15) ⊎ ((minutes ≡ 30) ⊎ (minutes ≡ 60))
paces minutes h = grind (arith, nat_tests)

-- as many as the days' minutes hold fill the month
pub fills : (days minutes : ℕ) → IsReadingLength minutes → days * 1440 / minutes * minutes ≡ days * 1440
fills days minutes pace = by_pace (paces minutes pace)
  where
    by_pace : (minutes ≡ 15) ⊎ ((minutes ≡ 30) ⊎ (minutes ≡ 60)) → days * 1440 / minutes * minutes ≡ days * 1440
    by_pace (inl e) = rw e (omega arith)
    by_pace (inr (inl e)) = rw e (omega arith)
    by_pace (inr (inr e)) = rw e (omega arith)
