-- Numbers with zeros in front, as a hole with a width writes them.
use Rattle.std.proofs.Common.{◌≡◌, ℕ, ◌-◌, ◌^◌, ◌==◌, length, false, refl, arith}
use Rattle.std.proofs.lemmas.List.{append-nil}
use Rattle.std.specs.Fmt.{decimal, format_spec, padded_integral, char_count, styled_decimal}
use Rattle.d_text.specs.Text.{zero_padded}

-- nothing is taken away
less_zero : (w n : ℕ) → w - n - 0 - 0 ≡ w - n
less_zero w n = omega arith

-- a hole with zeros in front writes the number so
pub hole-zero_padded : (width number : ℕ) → (width == 0) ≡ false
    → styled_decimal (format_spec 32 0 4 width (2 ^ 64 - 1)) number ≡ zero_padded width number
unfolding padded_integral char_count
hole-zero_padded width number some = rw some (rw (append-nil (decimal number), less_zero width (length (decimal number))) refl)
