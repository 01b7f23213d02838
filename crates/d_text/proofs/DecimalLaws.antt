-- What holds of decimals whatever the code does: their range, and that each cell has exactly one value or none.
use Rattle.std.proofs.Common.{◌≡◌, ◌⊎◌, inl, inr, ℕ, ◌+◌, ◌*◌, ◌/◌, ◌%◌, ◌^◌, ◌≤◌, ◌<◌, ℤ, Bool, true, false, List, refl, sym, ap, ◌∙◌, arith}
use Rattle.std.proofs.lemmas.Int.{ints}
use Rattle.std.proofs.lemmas.Nat.{div-add-mod'}
use Rattle.d_num.specs.Amount.{IsWithin}
use Rattle.d_text.specs.Decimal.{Written, IsDecimalText, IsInLimit, IsUnits, IsNearest, IsRoundedDown, signed, size_over, size_under}
use Rattle.d_text.specs.Fault.{IsDecimalOf, IsFloorOf}
use Rattle.d_text.specs.Law.{HasOneValue, HasNoValue}
use Rattle.d_text.proofs.SizeFacts.{order, times-le, times-lt, under-positive}
use Rattle.d_text.proofs.OneReading.{one-reading}
use Rattle.d_text.proofs.TextDecided.{IsDecimalOrNot, text_decided}

-- a size in units is within what the limit allows
no_more : (size most under : ℕ) → 0 < under → size * under ≤ most * under → size ≤ most
no_more size most under some le = elim (order size most) [
  | inl small ↦ small
  | inr large ↦ absurd (let lt : most * under < size * under = times-lt most size under large some in omega arith)
]

signed_within : (minus : Bool) (size most : ℕ) → size ≤ most → IsWithin most (signed minus size)
signed_within true size most le = (omega (arith, ints), omega (arith, ints))
signed_within false size most le = (omega (arith, ints), omega (arith, ints))

-- the value of a decimal is within the limit
pub decimal_within : (cell : List ℕ) (places limit : ℕ) (units : ℤ) → IsDecimalOf cell places limit units → IsWithin (limit * 10 ^ places) units
decimal_within cell places limit units h =
    let size : h.value.0 * size_under h.written ≡ size_over h.written places = h.value.2 in
    let within : size_over h.written places ≤ limit * 10 ^ places * size_under h.written = h.within in
    let small = no_more h.value.0 (limit * 10 ^ places) (size_under h.written) (under-positive h.written) (omega arith) in
    rw h.value.1 (signed_within h.written.minus h.value.0 (limit * 10 ^ places) small)

-- and so is the value rounded down
nearest_within : (minus : Bool) (size most over under : ℕ) → 0 < under → over ≤ most * under → IsNearest minus size over under → size ≤ most
nearest_within true size most over under some within h = elim (order size most) [
  | inl small ↦ small
  | inr large ↦ absurd (let lt : most * under < over = h.least most large in omega arith)
]
nearest_within false size most over under some within h =
    let below : size * under ≤ over = h.below in
    no_more size most under some (omega arith)

pub floor_within : (cell : List ℕ) (places limit : ℕ) (units : ℤ) → IsFloorOf cell places limit units → IsWithin (limit * 10 ^ places) units
floor_within cell places limit units h =
    let small = nearest_within h.written.minus h.value.0 (limit * 10 ^ places) (size_over h.written places) (size_under h.written) (under-positive h.written) h.within h.value.2 in
    rw h.value.1 (signed_within h.written.minus h.value.0 (limit * 10 ^ places) small)

-- one number of units at most is the value
same_size : (a b under over : ℕ) → 0 < under → a * under ≡ over → b * under ≡ over → a ≡ b
same_size a b under over some ea eb =
    let up = no_more a b under some (omega arith) in
    let down = no_more b a under some (omega arith) in
    omega arith

same_units : (w : Written) (places : ℕ) (u v : ℤ) → IsUnits w places u → IsUnits w places v → u ≡ v
same_units w places u v hu hv = hu.1 ∙ ap (signed w.minus) (same_size hu.0 hv.0 (size_under w) (size_over w places) (under-positive w) hu.2 hv.2) ∙ sym hv.1

-- a cell has one value at most
pub decimal_same : (cell : List ℕ) (places limit : ℕ) (u v : ℤ) → IsDecimalOf cell places limit u → IsDecimalOf cell places limit v → u ≡ v
decimal_same cell places limit u v hu hv =
    let same : hv.written ≡ hu.written = one-reading cell hv.written hu.written hv.form hu.form in
    same_units hu.written places u v hu.value (rw same at hv.value)

-- rounded down, a number over another is one
nearest_same : (minus : Bool) (a b over under : ℕ) → IsNearest minus a over under → IsNearest minus b over under → a ≡ b
nearest_same true a b over under ha hb = by_order (order a b) (order b a)
  where
    by_order : (a ≤ b) ⊎ (b < a) → (b ≤ a) ⊎ (a < b) → a ≡ b
    by_order (inr lt) other = absurd (let above : over ≤ b * under = hb.above in let below : b * under < over = ha.least b lt in omega arith)
    by_order (inl le) (inr lt) = absurd (let above : over ≤ a * under = ha.above in let below : a * under < over = hb.least a lt in omega arith)
    by_order (inl le) (inl ge) = omega arith
nearest_same false a b over under ha hb = by_order (order a b) (order b a)
  where
    by_order : (a ≤ b) ⊎ (b < a) → (b ≤ a) ⊎ (a < b) → a ≡ b
    by_order (inr lt) other = absurd (let below : a * under ≤ over = ha.below in let above : over < a * under = hb.greatest a lt in omega arith)
    by_order (inl le) (inr lt) = absurd (let below : b * under ≤ over = hb.below in let above : over < b * under = ha.greatest b lt in omega arith)
    by_order (inl le) (inl ge) = omega arith

-- and so is a cell's value rounded down
pub floor_same : (cell : List ℕ) (places limit : ℕ) (u v : ℤ) → IsFloorOf cell places limit u → IsFloorOf cell places limit v → u ≡ v
floor_same cell places limit u v hu hv =
    let same : hv.written ≡ hu.written = one-reading cell hv.written hu.written hv.form hu.form in
    let other : IsRoundedDown hu.written places v = rw same at hv.value in
    hu.value.1 ∙ ap (signed hu.written.minus) (nearest_same hu.written.minus hu.value.0 other.0 (size_over hu.written places) (size_under hu.written) hu.value.2 other.2) ∙ sym other.1

-- a number over another is whole or not
abbrev IsWholeOrNot : ℕ → ℕ → Type 0
IsWholeOrNot over under = ((size : ℕ) × (size * under ≡ over)) ⊎ ((size : ℕ) → size * under ≡ over → ⊥)

whole_decided : (over under : ℕ) → 0 < under → IsWholeOrNot over under
whole_decided over under some =
    let parts : over / under * under + over % under ≡ over = div-add-mod' over under in
    let small : over % under < under = omega arith in
    elim (order (over % under) 0) [
      | inl none ↦ inl (over / under, omega arith)
      | inr rest ↦ inr (λ size e. between (over / under) (over % under) size parts small rest e (order size (over / under)))
    ]
  where
    between : (floor rest size : ℕ) → floor * under + rest ≡ over → rest < under → 0 < rest → size * under ≡ over → (size ≤ floor) ⊎ (floor < size) → ⊥
    between floor rest size parts small some e (inl le) = let low : size * under ≤ floor * under = times-le size floor under le in omega arith
    between floor rest size parts small some e (inr lt) = let high : (floor + 1) * under ≤ size * under = times-le (floor + 1) size under (omega arith) in omega arith

-- a cell has a value or none
abbrev HasValueOrNot : List ℕ → ℕ → ℕ → Type 0
HasValueOrNot cell places limit = ((units : ℤ) × IsDecimalOf cell places limit units) ⊎ ((units : ℤ) → IsDecimalOf cell places limit units → ⊥)

pub decimal_decided : (cell : List ℕ) (places limit : ℕ) → ((units : ℤ) × IsDecimalOf cell places limit units) ⊎ ((units : ℤ) → IsDecimalOf cell places limit units → ⊥)
decimal_decided cell places limit = by_text (text_decided cell)
  where
    by_value : (w : Written) → IsDecimalText cell w → IsInLimit w places limit → IsWholeOrNot (size_over w places) (size_under w) → HasValueOrNot cell places limit
    by_value w form within (inl size) = inl (signed w.minus size.0, record { written = w; form = form; within = within; value = (size.0, refl, size.1) })
    by_value w form within (inr none) = inr (λ units h.
        let same : h.written ≡ w = one-reading cell h.written w h.form form in
        let value : IsUnits w places units = rw same at h.value in
        none value.0 value.2)

    by_limit : (w : Written) → IsDecimalText cell w → (size_over w places ≤ limit * 10 ^ places * size_under w) ⊎ (limit * 10 ^ places * size_under w < size_over w places) → HasValueOrNot cell places limit
    by_limit w form (inl within) = by_value w form within (whole_decided (size_over w places) (size_under w) (under-positive w))
    by_limit w form (inr above) = inr (λ units h.
        let same : h.written ≡ w = one-reading cell h.written w h.form form in
        let within : IsInLimit w places limit = rw same at h.within in
        omega arith)

    by_text : IsDecimalOrNot cell → HasValueOrNot cell places limit
    by_text (inl d) = by_limit d.0 d.1 (order (size_over d.0 places) (limit * 10 ^ places * size_under d.0))
    by_text (inr none) = inr (λ units h. none h.written h.form)

-- exactly one value, or none
pub value_or_none : (cell : List ℕ) (places limit : ℕ) → HasOneValue cell places limit ⊎ HasNoValue cell places limit
value_or_none cell places limit = elim (decimal_decided cell places limit) [
  | inl found ↦ inl (found.0, found.1, λ other h. decimal_same cell places limit other found.0 h found.1)
  | inr none ↦ inr none
]
