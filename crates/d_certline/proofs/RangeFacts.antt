-- What the tests of ranges say.
use Rattle.std.proofs.Common.{◌≡◌, ◌<◌, ◌≤◌, ◌^◌, ◌&&◌, ◌||◌, ℕ, ℤ, pos, negsuc, Bool, true, false, arith, refl, ap, inl, inr, nat_le}
use Rattle.std.specs.Prelude.{◌⊎◌, unsigned_abs, if◌then◌else◌}
use Rattle.std.proofs.lemmas.Bool.{leb-true, ltb-true, eqb-true, and_parts, or_cases}
use Rattle.std.proofs.Math.Nat.{div-le_of_le-mul}
use Rattle.d_certline.specs.declared.place.Place.{Place}
use Rattle.d_certline.specs.Ranges.{from_to, is_index, is_number, is_sized, is_length, are_levels, is_amount, is_slope, is_cut, per_day}
use Rattle.d_certline.specs.Places.{Judgement, stands, form, in_range}

-- a line that stands has passed the tests
pub ranged : (b : Bool) (r q : Place) → in_range b r ≡ stands q → (b ≡ true) × (r ≡ q)
unfolding in_range
ranged true r q e = (refl, let same : stands r ≡ stands q = e in cc)
ranged false r q e = absurd cc

pub if_so : (b : Bool) (j : Judgement) (q : Place) → (if b then j else form) ≡ stands q → (b ≡ true) × (j ≡ stands q)
if_so true j q e = (refl, e)
if_so false j q e = absurd cc

pub if_not : (b : Bool) (j : Judgement) (q : Place) → (if b then form else j) ≡ stands q → (b ≡ false) × (j ≡ stands q)
if_not true j q e = absurd cc
if_not false j q e = (refl, e)

-- and where it passes them it stands
pub in_range_so : (b : Bool) (r : Place) → b ≡ true → in_range b r ≡ stands r
unfolding in_range
in_range_so true r e = refl
in_range_so false r e = absurd cc

pub if_true : (b : Bool) (j k : Judgement) → b ≡ true → (if b then j else k) ≡ j
if_true true j k e = refl
if_true false j k e = absurd cc

pub if_false : (b : Bool) (j k : Judgement) → b ≡ false → (if b then j else k) ≡ k
if_false true j k e = absurd cc
if_false false j k e = refl

pub from_to_is : (least most : ℕ) (z : ℤ) → from_to least most z ≡ true → (z ≡ pos (unsigned_abs z)) × (least ≤ unsigned_abs z) × (unsigned_abs z ≤ most)
unfolding from_to
from_to_is least most (pos n) e = let both = and_parts (nat_le least n) (nat_le n most) e in (refl, leb-true least n both.0, leb-true n most both.1)
from_to_is least most (negsuc n) e = absurd cc

pub is_index_is : (count : ℕ) (z : ℤ) → is_index count z ≡ true → (z ≡ pos (unsigned_abs z)) × (unsigned_abs z < count)
unfolding is_index
is_index_is count (pos n) e = (refl, ltb-true n count e)
is_index_is count (negsuc n) e = absurd cc

pub is_number_is : (n : ℕ) (z : ℤ) → is_number n z ≡ true → z ≡ pos n
unfolding is_number
is_number_is n (pos m) e = ap pos (eqb-true m n e)
is_number_is n (negsuc m) e = absurd cc

pub is_number_of : (n : ℕ) (z : ℤ) → is_number n z ≡ true → unsigned_abs z ≡ n
is_number_of n z e = ap unsigned_abs (is_number_is n z e)

pub is_length_is : (z : ℤ) → is_length z ≡ true → (unsigned_abs z ≡ 15) ⊎ ((unsigned_abs z ≡ 30) ⊎ (unsigned_abs z ≡ 60))
unfolding is_length
is_length_is z e = elim (or_cases (is_number 15 z || is_number 30 z) (is_number 60 z) e) [
  | inl first ↦ elim (or_cases (is_number 15 z) (is_number 30 z) first) [
    | inl a ↦ inl (is_number_of 15 z a)
    | inr b ↦ inr (inl (is_number_of 30 z b))
  ]
  | inr c ↦ inr (inr (is_number_of 60 z c))
]

pub are_levels_is : (f c s e : ℤ) → are_levels f c s e ≡ true
    → (unsigned_abs f ≤ unsigned_abs s) × (unsigned_abs s ≤ unsigned_abs c) × (unsigned_abs c ≤ 255) × (unsigned_abs e ≤ unsigned_abs c)
unfolding are_levels
are_levels_is f c s e t =
    let last = and_parts (from_to 0 255 c && from_to 0 (unsigned_abs c) s && from_to 0 (unsigned_abs s) f) (from_to 0 (unsigned_abs c) e) t in
    let third = and_parts (from_to 0 255 c && from_to 0 (unsigned_abs c) s) (from_to 0 (unsigned_abs s) f) last.0 in
    let first = and_parts (from_to 0 255 c) (from_to 0 (unsigned_abs c) s) third.0 in
    ((from_to_is 0 (unsigned_abs s) f third.1).2, (from_to_is 0 (unsigned_abs c) s first.1).2, (from_to_is 0 255 c first.0).2, (from_to_is 0 (unsigned_abs c) e last.1).2)

pub is_sized_is : (most : ℕ) (z : ℤ) → is_sized most z ≡ true → unsigned_abs z ≤ most
unfolding is_sized
is_sized_is most z e = leb-true (unsigned_abs z) most e

pub is_amount_is : (z : ℤ) → is_amount z ≡ true → unsigned_abs z ≤ 10 ^ 36
unfolding is_amount
is_amount_is z e = is_sized_is (10 ^ 36) z e

pub is_slope_is : (z : ℤ) → is_slope z ≡ true → unsigned_abs z ≤ 10 ^ 22
unfolding is_slope
is_slope_is z e = is_sized_is (10 ^ 22) z e

pub is_cut_is : (z : ℤ) → is_cut z ≡ true → unsigned_abs z ≤ 10 ^ 14
unfolding is_cut
is_cut_is z e = (from_to_is 0 (10 ^ 14) z e).2

-- a day has at most 96 intervals
pub per_day_le : (minutes : ℕ) → 15 ≤ minutes → per_day minutes ≤ 96
unfolding per_day
per_day_le minutes some = div-le_of_le-mul minutes {m = 1440} {n = 96} (omega arith)

pub per_day_none : per_day 0 ≡ 0
unfolding per_day
per_day_none = refl
