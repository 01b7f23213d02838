-- A decimal with one more byte.
use Rattle.std.proofs.Common.{◌≡◌, ℕ, suc, ◌+◌, ◌*◌, ◌^◌, ◌≤◌, ◌<◌, ◌⊎◌, Bool, true, false, List, [], ◌∷◌, ◌++◌, length, arith, refl, sym, ap, ap₂, ◌∙◌, append_assoc, length-append, cond}
use Rattle.std.proofs.lemmas.List.{append-nil}
use Rattle.std.proofs.lemmas.Bool.Decides.{nat_tests}
use Rattle.std.proofs.lemmas.Int.Digits.{digits_value_push, digits_push}
use Rattle.std.proofs.Math.Nat.{pow-zero, pow-suc}
use mathlib.Core.Logic.{inl, inr}
use Rattle.std.specs.Char.{digit_value}
use Rattle.std.specs.Str.Parse.{digits_value}
use Rattle.d_text.specs.Decimal.{IsSign, IsMantissa}
use Rattle.d_text.specs.Scan.{Keeps, IsWhole, IsPointed, IsMarked}

-- a digit's byte
pub byte_digit : (d : ℕ) → d < 10 → digit_value (48 + d) ≡ d
byte_digit d small = grind (arith, nat_tests)

digit_below : (d : ℕ) → d < 10 → digit_value (48 + d) < 10
digit_below d small = omega (arith, byte_digit d small)

-- a number kept, with one more digit in full
pub keeps-short : (n top dropped d : ℕ) (lost : Bool) → d < 10 → top < 10 ^ 37 → Keeps n top dropped lost → Keeps (n * 10 + d) (top * 10 + d) dropped lost
keeps-short n top dropped d lost small room k =
    let none : dropped ≡ 0 = elim k.long [ inl e ↦ e | inr h ↦ absurd (omega arith) ] in
    let unit : 10 ^ dropped ≡ 1 = ap (λ (x : ℕ). 10 ^ x) none ∙ pow-zero 10 in
    let least : top * 1 ≤ n = rw unit at k.least in
    let most : n < (top + 1) * 1 = rw unit at k.most in
    record {
      least = rw unit (omega arith);
      most = rw unit (omega arith);
      short = omega arith;
      long = inl none;
      exact = λ e. rw unit (omega arith);
      inexact = λ e. absurd (let more : top * 1 < n = rw unit at (k.inexact e) in omega arith);
    }

-- or dropped
pub keeps-long : (n top dropped d : ℕ) (lost more : Bool) → d < 10 → 10 ^ 37 ≤ top → Keeps n top dropped lost → (more ≡ false → (lost ≡ false) × (d ≡ 0)) → (more ≡ true → (lost ≡ true) ⊎ (0 < d))
    → Keeps (n * 10 + d) top (dropped + 1) more
keeps-long n top dropped d lost more small room k kept gone =
    let unit : 10 ^ (dropped + 1) ≡ 10 ^ dropped * 10 = ap (λ (x : ℕ). 10 ^ x) (one_more dropped) ∙ pow-suc 10 dropped in
    record {
      least = rw unit (least_more n (10 ^ dropped) top d k.least);
      most = rw unit (most_more n (10 ^ dropped) top d small k.most);
      short = k.short;
      long = inr room;
      exact = λ e. rw unit (exact_more n (10 ^ dropped) top d (k.exact (kept e).0) (kept e).1);
      inexact = λ e. rw unit (elim (gone e) [ inl l ↦ inexact_more n (10 ^ dropped) top d (k.inexact l) | inr h ↦ inexact_now n (10 ^ dropped) top d k.least h ]);
    }
  where
    one_more : (x : ℕ) → x + 1 ≡ suc x
    one_more x = omega arith

    least_more : (n p top d : ℕ) → top * p ≤ n → top * (p * 10) ≤ n * 10 + d
    least_more n p top d h = omega arith

    most_more : (n p top d : ℕ) → d < 10 → n < (top + 1) * p → n * 10 + d < (top + 1) * (p * 10)
    most_more n p top d small h = omega arith

    exact_more : (n p top d : ℕ) → n ≡ top * p → d ≡ 0 → n * 10 + d ≡ top * (p * 10)
    exact_more n p top d h e = omega arith

    inexact_more : (n p top d : ℕ) → top * p < n → top * (p * 10) < n * 10 + d
    inexact_more n p top d h = omega arith

    inexact_now : (n p top d : ℕ) → top * p ≤ n → 0 < d → top * (p * 10) < n * 10 + d
    inexact_now n p top d h some = omega arith

-- the first digit
pub whole-first : (text : List ℕ) (minus : Bool) (n behind d : ℕ) → d < 10 → n ≡ 0 → behind ≡ 0 → IsSign text minus → IsWhole (text ++ (48 + d) ∷ []) minus (n * 10 + d) behind
whole-first text minus n behind d small en eb h = record {
  sign = text;
  before = (48 + d) ∷ [];
  form = refl;
  sign_is = h;
  before_digits = (digit_below d small, tt);
  some = omega arith;
  digits_are = omega (arith, byte_digit d small);
  behind_is = eb;
}

-- one more digit before the point
pub whole-more : (text : List ℕ) (minus : Bool) (n behind d : ℕ) → d < 10 → IsWhole text minus n behind → IsWhole (text ++ (48 + d) ∷ []) minus (n * 10 + d) behind
whole-more text minus n behind d small h = record {
  sign = h.sign;
  before = h.before ++ (48 + d) ∷ [];
  form = ap (λ (t : List ℕ). t ++ (48 + d) ∷ []) h.form ∙ append_assoc h.sign h.before ((48 + d) ∷ []);
  sign_is = h.sign_is;
  before_digits = digits_push 10 h.before (48 + d) h.before_digits (digit_below d small);
  some = omega (arith, length-append h.before ((48 + d) ∷ []));
  digits_are = ap₂ (λ (x y : ℕ). x * 10 + y) h.digits_are (sym (byte_digit d small)) ∙ sym (digits_value_push 10 h.before (48 + d));
  behind_is = h.behind_is;
}

-- a point before any digit
pub point-first : (text : List ℕ) (minus : Bool) (n behind : ℕ) → n ≡ 0 → behind ≡ 0 → IsSign text minus → IsPointed (text ++ 46 ∷ []) minus n behind 0
point-first text minus n behind en eb h = record {
  sign = text;
  before = [];
  after = [];
  form = refl;
  sign_is = h;
  before_digits = tt;
  after_digits = tt;
  some = omega arith;
  digits_are = en;
  behind_is = eb;
}

-- a point behind digits
pub point-whole : (text : List ℕ) (minus : Bool) (n behind : ℕ) → IsWhole text minus n behind → IsPointed (text ++ 46 ∷ []) minus n behind 1
point-whole text minus n behind h = record {
  sign = h.sign;
  before = h.before;
  after = [];
  form = ap (λ (t : List ℕ). t ++ 46 ∷ []) h.form ∙ append_assoc h.sign h.before (46 ∷ []);
  sign_is = h.sign_is;
  before_digits = h.before_digits;
  after_digits = tt;
  some = rw (append-nil h.before) (let some : 0 < length h.before = h.some in omega arith);
  digits_are = rw (append-nil h.before) h.digits_are;
  behind_is = h.behind_is;
}

-- one more digit behind the point
pub pointed-more : (text : List ℕ) (minus : Bool) (n behind count d : ℕ) → d < 10 → IsPointed text minus n behind count
    → IsPointed (text ++ (48 + d) ∷ []) minus (n * 10 + d) (behind + 1) 1
pointed-more text minus n behind count d small h = record {
  sign = h.sign;
  before = h.before;
  after = h.after ++ (48 + d) ∷ [];
  form = ap (λ (t : List ℕ). t ++ (48 + d) ∷ []) h.form ∙ append_assoc h.sign (h.before ++ 46 ∷ h.after) ((48 + d) ∷ []) ∙ ap (λ (t : List ℕ). h.sign ++ t) (append_assoc h.before (46 ∷ h.after) ((48 + d) ∷ []));
  sign_is = h.sign_is;
  before_digits = h.before_digits;
  after_digits = digits_push 10 h.after (48 + d) h.after_digits (digit_below d small);
  some = omega (arith, length-append h.before (h.after ++ (48 + d) ∷ []), length-append h.after ((48 + d) ∷ []));
  digits_are = ap₂ (λ (x y : ℕ). x * 10 + y) h.digits_are (sym (byte_digit d small)) ∙ sym (digits_value_push 10 (h.before ++ h.after) (48 + d))
      ∙ ap (digits_value 10) (append_assoc h.before h.after ((48 + d) ∷ []));
  behind_is = omega (arith, h.behind_is, length-append h.after ((48 + d) ∷ []));
}

-- what may end a decimal, or go before an e
pub mantissa-whole : (text : List ℕ) (minus : Bool) (n behind : ℕ) → IsWhole text minus n behind → IsMantissa text minus n behind
mantissa-whole text minus n behind h = record {
  sign = h.sign;
  before = h.before;
  point = [];
  after = [];
  form = rw (append-nil h.before) h.form;
  sign_is = h.sign_is;
  point_is = inl (refl, refl);
  before_digits = h.before_digits;
  after_digits = tt;
  some = rw (append-nil h.before) h.some;
  digits_are = rw (append-nil h.before) h.digits_are;
  behind_is = h.behind_is;
}

pub mantissa-pointed : (text : List ℕ) (minus : Bool) (n behind : ℕ) → IsPointed text minus n behind 1 → IsMantissa text minus n behind
mantissa-pointed text minus n behind h = record {
  sign = h.sign;
  before = h.before;
  point = 46 ∷ [];
  after = h.after;
  form = h.form;
  sign_is = h.sign_is;
  point_is = inr refl;
  before_digits = h.before_digits;
  after_digits = h.after_digits;
  some = (let some : 1 ≤ length (h.before ++ h.after) = h.some in omega arith);
  digits_are = h.digits_are;
  behind_is = h.behind_is;
}

-- an e
pub marked-first : (text : List ℕ) (minus : Bool) (n behind power mark : ℕ) (down : Bool) → (mark ≡ 101) ⊎ (mark ≡ 69) → down ≡ false → power ≡ 0 → IsMantissa text minus n behind
    → IsMarked (text ++ mark ∷ []) minus n behind down power 0
marked-first text minus n behind power mark down is no_down no_power h = record {
  mantissa = text;
  mark = mark;
  sign = [];
  numeral = [];
  form = refl;
  mantissa_is = h;
  mark_is = is;
  sign_is = inl (refl, no_down);
  numeral_digits = tt;
  power_is = no_power;
  bare = λ e. (refl, refl, no_down);
  signed_only = λ e. refl;
  some = λ e. absurd (omega arith);
}

-- the sign of the power
pub sign_byte : (minus : Bool) → IsSign (cond minus 45 43 ∷ []) minus
sign_byte true = inr (inr (refl, refl))
sign_byte false = inr (inl (refl, refl))

pub marked-sign : (text : List ℕ) (minus : Bool) (n behind power : ℕ) (down new : Bool) → IsMarked text minus n behind down power 0
    → IsMarked (text ++ cond new 45 43 ∷ []) minus n behind new power 1
marked-sign text minus n behind power down new h = record {
  mantissa = h.mantissa;
  mark = h.mark;
  sign = cond new 45 43 ∷ [];
  numeral = [];
  form = ap (λ (t : List ℕ). t ++ cond new 45 43 ∷ []) h.form ∙ append_assoc h.mantissa (h.mark ∷ (h.sign ++ h.numeral)) (cond new 45 43 ∷ [])
      ∙ ap₂ (λ (s d : List ℕ). h.mantissa ++ h.mark ∷ ((s ++ d) ++ cond new 45 43 ∷ [])) (h.bare refl).0 (h.bare refl).1;
  mantissa_is = h.mantissa_is;
  mark_is = h.mark_is;
  sign_is = sign_byte new;
  numeral_digits = tt;
  power_is = h.power_is ∙ ap (digits_value 10) (h.bare refl).1;
  bare = λ e. absurd (omega arith);
  signed_only = λ e. refl;
  some = λ e. absurd (omega arith);
}

-- a digit of the power
pub marked-digit : (text : List ℕ) (minus : Bool) (n behind power count d : ℕ) (down : Bool) → d < 10 → IsMarked text minus n behind down power count
    → IsMarked (text ++ (48 + d) ∷ []) minus n behind down (power * 10 + d) 2
marked-digit text minus n behind power count d down small h = record {
  mantissa = h.mantissa;
  mark = h.mark;
  sign = h.sign;
  numeral = h.numeral ++ (48 + d) ∷ [];
  form = ap (λ (t : List ℕ). t ++ (48 + d) ∷ []) h.form ∙ append_assoc h.mantissa (h.mark ∷ (h.sign ++ h.numeral)) ((48 + d) ∷ [])
      ∙ ap (λ (t : List ℕ). h.mantissa ++ h.mark ∷ t) (append_assoc h.sign h.numeral ((48 + d) ∷ []));
  mantissa_is = h.mantissa_is;
  mark_is = h.mark_is;
  sign_is = h.sign_is;
  numeral_digits = digits_push 10 h.numeral (48 + d) h.numeral_digits (digit_below d small);
  power_is = ap₂ (λ (x y : ℕ). x * 10 + y) h.power_is (sym (byte_digit d small)) ∙ sym (digits_value_push 10 h.numeral (48 + d));
  bare = λ e. absurd (omega arith);
  signed_only = λ e. absurd (omega arith);
  some = λ e. omega (arith, length-append h.numeral ((48 + d) ∷ []));
}
