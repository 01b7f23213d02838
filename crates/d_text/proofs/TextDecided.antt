-- Whether a text is a decimal: what its front says in each phase, byte by byte.
use Rattle.std.proofs.Common.{◌≡◌, ◌⊎◌, inl, inr, ℕ, ◌+◌, ◌-◌, ◌*◌, ◌≤◌, ◌<◌, Bool, true, false, cond, Option, None, Some, IfSome, List, [], ◌∷◌, ◌++◌, refl, sym, subst, ◌∙◌, append_assoc, arith}
use Rattle.std.proofs.lemmas.Bool.Decides.{nat_tests}
use Rattle.std.proofs.lemmas.List.{append-nil}
use Rattle.d_text.specs.Decimal.{Written, IsDecimalText, BeginsDecimal}
use Rattle.d_text.specs.Scan.{kind_of, after_digit, after_sign, after_point, after_mark, after_kind, is_done, IsRead}
use Rattle.d_text.specs.declared.scan.Phase.{Phase}
use Rattle.d_text.specs.declared.scan.Phase.TheVariants.{Start, Signed, Whole, LonePoint, Fraction, Marked, MarkSigned, Power}
use Rattle.d_text.specs.declared.scan.Kind.{Kind}
use Rattle.d_text.specs.declared.scan.Kind.TheVariants.{Digit, Sign, Point, Mark, Other}
use Rattle.d_text.proofs.ReadFacts.{point-whole, sign_byte, marked-sign}
use Rattle.d_text.proofs.PhaseFacts.{and_on, run, decimal-ends, read-whole, read-fraction, read-power, read-lone, read-mark, read-done, read-begins}

-- what the text of a phase says so far
record Said (phase : Phase) (text : List ℕ) : Type 0 where
  minus : Bool
  digits : ℕ
  behind : ℕ
  down : Bool
  power : ℕ
  read : IsRead phase text minus digits behind down power

with_whole : (phase : Phase) (text : List ℕ) (d : ℕ) → d < 10 → after_digit phase ≡ Whole → Said phase text → Said Whole (text ++ (48 + d) ∷ [])
with_whole phase text d small e s = record {
  minus = s.minus;
  digits = s.digits * 10 + d;
  behind = s.behind;
  down = s.down;
  power = s.power;
  read = read-whole phase text s.minus s.digits s.behind s.down s.power d small e s.read;
}

with_fraction : (phase : Phase) (text : List ℕ) (d : ℕ) → d < 10 → after_digit phase ≡ Fraction → Said phase text → Said Fraction (text ++ (48 + d) ∷ [])
with_fraction phase text d small e s = record {
  minus = s.minus;
  digits = s.digits * 10 + d;
  behind = s.behind + 1;
  down = s.down;
  power = s.power;
  read = read-fraction phase text s.minus s.digits s.behind s.down s.power d small e s.read;
}

with_power : (phase : Phase) (text : List ℕ) (d : ℕ) → d < 10 → after_digit phase ≡ Power → Said phase text → Said Power (text ++ (48 + d) ∷ [])
with_power phase text d small e s = record {
  minus = s.minus;
  digits = s.digits;
  behind = s.behind;
  down = s.down;
  power = s.power * 10 + d;
  read = read-power phase text s.minus s.digits s.behind s.down s.power d small e s.read;
}

on_digit : (phase : Phase) (text : List ℕ) (d : ℕ) → d < 10 → Said phase text → Said (after_digit phase) (text ++ (48 + d) ∷ [])
on_digit Start text d small s = with_whole Start text d small refl s
on_digit Signed text d small s = with_whole Signed text d small refl s
on_digit Whole text d small s = with_whole Whole text d small refl s
on_digit LonePoint text d small s = with_fraction LonePoint text d small refl s
on_digit Fraction text d small s = with_fraction Fraction text d small refl s
on_digit Marked text d small s = with_power Marked text d small refl s
on_digit MarkSigned text d small s = with_power MarkSigned text d small refl s
on_digit Power text d small s = with_power Power text d small refl s

on_sign : (phase : Phase) (text : List ℕ) (new : Bool) → Said phase text → IfSome (after_sign phase) (λ q. Said q (text ++ cond new 45 43 ∷ []))
on_sign Start text new s = record {
  minus = new;
  digits = s.digits;
  behind = s.behind;
  down = s.down;
  power = s.power;
  read = (rw s.read.0 (sign_byte new), s.read.2, s.read.3, s.read.4);
}
on_sign Signed text new s = tt
on_sign Whole text new s = tt
on_sign LonePoint text new s = tt
on_sign Fraction text new s = tt
on_sign Marked text new s = record {
  minus = s.minus;
  digits = s.digits;
  behind = s.behind;
  down = new;
  power = s.power;
  read = marked-sign text s.minus s.digits s.behind s.power s.down new s.read;
}
on_sign MarkSigned text new s = tt
on_sign Power text new s = tt

on_point : (phase : Phase) (text : List ℕ) → Said phase text → IfSome (after_point phase) (λ q. Said q (text ++ 46 ∷ []))
on_point Start text s = record { minus = s.minus; digits = s.digits; behind = s.behind; down = s.down; power = s.power; read = read-lone Start text s.minus s.digits s.behind s.down s.power refl s.read }
on_point Signed text s = record { minus = s.minus; digits = s.digits; behind = s.behind; down = s.down; power = s.power; read = read-lone Signed text s.minus s.digits s.behind s.down s.power refl s.read }
on_point Whole text s = record { minus = s.minus; digits = s.digits; behind = s.behind; down = s.down; power = s.power; read = (point-whole text s.minus s.digits s.behind s.read.0, s.read.1) }
on_point LonePoint text s = tt
on_point Fraction text s = tt
on_point Marked text s = tt
on_point MarkSigned text s = tt
on_point Power text s = tt

on_mark : (phase : Phase) (text : List ℕ) (mark : ℕ) → (mark ≡ 101) ⊎ (mark ≡ 69) → Said phase text → IfSome (after_mark phase) (λ q. Said q (text ++ mark ∷ []))
on_mark Start text mark is s = tt
on_mark Signed text mark is s = tt
on_mark Whole text mark is s = record { minus = s.minus; digits = s.digits; behind = s.behind; down = s.down; power = s.power; read = read-mark Whole text s.minus s.digits s.behind s.down s.power mark is refl s.read }
on_mark LonePoint text mark is s = tt
on_mark Fraction text mark is s = record { minus = s.minus; digits = s.digits; behind = s.behind; down = s.down; power = s.power; read = read-mark Fraction text s.minus s.digits s.behind s.down s.power mark is refl s.read }
on_mark Marked text mark is s = tt
on_mark MarkSigned text mark is s = tt
on_mark Power text mark is s = tt

-- what the kind of a byte says of it
digit_kind : (byte : ℕ) → kind_of byte ≡ Digit → (48 ≤ byte) × (byte ≤ 57)
digit_kind byte e = (grind (arith, nat_tests), grind (arith, nat_tests))

sign_kind : (byte : ℕ) → kind_of byte ≡ Sign → (byte ≡ 43) ⊎ (byte ≡ 45)
sign_kind byte e = grind (arith, nat_tests)

point_kind : (byte : ℕ) → kind_of byte ≡ Point → byte ≡ 46
point_kind byte e = grind (arith, nat_tests)

mark_kind : (byte : ℕ) → kind_of byte ≡ Mark → (byte ≡ 101) ⊎ (byte ≡ 69)
mark_kind byte e = grind (arith, nat_tests)

-- one byte on
on_byte : (phase : Phase) (text : List ℕ) (byte : ℕ) → Said phase text → IfSome (after_kind (kind_of byte) phase) (λ q. Said q (text ++ byte ∷ []))
on_byte phase text byte s = by_kind (kind_of byte) refl
  where
    by_sign : (byte ≡ 43) ⊎ (byte ≡ 45) → IfSome (after_sign phase) (λ q. Said q (text ++ byte ∷ []))
    by_sign (inl e) = rw e (on_sign phase text false s)
    by_sign (inr e) = rw e (on_sign phase text true s)

    by_kind : (kind : Kind) → kind_of byte ≡ kind → IfSome (after_kind kind phase) (λ q. Said q (text ++ byte ∷ []))
    by_kind Digit e =
        let range = digit_kind byte e in
        let same : 48 + (byte - 48) ≡ byte = omega arith in
        rw same at (on_digit phase text (byte - 48) (omega arith) s)
    by_kind Sign e = by_sign (sign_kind byte e)
    by_kind Point e = rw (point_kind byte e) (on_point phase text s)
    by_kind Mark e = on_mark phase text byte (mark_kind byte e) s
    by_kind Other e = tt

-- many bytes on
on_rest : (rest text : List ℕ) (byte : ℕ) (o : Option Phase) → ((q : Phase) → Said q (text ++ byte ∷ []) → IfSome (run rest q) (λ r. Said r ((text ++ byte ∷ []) ++ rest)))
    → IfSome o (λ q. Said q (text ++ byte ∷ [])) → IfSome (and_on o (run rest)) (λ r. Said r (text ++ byte ∷ rest))
on_rest rest text byte None f h = tt
on_rest rest text byte (Some q) f h = rw append_assoc at (f q h)

on_text : (rest text : List ℕ) (phase : Phase) → Said phase text → IfSome (run rest phase) (λ q. Said q (text ++ rest))
on_text [] text phase s = rw (append-nil text) s
on_text (byte ∷ rest) text phase s = on_rest rest text byte (after_kind (kind_of byte) phase) (λ q h. on_text rest (text ++ byte ∷ []) q h) (on_byte phase text byte s)

-- what a cell says from its front
said_all : (cell : List ℕ) → IfSome (run cell Start) (λ q. Said q cell)
said_all cell = on_text cell [] Start (record { minus = false; digits = 0; behind = 0; down = false; power = 0; read = (refl, refl, refl, refl, (refl, refl)) })

-- some decimal begins with what leads somewhere
pub led-begins : (text : List ℕ) (q : Phase) → run text Start ≡ Some q → BeginsDecimal text
led-begins text q e = by_said (subst (λ (o : Option Phase). IfSome o (λ r. Said r text)) e (said_all text))
  where
    by_said : Said q text → BeginsDecimal text
    by_said s = read-begins q text s.minus s.digits s.behind s.down s.power s.read

-- a cell is a decimal or not
abbrev pub IsDecimalOrNot : List ℕ → Type 0
IsDecimalOrNot cell = ((w : Written) × IsDecimalText cell w) ⊎ ((w : Written) → IsDecimalText cell w → ⊥)

pub text_decided : (cell : List ℕ) → IsDecimalOrNot cell
text_decided cell = by_run (run cell Start) refl (said_all cell)
  where
    led_elsewhere : (o : Option Phase) → run cell Start ≡ o → ((r : Phase) → o ≡ Some r → is_done r ≡ false) → (w : Written) → IsDecimalText cell w → ⊥
    led_elsewhere o e other w d =
        let end = decimal-ends cell w d in
        let bad : true ≡ false = sym end.2 ∙ other end.0 (sym e ∙ end.1) in
        cc

    by_done : (q : Phase) (done : Bool) → run cell Start ≡ Some q → is_done q ≡ done → Said q cell → IsDecimalOrNot cell
    by_done q true e f s = inl (record { minus = s.minus; digits = s.digits; behind = s.behind; down = s.down; power = s.power }, read-done q cell s.minus s.digits s.behind s.down s.power f s.read)
    by_done q false e f s = inr (led_elsewhere (Some q) e (λ r same. let phase : r ≡ q = cc in rw phase f))

    by_run : (o : Option Phase) → run cell Start ≡ o → IfSome o (λ q. Said q cell) → IsDecimalOrNot cell
    by_run None e s = inr (led_elsewhere None e (λ r same. absurd cc))
    by_run (Some q) e s = by_done q (is_done q) e refl s
