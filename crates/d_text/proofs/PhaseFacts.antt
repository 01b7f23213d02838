-- What is read in each phase, and where a text leads.
use Rattle.std.proofs.Common.{◌≡◌, ℕ, ◌+◌, ◌*◌, ◌≤◌, ◌<◌, ◌⊎◌, Bool, true, Option, None, Some, List, [], ◌∷◌, ◌++◌, length, arith, refl, sym, ap, ap₂, ◌∙◌, inl, inr}
use Rattle.std.proofs.lemmas.List.{append-nil}
use Rattle.std.proofs.lemmas.Bool.Decides.{nat_tests}
use Rattle.std.proofs.lemmas.Str.Parse.{digit_from_value}
use Rattle.std.specs.Char.{digit_value}
use Rattle.std.specs.Int.{IsInRange}
use Rattle.std.specs.Str.Parse.{AllDigits}
use Rattle.d_text.specs.Decimal.{Written, IsSign, IsMantissa, IsPower, IsDecimalText, BeginsDecimal}
use Rattle.d_text.specs.Scan.{kind_of, after_digit, after_sign, after_point, after_mark, after_kind, is_done, IsRead}
use Rattle.d_text.specs.declared.scan.Phase.{Phase}
use Rattle.d_text.specs.declared.scan.Phase.TheVariants.{Start, Signed, Whole, LonePoint, Fraction, Marked, MarkSigned, Power}
use Rattle.d_text.specs.declared.scan.Kind.{Kind}
use Rattle.d_text.specs.declared.scan.Kind.TheVariants.{Digit}
use Rattle.d_text.proofs.ReadFacts.{whole-first, whole-more, point-first, pointed-more, mantissa-whole, mantissa-pointed, marked-first, marked-digit}

pub read-whole : (phase : Phase) (text : List ℕ) (minus : Bool) (n b : ℕ) (down : Bool) (x d : ℕ) → d < 10 → after_digit phase ≡ Whole → IsRead phase text minus n b down x
    → IsRead Whole (text ++ (48 + d) ∷ []) minus (n * 10 + d) b down x
read-whole Start text minus n b down x d small e h = (whole-first text minus n b d small h.2 h.3 (inl (h.0, h.1)), h.4)
read-whole Signed text minus n b down x d small e h = (whole-first text minus n b d small h.1 h.2 h.0, h.3)
read-whole Whole text minus n b down x d small e h = (whole-more text minus n b d small h.0, h.1)
read-whole LonePoint text minus n b down x d small e h = cc
read-whole Fraction text minus n b down x d small e h = cc
read-whole Marked text minus n b down x d small e h = cc
read-whole MarkSigned text minus n b down x d small e h = cc
read-whole Power text minus n b down x d small e h = cc

pub read-fraction : (phase : Phase) (text : List ℕ) (minus : Bool) (n b : ℕ) (down : Bool) (x d : ℕ) → d < 10 → after_digit phase ≡ Fraction → IsRead phase text minus n b down x
    → IsRead Fraction (text ++ (48 + d) ∷ []) minus (n * 10 + d) (b + 1) down x
read-fraction Start text minus n b down x d small e h = cc
read-fraction Signed text minus n b down x d small e h = cc
read-fraction Whole text minus n b down x d small e h = cc
read-fraction LonePoint text minus n b down x d small e h = (pointed-more text minus n b 0 d small h.0, h.1)
read-fraction Fraction text minus n b down x d small e h = (pointed-more text minus n b 1 d small h.0, h.1)
read-fraction Marked text minus n b down x d small e h = cc
read-fraction MarkSigned text minus n b down x d small e h = cc
read-fraction Power text minus n b down x d small e h = cc

pub read-power : (phase : Phase) (text : List ℕ) (minus : Bool) (n b : ℕ) (down : Bool) (x d : ℕ) → d < 10 → after_digit phase ≡ Power → IsRead phase text minus n b down x
    → IsRead Power (text ++ (48 + d) ∷ []) minus n b down (x * 10 + d)
read-power Start text minus n b down x d small e h = cc
read-power Signed text minus n b down x d small e h = cc
read-power Whole text minus n b down x d small e h = cc
read-power LonePoint text minus n b down x d small e h = cc
read-power Fraction text minus n b down x d small e h = cc
read-power Marked text minus n b down x d small e h = marked-digit text minus n b x 0 d down small h
read-power MarkSigned text minus n b down x d small e h = marked-digit text minus n b x 1 d down small h
read-power Power text minus n b down x d small e h = marked-digit text minus n b x 2 d down small h

pub read-lone : (phase : Phase) (text : List ℕ) (minus : Bool) (n b : ℕ) (down : Bool) (x : ℕ) → after_point phase ≡ Some LonePoint → IsRead phase text minus n b down x
    → IsRead LonePoint (text ++ 46 ∷ []) minus n b down x
read-lone Start text minus n b down x e h = (point-first text minus n b h.2 h.3 (inl (h.0, h.1)), h.4)
read-lone Signed text minus n b down x e h = (point-first text minus n b h.1 h.2 h.0, h.3)
read-lone Whole text minus n b down x e h = cc
read-lone LonePoint text minus n b down x e h = cc
read-lone Fraction text minus n b down x e h = cc
read-lone Marked text minus n b down x e h = cc
read-lone MarkSigned text minus n b down x e h = cc
read-lone Power text minus n b down x e h = cc

pub read-mark : (phase : Phase) (text : List ℕ) (minus : Bool) (n b : ℕ) (down : Bool) (x mark : ℕ) → (mark ≡ 101) ⊎ (mark ≡ 69) → after_mark phase ≡ Some Marked
    → IsRead phase text minus n b down x → IsRead Marked (text ++ mark ∷ []) minus n b down x
read-mark Start text minus n b down x mark is e h = cc
read-mark Signed text minus n b down x mark is e h = cc
read-mark Whole text minus n b down x mark is e h = marked-first text minus n b x mark down is h.1.0 h.1.1 (mantissa-whole text minus n b h.0)
read-mark LonePoint text minus n b down x mark is e h = cc
read-mark Fraction text minus n b down x mark is e h = marked-first text minus n b x mark down is h.1.0 h.1.1 (mantissa-pointed text minus n b h.0)
read-mark Marked text minus n b down x mark is e h = cc
read-mark MarkSigned text minus n b down x mark is e h = cc
read-mark Power text minus n b down x mark is e h = cc

-- what is read is a decimal
pub read-done : (phase : Phase) (text : List ℕ) (minus : Bool) (n b : ℕ) (down : Bool) (x : ℕ) → is_done phase ≡ true → IsRead phase text minus n b down x
    → IsDecimalText text (record { minus = minus; digits = n; behind = b; down = down; power = x })
read-done Start text minus n b down x e h = cc
read-done Signed text minus n b down x e h = cc
read-done Whole text minus n b down x e h = record { mantissa = text; exponent = []; form = sym (append-nil text); mantissa_is = mantissa-whole text minus n b h.0; exponent_is = inl (refl, h.1.0, h.1.1) }
read-done LonePoint text minus n b down x e h = cc
read-done Fraction text minus n b down x e h = record { mantissa = text; exponent = []; form = sym (append-nil text); mantissa_is = mantissa-pointed text minus n b h.0; exponent_is = inl (refl, h.1.0, h.1.1) }
read-done Marked text minus n b down x e h = cc
read-done MarkSigned text minus n b down x e h = cc
read-done Power text minus n b down x e h = record {
  mantissa = h.mantissa;
  exponent = h.mark ∷ (h.sign ++ h.numeral);
  form = h.form;
  mantissa_is = h.mantissa_is;
  exponent_is = inr (record { mark = h.mark; sign = h.sign; numeral = h.numeral; form = refl; mark_is = h.mark_is; sign_is = h.sign_is; numeral_is = (h.some refl, h.numeral_digits); power_is = h.power_is });
}

-- a decimal begins with what is read
begins-with : (text rest : List ℕ) (w : Written) → IsDecimalText (text ++ rest) w → BeginsDecimal text
begins-with text rest w h = (rest, w, h)

one_digit : 0 < 10
one_digit = omega arith

done-begins : (phase : Phase) (text : List ℕ) (minus : Bool) (n b : ℕ) (down : Bool) (x : ℕ) → is_done phase ≡ true → IsRead phase text minus n b down x → BeginsDecimal text
done-begins phase text minus n b down x e h =
    let w : Written = record { minus = minus; digits = n; behind = b; down = down; power = x } in
    let d : IsDecimalText (text ++ []) w = rw (append-nil text) (read-done phase text minus n b down x e h) in
    begins-with text [] w d

pub read-begins : (phase : Phase) (text : List ℕ) (minus : Bool) (n b : ℕ) (down : Bool) (x : ℕ) → IsRead phase text minus n b down x → BeginsDecimal text
read-begins Start text minus n b down x h = begins-with text (48 ∷ []) _ (read-done Whole (text ++ 48 ∷ []) minus (n * 10 + 0) b down x refl (read-whole Start text minus n b down x 0 one_digit refl h))
read-begins Signed text minus n b down x h = begins-with text (48 ∷ []) _ (read-done Whole (text ++ 48 ∷ []) minus (n * 10 + 0) b down x refl (read-whole Signed text minus n b down x 0 one_digit refl h))
read-begins Whole text minus n b down x h = done-begins Whole text minus n b down x refl h
read-begins LonePoint text minus n b down x h = begins-with text (48 ∷ []) _ (read-done Fraction (text ++ 48 ∷ []) minus (n * 10 + 0) (b + 1) down x refl (read-fraction LonePoint text minus n b down x 0 one_digit refl h))
read-begins Fraction text minus n b down x h = done-begins Fraction text minus n b down x refl h
read-begins Marked text minus n b down x h = begins-with text (48 ∷ []) _ (read-done Power (text ++ 48 ∷ []) minus n b down (x * 10 + 0) refl (read-power Marked text minus n b down x 0 one_digit refl h))
read-begins MarkSigned text minus n b down x h = begins-with text (48 ∷ []) _ (read-done Power (text ++ 48 ∷ []) minus n b down (x * 10 + 0) refl (read-power MarkSigned text minus n b down x 0 one_digit refl h))
read-begins Power text minus n b down x h = done-begins Power text minus n b down x refl h

-- on from a phase, if there is one
abbrev pub and_on : Option Phase → (Phase → Option Phase) → Option Phase
and_on None f = None
and_on (Some phase) f = f phase

-- where a text leads
abbrev pub run : List ℕ → Phase → Option Phase
run [] phase = Some phase
run (byte ∷ rest) phase = and_on (after_kind (kind_of byte) phase) (run rest)

and_on-append : (a b : List ℕ) (o : Option Phase) → ((q : Phase) → run (a ++ b) q ≡ and_on (run a q) (run b)) → and_on o (run (a ++ b)) ≡ and_on (and_on o (run a)) (run b)
and_on-append a b None f = refl
and_on-append a b (Some q) f = f q

pub run-append : (a b : List ℕ) (phase : Phase) → run (a ++ b) phase ≡ and_on (run a phase) (run b)
run-append [] b phase = refl
run-append (byte ∷ rest) b phase = and_on-append rest b (after_kind (kind_of byte) phase) (run-append rest b)

pub run-then : (a b : List ℕ) (p q r : Phase) → run a p ≡ Some q → run b q ≡ Some r → run (a ++ b) p ≡ Some r
run-then a b p q r e f = run-append a b p ∙ ap (λ (o : Option Phase). and_on o (run b)) e ∙ f

-- digits
kind-digit : (byte : ℕ) → digit_value byte < 10 → kind_of byte ≡ Digit
kind-digit byte small = let range : IsInRange 48 57 byte = digit_from_value byte small in digit-kind byte range.0 range.1
  where
    digit-kind : (byte : ℕ) → 48 ≤ byte → byte ≤ 57 → kind_of byte ≡ Digit
    digit-kind byte low high = grind (arith, nat_tests)

digit-runs : (byte : ℕ) (rest : List ℕ) (p : Phase) → digit_value byte < 10 → run (byte ∷ rest) p ≡ run rest (after_digit p)
digit-runs byte rest p small = ap (λ (k : Kind). and_on (after_kind k p) (run rest)) (kind-digit byte small)

digits-stay : (ds : List ℕ) (p : Phase) → after_digit p ≡ p → AllDigits 10 ds → run ds p ≡ Some p
digits-stay [] p e h = refl
digits-stay (byte ∷ rest) p e h = digit-runs byte rest p h.0 ∙ ap (run rest) e ∙ digits-stay rest p e h.1

twice : (p : Phase) → after_digit (after_digit p) ≡ after_digit p
twice Start = refl
twice Signed = refl
twice Whole = refl
twice LonePoint = refl
twice Fraction = refl
twice Marked = refl
twice MarkSigned = refl
twice Power = refl

digits-some : (ds : List ℕ) (p : Phase) → 0 < length ds → AllDigits 10 ds → run ds p ≡ Some (after_digit p)
digits-some [] p some h = absurd (omega arith)
digits-some (byte ∷ rest) p some h = digit-runs byte rest p h.0 ∙ digits-stay rest (after_digit p) (twice p) h.1

-- a sign
sign-runs : (sign : List ℕ) (minus : Bool) (p q : Phase) → IsSign sign minus → after_sign p ≡ Some q → (run sign p ≡ Some p) ⊎ (run sign p ≡ Some q)
sign-runs sign minus p q (inl e) h = inl (ap (λ (s : List ℕ). run s p) e.0)
sign-runs sign minus p q (inr (inl e)) h = inr (ap (λ (s : List ℕ). run s p) e.0 ∙ ap (λ (o : Option Phase). and_on o (run [])) h)
sign-runs sign minus p q (inr (inr e)) h = inr (ap (λ (s : List ℕ). run s p) e.0 ∙ ap (λ (o : Option Phase). and_on o (run [])) h)

-- a text leads to an end of a mantissa
abbrev Ends : List ℕ → Phase → Type 0
Ends text p = (q : Phase) × (run text p ≡ Some q) × (after_mark q ≡ Some Marked) × (is_done q ≡ true)

body-ends : (p : Phase) (before point after : List ℕ) → after_digit p ≡ Whole → after_point p ≡ Some LonePoint → ((point ≡ []) × (after ≡ [])) ⊎ (point ≡ 46 ∷ []) → AllDigits 10 before → AllDigits 10 after
    → 0 < length (before ++ after) → Ends (before ++ (point ++ after)) p
body-ends p [] point after d l (inl e) hb ha some = absurd (let none : length after ≡ 0 = ap (length {A = ℕ}) e.1 in omega arith)
body-ends p [] point after d l (inr e) hb ha some =
    let dot : run point p ≡ Some LonePoint = ap (λ (t : List ℕ). run t p) e ∙ ap (λ (o : Option Phase). and_on o (run [])) l in
    (Fraction, run-then point after p LonePoint Fraction dot (digits-some after LonePoint some ha), refl, refl)
body-ends p (byte ∷ rest) point after d l (inl e) hb ha some =
    let whole : run (byte ∷ rest) p ≡ Some Whole = digits-some (byte ∷ rest) p (omega arith) hb ∙ ap Some d in
    let none : run (point ++ after) Whole ≡ Some Whole = ap₂ (λ (s t : List ℕ). run (s ++ t) Whole) e.0 e.1 in
    (Whole, run-then (byte ∷ rest) (point ++ after) p Whole Whole whole none, refl, refl)
body-ends p (byte ∷ rest) point after d l (inr e) hb ha some =
    let whole : run (byte ∷ rest) p ≡ Some Whole = digits-some (byte ∷ rest) p (omega arith) hb ∙ ap Some d in
    let dot : run point Whole ≡ Some Fraction = ap (λ (t : List ℕ). run t Whole) e in
    let more : run (point ++ after) Whole ≡ Some Fraction = run-then point after Whole Fraction Fraction dot (digits-stay after Fraction refl ha) in
    (Fraction, run-then (byte ∷ rest) (point ++ after) p Whole Fraction whole more, refl, refl)

after-sign-ends : (sign body : List ℕ) (p : Phase) → run sign Start ≡ Some p → Ends body p → Ends (sign ++ body) Start
after-sign-ends sign body p e h = (h.0, run-then sign body Start p h.0 e h.1, h.2, h.3)

mantissa-ends : (text : List ℕ) (minus : Bool) (n b : ℕ) → IsMantissa text minus n b → Ends text Start
mantissa-ends text minus n b h = rw h.form (signs (sign-runs h.sign minus Start Signed h.sign_is refl))
  where
    signs : (run h.sign Start ≡ Some Start) ⊎ (run h.sign Start ≡ Some Signed) → Ends (h.sign ++ (h.before ++ (h.point ++ h.after))) Start
    signs (inl e) = after-sign-ends h.sign (h.before ++ (h.point ++ h.after)) Start e (body-ends Start h.before h.point h.after refl refl h.point_is h.before_digits h.after_digits h.some)
    signs (inr e) = after-sign-ends h.sign (h.before ++ (h.point ++ h.after)) Signed e (body-ends Signed h.before h.point h.after refl refl h.point_is h.before_digits h.after_digits h.some)

mark-runs : (mark : ℕ) (rest : List ℕ) (p : Phase) → (mark ≡ 101) ⊎ (mark ≡ 69) → after_mark p ≡ Some Marked → run (mark ∷ rest) p ≡ run rest Marked
mark-runs mark rest p (inl e) h = ap (λ (m : ℕ). run (m ∷ rest) p) e ∙ ap (λ (o : Option Phase). and_on o (run rest)) h
mark-runs mark rest p (inr e) h = ap (λ (m : ℕ). run (m ∷ rest) p) e ∙ ap (λ (o : Option Phase). and_on o (run rest)) h

power-ends : (sign numeral : List ℕ) → (run sign Marked ≡ Some Marked) ⊎ (run sign Marked ≡ Some MarkSigned) → 0 < length numeral → AllDigits 10 numeral → run (sign ++ numeral) Marked ≡ Some Power
power-ends sign numeral (inl e) some h = run-then sign numeral Marked Marked Power e (digits-some numeral Marked some h)
power-ends sign numeral (inr e) some h = run-then sign numeral Marked MarkSigned Power e (digits-some numeral MarkSigned some h)

-- a decimal's text leads to an end
pub decimal-ends : (text : List ℕ) (w : Written) → IsDecimalText text w → (q : Phase) × (run text Start ≡ Some q) × (is_done q ≡ true)
decimal-ends text w h = let m = mantissa-ends h.mantissa w.minus w.digits w.behind h.mantissa_is in whole text h.mantissa h.exponent w.down w.power h.form m.0 m.1 m.2 m.3 h.exponent_is
  where
    whole : (text mantissa exponent : List ℕ) (down : Bool) (power : ℕ) → text ≡ mantissa ++ exponent → (q : Phase) → run mantissa Start ≡ Some q → after_mark q ≡ Some Marked → is_done q ≡ true → IsPower exponent down power
        → (q : Phase) × (run text Start ≡ Some q) × (is_done q ≡ true)
    whole text mantissa exponent down power form q e marked done (inl none) =
        (q, ap (λ (t : List ℕ). run t Start) (form ∙ ap (λ (t : List ℕ). mantissa ++ t) none.0 ∙ append-nil mantissa) ∙ e, done)
    whole text mantissa exponent down power form q e marked done (inr x) =
        let led : run exponent q ≡ Some Power = ap (λ (t : List ℕ). run t q) x.form ∙ mark-runs x.mark (x.sign ++ x.numeral) q x.mark_is marked
        ∙ power-ends x.sign x.numeral (sign-runs x.sign down Marked MarkSigned x.sign_is refl) x.numeral_is.0 x.numeral_is.1 in
        (Power, ap (λ (t : List ℕ). run t Start) form ∙ run-then mantissa exponent Start q Power e led, refl)
