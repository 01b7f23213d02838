-- A decimal has one reading.
use Rattle.std.proofs.Common.{◌≡◌, ℕ, ◌<◌, ◌⊎◌, Bool, List, [], ◌∷◌, ◌++◌, length, arith, refl, sym, ap, ap₂, ◌∙◌, append_assoc, inl, inr}
use Rattle.std.specs.Char.{digit_value}
use Rattle.std.specs.Str.Parse.{AllDigits, IsNumeral, digits_value}
use Rattle.d_text.specs.Decimal.{Written, IsSign, IsMantissa, IsExponent, IsPower, IsDecimalText}

-- no digit stands at the front
abbrev NoDigit : List ℕ → Type 0
NoDigit [] = Unit {0}
NoDigit (c ∷ rest) = digit_value c < 10 → ⊥

-- a digit or a point stands at the front
abbrev Starts : List ℕ → Type 0
Starts [] = ⊥
Starts (c ∷ rest) = (digit_value c < 10) ⊎ (c ≡ 46)

-- nothing stands here, or an e or E at the front
abbrev Ends : List ℕ → Type 0
Ends [] = Unit {0}
Ends (c ∷ rest) = (c ≡ 101) ⊎ (c ≡ 69)

-- digits end where no digit follows
same-digits : (a b x y : List ℕ) → AllDigits 10 a → AllDigits 10 b → NoDigit x → NoDigit y → a ++ x ≡ b ++ y → (a ≡ b) × (x ≡ y)
same-digits [] [] x y da db nx ny e = (refl, e)
same-digits [] (d ∷ b) [] y da db nx ny e = absurd cc
same-digits [] (d ∷ b) (c ∷ x) y da db nx ny e = absurd (let same : c ≡ d = cc in nx (rw same db.0))
same-digits (c ∷ a) [] x [] da db nx ny e = absurd cc
same-digits (c ∷ a) [] x (d ∷ y) da db nx ny e = absurd (let same : d ≡ c = cc in ny (rw same da.0))
same-digits (c ∷ a) (d ∷ b) x y da db nx ny e =
    let head : c ≡ d = cc in
    let tail : a ++ x ≡ b ++ y = cc in
    let rest = same-digits a b x y da.1 db.1 nx ny tail in
    (ap₂ (λ (h : ℕ) (t : List ℕ). h ∷ t) head rest.0, rest.1)

-- neither a sign nor a point nor an e is a digit
sign_other : (c : ℕ) → (c ≡ 43) ⊎ (c ≡ 45) → (digit_value c < 10) ⊎ (c ≡ 46) → ⊥
sign_other c (inl e) (inl h) = let bad : digit_value 43 < 10 = rw e at h in omega arith
sign_other c (inl e) (inr h) = omega arith
sign_other c (inr e) (inl h) = let bad : digit_value 45 < 10 = rw e at h in omega arith
sign_other c (inr e) (inr h) = omega arith

mark_other : (c : ℕ) → (c ≡ 101) ⊎ (c ≡ 69) → digit_value c < 10 → ⊥
mark_other c (inl e) h = let bad : digit_value 101 < 10 = rw e at h in omega arith
mark_other c (inr e) h = let bad : digit_value 69 < 10 = rw e at h in omega arith

ends-none : (xs : List ℕ) → Ends xs → NoDigit xs
ends-none [] h = tt
ends-none (c ∷ rest) h = mark_other c h

unsigned : (c : ℕ) (x y : List ℕ) → (c ≡ 43) ⊎ (c ≡ 45) → Starts x → x ≡ c ∷ y → ⊥
unsigned c [] y sign h e = h
unsigned c (d ∷ x) y sign h e = let same : d ≡ c = cc in sign_other c sign (rw same at h)

glue : (s t u v x y : List ℕ) → s ≡ u → t ≡ v → s ++ x ≡ t ++ y → u ++ x ≡ v ++ y
glue s t u v x y es et e = sym (ap (λ (l : List ℕ). l ++ x) es) ∙ e ∙ ap (λ (l : List ℕ). l ++ y) et

heads : (c d : ℕ) (x y : List ℕ) → c ∷ x ≡ d ∷ y → c ≡ d
heads c d x y e = cc

-- a sign ends where a number starts
one-sign : (s t x y : List ℕ) (m n : Bool) → IsSign s m → IsSign t n → Starts x → Starts y → s ++ x ≡ t ++ y → (m ≡ n) × (x ≡ y)
one-sign s t x y m n (inl a) (inl b) sx sy e = (a.1 ∙ sym b.1, glue s t [] [] x y a.0 b.0 e)
one-sign s t x y m n (inl a) (inr (inl b)) sx sy e = absurd (unsigned 43 x y (inl refl) sx (glue s t [] (43 ∷ []) x y a.0 b.0 e))
one-sign s t x y m n (inl a) (inr (inr b)) sx sy e = absurd (unsigned 45 x y (inr refl) sx (glue s t [] (45 ∷ []) x y a.0 b.0 e))
one-sign s t x y m n (inr (inl a)) (inl b) sx sy e = absurd (unsigned 43 y x (inl refl) sy (sym (glue s t (43 ∷ []) [] x y a.0 b.0 e)))
one-sign s t x y m n (inr (inr a)) (inl b) sx sy e = absurd (unsigned 45 y x (inr refl) sy (sym (glue s t (45 ∷ []) [] x y a.0 b.0 e)))
one-sign s t x y m n (inr (inl a)) (inr (inl b)) sx sy e = (a.1 ∙ sym b.1, (let h : 43 ∷ x ≡ 43 ∷ y = glue s t (43 ∷ []) (43 ∷ []) x y a.0 b.0 e in cc))
one-sign s t x y m n (inr (inr a)) (inr (inr b)) sx sy e = (a.1 ∙ sym b.1, (let h : 45 ∷ x ≡ 45 ∷ y = glue s t (45 ∷ []) (45 ∷ []) x y a.0 b.0 e in cc))
one-sign s t x y m n (inr (inl a)) (inr (inr b)) sx sy e = absurd (let bad = heads 43 45 x y (glue s t (43 ∷ []) (45 ∷ []) x y a.0 b.0 e) in omega arith)
one-sign s t x y m n (inr (inr a)) (inr (inl b)) sx sy e = absurd (let bad = heads 45 43 x y (glue s t (45 ∷ []) (43 ∷ []) x y a.0 b.0 e) in omega arith)

numeral-starts : (n : List ℕ) → IsNumeral 10 n → Starts n
numeral-starts [] h = let some : 0 < 0 = h.0 in omega arith
numeral-starts (c ∷ rest) h = inl h.1.0

-- an exponent's parts
one-exponent : (x y : List ℕ) (d e : Bool) (p q : ℕ) → IsExponent x d p → IsExponent y e q → x ≡ y → (d ≡ e) × (p ≡ q)
one-exponent x y d e p q a b same =
    let whole : a.mark ∷ (a.sign ++ a.numeral) ≡ b.mark ∷ (b.sign ++ b.numeral) = sym a.form ∙ same ∙ b.form in
    let tail : a.sign ++ a.numeral ≡ b.sign ++ b.numeral = cc in
    let parts = one-sign a.sign b.sign a.numeral b.numeral d e a.sign_is b.sign_is (numeral-starts a.numeral a.numeral_is) (numeral-starts b.numeral b.numeral_is) tail in
    (parts.0, a.power_is ∙ ap (digits_value 10) parts.1 ∙ sym b.power_is)

never-both : (x y : List ℕ) (e : Bool) (q : ℕ) → x ≡ [] → IsExponent y e q → x ≡ y → ⊥
never-both x y e q none b same = let bad : [] ≡ b.mark ∷ (b.sign ++ b.numeral) = sym none ∙ same ∙ b.form in cc

one-power : (x y : List ℕ) (d e : Bool) (p q : ℕ) → IsPower x d p → IsPower y e q → x ≡ y → (d ≡ e) × (p ≡ q)
one-power x y d e p q (inl a) (inl b) same = (a.1 ∙ sym b.1, a.2 ∙ sym b.2)
one-power x y d e p q (inl a) (inr b) same = absurd (never-both x y e q a.0 b same)
one-power x y d e p q (inr a) (inl b) same = absurd (never-both y x d p b.0 a (sym same))
one-power x y d e p q (inr a) (inr b) same = one-exponent x y d e p q a b same

power-ends : (x : List ℕ) (d : Bool) (p : ℕ) → IsPower x d p → Ends x
power-ends [] d p h = tt
power-ends (c ∷ x) d p (inl a) = absurd (let bad : c ∷ x ≡ [] = a.0 in cc)
power-ends (c ∷ x) d p (inr a) = let form : c ∷ x ≡ a.mark ∷ (a.sign ++ a.numeral) = a.form in let same : c ≡ a.mark = cc in rw same a.mark_is

-- no point or a point, and the digits behind it
abbrev IsPoint : List ℕ → List ℕ → Type 0
IsPoint point after = ((point ≡ []) × (after ≡ [])) ⊎ (point ≡ 46 ∷ [])

point-none : (p a x : List ℕ) → IsPoint p a → Ends x → NoDigit (p ++ (a ++ x))
point-none p a x (inl h) ends = rw h.0 (rw h.1 (ends-none x ends))
point-none p a x (inr h) ends = rw h (λ lt. let bad : digit_value 46 < 10 = lt in omega arith)

no_point : (p a q b x y : List ℕ) → (p ≡ []) × (a ≡ []) → q ≡ 46 ∷ [] → Ends x → p ++ (a ++ x) ≡ q ++ (b ++ y) → ⊥
no_point p a q b [] y h point ends e = let bad : [] ≡ 46 ∷ (b ++ y) = sym (ap₂ (λ (l k : List ℕ). l ++ (k ++ [])) h.0 h.1) ∙ e ∙ ap (λ (l : List ℕ). l ++ (b ++ y)) point in cc
no_point p a q b (c ∷ x) y h point ends e =
    let whole : c ∷ x ≡ 46 ∷ (b ++ y) = sym (ap₂ (λ (l k : List ℕ). l ++ (k ++ c ∷ x)) h.0 h.1) ∙ e ∙ ap (λ (l : List ℕ). l ++ (b ++ y)) point in
    let same : c ≡ 46 = cc in
    elim ends [ inl m ↦ omega arith | inr m ↦ omega arith ]

one-point : (p a q b x y : List ℕ) → IsPoint p a → IsPoint q b → AllDigits 10 a → AllDigits 10 b → Ends x → Ends y → p ++ (a ++ x) ≡ q ++ (b ++ y) → (a ≡ b) × (x ≡ y)
one-point p a q b x y (inl h) (inl k) da db ex ey e = (h.1 ∙ sym k.1, sym (ap₂ (λ (l m : List ℕ). l ++ (m ++ x)) h.0 h.1) ∙ e ∙ ap₂ (λ (l m : List ℕ). l ++ (m ++ y)) k.0 k.1)
one-point p a q b x y (inl h) (inr k) da db ex ey e = absurd (no_point p a q b x y h k ex e)
one-point p a q b x y (inr h) (inl k) da db ex ey e = absurd (no_point q b p a y x k h ey (sym e))
one-point p a q b x y (inr h) (inr k) da db ex ey e =
    let whole : 46 ∷ (a ++ x) ≡ 46 ∷ (b ++ y) = glue p q (46 ∷ []) (46 ∷ []) (a ++ x) (b ++ y) h k e in
    let tail : a ++ x ≡ b ++ y = cc in
    same-digits a b x y da db (ends-none x ex) (ends-none y ey) tail

mantissa-starts : (b p a x : List ℕ) → AllDigits 10 b → IsPoint p a → 0 < length (b ++ a) → Starts (b ++ (p ++ (a ++ x)))
mantissa-starts [] p a x digits (inl h) some = absurd (let none : 0 < length a = some in let bad : 0 < 0 = rw h.1 at none in omega arith)
mantissa-starts [] p a x digits (inr h) some = rw h (inr refl)
mantissa-starts (c ∷ b) p a x digits h some = inl digits.0

-- a mantissa and what follows it
spread : (m s b p a x : List ℕ) → m ≡ s ++ (b ++ (p ++ a)) → m ++ x ≡ s ++ (b ++ (p ++ (a ++ x)))
spread m s b p a x h = ap (λ (l : List ℕ). l ++ x) h ∙ append_assoc s (b ++ (p ++ a)) x ∙ ap (λ (l : List ℕ). s ++ l) (append_assoc b (p ++ a) x ∙ ap (λ (l : List ℕ). b ++ l) (append_assoc p a x))

record SameParts (w v : Written) (x y : List ℕ) : Type 0 where
  minus : w.minus ≡ v.minus
  digits : w.digits ≡ v.digits
  behind : w.behind ≡ v.behind
  rest : x ≡ y

one-mantissa : (t u x y : List ℕ) (w v : Written) → IsMantissa t w.minus w.digits w.behind → IsMantissa u v.minus v.digits v.behind → Ends x → Ends y → t ++ x ≡ u ++ y → SameParts w v x y
one-mantissa t u x y w v a b ex ey e =
    let whole : a.sign ++ (a.before ++ (a.point ++ (a.after ++ x))) ≡ b.sign ++ (b.before ++ (b.point ++ (b.after ++ y))) =
    sym (spread t a.sign a.before a.point a.after x a.form) ∙ e ∙ spread u b.sign b.before b.point b.after y b.form in
    let signs = one-sign a.sign b.sign (a.before ++ (a.point ++ (a.after ++ x))) (b.before ++ (b.point ++ (b.after ++ y))) w.minus v.minus a.sign_is b.sign_is
    (mantissa-starts a.before a.point a.after x a.before_digits a.point_is a.some) (mantissa-starts b.before b.point b.after y b.before_digits b.point_is b.some) whole in
    let fronts = same-digits a.before b.before (a.point ++ (a.after ++ x)) (b.point ++ (b.after ++ y)) a.before_digits b.before_digits
    (point-none a.point a.after x a.point_is ex) (point-none b.point b.after y b.point_is ey) signs.1 in
    let ends = one-point a.point a.after b.point b.after x y a.point_is b.point_is a.after_digits b.after_digits ex ey fronts.1 in
    record {
      minus = signs.0;
      digits = a.digits_are ∙ ap₂ (λ (l k : List ℕ). digits_value 10 (l ++ k)) fronts.0 ends.0 ∙ sym b.digits_are;
      behind = a.behind_is ∙ ap (λ (l : List ℕ). length l) ends.0 ∙ sym b.behind_is;
      rest = ends.1;
    }

made : Bool → ℕ → ℕ → Bool → ℕ → Written
made minus digits behind down power = record { minus = minus; digits = digits; behind = behind; down = down; power = power }

pub one-reading : (text : List ℕ) (w v : Written) → IsDecimalText text w → IsDecimalText text v → w ≡ v
unfolding made
one-reading text w v a b =
    let parts = one-mantissa a.mantissa b.mantissa a.exponent b.exponent w v a.mantissa_is b.mantissa_is (power-ends a.exponent w.down w.power a.exponent_is)
    (power-ends b.exponent v.down v.power b.exponent_is) (sym a.form ∙ b.form) in
    let powers = one-power a.exponent b.exponent w.down v.down w.power v.power a.exponent_is b.exponent_is parts.rest in
    ap₂ (λ (m : Bool) (d : ℕ). made m d w.behind w.down w.power) parts.minus parts.digits ∙ ap₂ (λ (b : ℕ) (d : Bool). made v.minus v.digits b d w.power) parts.behind powers.0
    ∙ ap (λ (p : ℕ). made v.minus v.digits v.behind v.down p) powers.1
