-- Bytes have one reading by lines, and one fault.
use Rattle.std.proofs.Common.{◌≡◌, ◌≢◌, ◌∙◌, ◌<◌, ◌+◌, ℕ, List, [], ◌∷◌, ◌++◌, length, arith, refl, sym, ap, ap₂, subst, append_assoc, inl, inr}
use Rattle.std.specs.Prelude.{◌⊎◌, Option, Some, None}
use Rattle.std.proofs.lemmas.List.{length-append}
use Rattle.d_certline.specs.declared.fault.CertFault.{CertFault}
use Rattle.d_certline.specs.declared.fault.CertFault.TheVariants as fault
use Rattle.d_certline.specs.declared.place.Place.{Place}
use Rattle.d_certline.specs.declared.place.Stage.TheVariants as stage
use Rattle.d_certline.specs.Lines.{Line, line_text, text_of}
use Rattle.d_certline.specs.Places.{stands, number, form, after, after_at, Stand, first}
use Rattle.d_certline.specs.Faults.{HasNoLf, IsShort, IsNumber, IsForm, EndsLine, IsLong, Faulty, FaultOf}
use Rattle.d_certline.proofs.LineFacts.{after_is, stood, text_of-none, text_of-more, stand_none, stand_more}
use Rattle.d_certline.proofs.OneLine.{line_one}
use Rattle.d_certline.proofs.ShortFacts.{sound_short}
use Rattle.d_certline.proofs.SoundFacts.{IsSound, sound_first, sound_after, sound_stand}

-- a line ends at the first line feed
pub lf_one : (a b s t : List ℕ) → HasNoLf a → HasNoLf b → a ++ 10 ∷ s ≡ b ++ 10 ∷ t → (a ≡ b) × (s ≡ t)
lf_one [] [] s t na nb e = (refl, cc)
lf_one [] (y ∷ b) s t na nb e = let same : y ≡ 10 = cc in absurd (nb.0 same)
lf_one (x ∷ a) [] s t na nb e = let same : x ≡ 10 = cc in absurd (na.0 same)
lf_one (x ∷ a) (y ∷ b) s t na nb e =
    let head : x ≡ y = cc in
    let tail : a ++ 10 ∷ s ≡ b ++ 10 ∷ t = cc in
    let rest = lf_one a b s t na.1 nb.1 tail in
    (ap₂ (λ (h : ℕ) (l : List ℕ). h ∷ l) head rest.0, rest.1)

-- bytes without a line feed hold no line
pub no_line : (a s rest : List ℕ) → HasNoLf rest → rest ≡ a ++ 10 ∷ s → ⊥
no_line a s [] none e = short a e
  where
    short : (a : List ℕ) → [] ≡ a ++ 10 ∷ s → ⊥
    short [] e = cc
    short (x ∷ a) e = cc
no_line [] s (y ∷ rest) none e = let same : y ≡ 10 = cc in none.0 same
no_line (x ∷ a) s (y ∷ rest) none e = let tail : rest ≡ a ++ 10 ∷ s = cc in no_line a s rest none.1 tail

-- bytes that begin with many other than line feeds begin with no shorter line
pub long_none : (a s line t : List ℕ) → HasNoLf line → length a < length line → line ++ t ≡ a ++ 10 ∷ s → ⊥
long_none a s [] t none less e = omega arith
long_none [] s (y ∷ line) t none less e = let same : y ≡ 10 = cc in none.0 same
long_none (x ∷ a) s (y ∷ line) t none less e = let tail : line ++ t ≡ a ++ 10 ∷ s = cc in long_none a s line t none.1 (omega arith) tail

-- no line that stands comes next
abbrev pub IsStuck : Place → List ℕ → Type 0
IsStuck p rest = (l : Line) (more : List ℕ) (q : Place) → rest ≡ line_text l ++ 10 ∷ more → after p l ≡ stands q → ⊥

-- nothing stands behind the end
pub done_stuck : (p q : Place) (l : Line) → p.stage ≡ stage.Done → after p l ≡ stands q → ⊥
unfolding after_at
done_stuck p q l done e = let bad : form ≡ stands q = sym (after_is stage.Done p l done) ∙ e in cc

-- a line in front that may not stand
ends_stuck : (p q : Place) (l : Line) (line more rest after_line : List ℕ) → HasNoLf line → HasNoLf (line_text l) → rest ≡ line ++ 10 ∷ more → rest ≡ line_text l ++ 10 ∷ after_line → line_text l ≡ line
ends_stuck p q l line more rest after_line none plain e f = sym (lf_one line (line_text l) more after_line none plain (sym e ∙ f)).0

form_stuck : (p : Place) (rest : List ℕ) → IsSound p → EndsLine (IsForm p) rest → IsStuck p rest
form_stuck p rest sound ends l more q e f =
    let same = ends_stuck p q l ends.0 ends.1 rest more ends.3.0 (sound_short p q l sound f).0 ends.2 e in
    let bad : form ≡ stands q = sym (ends.4 l same) ∙ f in
    cc

number_stuck : (p : Place) (rest : List ℕ) → IsSound p → EndsLine (IsNumber p) rest → IsStuck p rest
number_stuck p rest sound ends l more q e f =
    let same = ends_stuck p q l ends.0 ends.1 rest more ends.3.0 (sound_short p q l sound f).0 ends.2 e in
    let line_is = line_one l ends.4.0 (same ∙ sym ends.4.1) in
    let bad : number ≡ stands q = sym ends.4.2 ∙ ap (λ m. after p m) (sym line_is) ∙ f in
    cc

long_stuck : (p : Place) (rest : List ℕ) → IsSound p → IsLong rest → IsStuck p rest
long_stuck p rest sound long l more q e f =
    let short = (sound_short p q l sound f).1 in
    long_none (line_text l) more long.0 long.1 long.3 (omega (arith, short, long.4)) (sym long.2 ∙ e)

-- bytes with a fault, or none, begin with no line that stands
pub faulty_stuck : (p : Place) (n : ℕ) (rest : List ℕ) (f : Option CertFault) → IsSound p → Faulty p n rest f → IsStuck p rest
unfolding Faulty
faulty_stuck p n rest None sound h = λ l more q e g. done_stuck p q l h.0 g
faulty_stuck p n rest (Some fault.Trailing) sound h = λ l more q e g. done_stuck p q l h.0 g
faulty_stuck p n rest (Some fault.Early) sound h = λ l more q e g. no_line (line_text l) more rest h.1.0 e
faulty_stuck p n rest (Some (fault.Form k)) sound h = elim h.2 [
  | inl ends ↦ form_stuck p rest sound ends
  | inr long ↦ long_stuck p rest sound long
]
faulty_stuck p n rest (Some (fault.Number k)) sound h = number_stuck p rest sound h.2

-- the texts of two lists with a line in front each
pub next_line : (l m : Line) (s t : List ℕ) → HasNoLf (line_text l) → HasNoLf (line_text m) → line_text l ++ 10 ∷ s ≡ line_text m ++ 10 ∷ t → (l ≡ m) × (s ≡ t)
next_line l m s t x y e = let both = lf_one (line_text l) (line_text m) s t x y e in (line_one l m both.0, both.1)

pub front_line : (l : Line) (ls : List Line) (r : List ℕ) → text_of (l ∷ ls) ++ r ≡ line_text l ++ 10 ∷ (text_of ls ++ r)
front_line l ls r = ap (λ t. t ++ r) (text_of-more l ls) ∙ append_assoc (line_text l) (10 ∷ text_of ls) r

-- two readings that can't go on are one
pub meet : (ls ms : List Line) (p a b : Place) (r s : List ℕ) → IsSound p → Stand p ls a → Stand p ms b → text_of ls ++ r ≡ text_of ms ++ s
    → IsStuck a r → IsStuck b s → (ls ≡ ms) × (a ≡ b) × (r ≡ s)
meet [] [] p a b r s sound x y e u v =
    (refl, sym (stand_none p a x) ∙ stand_none p b y, sym (ap (λ t. t ++ r) text_of-none) ∙ e ∙ ap (λ t. t ++ s) text_of-none)
meet [] (m ∷ ms) p a b r s sound x y e u v =
    let t = stand_more p b m ms y in
    let here : r ≡ line_text m ++ 10 ∷ (text_of ms ++ s) = sym (ap (λ t. t ++ r) text_of-none) ∙ e ∙ front_line m ms s in
    let stuck : IsStuck p r = subst (λ (c : Place). IsStuck c r) (sym (stand_none p a x)) u in
    absurd (stuck m (text_of ms ++ s) t.0 here t.1)
meet (l ∷ ls) [] p a b r s sound x y e u v =
    let t = stand_more p a l ls x in
    let here : s ≡ line_text l ++ 10 ∷ (text_of ls ++ r) = sym (ap (λ t. t ++ s) text_of-none) ∙ sym e ∙ front_line l ls r in
    let stuck : IsStuck p s = subst (λ (c : Place). IsStuck c s) (sym (stand_none p b y)) v in
    absurd (stuck l (text_of ls ++ r) t.0 here t.1)
meet (l ∷ ls) (m ∷ ms) p a b r s sound x y e u v =
    let t = stand_more p a l ls x in
    let w = stand_more p b m ms y in
    let both = next_line l m (text_of ls ++ r) (text_of ms ++ s) (sound_short p t.0 l sound t.1).0 (sound_short p w.0 m sound w.1).0 (sym (front_line l ls r) ∙ e ∙ front_line m ms s) in
    let same : w.0 ≡ t.0 = stood w.0 t.0 (sym w.1 ∙ ap (λ k. after p k) (sym both.0) ∙ t.1) in
    let rest = meet ls ms t.0 a b r s (sound_after p t.0 l sound t.1) t.2 (subst (λ (c : Place). Stand c ms b) same w.2) both.1 u v in
    (ap₂ (λ (k : Line) (ks : List Line). k ∷ ks) both.0 rest.0, rest.1, rest.2)

-- bytes in front have one fault
early_no_line : (P : List ℕ → Type 0) (rest : List ℕ) → IsShort rest → EndsLine P rest → ⊥
early_no_line P rest short ends = no_line ends.0 ends.1 rest short.0 ends.2

early_not_long : (rest : List ℕ) → IsShort rest → IsLong rest → ⊥
early_not_long rest short long = omega (arith, short.1, long.4, ap length long.2, length-append long.0 long.1)

form_not_number : (p : Place) (rest : List ℕ) → EndsLine (IsForm p) rest ⊎ IsLong rest → EndsLine (IsNumber p) rest → ⊥
form_not_number p rest (inl a) b =
    let same : a.0 ≡ b.0 = (lf_one a.0 b.0 a.1 b.1 a.3.0 b.3.0 (sym a.2 ∙ b.2)).0 in
    let bad : form ≡ number = sym (a.4 b.4.0 (b.4.1 ∙ sym same)) ∙ b.4.2 in
    cc
form_not_number p rest (inr a) b = long_none b.0 b.1 a.0 a.1 a.3 (omega (arith, b.3.1, a.4)) (sym a.2 ∙ b.2)

early_not_form : (p : Place) (rest : List ℕ) → IsShort rest → EndsLine (IsForm p) rest ⊎ IsLong rest → ⊥
early_not_form p rest short (inl a) = early_no_line (IsForm p) rest short a
early_not_form p rest short (inr a) = early_not_long rest short a

pub alike : (p : Place) (n : ℕ) (rest : List ℕ) (f g : Option CertFault) → Faulty p n rest f → Faulty p n rest g → f ≡ g
unfolding Faulty
alike p n rest None None x y = refl
alike p n rest None (Some fault.Trailing) x y = absurd (y.1 x.1)
alike p n rest None (Some fault.Early) x y = absurd (y.0 x.0)
alike p n rest None (Some (fault.Form j)) x y = absurd (y.0 x.0)
alike p n rest None (Some (fault.Number j)) x y = absurd (y.0 x.0)
alike p n rest (Some fault.Trailing) None x y = absurd (x.1 y.1)
alike p n rest (Some fault.Trailing) (Some fault.Trailing) x y = refl
alike p n rest (Some fault.Trailing) (Some fault.Early) x y = absurd (y.0 x.0)
alike p n rest (Some fault.Trailing) (Some (fault.Form j)) x y = absurd (y.0 x.0)
alike p n rest (Some fault.Trailing) (Some (fault.Number j)) x y = absurd (y.0 x.0)
alike p n rest (Some fault.Early) None x y = absurd (x.0 y.0)
alike p n rest (Some fault.Early) (Some fault.Trailing) x y = absurd (x.0 y.0)
alike p n rest (Some fault.Early) (Some fault.Early) x y = refl
alike p n rest (Some fault.Early) (Some (fault.Form j)) x y = absurd (early_not_form p rest x.1 y.2)
alike p n rest (Some fault.Early) (Some (fault.Number j)) x y = absurd (early_no_line (IsNumber p) rest x.1 y.2)
alike p n rest (Some (fault.Form k)) None x y = absurd (x.0 y.0)
alike p n rest (Some (fault.Form k)) (Some fault.Trailing) x y = absurd (x.0 y.0)
alike p n rest (Some (fault.Form k)) (Some fault.Early) x y = absurd (early_not_form p rest y.1 x.2)
alike p n rest (Some (fault.Form k)) (Some (fault.Form j)) x y = ap (λ i. Some (fault.Form i)) (x.1 ∙ sym y.1)
alike p n rest (Some (fault.Form k)) (Some (fault.Number j)) x y = absurd (form_not_number p rest x.2 y.2)
alike p n rest (Some (fault.Number k)) None x y = absurd (x.0 y.0)
alike p n rest (Some (fault.Number k)) (Some fault.Trailing) x y = absurd (x.0 y.0)
alike p n rest (Some (fault.Number k)) (Some fault.Early) x y = absurd (early_no_line (IsNumber p) rest y.1 x.2)
alike p n rest (Some (fault.Number k)) (Some (fault.Form j)) x y = absurd (form_not_number p rest y.2 x.2)
alike p n rest (Some (fault.Number k)) (Some (fault.Number j)) x y = ap (λ i. Some (fault.Number i)) (x.1 ∙ sym y.1)

-- bytes have one fault at most
pub fault_one : (bytes : List ℕ) (f g : Option CertFault) → FaultOf bytes f → FaultOf bytes g → f ≡ g
fault_one bytes f g x y =
    let sound_x = sound_stand x.lines first x.place sound_first x.divides.stand in
    let sound_y = sound_stand y.lines first y.place sound_first y.divides.stand in
    let same = meet x.lines y.lines first x.place y.place x.rest y.rest sound_first x.divides.stand y.divides.stand (sym x.divides.parts ∙ y.divides.parts)
    (faulty_stuck x.place (length x.lines + 1) x.rest f sound_x x.faulty) (faulty_stuck y.place (length y.lines + 1) y.rest g sound_y y.faulty) in
    let there : Faulty x.place (length x.lines + 1) y.rest g = subst (λ (c : Place). Faulty c (length x.lines + 1) y.rest g) (sym same.1)
    (subst (λ (ls : List Line). Faulty y.place (length ls + 1) y.rest g) (sym same.0) y.faulty) in
    let here : Faulty x.place (length x.lines + 1) x.rest g = subst (λ (r : List ℕ). Faulty x.place (length x.lines + 1) r g) (sym same.2) there in
    alike x.place (length x.lines + 1) x.rest f g x.faulty here

-- what ends a line, or is too long for one, is so whatever comes behind
ends_endures : (P : List ℕ → Type 0) (rest more : List ℕ) → EndsLine P rest → EndsLine P (rest ++ more)
ends_endures P rest more e = (e.0, e.1 ++ more, ap (λ r. r ++ more) e.2 ∙ append_assoc e.0 (10 ∷ e.1) more, e.3, e.4)

long_endures : (rest more : List ℕ) → IsLong rest → IsLong (rest ++ more)
long_endures rest more e = (e.0, e.1 ++ more, ap (λ r. r ++ more) e.2 ∙ append_assoc e.0 e.1 more, e.3, e.4)

some_endures : (rest more : List ℕ) → rest ≢ [] → rest ++ more ≢ []
some_endures [] more some = λ e. some refl
some_endures (x ∷ rest) more some = λ e. cc

form_endures : (p : Place) (rest more : List ℕ) → EndsLine (IsForm p) rest ⊎ IsLong rest → EndsLine (IsForm p) (rest ++ more) ⊎ IsLong (rest ++ more)
form_endures p rest more (inl a) = inl (ends_endures (IsForm p) rest more a)
form_endures p rest more (inr a) = inr (long_endures rest more a)

pub fault_endures : (p : Place) (n : ℕ) (rest more : List ℕ) (f : CertFault) → Faulty p n rest (Some f) → f ≢ fault.Early → Faulty p n (rest ++ more) (Some f)
unfolding Faulty
fault_endures p n rest more fault.Trailing h late = (h.0, some_endures rest more h.1)
fault_endures p n rest more fault.Early h late = absurd (late refl)
fault_endures p n rest more (fault.Form k) h late = (h.0, h.1, form_endures p rest more h.2)
fault_endures p n rest more (fault.Number k) h late = (h.0, h.1, ends_endures (IsNumber p) rest more h.2)

pub fault_stays : (bytes more : List ℕ) (f : CertFault) → f ≢ fault.Early → FaultOf bytes (Some f) → FaultOf (bytes ++ more) (Some f)
fault_stays bytes more f late x = record {
  lines = x.lines;
  place = x.place;
  rest = x.rest ++ more;
  divides = record { parts = ap (λ r. r ++ more) x.divides.parts ∙ append_assoc (text_of x.lines) x.rest more; stand = x.divides.stand };
  faulty = fault_endures x.place (length x.lines + 1) x.rest more f x.faulty late;
}
