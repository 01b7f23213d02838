-- What is put behind a line.
use Rattle.std.proofs.Common.{◌≡◌, ℕ, ◌<◌, ◌^◌, ℤ, unsigned_abs, List, [], ◌∷◌, ◌++◌, length, take, drop, arith, sym, ap, subst, ◌∙◌, Result, OnOk}
use Rattle.std.proofs.Math.Seq.{take-append_seam}
use Rattle.std.proofs.lemmas.List.{append_assoc}
use Rattle.std.specs.declared.alloc.AllocError.{AllocError}
use Rattle.d_num.specs.declared.pot.Pot.{Pot}
use Rattle.d_num.specs.declared.pot.Pot.TheVariants.{To, NoWay}
use Rattle.d_certline.specs.Lines.{pot_text, spaced}
use Rattle.d_text.specs.Text.{whole_text, WritesFront}
use Rattle.d_certline.specs.Wholes.{whole}
use Rattle.d_certline.proofs.DigitFacts.{whole_printed}

-- the front of the room is the text that was written there
room_front : (text before room : List ℕ) (end : ℕ) → WritesFront text before end room → take end room ≡ text
room_front text before room end put =
    ap (λ n. take n room) put.ends ∙ (ap (take (length text)) put.writes ∙ take-append_seam text (drop (length text) before))

-- a space and a number
pub number_put : (z y : ℤ) (old pushed new before room : List ℕ) (end : ℕ) → unsigned_abs z < 10 ^ 38 → y ≡ z → pushed ≡ old ++ 32 ∷ []
    → new ≡ pushed ++ take end room → WritesFront (whole_text y) before end room → new ≡ old ++ 32 ∷ whole z
number_put z y old pushed new before room end small same push extend put =
    extend ∙ (ap (λ l. pushed ++ l) (room_front (whole_text y) before room end put ∙ (ap whole_text same ∙ sym (whole_printed z (omega (arith, small)))))
    ∙ (ap (λ l. l ++ whole z) push ∙ append_assoc old (32 ∷ []) (whole z)))

-- a potential that is a number
pub pot_put : (z y : ℤ) (p : Pot) (old new : List ℕ) (r : Result (Unit {0}) AllocError) → p ≡ To z → y ≡ z → OnOk r (new ≡ old ++ 32 ∷ whole y) → OnOk r (new ≡ old ++ spaced p)
unfolding pot_text
pot_put z y p old new r is same put = subst (λ (q : Pot). OnOk r (new ≡ old ++ spaced q)) (sym is) (subst (λ (x : ℤ). OnOk r (new ≡ old ++ 32 ∷ whole x)) same put)

-- a potential that is none
pub none_put : (p : Pot) (old new : List ℕ) → p ≡ NoWay → new ≡ old ++ 32 ∷ 120 ∷ [] → new ≡ old ++ spaced p
unfolding pot_text
none_put p old new is put = put ∙ ap (λ (q : Pot). old ++ spaced q) (sym is)
