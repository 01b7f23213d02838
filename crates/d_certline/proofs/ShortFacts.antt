-- A line that stands has no line feed in it and is short.
use Rattle.std.proofs.Common.{◌≡◌, ◌≤◌, ◌*◌, ℕ, List, [], ◌∷◌, ◌++◌, length, arith, sym, ap, subst}
use Rattle.std.specs.List.{flat_map, AllByRecursion}
use Rattle.std.proofs.lemmas.List.{length-append}
use Rattle.d_num.specs.declared.pot.Pot.{Pot}
use Rattle.d_num.specs.declared.pot.Pot.TheVariants.{To, NoWay}
use Rattle.d_certline.specs.declared.place.Place.{Place}
use Rattle.d_certline.specs.Lines.{Line, line_text, word, parts, spaced, pot_text}
use Rattle.d_certline.specs.Places.{stands, after, Stand, first}
use Rattle.d_certline.specs.Faults.{HasNoLf, IsShort}
use Rattle.d_certline.proofs.DigitFacts.{AreClean, whole_clean, whole_le}
use Rattle.d_certline.proofs.LineFacts.{text_is}
use Rattle.d_certline.proofs.SoundFacts.{IsSound, IsSmall, IsNear, near_after, sound_stand, sound_first}

-- no byte of a number or of the words of lines is a line feed
pub lf_append : (a b : List ℕ) → HasNoLf a → HasNoLf b → HasNoLf (a ++ b)
lf_append [] b x y = y
lf_append (byte ∷ a) b x y = (x.0, lf_append a b x.1 y)

plain_lf : (bytes : List ℕ) → AllByRecursion (λ byte. 32 ≤ byte) bytes → HasNoLf bytes
plain_lf [] all = tt
plain_lf (byte ∷ bytes) all = ((λ (e : byte ≡ 10). let least = all.0 in omega arith), plain_lf bytes all.1)

clean_lf : (bytes : List ℕ) → AreClean bytes → HasNoLf bytes
clean_lf [] all = tt
clean_lf (byte ∷ bytes) all = ((λ (e : byte ≡ 10). let least = all.0 in omega arith), clean_lf bytes all.1)

pub pot_clean : (p : Pot) → AreClean (pot_text p)
unfolding pot_text
pot_clean NoWay = (omega arith, tt)
pot_clean (To z) = whole_clean z

pub parts_lf : (ps : List Pot) → HasNoLf (flat_map spaced ps)
parts_lf [] = tt
parts_lf (p ∷ ps) =
    let one : HasNoLf (spaced p) = ((λ (e : 32 ≡ 10). omega arith), clean_lf (pot_text p) (pot_clean p)) in
    lf_append (spaced p) (flat_map spaced ps) one (parts_lf ps)

-- a small number has at most 38 bytes
pot_short : (p : Pot) → IsSmall p → length (pot_text p) ≤ 38
unfolding pot_text
pot_short NoWay small = omega arith
pot_short (To z) small = whole_le 37 z (omega arith) small

parts_short : (ps : List Pot) → AllByRecursion IsSmall ps → length (flat_map spaced ps) ≤ length ps * 39
parts_short [] small = omega arith
parts_short (p ∷ ps) small =
    let one = pot_short p small.0 in
    let rest = parts_short ps small.1 in
    omega (arith, length-append (spaced p) (flat_map spaced ps))

near_short : (l : Line) → IsNear l → IsShort (line_text l)
near_short l near =
    let tail = parts_short (parts l) near.small in
    let long = length-append (word l) (flat_map spaced (parts l)) in
    let text = text_is l in
    let few = near.few in
    let brief = near.brief in
    (subst HasNoLf (sym text) (lf_append (word l) (flat_map spaced (parts l)) (plain_lf (word l) near.plain) (parts_lf (parts l))), omega (arith, ap length text))

-- a line that stands behind others that stand
pub line_short : (ls : List Line) (p q : Place) (l : Line) → Stand first ls p → after p l ≡ stands q → IsShort (line_text l)
line_short ls p q l s e = near_short l (near_after p q l (sound_stand ls first p sound_first s) e)

pub sound_short : (p q : Place) (l : Line) → IsSound p → after p l ≡ stands q → IsShort (line_text l)
sound_short p q l sound e = near_short l (near_after p q l sound e)
