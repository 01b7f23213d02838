-- Where no decimal goes on.
use Rattle.std.proofs.Common.{◌≡◌, ℕ, suc, ◌+◌, ◌≤◌, ◌<◌, ◌⊎◌, true, false, Option, None, Some, List, [], ◌∷◌, ◌++◌, length, take, drop, get_or, arith, sym, ap, ap₂, ◌∙◌, append_assoc, inl, inr}
use Rattle.std.proofs.Math.Seq.{drop-cons}
use Rattle.std.proofs.lemmas.List.{take-append-drop, take-take, get_or-take, length-take-le, take_all, take_more}
use Rattle.d_text.specs.Decimal.{Written, IsDecimalText, BeginsDecimal, IsFormFault}
use Rattle.d_text.specs.Scan.{kind_of, after_kind, is_done, Holds}
use Rattle.d_text.specs.declared.scan.Phase.{Phase}
use Rattle.d_text.specs.declared.scan.Phase.TheVariants.{Start}
use Rattle.d_text.specs.declared.scan.Scan.{Scan}
use Rattle.d_text.proofs.PhaseFacts.{and_on, run, run-append, run-then, decimal-ends, read-begins}

-- one byte on
pub run-more : (cell : List ℕ) (i : ℕ) (q r : Phase) → i < length cell → run (take i cell) Start ≡ Some q → Some r ≡ after_kind (kind_of (get_or cell i 0)) q → run (take (i + 1) cell) Start ≡ Some r
run-more cell i q r lt e f =
    let byte : run (get_or cell i 0 ∷ []) q ≡ Some r = ap (λ (o : Option Phase). and_on o (run [])) (sym f) in
    ap (λ (t : List ℕ). run t Start) (take_more cell i 0 lt) ∙ run-then (take i cell) (get_or cell i 0 ∷ []) Start q r e byte

-- a front and what stands behind it
split : (xs : List ℕ) (i : ℕ) → i < length xs → xs ≡ take i xs ++ (get_or xs i 0 ∷ drop (suc i) xs)
split xs i lt = sym (take-append-drop i xs) ∙ ap (λ (t : List ℕ). take i xs ++ t) (drop-cons xs i 0 lt)

-- a text that goes on where none does leads nowhere
nowhere : (a rest : List ℕ) (byte : ℕ) (q : Phase) → run a Start ≡ Some q → None ≡ after_kind (kind_of byte) q → run (a ++ (byte ∷ rest)) Start ≡ None
nowhere a rest byte q e f = run-append a (byte ∷ rest) Start ∙ ap (λ (o : Option Phase). and_on o (run (byte ∷ rest))) e ∙ ap (λ (o : Option Phase). and_on o (run rest)) (sym f)

no_decimal : (text : List ℕ) (w : Written) → run text Start ≡ None → IsDecimalText text w → ⊥
no_decimal text w e h = let d = decimal-ends text w h in let bad : Some d.0 ≡ None = sym d.1 ∙ e in cc

longer : (cell : List ℕ) (i k : ℕ) (q : Phase) → i < k → k ≤ length cell → run (take i cell) Start ≡ Some q → None ≡ after_kind (kind_of (get_or cell i 0)) q → BeginsDecimal (take k cell) → ⊥
longer cell i k q lt le e f b =
    let long : length (take k cell) ≡ k = length-take-le k cell le in
    let parts : take k cell ≡ take i cell ++ (get_or cell i 0 ∷ drop (suc i) (take k cell)) =
    split (take k cell) i (omega arith) ∙ ap₂ (λ (t : List ℕ) (c : ℕ). t ++ (c ∷ drop (suc i) (take k cell))) (take-take i k cell (omega arith)) (get_or-take k cell i 0 lt) in
    let whole : take k cell ++ b.0 ≡ take i cell ++ (get_or cell i 0 ∷ (drop (suc i) (take k cell) ++ b.0)) =
    ap (λ (t : List ℕ). t ++ b.0) parts ∙ append_assoc (take i cell) (get_or cell i 0 ∷ drop (suc i) (take k cell)) b.0 in
    no_decimal (take k cell ++ b.0) b.1 (ap (λ (t : List ℕ). run t Start) whole ∙ nowhere (take i cell) (drop (suc i) (take k cell) ++ b.0) (get_or cell i 0) q e f) b.2

order : (a b : ℕ) → (a ≤ b) ⊎ (b < a)
order a b = grind arith

begins : (text : List ℕ) (s : Scan) → Holds text s → BeginsDecimal text
begins text s h = read-begins s.phase text s.minus h.digits s.behind s.down h.power h.read

-- the place where no decimal goes on, behind a front with which some decimal begins
pub stuck-at : (cell : List ℕ) (i : ℕ) (q : Phase) → i < length cell → run (take i cell) Start ≡ Some q → BeginsDecimal (take i cell) → None ≡ after_kind (kind_of (get_or cell i 0)) q → IsFormFault cell i
stuck-at cell i q lt e front f = record {
  some = omega arith;
  other = λ w d. no_decimal cell w (ap (λ (t : List ℕ). run t Start) (split cell i lt) ∙ nowhere (take i cell) (drop (suc i) cell) (get_or cell i 0) q e f) d;
  within = omega arith;
  begins = front;
  longest = λ k le b. elim (order k i) [ inl small ↦ small | inr large ↦ absurd (longer cell i k q large le e f b) ];
}

pub stuck-fault : (cell : List ℕ) (i : ℕ) (s : Scan) → i < length cell → run (take i cell) Start ≡ Some s.phase → Holds (take i cell) s → None ≡ after_kind (kind_of (get_or cell i 0)) s.phase → IsFormFault cell i
stuck-fault cell i s lt e h f = stuck-at cell i s.phase lt e (begins (take i cell) s h) f

-- or a cell that stops too soon
pub end-fault : (cell : List ℕ) (s : Scan) → 0 < length cell → run cell Start ≡ Some s.phase → Holds cell s → is_done s.phase ≡ false → IsFormFault cell (length cell)
end-fault cell s some e h f = record {
  some = some;
  other = λ w d. let r = decimal-ends cell w d in (let same : Some s.phase ≡ Some r.0 = sym e ∙ r.1 in let phase : s.phase ≡ r.0 = cc in let bad : false ≡ true = sym f ∙ ap is_done phase ∙ r.2 in cc);
  within = omega arith;
  begins = rw (take_all (length cell) cell (omega arith)) (begins cell s h);
  longest = λ k le b. le;
}
