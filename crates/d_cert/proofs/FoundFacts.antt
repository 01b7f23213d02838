-- The lines of a gap.
use Rattle.std.proofs.Common.{◌≡◌, ℕ, ℤ, pos, unwrap_or, ap, sym, refl, ◌∙◌, List, [], ◌∷◌, ◌++◌, Result, subst}
use Rattle.std.proofs.lemmas.List.{append_assoc}
use Rattle.d_desk.specs.declared.fault.DeskFault.{DeskFault}
use Rattle.d_desk.specs.Scene.{Scene}
use Rattle.d_desk.specs.Stages.{SavesOnly, SavesFront}
use Rattle.d_certline.specs.Lines.{Line, text_of}
use Rattle.d_certline.specs.Lines as line
use Rattle.d_certline.specs.Certificates.{found_lines, day_lines, least, gap, Found}
use Rattle.d_bill.specs.Inputs.{Inputs}
use Rattle.d_search.specs.declared.outcome.Outcome.{Outcome}
use Rattle.d_search.specs.declared.outcome.Verdict.{Verdict}
use Rattle.d_search.specs.declared.outcome.Verdict.TheVariants.{Infeasible}
use Rattle.d_desk.proofs.StageLaws.{saves_none}
use Rattle.d_cert.specs.Written.{month_days, found_of, found_by}
use Rattle.d_cert.specs.Saved.{SavesText}
use Rattle.d_cert.proofs.ChainFacts.{lines_end, lines_cut}

-- those of a least bill, and the bound
gap_is : (days : List (List ℤ)) (bill bound : ℤ) → found_lines (least days bill) ++ line.lower bound ∷ [] ≡ found_lines (gap days bill bound)
unfolding found_lines
gap_is days bill bound = append_assoc (day_lines 1 days) (line.bill bill ∷ []) (line.lower bound ∷ [])

pub gap_front : (days : List (List ℤ)) (bill bound : ℤ) (x y : Scene) → SavesFront (text_of (found_lines (least days bill))) x y
    → SavesFront (text_of (found_lines (gap days bill bound))) x y
gap_front days bill bound x y saved =
    subst (λ (l : List Line). SavesFront (text_of l) x y) (gap_is days bill bound) (lines_cut (found_lines (least days bill)) (line.lower bound ∷ []) x y saved)

pub gap_end : (days : List (List ℤ)) (bill bound : ℤ) (x y z : Scene) (r : Result (Unit {0}) DeskFault) → SavesOnly (text_of (found_lines (least days bill))) x y
    → SavesText (text_of (line.lower bound ∷ [])) y z r → SavesText (text_of (found_lines (gap days bill bound))) x z r
gap_end days bill bound x y z r one other =
    subst (λ (l : List Line). SavesText (text_of l) x z r) (gap_is days bill bound)
    (lines_end (found_lines (least days bill)) (line.lower bound ∷ []) x y z r one other)

-- the lines of what was found, by what was handed on
found_is : (i : Inputs) (o : Outcome) (v : Verdict) (modes : List ℕ) (bill bound : ℤ) → o.verdict ≡ v → modes ≡ o.schedule → bill ≡ unwrap_or o.bill (pos 0)
    → bound ≡ unwrap_or o.lower (pos 0) → found_by v (month_days i modes) bill bound ≡ found_of i o
unfolding found_of
found_is i o v modes bill bound ended listed billed bounded =
    ap (λ (w : Verdict). found_by w (month_days i modes) bill bound) (sym ended)
    ∙ (ap (λ (l : List ℕ). found_by o.verdict (month_days i l) bill bound) listed
    ∙ (ap (λ (z : ℤ). found_by o.verdict (month_days i o.schedule) z bound) billed
    ∙ ap (λ (z : ℤ). found_by o.verdict (month_days i o.schedule) (unwrap_or o.bill (pos 0)) z) bounded))

pub found_text : (i : Inputs) (o : Outcome) (v : Verdict) (modes : List ℕ) (bill bound : ℤ) (x y : Scene) (r : Result (Unit {0}) DeskFault) → o.verdict ≡ v
    → modes ≡ o.schedule → bill ≡ unwrap_or o.bill (pos 0) → bound ≡ unwrap_or o.lower (pos 0)
    → SavesText (text_of (found_lines (found_by v (month_days i modes) bill bound))) x y r → SavesText (text_of (found_lines (found_of i o))) x y r
found_text i o v modes bill bound x y r ended listed billed bounded saved =
    subst (λ (f : Found). SavesText (text_of (found_lines f)) x y r) (found_is i o v modes bill bound ended listed billed bounded) saved

nothing_is : (i : Inputs) (o : Outcome) → text_of (found_lines (found_by Infeasible (month_days i o.schedule) (unwrap_or o.bill (pos 0)) (unwrap_or o.lower (pos 0)))) ≡ []
unfolding text_of found_lines found_by
nothing_is i o = refl

pub none_text : (i : Inputs) (o : Outcome) (x : Scene) → o.verdict ≡ Infeasible → SavesOnly (text_of (found_lines (found_of i o))) x x
unfolding found_of
none_text i o x ended =
    subst (λ (v : Verdict). SavesOnly (text_of (found_lines (found_by v (month_days i o.schedule) (unwrap_or o.bill (pos 0)) (unwrap_or o.lower (pos 0))))) x x) (sym ended)
    (subst (λ (t : List ℕ). SavesOnly t x x) (sym (nothing_is i o)) (saves_none x))
