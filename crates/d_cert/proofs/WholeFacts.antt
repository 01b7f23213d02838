-- The whole certificate in the parts in which it is saved.
use Rattle.std.proofs.Common.{◌≡◌, ℕ, ℤ, pos, List, [], ◌∷◌, ◌++◌, Result, sym, refl, ap, subst, ◌∙◌}
use Rattle.std.proofs.lemmas.List.{append_assoc}
use Rattle.d_desk.specs.declared.fault.DeskFault.{DeskFault}
use Rattle.d_desk.specs.Scene.{Scene}
use Rattle.d_desk.specs.Stages.{SavesFront}
use Rattle.d_bill.specs.Inputs.{Inputs}
use Rattle.d_search.specs.declared.outcome.Outcome.{Outcome}
use Rattle.d_search.specs.declared.outcome.Verdict.{Verdict}
use Rattle.d_search.specs.declared.outcome.Verdict.TheVariants.{Least, GapBudget, GapDuality, Infeasible}
use Rattle.d_certline.specs.Lines.{Line, text_of}
use Rattle.d_certline.specs.Lines as line
use Rattle.d_certline.specs.Certificates.{Certificate, Tree, kind_of, head_lines, found_lines, tree_lines, certificate_lines, certificate_text}
use Rattle.d_cert.specs.Saved.{SavesText}
use Rattle.d_cert.specs.Written.{found_by, found_of, month_days, certificate_with, IsCertificateOf}
use Rattle.d_cert.specs.Heads.{month_lines, size_lines, verdict_line}

-- the claim doesn't depend on the schedule and the amounts
claim_is : (v : Verdict) (days : List (List ℤ)) (bill bound : ℤ) → kind_of (found_by v [] (pos 0) (pos 0)) ≡ kind_of (found_by v days bill bound)
unfolding kind_of found_by
claim_is Least days bill bound = refl
claim_is GapBudget days bill bound = refl
claim_is GapDuality days bill bound = refl
claim_is Infeasible days bill bound = refl

pub parts_are : (i : Inputs) (label : List ℕ) (o : Outcome) (tree : Tree)
    → month_lines i label ++ (size_lines i ++ (verdict_line o.verdict ++ (found_lines (found_of i o) ++ (tree_lines tree ++ line.finish ∷ [])))) ≡ certificate_lines (certificate_with i label o tree)
unfolding certificate_lines head_lines certificate_with found_of
parts_are i label o tree =
    ap (λ k. month_lines i label ++ (size_lines i ++ (line.verdict k ∷ (found_lines (found_of i o) ++ (tree_lines tree ++ line.finish ∷ [])))))
    (claim_is o.verdict (month_days i o.schedule) _ _)

whole_is : (i : Inputs) (label : List ℕ) (o : Outcome) (c : Certificate) → IsCertificateOf i label o c
    → text_of (month_lines i label ++ (size_lines i ++ (verdict_line o.verdict ++ (found_lines (found_of i o) ++ (tree_lines c.tree ++ line.finish ∷ []))))) ≡ certificate_text c
unfolding certificate_text
whole_is i label o c is = ap text_of (parts_are i label o c.tree ∙ ap certificate_lines (sym is.same))

pub front_whole : (i : Inputs) (label : List ℕ) (o : Outcome) (c : Certificate) (x y : Scene) → IsCertificateOf i label o c
    → SavesFront (text_of (month_lines i label ++ (size_lines i ++ (verdict_line o.verdict ++ (found_lines (found_of i o) ++ (tree_lines c.tree ++ line.finish ∷ [])))))) x y
    → SavesFront (certificate_text c) x y
front_whole i label o c x y is saved = subst (λ (t : List ℕ). SavesFront t x y) (whole_is i label o c is) saved

pub end_whole : (i : Inputs) (label : List ℕ) (o : Outcome) (c : Certificate) (x y : Scene) (r : Result (Unit {0}) DeskFault) → IsCertificateOf i label o c
    → SavesText (text_of (month_lines i label ++ (size_lines i ++ (verdict_line o.verdict ++ (found_lines (found_of i o) ++ (tree_lines c.tree ++ line.finish ∷ [])))))) x y r
    → SavesText (certificate_text c) x y r
end_whole i label o c x y r is saved = subst (λ (t : List ℕ). SavesText t x y r) (whole_is i label o c is) saved

-- five parts, one behind the other, are those parts taken together
pub five : (a b c d e : List Line) → (((a ++ b) ++ c) ++ d) ++ e ≡ a ++ (b ++ (c ++ (d ++ e)))
five a b c d e = append_assoc ((a ++ b) ++ c) d e ∙ (append_assoc (a ++ b) c (d ++ e) ∙ append_assoc a b (c ++ (d ++ e)))

pub six : (a b c d e f : List Line) → ((((a ++ b) ++ c) ++ d) ++ e) ++ f ≡ a ++ (b ++ (c ++ (d ++ (e ++ f))))
six a b c d e f = append_assoc (((a ++ b) ++ c) ++ d) e f ∙ five a b c d (e ++ f)

pub four : (a b c d : List Line) → ((a ++ b) ++ c) ++ d ≡ a ++ (b ++ (c ++ d))
four a b c d = append_assoc (a ++ b) c d ∙ append_assoc a b (c ++ d)

pub three : (a b c : List Line) → (a ++ b) ++ c ≡ a ++ (b ++ c)
three = append_assoc

pub front_as : (a b : List Line) (x y : Scene) → a ≡ b → SavesFront (text_of a) x y → SavesFront (text_of b) x y
front_as a b x y same saved = subst (λ (l : List Line). SavesFront (text_of l) x y) same saved

pub text_as : (a b : List Line) (x y : Scene) (r : Result (Unit {0}) DeskFault) → a ≡ b → SavesText (text_of a) x y r → SavesText (text_of b) x y r
text_as a b x y r same saved = subst (λ (l : List Line). SavesText (text_of l) x y r) same saved
