-- The lines of a plan's schedule.
use Rattle.std.proofs.Common.{◌≡◌, ℕ, ℤ, ◌+◌, List, [], ◌∷◌, ◌++◌, Some, refl, sym, ap, ◌∙◌, codes, append_assoc, add-one, slice_get, slice_index}
use Rattle.std.proofs.lemmas.List.{append-nil}
use Rattle.std.specs.Fmt.{signed_decimal}
use Rattle.d_batt.specs.declared.mode.Mode.{Mode}
use Rattle.d_bill.specs.Inputs.{Inputs}
use Rattle.d_bill.specs.Flows.{flow_of}
use Rattle.d_bill.specs.Schedules.{level_at}
use Rattle.d_report.specs.Lines.{line, texts_of, start_text}
use Rattle.d_report.specs.Plans.{level_line, schedule_line}

-- the parts of an interval's line
pub level_line_is : (i : Inputs) (t : ℕ) (mode : Mode) (level : ℤ) (old t1 t2 t3 t4 start name numbers : List ℕ) → start ≡ start_text i t → name ≡ mode.name
    → numbers ≡ signed_decimal level ++ 32 ∷ signed_decimal (flow_of i t mode) → t1 ≡ old ++ start → t2 ≡ t1 ++ 32 ∷ [] → t3 ≡ t2 ++ name → t4 ≡ t3 ++ line (codes " " ++ numbers)
    → t4 ≡ old ++ level_line i t mode level
level_line_is i t mode level old t1 t2 t3 t4 start name numbers start_is name_is numbers_is h1 h2 h3 h4 =
    parts (start_text i t) mode.name (signed_decimal level ++ 32 ∷ signed_decimal (flow_of i t mode)) (h1 ∙ ap (λ (x : List ℕ). old ++ x) start_is) (h3 ∙ ap (λ (x : List ℕ). t2 ++ x) name_is)
    (h4 ∙ ap (λ (x : List ℕ). t3 ++ line (codes " " ++ x)) numbers_is)
  where
    parts : (start name numbers : List ℕ) → t1 ≡ old ++ start → t3 ≡ t2 ++ name → t4 ≡ t3 ++ line (codes " " ++ numbers) → t4 ≡ old ++ line (start ++ 32 ∷ (name ++ 32 ∷ numbers))
    parts start name numbers h1 h3 h4 = rw (h4, h3, h2, h1) (simp append_assoc)

-- the line of an interval whose mode is there
pub line_there : (i : Inputs) (s : List ℕ) (t : ℕ) (mode : Mode) → slice_get i.storage.modes (slice_index s t) ≡ Some mode → schedule_line i s t ≡ level_line i t mode (level_at i s (t + 1))
line_there i s t mode there = rw there refl

-- one text more
pub texts_more : (n : ℕ) (text : ℕ → List ℕ) → texts_of (n + 1) text ≡ texts_of n text ++ text n
unfolding texts_of
texts_more n text = rw add-one refl

-- no text
pub texts_none : (text : ℕ → List ℕ) → texts_of 0 text ≡ []
unfolding texts_of
texts_none text = refl

-- nothing is added yet
pub texts_begin : (old : List ℕ) (text : ℕ → List ℕ) → old ≡ old ++ texts_of 0 text
texts_begin old text = sym (ap (λ (list : List ℕ). old ++ list) (texts_none text) ∙ append-nil old)

-- one text more is added
pub texts_go_on : (old before now : List ℕ) (n : ℕ) (text : ℕ → List ℕ) → before ≡ old ++ texts_of n text → now ≡ before ++ text n → now ≡ old ++ texts_of (n + 1) text
texts_go_on old before now n text so_far put =
    put ∙ ap (λ (list : List ℕ). list ++ text n) so_far ∙ append_assoc old (texts_of n text) (text n) ∙ ap (λ (list : List ℕ). old ++ list) (sym (texts_more n text))
