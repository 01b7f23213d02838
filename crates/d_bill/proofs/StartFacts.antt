-- A cell that is read as a start, and the start that it has to be.
use Rattle.std.proofs.Common.{◌≡◌, ◌∙◌, ◌↔◌, ℕ, ℤ, Bool, true, false, ◌&&◌, ◌==◌, List, IsTrue, Decides, refl, sym, ap, subst}
use Rattle.std.specs.Ordering.{int_eq}
use Rattle.std.proofs.lemmas.Bool.Decides.{Decides-and, Decides-eqb, Decides-int_eq}
use Rattle.d_cal.specs.declared.start.Start.{Start}
use Rattle.d_cal.specs.Starts.{IsStart}
use Rattle.d_cal.proofs.StartLaws.{start_once}

-- two starts are compared number by number
abbrev AreSame : Start → Start → Bool
AreSame a b = int_eq a.year b.year && ((a.month == b.month) && ((a.day == b.day) && (a.minute == b.minute)))

same_numbers : (a b : Start) → Decides (AreSame a b) ((a.year ≡ b.year) × ((a.month ≡ b.month) × ((a.day ≡ b.day) × (a.minute ≡ b.minute))))
same_numbers a b = Decides-and _ _ (Decides-int_eq a.year b.year) (Decides-and _ _ (Decides-eqb a.month b.month) (Decides-and _ _ (Decides-eqb a.day b.day) (Decides-eqb a.minute b.minute)))

same_start : (a b : Start) → a.year ≡ b.year → a.month ≡ b.month → a.day ≡ b.day → a.minute ≡ b.minute → a ≡ b
same_start a b year month day minute = made a.year b.year a.month b.month a.day b.day a.minute b.minute year month day minute
  where
    start : ℤ → ℕ → ℕ → ℕ → Start
    start y m d t = record { year = y; month = m; day = d; minute = t }

    made : (y y' : ℤ) (m m' d d' t t' : ℕ) → y ≡ y' → m ≡ m' → d ≡ d' → t ≡ t' → start y m d t ≡ start y' m' d' t'
    made y y' m m' d d' t t' e1 e2 e3 e4 = rw (e1, e2, e3, e4) refl

-- a cell that is a start is the one that it has to be exactly where both are the same
pub is_due : (read cell : List ℕ) (start of due : Start) (answer : Bool) → read ≡ cell → of ≡ due → IsStart read start → answer ≡ AreSame start of
    → IsTrue answer ↔ IsStart cell due
is_due read cell start of due answer same_cell same_due is compared = (yes, no)
  where
    yes : IsTrue answer → IsStart cell due
    yes true_is =
        let numbers = (same_numbers start of).0 (sym compared ∙ true_is) in
        let same : start ≡ due = same_start start of numbers.0 numbers.1.0 numbers.1.1.0 numbers.1.1.1 ∙ same_due in
        let P : List ℕ → Type 0 = λ c. IsStart c start in
        subst (IsStart cell) same (subst P same_cell is)

    no : IsStart cell due → IsTrue answer
    no other =
        let P : List ℕ → Type 0 = λ c. IsStart c due in
        let same : start ≡ of = start_once read start due is (subst P (sym same_cell) other) ∙ sym same_due in
        compared ∙ (same_numbers start of).1 (ap (λ (s : Start). s.year) same, (ap (λ (s : Start). s.month) same, (ap (λ (s : Start). s.day) same, ap (λ (s : Start). s.minute) same)))

-- and a cell that is no start is none
pub is_no_start : (read cell : List ℕ) (due : Start) → read ≡ cell → ((start : Start) → IsStart read start → ⊥) → IsTrue false ↔ IsStart cell due
is_no_start read cell due same none =
    (λ (e : false ≡ true). cc, λ is. let P : List ℕ → Type 0 = λ c. IsStart c due in absurd (none due (subst P (sym same) is)))
