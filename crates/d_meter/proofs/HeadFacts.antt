-- What is refused before the rows are gone through.
use Rattle.std.proofs.Common.{◌≡◌, ◌≢◌, ◌∙◌, ℕ, ◌==◌, ◌<◌, ◌≤◌, nat_lt, Bool, true, false, not, List, [], ◌∷◌, None, Some, refl, sym, ap, arith, codes, map, IsTrue, ◌↔◌}
use Rattle.std.proofs.lemmas.Bool.Decides.{nat_tests}
use Rattle.d_cal.specs.declared.start.Start.{Start}
use Rattle.std.proofs.lemmas.Slice.Eq.{slice_eq-Decides, bytes_eq-Decides}
use Rattle.std.specs.Bool.{Decides}
use Rattle.std.specs.Str.{str_to_ascii_lowercase}
use Rattle.d_list.specs.Firsts.{first_of}
use Rattle.d_table.specs.Table.{row_at, IsHeader}
use Rattle.d_meter.specs.declared.fault.MeterFault.TheVariants as fault
use Rattle.d_meter.specs.Readings.{MeterReader, is_header, row_count, start_at, begins_month, is_step, interval_count, month_refusals, head_refusals}
use Rattle.d_meter.proofs.Tests.{comes, goes_on}

-- numbers that differ
pub differs : (a b : ℕ) → a ≢ b → (a == b) ≡ false
differs a b other = grind (arith, nat_tests)

pub equal : (a b : ℕ) → a ≡ b → (a == b) ≡ true
equal a b same = grind (arith, nat_tests)

pub below : (a b : ℕ) → a < b → nat_lt a b ≡ true
below a b less = grind (arith, nat_tests)

pub not_below : (a b : ℕ) → b ≤ a → nat_lt a b ≡ false
not_below a b more = grind (arith, nat_tests)

-- the month of two starts
pub not_begun : (first second : Start) (count : ℕ) → begins_month first ≡ false → first_of (month_refusals first second count) ≡ Some (fault.Order 0)
not_begun first second count other = comes _ _ _ (ap not other)

pub no_step : (first second : Start) (count : ℕ) → begins_month first ≡ true → is_step first second ≡ false
    → first_of (month_refusals first second count) ≡ Some fault.Step
no_step first second count begun other = goes_on _ _ _ (ap not begun) ∙ comes _ _ _ (ap not other)

pub other_count : (first second : Start) (count need : ℕ) → begins_month first ≡ true → is_step first second ≡ true
    → need ≡ interval_count first.year first.month second.minute → count ≢ need → first_of (month_refusals first second count) ≡ Some (fault.Count count need)
other_count first second count need begun step is other =
    goes_on _ _ _ (ap not begun) ∙ (goes_on _ _ _ (ap not step) ∙ (comes _ _ _ (ap not (ap (λ n. count == n) (sym is) ∙ differs count need other)) ∙ ap (λ n. Some (fault.Count count n)) (sym is)))

pub right_count : (first second : Start) (count need : ℕ) → begins_month first ≡ true → is_step first second ≡ true
    → need ≡ interval_count first.year first.month second.minute → count ≡ need → first_of (month_refusals first second count) ≡ None
unfolding first_of
right_count first second count need begun step is same =
    goes_on _ _ _ (ap not begun) ∙ (goes_on _ _ _ (ap not step) ∙ goes_on _ _ _ (ap not (equal count (interval_count first.year first.month second.minute) (same ∙ is))))

-- and what comes before it
module _ (reader : MeterReader) (rows : List (List (List ℕ))) where
  pub other_header : is_header (row_at rows 0) ≡ false → first_of (head_refusals reader rows) ≡ Some fault.Shape
  other_header other = comes _ _ _ (ap not other)

  pub few_rows : (count : ℕ) → is_header (row_at rows 0) ≡ true → count ≡ row_count rows → count < 2
      → first_of (head_refusals reader rows) ≡ Some (fault.Count count 2)
  few_rows count header is few =
      goes_on _ _ _ (ap not header) ∙ (comes _ _ _ (ap (λ n. nat_lt n 2) (sym is) ∙ below count 2 few) ∙ ap (λ n. Some (fault.Count n 2)) (sym is))

  module _ (count : ℕ) (header : is_header (row_at rows 0) ≡ true) (is : count ≡ row_count rows) (many : 2 ≤ count) where
    two : nat_lt (row_count rows) 2 ≡ false
    two = ap (λ n. nat_lt n 2) (sym is) ∙ not_below count 2 many

    pub no_first : start_at reader rows 0 ≡ None → first_of (head_refusals reader rows) ≡ Some (fault.Start 0)
    unfolding first_of
    no_first none = rw (header, two, none) refl

    pub no_second : (first : Start) → start_at reader rows 0 ≡ Some first → start_at reader rows 1 ≡ None
        → first_of (head_refusals reader rows) ≡ Some (fault.Start 1)
    unfolding first_of
    no_second first one none = rw (header, two, one, none) refl

    pub both_starts : (first second : Start) → start_at reader rows 0 ≡ Some first → start_at reader rows 1 ≡ Some second
        → first_of (head_refusals reader rows) ≡ first_of (month_refusals first second count)
    unfolding first_of
    both_starts first second one other = rw (header, two, one, other, is) refl

-- what a test of the header has told
pub named : (header : List (List ℕ)) (answer : Bool) → IsTrue answer ↔ IsHeader (codes "start" ∷ codes "net_wh" ∷ []) header → answer ≡ is_header header
named header answer tells = by_both answer (is_header header) tells decides
  where
    decides : Decides (is_header header) (map str_to_ascii_lowercase header ≡ codes "start" ∷ codes "net_wh" ∷ [])
    decides = slice_eq-Decides bytes_eq-Decides (map str_to_ascii_lowercase header) (codes "start" ∷ codes "net_wh" ∷ []) (is_header header) refl

    by_both : (a b : Bool) → IsTrue a ↔ IsHeader (codes "start" ∷ codes "net_wh" ∷ []) header
        → Decides b (map str_to_ascii_lowercase header ≡ codes "start" ∷ codes "net_wh" ∷ []) → a ≡ b
    by_both true true tells told = refl
    by_both false false tells told = refl
    by_both true false tells told = sym (told.1 (tells.0 refl))
    by_both false true tells told = absurd (let e : false ≡ true = tells.1 (told.0 refl) in cc)
