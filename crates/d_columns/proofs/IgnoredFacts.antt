-- Columns that nothing is read from.
use Rattle.std.proofs.Common.{◌≡◌, ◌∙◌, ◌<◌, ◌≤◌, ◌+◌, ◌||◌, ℕ, zero, suc, Bool, true, false, List, [], length, take, map, get_or, Option, None, Some, Bor, arith, refl, sym, ap, inl, inr}
use Rattle.std.proofs.lemmas.Bool.{cases_Bool, cases_eq}
use Rattle.std.proofs.lemmas.Bool.Decides.{nat_tests}
use Rattle.std.proofs.lemmas.List.{get_or-map, length-map, take_all}
use Rattle.std.proofs.lemmas.List.Folds.{list_any_at, list_any_more}
use Rattle.std.specs.List.{list_any, range_with_len}
use Rattle.d_columns.specs.Ignored.{is_column}

-- the texts that are referred to
abbrev pub texts : List (Bor (List ℕ)) → List (List ℕ)
texts names = map (λ (name : Bor (List ℕ)). name.now) names

-- one of them
abbrev pub text_of : List (Bor (List ℕ)) → ℕ → List ℕ
text_of names k = (get_or names k (record { ref_ptr = (0, 0); now = [] })).now

text_is : (names : List (Bor (List ℕ))) (k : ℕ) → k < length names → get_or (texts names) k [] ≡ text_of names k
text_is names k within = get_or-map (λ (name : Bor (List ℕ)). name.now) names k (record { ref_ptr = (0, 0); now = [] }) [] within

-- a text that passes
pub text_passes : (test : List ℕ → Bool) (names : List (Bor (List ℕ))) (k : ℕ) → k < length names → test (text_of names k) ≡ true → true ≡ list_any test (texts names)
text_passes test names k within passes =
    sym (list_any_at test (texts names) k [] (omega (arith, length-map names (λ (name : Bor (List ℕ)). name.now))) (ap test (text_is names k within) ∙ passes))

-- one more text that doesn't pass
pub text_fails : (test : List ℕ → Bool) (names : List (Bor (List ℕ))) (k : ℕ) → k < length names → test (text_of names k) ≡ false
    → list_any test (take k (texts names)) ≡ false → list_any test (take (k + 1) (texts names)) ≡ false
text_fails test names k within fails before =
    list_any_more test (texts names) k [] (omega (arith, length-map names (λ (name : Bor (List ℕ)). name.now)))
    ∙ ap (λ b. b || test (get_or (texts names) k [])) before
    ∙ ap test (text_is names k within) ∙ fails

-- no text passes
pub no_text_passes : (test : List ℕ → Bool) (names : List (Bor (List ℕ))) (k : ℕ) → length names ≤ k → list_any test (take k (texts names)) ≡ false
    → false ≡ list_any test (texts names)
no_text_passes test names k all fail =
    sym fail ∙ ap (λ xs. list_any test xs) (take_all k (texts names) (omega (arith, length-map names (λ (name : Bor (List ℕ)). name.now))))

-- a number that passes
pub number_passes : (test : ℕ → Bool) (from count at : ℕ) → from ≤ at → at < from + count → test at ≡ true → list_any test (range_with_len from count) ≡ true
number_passes test from zero at low high passes = absurd (omega (arith, low, high))
number_passes test from (suc count) at low high passes = elim (cases_Bool (test from)) [
  | inl here ↦ rw here refl
  | inr other ↦
      let later : from + 1 ≤ at = elim (cases_eq from at) [
        | inl same ↦ let here : test from ≡ true = ap test same ∙ passes in absurd cc
        | inr differs ↦ omega (arith, low, differs)
      ] in
      rw other (number_passes test (from + 1) count at later (omega (arith, high)) passes)
]

-- no number passes
pub no_number_passes : (test : ℕ → Bool) (from count : ℕ) → ((k : ℕ) → from ≤ k → k < from + count → test k ≡ false) → list_any test (range_with_len from count) ≡ false
no_number_passes test from zero none = refl
no_number_passes test from (suc count) none =
    let fails : test from ≡ false = none from (omega arith) (omega arith) in
    rw fails (no_number_passes test (from + 1) count (λ k l h. none k (omega (arith, l)) (omega (arith, h))))

-- none passes up to one more
pub none_further : (test : ℕ → Bool) (next : ℕ) → ((k : ℕ) → k < next → test k ≡ false) → test next ≡ false → (k : ℕ) → k < next + 1 → test k ≡ false
none_further test next before here k below = elim (cases_eq k next) [ inl is ↦ rw is here | inr other ↦ before k (omega (arith, below, other)) ]

-- a place is this column exactly where it is found there
pub column_is : (column : ℕ) (place : Option ℕ) → is_column column place ≡ true → place ≡ Some column
column_is column None is = cc
column_is column (Some place) is = let same : place ≡ column = grind (arith, nat_tests) in ap (λ (c : ℕ). Some c) same

-- the first of several tests that holds decides
pub first_holds : (a rest : Bool) → a ≡ true → true ≡ (a || rest)
first_holds a rest holds = rw holds refl

pub second_holds : (a b rest result : Bool) → a ≡ false → result ≡ b → result ≡ true → result ≡ (a || (b || rest))
second_holds a b rest result fails is holds = let here : b ≡ true = sym is ∙ holds in rw (fails, here) holds

pub third_decides : (a b c result : Bool) → a ≡ false → b ≡ false → result ≡ c → result ≡ (a || (b || c))
third_decides a b c result first second is = rw (first, second) is

pub last_decides : (a b c result : Bool) → a ≡ false → b ≡ false → result ≡ c → result ≡ (a || (b || (c || false)))
last_decides a b c result first second is = third_decides a b (c || false) result first second (is ∙ alone c)
  where
    alone : (c : Bool) → c ≡ (c || false)
    alone true = refl
    alone false = refl
