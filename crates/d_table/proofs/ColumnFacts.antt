-- The first columns of a header's names, one name after the other.
use Rattle.std.proofs.Common.{◌≡◌, ◌∙◌, ℕ, suc, ◌+◌, ◌<◌, Bool, true, false, cond, List, [], ◌∷◌, ◌++◌, length, take, Option, None, Some, IfSome, bytes_eq, position, arith, refl, sym, ap, add-one, is_some, Vec, Global, inl, inr, length-take, nat_lt}
use Rattle.std.proofs.lemmas.Bool.{cases_Bool}
use Rattle.std.proofs.lemmas.Bool.Decides.{nat_tests}
use Rattle.std.proofs.lemmas.Slice.Eq.{bytes_eq-Decides}
use Rattle.std.proofs.lemmas.Iterator.Adapters.{position_from-zero}
use Rattle.std.proofs.Math.Seq.{take-suc}
use Rattle.std.specs.List.{position_from, position_or_len}
use Rattle.std.specs.Option.{option_or}
use Rattle.std.specs.Map.{lookup}
use Rattle.std.specs.Str.{str_to_ascii_lowercase}
use Rattle.d_table.specs.Table.{column_of, cell_in}

-- the value of the first pair whose key passes, with one more pair
lookup-push : {K V : Type 0} (test : K → Bool) (pairs : List (K × V)) (key : K) (value : V)
    → lookup test (pairs ++ (key, value) ∷ []) ≡ option_or (lookup test pairs) (cond (test key) (Some value) None)
lookup-push test [] key value = refl
lookup-push test (pair ∷ pairs) key value = elim (cases_Bool (test pair.0)) [
  | inl hit ↦ rw hit refl
  | inr other ↦ rw other (lookup-push test pairs key value)
]

-- the place of the first that passes, with one more
position_from-push : (test : List ℕ → Bool) (at : ℕ) (xs : List (List ℕ)) (x : List ℕ)
    → position_from test at (xs ++ x ∷ []) ≡ option_or (position_from test at xs) (cond (test x) (Some (at + length xs)) None)
position_from-push test at [] x =
    let here : at + 0 ≡ at = omega arith in
    rw here refl
position_from-push test at (first ∷ xs) x =
    let further : at + 1 + length xs ≡ at + suc (length xs) = omega arith in
    elim (cases_Bool (test first)) [
      | inl hit ↦ rw hit refl
      | inr other ↦ rw (other, position_from-push test (at + 1) xs x, further) refl
    ]

position-push : (test : List ℕ → Bool) (xs : List (List ℕ)) (x : List ℕ)
    → position test (xs ++ x ∷ []) ≡ option_or (position test xs) (cond (test x) (Some (length xs)) None)
position-push test xs x =
    let start : 0 + length xs ≡ length xs = omega arith in
    position_from-zero test (xs ++ x ∷ []) ∙ position_from-push test 0 xs x
    ∙ rw start (ap (λ o. option_or o (cond (test x) (Some (length xs)) None)) (sym (position_from-zero test xs)))

-- a place is within the list
pub place_within : (test : List ℕ → Bool) (xs : List (List ℕ)) → IfSome (position test xs) (λ place. place < length xs)
place_within test xs = elim (cases_Bool (nat_lt (position_or_len test xs) (length xs))) [
  | inl below ↦ let within : position_or_len test xs < length xs = grind (arith, nat_tests) in rw below within
  | inr past ↦ rw past tt
]

-- the column of a name, with one more cell in the header
column_of-more : (name : List ℕ) (header : List (List ℕ)) (column : ℕ) → column < length header
    → column_of name (take (column + 1) header) ≡ option_or (column_of name (take column header)) (cond (bytes_eq name (str_to_ascii_lowercase (cell_in header column))) (Some column) None)
column_of-more name header column within =
    let size : length (take column header) ≡ column = omega (arith, length-take column header) in
    rw (add-one, take-suc header column [] within) (position-push (λ cell. bytes_eq name (str_to_ascii_lowercase cell)) (take column header) (cell_in header column)
    ∙ ap (λ place. option_or (column_of name (take column header)) (cond (bytes_eq name (str_to_ascii_lowercase (cell_in header column))) (Some place) None)) size)

or_none : (o : Option ℕ) → o ≡ option_or o None
or_none None = refl
or_none (Some x) = refl

or_other : (o other : Option ℕ) → is_some o ≡ true → o ≡ option_or o other
or_other None other there = cc
or_other (Some x) other there = refl

-- a new name is the first of its column
pub new_name : (pairs : List (Vec ℕ Global × ℕ)) (header : List (List ℕ)) (column : ℕ) (key : Vec ℕ Global) → column < length header
    → key.items ≡ str_to_ascii_lowercase (cell_in header column)
    → ((name : List ℕ) → lookup (λ key. bytes_eq name key.items) pairs ≡ column_of name (take column header))
    → (name : List ℕ) → lookup (λ key. bytes_eq name key.items) (pairs ++ (key, column) ∷ []) ≡ column_of name (take (column + 1) header)
new_name pairs header column key within spelt before name =
    rw (column_of-more name header column within, ← spelt, ← before name) (lookup-push (λ key. bytes_eq name key.items) pairs key column)

-- a name that is there already keeps its column
pub known_name : (pairs : List (Vec ℕ Global × ℕ)) (header : List (List ℕ)) (column : ℕ) (key : Vec ℕ Global) → column < length header
    → key.items ≡ str_to_ascii_lowercase (cell_in header column)
    → is_some (lookup (λ other. bytes_eq key.items other.items) pairs) ≡ true
    → ((name : List ℕ) → lookup (λ key. bytes_eq name key.items) pairs ≡ column_of name (take column header))
    → (name : List ℕ) → lookup (λ key. bytes_eq name key.items) pairs ≡ column_of name (take (column + 1) header)
known_name pairs header column key within spelt there before name =
    rw (column_of-more name header column within, ← before name, ← spelt) (elim (cases_Bool (bytes_eq name key.items)) [
      | inl same ↦
          let is : name ≡ key.items = (bytes_eq-Decides name key.items).0 same in
          or_other (lookup (λ key. bytes_eq name key.items) pairs) (cond (bytes_eq name key.items) (Some column) None) (rw is there)
      | inr other ↦ rw other (or_none (lookup (λ key. bytes_eq name key.items) pairs))
    ])

-- a name that isn't found has no column
pub missing : (pairs : List (Vec ℕ Global × ℕ)) (key : Vec ℕ Global) → is_some (lookup (λ other. bytes_eq key.items other.items) pairs) ≡ false
    → lookup (λ other. bytes_eq key.items other.items) pairs ≡ None
missing pairs key none = is (lookup (λ other. bytes_eq key.items other.items) pairs) none
  where
    is : (o : Option ℕ) → is_some o ≡ false → o ≡ None
    is None none = refl
    is (Some x) none = cc
