-- What stands behind the front of a text, in small letters.
use Rattle.std.proofs.Common.{◌≡◌, ◌∙◌, ◌↔◌, ◌<◌, ◌-◌, ℕ, List, ◌++◌, length, take, drop, Option, None, Some, unwrap_or, arith, sym, ap}
use Rattle.std.proofs.Math.Seq.{take-append_seam, drop-append_seam}
use Rattle.std.proofs.lemmas.List.{take-append-drop, length-append, length-map, drop-map, take_all, length-drop}
use Rattle.std.specs.List.{take-map}
use Rattle.std.specs.Str.{str_to_ascii_lowercase}
use Rattle.std.specs.Char.{to_ascii_lowercase}

-- nothing is found exactly of what can't be
pub never : {A P : Type 0} (x : A) → (P → ⊥) → (None ≡ Some x) ↔ P
never x refused = (λ found. cc, λ is. absurd (refused is))

-- two values that are found
abbrev pub is_pair : {A B : Type 0} → A → B → Option (A × B)
is_pair a b = Some (a, b)

-- a front that is there
pub front_found : (text front : List ℕ) → str_to_ascii_lowercase (take (length front) text) ≡ front → (rest : List ℕ)
    → (Some (str_to_ascii_lowercase (drop (length front) text)) ≡ Some rest) ↔ (str_to_ascii_lowercase text ≡ front ++ rest)
front_found text front same rest =
    let small = str_to_ascii_lowercase text in
    let start : take (length front) small ≡ front = take-map to_ascii_lowercase (length front) text ∙ same in
    let end : drop (length front) small ≡ str_to_ascii_lowercase (drop (length front) text) = drop-map to_ascii_lowercase (length front) text in
    let whole : small ≡ front ++ str_to_ascii_lowercase (drop (length front) text) =
    sym (take-append-drop (length front) small) ∙ ap (λ xs. xs ++ drop (length front) small) start ∙ ap (λ xs. front ++ xs) end in (
      λ found. let is : str_to_ascii_lowercase (drop (length front) text) ≡ rest = cc in whole ∙ ap (λ xs. front ++ xs) is,
      λ form. let is : drop (length front) small ≡ rest = ap (λ xs. drop (length front) xs) form ∙ drop-append_seam front rest in ap (λ xs. Some xs) (sym end ∙ is),
    )

-- a front that isn't there
pub front_missing : (text front : List ℕ) → (str_to_ascii_lowercase (take (length front) text) ≡ front → ⊥) → (rest : List ℕ)
    → str_to_ascii_lowercase text ≡ front ++ rest → ⊥
front_missing text front other rest form =
    other (sym (take-map to_ascii_lowercase (length front) text) ∙ ap (λ xs. take (length front) xs) form ∙ take-append_seam front rest)

-- a text that is too short
pub front_short : (text front : List ℕ) → length text < length front → (rest : List ℕ) → str_to_ascii_lowercase text ≡ front ++ rest → ⊥
front_short text front short rest form =
    omega (arith, length-map text to_ascii_lowercase, ap length form, length-append front rest)

-- all that stands behind a place
pub all_behind : (n : ℕ) (text : List ℕ) → take (length text - n) (drop n text) ≡ drop n text
all_behind n text = take_all (length text - n) (drop n text) (omega (arith, length-drop n text))

-- what is found of several values tells each of them
pub first_same : {A B : Type 0} (a c : A) (b d : B) → is_pair a b ≡ is_pair c d → a ≡ c
first_same {A} {B} a c b d same = let first : Option (A × B) → A = λ o. (unwrap_or {T = A × B} o (a, b)).0 in ap first same

pub second_same : {A B : Type 0} (a c : A) (b d : B) → is_pair a b ≡ is_pair c d → b ≡ d
second_same {A} {B} a c b d same = let second : Option (A × B) → B = λ o. (unwrap_or {T = A × B} o (a, b)).1 in ap second same

pub both_same : {A B : Type 0} (a c : A) (b d : B) → a ≡ c → b ≡ d → is_pair a b ≡ is_pair c d
both_same a c b d first second = ap (λ x. is_pair x b) first ∙ ap (λ y. is_pair c y) second

-- what is found exactly where it isn't, can't be
pub not_found : {A : Type 0} {P : A → Type 0} → ((x : A) → (None ≡ Some x) ↔ P x) → (x : A) → P x → ⊥
not_found exact x is = let found = (exact x).1 is in cc

pub pair_not_found : {A B : Type 0} {P : A → B → Type 0} → ((a : A) (b : B) → (None ≡ is_pair a b) ↔ P a b) → (a : A) (b : B) → P a b → ⊥
pair_not_found exact a b is = let found = (exact a b).1 is in cc

-- three values that are found
abbrev pub is_triple : {A B C : Type 0} → A → B → C → Option (A × B × C)
is_triple a b c = Some (a, b, c)

pub triple_first : {A B C : Type 0} (a d : A) (b e : B) (c f : C) → is_triple a b c ≡ is_triple d e f → a ≡ d
triple_first {A} {B} {C} a d b e c f same = let first : Option (A × B × C) → A = λ o. (unwrap_or {T = A × B × C} o (a, b, c)).0 in ap first same

pub triple_second : {A B C : Type 0} (a d : A) (b e : B) (c f : C) → is_triple a b c ≡ is_triple d e f → b ≡ e
triple_second {A} {B} {C} a d b e c f same = let second : Option (A × B × C) → B = λ o. (unwrap_or {T = A × B × C} o (a, b, c)).1 in ap second same

pub triple_third : {A B C : Type 0} (a d : A) (b e : B) (c f : C) → is_triple a b c ≡ is_triple d e f → c ≡ f
triple_third {A} {B} {C} a d b e c f same = let third : Option (A × B × C) → C = λ o. (unwrap_or {T = A × B × C} o (a, b, c)).2 in ap third same

pub triple_same : {A B C : Type 0} (a d : A) (b e : B) (c f : C) → a ≡ d → b ≡ e → c ≡ f → is_triple a b c ≡ is_triple d e f
triple_same a d b e c f first second third = ap (λ x. is_triple x b c) first ∙ ap (λ y. is_triple d y c) second ∙ ap (λ z. is_triple d e z) third
