-- What holds of each part of a list in brackets, and of a cell that is read to its end.
use Rattle.std.proofs.Common.{◌≡◌, ℕ, ◌+◌, ◌<◌, ◌≤◌, true, false, All, None, Some, List, [], ◌∷◌, ◌++◌, length, take, arith, refl, ap, ◌∙◌}
use Rattle.std.proofs.lemmas.List.{length-append, take_all}
use Rattle.std.proofs.lemmas.List.Elements.{All-nil, All-cons}
use Rattle.d_text.specs.Grid.{StartsWith, GoesOn, IsBracketed, IsBracketedOf, IsNumber, IsItem, IsRow, IsGridOf, IsListOf}
use Rattle.d_text.specs.declared.items.Span.{Span}
use Rattle.d_text.specs.declared.brackets.Stage.{Stage}
use Rattle.d_text.specs.declared.brackets.Stage.TheVariants.{Start, Open, Part, After, Closed}
use Rattle.d_text.specs.Brackets.{Reader, Level, is_closed, level, level_of, level_value, unread, Fits}
use Rattle.d_text.proofs.ReaderFacts.{run, Recognizes}
use Rattle.d_text.proofs.ScanFacts.{closed_stage, closed_count}

-- each part stands within the cell
EachPart : {A : Type 0} → (ℕ → List ℕ → A → Type 0) → ℕ → (A → Type 0) → Type 0
EachPart {A} Form bound P = (place : ℕ) (text : List ℕ) (value : A) → place + length text ≤ bound → Form place text value → P value

starts-within : {A : Type 0} (Form : ℕ → List ℕ → A → Type 0) (Rest : ℕ → List ℕ → Type 0) (place bound : ℕ) (text : List ℕ) (value : A) → place + length text ≤ bound → (w : StartsWith Form place text value Rest)
    → place + length w.blanks + length w.part + length w.rest ≤ bound
starts-within Form Rest place bound text value le w =
    let size : length text ≡ length (w.blanks ++ (w.part ++ w.rest)) = ap (λ (t : List ℕ). length t) w.form in
    omega (arith, length-append w.blanks (w.part ++ w.rest), length-append w.part w.rest)

all-going : {A : Type 0} (Form : ℕ → List ℕ → A → Type 0) (bound : ℕ) (P : A → Type 0) → EachPart Form bound P → (more : List A) (place : ℕ) (text : List ℕ) → place + length text ≤ bound → GoesOn Form place text more → All P more
unfolding EachPart
all-going Form bound P each [] place text le h = All-nil P
all-going Form bound P each (value ∷ more) place text le h =
    let size : length text ≡ length (h.0 ++ 44 ∷ h.1) = ap (λ (t : List ℕ). length t) h.3 in
    let inside : place + length h.0 + 1 + length h.1 ≤ bound = omega (arith, length-append h.0 (44 ∷ h.1)) in
    let w = h.4 in
    let within = starts-within Form (λ behind rest. GoesOn Form behind rest more) (place + length h.0 + 1) bound h.1 value inside w in
    All-cons P value more (each (place + length h.0 + 1 + length w.blanks) w.part value (omega arith) w.part_is)
    (all-going Form bound P each more (place + length h.0 + 1 + length w.blanks + length w.part) w.rest within w.rest_is)

all-parts : {A : Type 0} (Form : ℕ → List ℕ → A → Type 0) (bound : ℕ) (P : A → Type 0) → EachPart Form bound P → (values : List A) (place : ℕ) (text : List ℕ) → place + length text ≤ bound → IsBracketed Form place text values → All P values
unfolding EachPart
all-parts Form bound P each [] place text le h = absurd h
all-parts Form bound P each (value ∷ more) place text le h =
    let size : length text ≡ length (91 ∷ h.0) = ap (λ (t : List ℕ). length t) h.1 in
    let inside : place + 1 + length h.0 ≤ bound = omega arith in
    let w = h.2 in
    let within = starts-within Form (λ behind rest. GoesOn Form behind rest more) (place + 1) bound h.0 value inside w in
    All-cons P value more (each (place + 1 + length w.blanks) w.part value (omega arith) w.part_is)
    (all-going Form bound P each more (place + 1 + length w.blanks + length w.part) w.rest within w.rest_is)

-- the numbers of a grid are at most 35
row-hours : (bound place : ℕ) (text row : List ℕ) → place + length text ≤ bound → IsRow place text row → All (λ number. number ≤ 35) row
unfolding EachPart
row-hours bound place text row le h = all-parts IsNumber bound (λ number. number ≤ 35) (λ p t v in_cell n. n.most) row place text le h.bracketed

pub grid-hours : (cell : List ℕ) (rows : List (List ℕ)) → IsGridOf cell rows → All (All (λ number. number ≤ 35)) rows
unfolding EachPart
grid-hours cell rows h = all-parts IsRow (0 + length cell) (All (λ number. number ≤ 35)) (λ p t v in_cell r. row-hours (0 + length cell) p t v in_cell r) rows 0 cell (omega arith) h.bracketed

-- a grid has twelve rows of 24 numbers
pub grid-sizes : (cell : List ℕ) (rows : List (List ℕ)) → IsGridOf cell rows → (length rows ≡ 12) × All (λ row. length row ≡ 24) rows
unfolding EachPart
grid-sizes cell rows h = (h.count_is, all-parts IsRow (0 + length cell) (λ row. length row ≡ 24) (λ p t v in_cell r. r.count_is) rows 0 cell (omega arith) h.bracketed)

-- the items of a list have bytes and stand in the cell
pub list-some : (cell : List ℕ) (spans : List Span) → IsListOf cell spans → All (λ span. span.from < span.to) spans
unfolding EachPart
list-some cell spans h =
    all-parts IsItem (0 + length cell) (λ span. span.from < span.to) (λ p t v in_cell i. omega (arith, i.from_is, i.to_is, i.some)) spans 0 cell (omega arith) h.bracketed

pub list-within : (cell : List ℕ) (spans : List Span) → IsListOf cell spans → All (λ span. span.to ≤ length cell) spans
unfolding EachPart
list-within cell spans h =
    all-parts IsItem (0 + length cell) (λ span. span.to ≤ length cell) (λ p t v in_cell i. omega (arith, i.to_is)) spans 0 cell (omega arith) h.bracketed

-- a list that isn't closed says nothing yet
pub not-closed : {S A : Type 0} (stage : Stage) (parts : List A) (s : S) → is_closed stage ≡ false → level_value (level_of stage parts s) ≡ None
not-closed Start parts s e = refl
not-closed Open parts s e = refl
not-closed Part parts s e = refl
not-closed After parts s e = refl
not-closed Closed parts s e = cc

pub closed-value : {S A : Type 0} (stage : Stage) (parts : List A) (s : S) → is_closed stage ≡ true → level_value (level_of stage parts s) ≡ Some parts
closed-value Start parts s e = cc
closed-value Open parts s e = cc
closed-value Part parts s e = cc
closed-value After parts s e = cc
closed-value Closed parts s e = refl

-- a list that is closed at the end of the cell
pub closed-form : {S A : Type 0} (m : Reader S A) (most : ℕ) (Form : ℕ → List ℕ → A → Type 0) (Good : Level S A → Type 0) → Recognizes (level m most) (IsBracketedOf most Form) Good → (cell : List ℕ) (stage : Stage) (count : ℕ) (values : List A) (s : S)
    → run (level m most) 0 cell unread ≡ Some (level_of stage (take count values) s) → is_closed stage ≡ true → Fits most stage count → length values ≡ most → IsBracketedOf most Form 0 cell values
closed-form m most Form Good r cell stage count values s e closed fits size =
    let full : count ≡ most = closed_count most count stage (closed_stage stage closed) fits in
    let all : take count values ≡ values = take_all count values (omega arith) in
    r.sound 0 cell values (record { end = level_of stage (take count values) s; runs = e; says = closed-value stage (take count values) s closed ∙ ap Some all })
