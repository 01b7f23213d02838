-- What one read takes off the rows that a csv reader has still to give.
use Rattle.std.proofs.Common.{◌≡◌, ◌∙◌, ℕ, zero, suc, ◌+◌, ◌≤◌, ◌<◌, Bool, true, false, cond, List, [], ◌∷◌, ◌++◌, length, map, Option, None, Some, IfSome, Bor, arith, refl, ap, subst, add-one, inl}
use Rattle.csv.specs.Machine.{Read, next_record, step, is_end, ends_at_end, fields_after, field_after}
use Rattle.csv.specs.Reading.{Reached, ReadRecord, records_from, records_next, default_config, source_of}
use Rattle.csv.specs.declared.reader.Reader.{Reader}
use Rattle.csv.specs.declared.parser.State.{State}
use Rattle.csv.specs.declared.parser.State.TheVariants as st
use Rattle.csv.proofs.ReadFacts.{rows-end, rows-more}
use Rattle.d_table.specs.Table.{trimmed}
use Rattle.d_table.specs.Reading.{IsReading, is_between, rows_left}

-- a step that ends a record leaves such a state
step_between : (s : State) (c : ℕ) → is_end (step default_config s c).1 ≡ true → is_between (step default_config s c).0 ≡ true
step_between st.StartRecord c ends = grind arith
step_between st.StartField c ends = grind arith
step_between st.InField c ends = grind arith
step_between st.InQuoted c ends = grind arith
step_between st.AfterQuote c ends = grind arith
step_between st.InEscape c ends = grind arith
step_between st.InComment c ends = grind arith
step_between st.AfterCr c ends = grind arith

-- what is known of the place behind a record
record Behind (size : ℕ) (p : Read) : Type 0 where
  shorter : length p.2 ≤ size
  between : is_between p.1 ≡ true

-- a record is read from the front of a text, up to a place between two records
next_behind : (s : State) (fields : List (List ℕ)) (field xs : List ℕ) → IfSome (next_record default_config s fields field xs) (Behind (length xs))
unfolding next_record
next_behind s fields field [] = ending s fields field
  where
    ending : (s : State) (fields : List (List ℕ)) (field : List ℕ) → IfSome (cond (ends_at_end s) (Some (fields ++ (field ∷ []), st.StartRecord, [])) None) (Behind 0)
    ending s fields field = elim (ends_at_end s) as (λ b. IfSome (cond b (Some (fields ++ (field ∷ []), st.StartRecord, [])) None) (Behind 0)) [ true ↦ record { shorter = omega arith; between = refl } | false ↦ tt ]
next_behind s fields field (c ∷ rest) =
    more (is_end (step default_config s c).1) (fields_after (step default_config s c).1 fields field) (step default_config s c).0 rest _
    (step_between s c) (next_behind (step default_config s c).0 (fields_after (step default_config s c).1 fields field) (field_after (step default_config s c).1 c field) rest)
  where
    more : (ends : Bool) (fields : List (List ℕ)) (s : State) (rest : List ℕ) (other : Option Read) → (ends ≡ true → is_between s ≡ true)
        → IfSome other (Behind (length rest)) → IfSome (cond ends (Some (fields, s, rest)) other) (Behind (suc (length rest)))
    more true fields s rest other between later = record { shorter = omega arith; between = between refl }
    more false fields s rest None between later = tt
    more false fields s rest (Some p) between later = record { shorter = omega (arith, later.shorter); between = later.between }

-- between two records the end of a text ends none
ends_none : (s : State) → is_between s ≡ true → ends_at_end s ≡ false
ends_none st.StartRecord between = refl
ends_none st.StartField between = cc
ends_none st.InField between = cc
ends_none st.InQuoted between = cc
ends_none st.AfterQuote between = cc
ends_none st.InEscape between = cc
ends_none st.InComment between = cc
ends_none st.AfterCr between = refl

-- what is behind a record that is found
found_behind : (size : ℕ) (o : Option Read) (p : Read) → IfSome o (Behind size) → o ≡ Some p → Behind size p
found_behind size o p behind found = let P : Option Read → Type 0 = λ o. IfSome o (Behind size) in subst P found behind

-- a record read from between two records takes a byte at least
next_shorter : (s : State) (xs : List ℕ) (p : Read) → is_between s ≡ true → next_record default_config s [] [] xs ≡ Some p → length p.2 < length xs
unfolding next_record
next_shorter s [] p between found = absurd (nothing p _ (ends_at_end s) (ends_none s between) found)
  where
    nothing : (p q : Read) (b : Bool) → b ≡ false → cond b (Some q) None ≡ Some p → ⊥
    nothing p q true e found = cc
    nothing p q false e found = cc
next_shorter s (c ∷ rest) p between found =
    shorter _ p (is_end (step default_config s c).1) _ found (next_behind (step default_config s c).0 (fields_after (step default_config s c).1 [] []) (field_after (step default_config s c).1 c []) rest)
  where
    shorter : (q p : Read) (ends : Bool) (other : Option Read) → cond ends (Some q) other ≡ Some p → IfSome other (Behind (length q.2)) → length p.2 < suc (length q.2)
    shorter q p true other found later = let e : q ≡ p = cc in let f : length q.2 ≡ length p.2 = ap (λ (r : Read). length r.2) e in omega arith
    shorter q p false other found later = let b = found_behind (length q.2) other p later found in omega (arith, b.shorter)

-- what holds of each record that may have been found
some_all : (o : Option Read) (P : Read → Type 0) → ((p : Read) → o ≡ Some p → P p) → IfSome o P
some_all None P each = tt
some_all (Some p) P each = each p refl

next_same : (f g : State → List ℕ → List (List (List ℕ))) (o : Option Read) → IfSome o (λ p. f p.1 p.2 ≡ g p.1 p.2)
    → records_next f o ≡ records_next g o
next_same f g None same = refl
next_same f g (Some p) same = ap (λ rows. p.0 ∷ rows) same

-- more turns than a text has bytes give no more records
enough : (n m : ℕ) (s : State) (xs : List ℕ) → is_between s ≡ true → length xs < n → length xs < m
    → records_from default_config n s xs ≡ records_from default_config m s xs
unfolding records_from
enough zero m s xs between room more = absurd (omega arith)
enough (suc n) zero s xs between room more = absurd (omega arith)
enough (suc n) (suc m) s xs between room more =
    next_same (records_from default_config n) (records_from default_config m) (next_record default_config s [] [] xs)
    (some_all (next_record default_config s [] [] xs) (λ p. records_from default_config n p.1 p.2 ≡ records_from default_config m p.1 p.2)
    (λ p found.
    let behind = found_behind (length xs) (next_record default_config s [] [] xs) p (next_behind s [] [] xs) found in
    let shorter = next_shorter s xs p between found in
    enough n m p.1 p.2 behind.between (omega arith) (omega arith)))

-- the records of a text are the next one and those of what is behind it
records-next : (s : State) (xs : List ℕ) (p : Read) → is_between s ≡ true → next_record default_config s [] [] xs ≡ Some p
    → records_from default_config (length xs + 1) s xs ≡ p.0 ∷ records_from default_config (length p.2 + 1) p.1 p.2
unfolding records_from
records-next s xs p between found =
    let behind = found_behind (length xs) (next_record default_config s [] [] xs) p (next_behind s [] [] xs) found in
    let shorter = next_shorter s xs p between found in
    let same = enough (length xs) (length p.2 + 1) p.1 p.2 behind.between shorter (omega arith) in
    let turns : length xs + 1 ≡ suc (length xs) = add-one (length xs) in
    rw (turns, found, same) refl

records-none : (s : State) (xs : List ℕ) → next_record default_config s [] [] xs ≡ None → records_from default_config (length xs + 1) s xs ≡ []
unfolding records_from
records-none s xs none = rw (add-one, none) refl

-- what a reader of a known text has still to give
left_of : (a : Reader (Bor (List ℕ))) (text : List ℕ) → source_of (λ (s : Bor (List ℕ)). Some s.now) a ≡ Some text
    → rows_left a ≡ map (map trimmed) (records_from default_config (length text + 1) a.state text)
left_of a text known = rw known refl

-- a row that one record is, and what is behind it
left_behind : (a b : Reader (Bor (List ℕ))) (text rest : List ℕ) (fields : List (List ℕ)) (p : Read)
    → source_of (λ (s : Bor (List ℕ)). Some s.now) a ≡ Some text → source_of (λ (s : Bor (List ℕ)). Some s.now) b ≡ Some rest
    → is_between a.state ≡ true → next_record default_config a.state [] [] text ≡ Some p → fields ≡ p.0 → p.1 ≡ b.state → p.2 ≡ rest
    → rows_left a ≡ map trimmed fields ∷ rows_left b
left_behind a b text rest fields p known left between found same state behind =
    rw (left_of a text known, left_of b rest left, records-next a.state text p between found, same, state, behind) refl

-- a read that found a row took it off them, and the reader reads on
pub row_taken : (a b : Reader (Bor (List ℕ))) (fields : List (List ℕ)) → IsReading a → ReadRecord (λ (s : Bor (List ℕ)). Some s.now) a b true fields
    → b.first ≡ true → IsReading b × (rows_left a ≡ map trimmed fields ∷ rows_left b)
unfolding Reached
row_taken a b fields reading taken first =
    let (text, known) = reading.known in
    let (rest, left, reached) = rows-more (λ (s : Bor (List ℕ)). Some s.now) a b fields default_config a.state text text [] reading.config known (refl, refl) taken in
    let (p, found, same, ends) = reached in
    let here = found_behind (length text) (next_record default_config a.state [] [] text) p (next_behind a.state [] [] text) found in (
      record {
        ready = inl first;
        config = taken.2 ∙ reading.config;
        trim = taken.3 ∙ reading.trim;
        between = subst (λ s. is_between s ≡ true) ends.0 here.between;
        known = (rest, left);
      },
      left_behind a b text rest fields p known left reading.between found same ends.0 ends.1,
    )

-- a read that found none had none left
pub none_left : (a b : Reader (Bor (List ℕ))) (fields : List (List ℕ)) → IsReading a → ReadRecord (λ (s : Bor (List ℕ)). Some s.now) a b false fields
    → rows_left a ≡ []
none_left a b fields reading taken =
    let (text, known) = reading.known in
    let ended = rows-end (λ (s : Bor (List ℕ)). Some s.now) a b fields default_config text reading.config known taken in
    rw (left_of a text known, records-none a.state text ended) refl
