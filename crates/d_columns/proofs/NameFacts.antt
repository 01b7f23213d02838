-- How the parts of a name make the name.
use Rattle.std.proofs.Common.{◌≡◌, ◌∙◌, ◌↔◌, ◌<◌, ◌≤◌, ◌+◌, ◌/◌, ◌%◌, ℕ, zero, suc, true, List, [], ◌∷◌, ◌++◌, All, get_or, Option, None, Some, unwrap_or, codes, decimal, arith, sym, ap, refl, inl, inr, subst}
use Rattle.std.proofs.lemmas.Bool.Decides.{nat_tests}
use Rattle.std.specs.List.{prefix_len}
use Rattle.d_columns.specs.declared.names.Structure.{Structure}
use Rattle.d_columns.specs.declared.names.Structure.TheVariants.{Energy, Demand, FlatDemand, Coincident}
use Rattle.d_columns.specs.declared.names.Part.{Part}
use Rattle.d_columns.specs.declared.names.Part.TheVariants.{Max, Unit, Rate, Adj, Sell}
use Rattle.d_columns.specs.Names.{structure_text, part_text, is_digit, IsTierNumber, IsTierName}
use Rattle.d_columns.specs.Reading.{IsNumberThen, IsTierEnd, IsPeriodEnd}
use Rattle.d_columns.proofs.TextFacts.{is_pair, first_same, second_same, both_same, is_triple, triple_first, triple_second, triple_third, triple_same}
use Rattle.d_columns.proofs.PeriodFacts.{period_digits}

-- texts with different first bytes differ
first_apart : (a b : ℕ) (l m : List ℕ) → a < b → get_or l 0 0 ≡ a → get_or m 0 0 ≡ b → l ≡ m → ⊥
first_apart a b l m less first second same = omega (arith, ap (λ xs. get_or xs 0 0) same)

-- texts that begin with different structures differ
pub structure_once : (s t : Structure) (xs ys : List ℕ) → structure_text s ++ xs ≡ structure_text t ++ ys → s ≡ t
structure_once Energy Energy xs ys same = refl
structure_once Energy Demand xs ys same = absurd (first_apart 100 101 (structure_text Demand ++ ys) (structure_text Energy ++ xs) (omega arith) refl refl (sym same))
structure_once Energy FlatDemand xs ys same = absurd (first_apart 101 102 (structure_text Energy ++ xs) (structure_text FlatDemand ++ ys) (omega arith) refl refl same)
structure_once Demand Energy xs ys same = absurd (first_apart 100 101 (structure_text Demand ++ xs) (structure_text Energy ++ ys) (omega arith) refl refl same)
structure_once Demand Demand xs ys same = refl
structure_once Demand FlatDemand xs ys same = absurd (first_apart 100 102 (structure_text Demand ++ xs) (structure_text FlatDemand ++ ys) (omega arith) refl refl same)
structure_once FlatDemand Energy xs ys same = absurd (first_apart 101 102 (structure_text Energy ++ ys) (structure_text FlatDemand ++ xs) (omega arith) refl refl (sym same))
structure_once FlatDemand Demand xs ys same = absurd (first_apart 100 102 (structure_text Demand ++ ys) (structure_text FlatDemand ++ xs) (omega arith) refl refl (sym same))
structure_once FlatDemand FlatDemand xs ys same = refl
structure_once Coincident Energy xs ys same = absurd (first_apart 99 101 (structure_text Coincident ++ xs) (structure_text Energy ++ ys) (omega arith) refl refl same)
structure_once Coincident Demand xs ys same = absurd (first_apart 99 100 (structure_text Coincident ++ xs) (structure_text Demand ++ ys) (omega arith) refl refl same)
structure_once Coincident FlatDemand xs ys same = absurd (first_apart 99 102 (structure_text Coincident ++ xs) (structure_text FlatDemand ++ ys) (omega arith) refl refl same)
structure_once Energy Coincident xs ys same = absurd (first_apart 99 101 (structure_text Coincident ++ ys) (structure_text Energy ++ xs) (omega arith) refl refl (sym same))
structure_once Demand Coincident xs ys same = absurd (first_apart 99 100 (structure_text Coincident ++ ys) (structure_text Demand ++ xs) (omega arith) refl refl (sym same))
structure_once FlatDemand Coincident xs ys same = absurd (first_apart 99 102 (structure_text Coincident ++ ys) (structure_text FlatDemand ++ xs) (omega arith) refl refl (sym same))
structure_once Coincident Coincident xs ys same = refl

-- the structure that a text begins with
pub structure_found : (text : List ℕ) (found : Structure) (behind : List ℕ) → ((r : List ℕ) → (Some behind ≡ Some r) ↔ (text ≡ structure_text found ++ r))
    → (structure : Structure) (rest : List ℕ) → (is_pair found behind ≡ is_pair structure rest) ↔ (text ≡ structure_text structure ++ rest)
structure_found text found behind exact structure rest =
    let here : text ≡ structure_text found ++ behind = (exact behind).0 refl in (
      λ same.
          let first = first_same found structure behind rest same in
          let second = second_same found structure behind rest same in
          here ∙ ap (λ s. structure_text s ++ behind) first ∙ ap (λ xs. structure_text structure ++ xs) second,
      λ form.
          let first : found ≡ structure = structure_once found structure behind rest (sym here ∙ form) in
          let second : behind ≡ rest = let is = (exact rest).1 (form ∙ ap (λ s. structure_text s ++ rest) (sym first)) in cc in
          both_same found structure behind rest first second,
    )

-- no part begins with a digit
pub part_plain : (part : Part) → prefix_len is_digit (part_text part) ≡ 0
part_plain Max = refl
part_plain Unit = refl
part_plain Rate = refl
part_plain Adj = refl
part_plain Sell = refl

-- a tier's number stands behind `/tier`
pub tier_behind : (text behind : List ℕ) → ((r : List ℕ) → (Some behind ≡ Some r) ↔ (text ≡ codes "/tier" ++ r)) → (digits : List ℕ) (part : Part)
    → IsTierEnd text digits part → IsNumberThen behind digits (part_text part)
tier_behind text behind exact digits part end = record {
  number = end.number;
  ends = part_plain part;
  form = let is = (exact (digits ++ part_text part)).1 end.form in cc;
}

-- the number and the part of a tier that is found
pub tier_found : (text behind number rest : List ℕ) (found : Part) → ((r : List ℕ) → (Some behind ≡ Some r) ↔ (text ≡ codes "/tier" ++ r))
    → ((d r : List ℕ) → (is_pair number rest ≡ is_pair d r) ↔ IsNumberThen behind d r) → ((q : Part) → (Some found ≡ Some q) ↔ (rest ≡ part_text q))
    → (digits : List ℕ) (part : Part) → (is_pair number found ≡ is_pair digits part) ↔ IsTierEnd text digits part
tier_found text behind number rest found front middle last digits part =
    let then = (middle number rest).0 refl in
    let end : rest ≡ part_text found = (last found).0 refl in (
      λ same.
          let first = first_same number digits found part same in
          let second = second_same number digits found part same in
          record {
            number = subst IsTierNumber first then.number;
            form = (front behind).0 refl ∙ ap (λ xs. codes "/tier" ++ xs) (then.form ∙ ap (λ xs. number ++ xs) (end ∙ ap part_text second) ∙ ap (λ xs. xs ++ part_text part) first);
          },
      λ is.
          let same = (middle digits (part_text part)).1 (tier_behind text behind front digits part is) in
          let first = first_same number digits rest (part_text part) same in
          let second : found ≡ part = let q = (last part).1 (second_same number digits rest (part_text part) same) in cc in
          both_same number digits found part first second,
    )

-- with no part at its end there is no tier
pub tier_no_part : (text behind number rest : List ℕ) → ((r : List ℕ) → (Some behind ≡ Some r) ↔ (text ≡ codes "/tier" ++ r))
    → ((d r : List ℕ) → (is_pair number rest ≡ is_pair d r) ↔ IsNumberThen behind d r) → ((q : Part) → (None ≡ Some q) ↔ (rest ≡ part_text q))
    → (digits : List ℕ) (part : Part) → IsTierEnd text digits part → ⊥
tier_no_part text behind number rest front middle last digits part end =
    let same = (middle digits (part_text part)).1 (tier_behind text behind front digits part end) in
    let found = (last part).1 (second_same number digits rest (part_text part) same) in
    cc

-- the digits of a period are a number
pub period_number : (period : ℕ) → period ≤ 35 → IsTierNumber (decimal period)
period_number period few = elim (period_digits period few) [
  | inl short ↦ rw short.1 (one (48 + period) (omega arith) (omega arith))
  | inr more ↦ rw more.1 (two (48 + period / 10) (48 + period % 10) (omega arith) (omega arith) (omega arith) (omega arith))
]
  where
    digit : (byte : ℕ) → 48 ≤ byte → byte ≤ 57 → is_digit byte ≡ true
    digit byte least most = grind (arith, nat_tests)

    one : (a : ℕ) → 48 ≤ a → a ≤ 57 → IsTierNumber (a ∷ [])
    one a least most = record { some = omega arith; all_digits = all; plain = λ front. refl }
      where
        all : All (λ byte. is_digit byte ≡ true) (a ∷ [])
        all zero d within = digit a least most
        all (suc k) d within = absurd (omega arith)

    two : (a b : ℕ) → 49 ≤ a → a ≤ 57 → 48 ≤ b → b ≤ 57 → IsTierNumber (a ∷ b ∷ [])
    two a b least most low high = record { some = omega arith; all_digits = all; plain = λ (front : a ≡ 48). absurd (omega arith) }
      where
        all : All (λ byte. is_digit byte ≡ true) (a ∷ b ∷ [])
        all zero d within = digit a (omega arith) most
        all (suc zero) d within = digit b low high
        all (suc (suc k)) d within = absurd (omega arith)

-- a period's number stands behind `/period`
pub period_behind : (text behind : List ℕ) → ((r : List ℕ) → (Some behind ≡ Some r) ↔ (text ≡ codes "/period" ++ r)) → (period : ℕ) (digits : List ℕ) (part : Part)
    → IsPeriodEnd text period digits part → IsNumberThen behind (decimal period) (codes "/tier" ++ (digits ++ part_text part))
period_behind text behind exact period digits part end = record {
  number = period_number period end.there;
  ends = refl;
  form = let is = (exact (decimal period ++ (codes "/tier" ++ (digits ++ part_text part)))).1 end.form in cc;
}

-- a tier stands behind the period
pub period_tier : (text behind number rest : List ℕ) → ((r : List ℕ) → (Some behind ≡ Some r) ↔ (text ≡ codes "/period" ++ r))
    → ((d r : List ℕ) → (is_pair number rest ≡ is_pair d r) ↔ IsNumberThen behind d r) → (period : ℕ) (digits : List ℕ) (part : Part)
    → IsPeriodEnd text period digits part → ((period ≤ 35) × (number ≡ decimal period)) × IsTierEnd rest digits part
period_tier text behind number rest front middle period digits part is =
    let tail = codes "/tier" ++ (digits ++ part_text part) in
    let same = (middle (decimal period) tail).1 (period_behind text behind front period digits part is) in
    ((is.there, first_same number (decimal period) rest tail same), record { number = is.number; form = second_same number (decimal period) rest tail same })

-- the period, tier and part that are found
pub period_found : (text behind number rest tier : List ℕ) (found : ℕ) (last : Part) → ((r : List ℕ) → (Some behind ≡ Some r) ↔ (text ≡ codes "/period" ++ r))
    → ((d r : List ℕ) → (is_pair number rest ≡ is_pair d r) ↔ IsNumberThen behind d r)
    → ((p : ℕ) → (Some found ≡ Some p) ↔ ((p ≤ 35) × (number ≡ decimal p)))
    → ((d : List ℕ) (q : Part) → (is_pair tier last ≡ is_pair d q) ↔ IsTierEnd rest d q)
    → (period : ℕ) (digits : List ℕ) (part : Part) → (is_triple found tier last ≡ is_triple period digits part) ↔ IsPeriodEnd text period digits part
period_found text behind number rest tier found last front middle value end period digits part =
    let then = (middle number rest).0 refl in
    let is = (value found).0 refl in
    let tail = (end tier last).0 refl in (
      λ same.
          let first = triple_first found period tier digits last part same in
          let second = triple_second found period tier digits last part same in
          let third = triple_third found period tier digits last part same in
          record {
            there = subst (λ (p : ℕ). p ≤ 35) first is.0;
            number = subst IsTierNumber second tail.number;
            form = (front behind).0 refl ∙ ap (λ xs. codes "/period" ++ xs) (then.form ∙ ap (λ xs. xs ++ rest) (is.1 ∙ ap decimal first)
                ∙ ap (λ xs. decimal period ++ xs) (tail.form ∙ ap (λ xs. codes "/tier" ++ (xs ++ part_text last)) second ∙ ap (λ q. codes "/tier" ++ (digits ++ part_text q)) third));
          },
      λ form.
          let parts = period_tier text behind number rest front middle period digits part form in
          let first : found ≡ period = let p = (value period).1 parts.0 in cc in
          let same = (end digits part).1 parts.1 in
          triple_same found period tier digits last part first (first_same tier digits last part same) (second_same tier digits last part same),
    )

-- four values that are found
abbrev pub is_name : Structure → ℕ → List ℕ → Part → Option (Structure × ℕ × List ℕ × Part)
is_name structure period digits part = Some (structure, period, digits, part)

pub name_parts : (a e : Structure) (b f : ℕ) (c g : List ℕ) (d h : Part) → is_name a b c d ≡ is_name e f g h → (a ≡ e) × (b ≡ f) × (c ≡ g) × (d ≡ h)
name_parts a e b f c g d h same =
    let parts : Option (Structure × ℕ × List ℕ × Part) → Structure × ℕ × List ℕ × Part = λ o. unwrap_or {T = Structure × ℕ × List ℕ × Part} o (a, b, c, d) in
    (ap (λ o. (parts o).0) same, ap (λ o. (parts o).1) same, ap (λ o. (parts o).2) same, ap (λ o. (parts o).3) same)

-- the name that is found
pub name_found : (text rest tier : List ℕ) (structure : Structure) (period : ℕ) (part : Part)
    → ((s : Structure) (r : List ℕ) → (is_pair structure rest ≡ is_pair s r) ↔ (text ≡ structure_text s ++ r))
    → ((p : ℕ) (d : List ℕ) (q : Part) → (is_triple period tier part ≡ is_triple p d q) ↔ IsPeriodEnd rest p d q)
    → (s : Structure) (p : ℕ) (d : List ℕ) (q : Part) → (is_name structure period tier part ≡ is_name s p d q) ↔ IsTierName text s p d q
name_found text rest tier structure period part front end s p d q =
    let start = (front structure rest).0 refl in
    let tail = (end period tier part).0 refl in
    let whole : IsTierName text structure period tier part =
    record { there = tail.there; number = tail.number; form = start ∙ ap (λ xs. structure_text structure ++ xs) tail.form } in (
      λ same.
          let parts = name_parts structure s period p tier d part q same in
          let first = parts.0 in
          let second = parts.1 in
          let third = parts.2 in
          let fourth = parts.3 in
          subst (λ (x : Structure). IsTierName text x p d q) first
          (subst (λ (x : ℕ). IsTierName text structure x d q) second
          (subst (λ (x : List ℕ). IsTierName text structure period x q) third
          (subst (λ (x : Part). IsTierName text structure period tier x) fourth whole))),
      λ form.
          let behind = codes "/period" ++ (decimal p ++ (codes "/tier" ++ (d ++ part_text q))) in
          let one = (front s behind).1 form.form in
          let rest_is = second_same structure s rest behind one in
          let two = (end p d q).1 (record { there = form.there; number = form.number; form = rest_is }) in
          ap (λ x. is_name x period tier part) (first_same structure s rest behind one)
          ∙ ap (λ x. is_name s x tier part) (triple_first period p tier d part q two)
          ∙ ap (λ x. is_name s p x part) (triple_second period p tier d part q two)
          ∙ ap (λ x. is_name s p d x) (triple_third period p tier d part q two),
    )
