-- Periods by their digits.
use Rattle.std.proofs.Common.{◌≡◌, ◌∙◌, ◌↔◌, ◌⊎◌, ◌<◌, ◌≤◌, ◌+◌, ◌-◌, ◌*◌, ◌/◌, ◌%◌, ℕ, List, [], ◌∷◌, ◌++◌, length, Some, arith, sym, ap, inl, inr, get_or, decimal}
use Rattle.std.proofs.lemmas.Bool.{cases_lt}
use Rattle.std.proofs.lemmas.Fmt.{decimal_digit, decimal_step}
use Rattle.d_columns.specs.Names.{IsTierNumber}
use Rattle.d_columns.proofs.NumberFacts.{digit_range}

-- a period has one digit or two
pub period_digits : (period : ℕ) → period ≤ 35
    → ((period < 10) × (decimal period ≡ (48 + period) ∷ [])) ⊎ ((10 ≤ period) × (decimal period ≡ (48 + period / 10) ∷ (48 + period % 10) ∷ []))
period_digits period few = elim (cases_lt period 10) [
  | inl below ↦ inl (below, decimal_digit period below)
  | inr above ↦
      let tens = decimal_digit (period / 10) (omega arith) in
      inr (above, decimal_step period above (omega arith) ∙ ap (λ xs. xs ++ (48 + period % 10) ∷ []) tens)
]

pub one_digit : (digits : List ℕ) → IsTierNumber digits → length digits ≡ 1 → (period : ℕ)
    → (Some (get_or digits 0 0 - 48) ≡ Some period) ↔ ((period ≤ 35) × (digits ≡ decimal period))
one_digit [] number long period = absurd (omega arith)
one_digit (a ∷ []) number long period =
    let range = digit_range a (number.all_digits 0 0 (omega arith)) in (
      λ found.
          let is : a - 48 ≡ period = cc in
          let few : period < 10 = omega arith in
          (omega arith, ap (λ n. n ∷ []) (omega arith) ∙ sym (decimal_digit period few)),
      λ form. elim (period_digits period form.0) [
        | inl short ↦ let same : a ∷ [] ≡ (48 + period) ∷ [] = form.1 ∙ short.1 in let is : a ≡ 48 + period = cc in ap (λ n. Some n) (omega arith)
        | inr more ↦ let other : a ∷ [] ≡ (48 + period / 10) ∷ (48 + period % 10) ∷ [] = form.1 ∙ more.1 in absurd (omega (arith, ap length other))
      ],
    )
one_digit (a ∷ b ∷ rest) number long period = absurd (omega arith)

pub two_digits : (digits : List ℕ) → IsTierNumber digits → length digits ≡ 2 → (period : ℕ)
    → (((period ≤ 35) × ((get_or digits 0 0 - 48) * 10 + (get_or digits 1 0 - 48) ≡ period)) → (period ≤ 35) × (digits ≡ decimal period))
    × (((period ≤ 35) × (digits ≡ decimal period)) → (period ≤ 35) × ((get_or digits 0 0 - 48) * 10 + (get_or digits 1 0 - 48) ≡ period))
two_digits [] number long period = absurd (omega arith)
two_digits (a ∷ []) number long period = absurd (omega arith)
two_digits (a ∷ b ∷ []) number long period =
    let tens = digit_range a (number.all_digits 0 0 (omega arith)) in
    let ones = digit_range b (number.all_digits 1 0 (omega arith)) in
    let plain : 49 ≤ a = front a tens.0 (λ zero_front. let none = number.plain zero_front in omega arith) in (
      λ found. (
        found.0,
        elim (period_digits period found.0) [
          | inl short ↦ absurd (omega arith)
          | inr more ↦
              let first : a ≡ 48 + period / 10 = omega arith in
              let second : b ≡ 48 + period % 10 = omega arith in
              ap (λ n. n ∷ b ∷ []) first ∙ ap (λ n. (48 + period / 10) ∷ n ∷ []) second ∙ sym more.1
        ],
      ),
      λ form. (
        form.0,
        elim (period_digits period form.0) [
          | inl short ↦ let other : a ∷ b ∷ [] ≡ (48 + period) ∷ [] = form.1 ∙ short.1 in absurd (omega (arith, ap length other))
          | inr more ↦
              let same : a ∷ b ∷ [] ≡ (48 + period / 10) ∷ (48 + period % 10) ∷ [] = form.1 ∙ more.1 in
              let first : a ≡ 48 + period / 10 = cc in
              let second : b ≡ 48 + period % 10 = cc in
              omega arith
        ],
      ),
    )
  where
    front : (a : ℕ) → 48 ≤ a → (a ≡ 48 → ⊥) → 49 ≤ a
    front a least other = omega arith
two_digits (a ∷ b ∷ c ∷ rest) number long period = absurd (omega arith)

pub more_digits : (digits : List ℕ) → (length digits ≡ 1 → ⊥) → (length digits ≡ 2 → ⊥) → (period : ℕ) → (period ≤ 35) × (digits ≡ decimal period) → ⊥
more_digits digits one two period form = elim (period_digits period form.0) [
  | inl short ↦ one (ap length (form.1 ∙ short.1))
  | inr more ↦ two (ap length (form.1 ∙ more.1))
]
