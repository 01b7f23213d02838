-- The budget of a plan is one.
use Rattle.std.proofs.Common.{◌≡◌, ℕ, zero, suc, ◌+◌, ◌-◌, ◌*◌, ◌/◌, ◌%◌, ◌^◌, ◌<◌, ◌≤◌, List, Option, None, Some, length, refl, sym, subst, arith}
use Rattle.std.proofs.lemmas.Nat.{mul-le}
use Rattle.d_bill.specs.Inputs.{Inputs, IsInRange}
use Rattle.d_bill.proofs.Deciding.{Decided, holds, fails, at_most}
use Rattle.d_words.specs.Words.{GivesBudget}
use Rattle.d_search.specs.Budgets.{product, IsDefaultBudget}
use Rattle.d_run.specs.Answer.{IsBudgetOf, levels_of}

-- two defaults for the same sizes are one
default_same : (intervals levels one other : ℕ) → IsDefaultBudget intervals levels one → IsDefaultBudget intervals levels other → one ≡ other
default_same intervals levels one other is also =
    let up = is.greatest other also.odd also.most also.within in
    let down = also.greatest one is.odd is.most is.within in
    omega (arith, up, down)

-- the greatest number of pairs that fits
record IsMostPairs (size pairs : ℕ) : Type 0 where
  some : 1 ≤ pairs
  few : pairs ≤ 128
  fits : pairs * size ≤ 2 ^ 24
  more : (other : ℕ) → pairs < other → other ≤ 128 → 2 ^ 24 < other * size

-- one number less is looked at
one_less : (size n : ℕ) → n ≤ 126 → ((other : ℕ) → suc (suc n) < other → other ≤ 128 → 2 ^ 24 < other * size)
    → (((other : ℕ) → suc n < other → other ≤ 128 → 2 ^ 24 < other * size) → (pairs : ℕ) × IsMostPairs size pairs)
    → Decided (suc (suc n) * size ≤ 2 ^ 24) → (pairs : ℕ) × IsMostPairs size pairs
one_less size n within more next (holds fits) = (suc (suc n), record { some = omega arith; few = omega (arith, within); fits = fits; more = more })
one_less size n within more next (fails not) = next (λ other above below. by_place other above below (at_most other (suc (suc n))))
  where
    by_place : (other : ℕ) → suc n < other → other ≤ 128 → Decided (other ≤ suc (suc n)) → 2 ^ 24 < other * size
    by_place other above below (holds le) =
        let same : other ≡ suc (suc n) = omega (arith, above, le) in
        let big : 2 ^ 24 < suc (suc n) * size = omega (arith, not) in
        subst (λ (m : ℕ). 2 ^ 24 < m * size) (sym same) big
    by_place other above below (fails far) = more other (omega (arith, far)) below

most_pairs : (size : ℕ) → size ≤ 2 ^ 24 → (pairs : ℕ) × IsMostPairs size pairs
most_pairs size small = down 127 (omega arith) (λ other above below. absurd (omega (arith, above, below)))
  where
    down : (n : ℕ) → n ≤ 127 → ((other : ℕ) → suc n < other → other ≤ 128 → 2 ^ 24 < other * size) → (pairs : ℕ) × IsMostPairs size pairs
    down zero within more = (1, record { some = omega arith; few = omega arith; fits = omega (arith, small); more = more })
    down (suc n) within more =
        one_less size n (omega (arith, within)) more (λ rest. down n (omega (arith, within)) rest) (at_most (suc (suc n) * size) (2 ^ 24))

-- there is a default
default_there : (intervals levels : ℕ) → (intervals + 1) * levels ≤ 2 ^ 24 → (budget : ℕ) × IsDefaultBudget intervals levels budget
default_there intervals levels small = of_pairs (most_pairs ((intervals + 1) * levels) small)
  where
    half : (pairs : ℕ) → 1 ≤ pairs → (2 * pairs - 1 + 1) / 2 ≡ pairs
    half pairs some = omega (arith, some)

    of_pairs : (pairs : ℕ) × IsMostPairs ((intervals + 1) * levels) pairs → (budget : ℕ) × IsDefaultBudget intervals levels budget
    of_pairs (pairs, is) = (
      2 * pairs - 1,
      record {
        some = omega (arith, is.some);
        odd = omega (arith, is.some);
        most = omega (arith, is.few);
        within = subst (λ (n : ℕ). n * ((intervals + 1) * levels) ≤ 2 ^ 24) (sym (half pairs is.some)) is.fits;
        greatest = λ other odd most within. by_place other odd most within (at_most ((other + 1) / 2) pairs);
      },
    )
      where
        by_place : (other : ℕ) → other % 2 ≡ 1 → other ≤ 255 → product other intervals levels ≤ 2 ^ 24 → Decided ((other + 1) / 2 ≤ pairs) → other ≤ 2 * pairs - 1
        by_place other odd most within (holds le) = omega (arith, odd, le)
        by_place other odd most within (fails far) =
            let big = is.more ((other + 1) / 2) (omega (arith, far)) (omega (arith, most)) in
            absurd (omega (arith, big, within))

-- the budget of a plan, and no other
pub record IsOnlyBudget (i : Inputs) (given : Option ℕ) (budget : ℕ) : Type 0 where
  pub is : IsBudgetOf i given budget
  pub some : 1 ≤ budget
  pub only : (other : ℕ) → IsBudgetOf i given other → other ≡ budget

-- a budget that words give is at least 1
pub given_some : (text : Option (List ℕ)) (given : Option ℕ) → GivesBudget text given → (budget : ℕ) → given ≡ Some budget → 1 ≤ budget
given_some None None gives budget same = absurd cc
given_some None (Some other) gives budget same = absurd gives
given_some (Some t) None gives budget same = absurd gives
given_some (Some t) (Some other) gives budget same =
    let e : other ≡ budget = cc in
    omega (arith, gives.range.0, e)

-- each problem has one
pub budget_one : (i : Inputs) (given : Option ℕ) → IsInRange i → ((budget : ℕ) → given ≡ Some budget → 1 ≤ budget) → (budget : ℕ) × IsOnlyBudget i given budget
budget_one i (Some given) fine some = (given, record { is = refl; some = some given refl; only = λ other is. is })
budget_one i None fine some = of_default (default_there (length i.net) (levels_of i.storage) small)
  where
    few : levels_of i.storage ≤ 256
    few = let top = fine.storage.top in omega (arith, top)

    small : (length i.net + 1) * levels_of i.storage ≤ 2 ^ 24
    small =
        let long = fine.few_intervals in
        let most = mul-le (length i.net + 1) (levels_of i.storage) 8929 256 (omega (arith, long)) few in
        omega (arith, most)

    of_default : (budget : ℕ) × IsDefaultBudget (length i.net) (levels_of i.storage) budget → (budget : ℕ) × IsOnlyBudget i None budget
    of_default (budget, is) = (budget, record { is = is; some = is.some; only = λ other also. default_same _ _ other budget also is })
