-- How great a group's charges are.
use Rattle.std.proofs.Common.{ℕ, ℤ, ◌≡◌, ◌^◌, List, Option, Some, IfSome, sym, subst, arith}
use Rattle.std.specs.List.{All}
use Rattle.std.proofs.lemmas.Int.{ints}
use Rattle.d_num.specs.Amount.{IsUpTo, IsWithin, IsWatt}
use Rattle.d_tier.specs.declared.tier.Tier.{Tier}

within : (most : ℕ) (z : ℤ) → IsUpTo most z → IsWithin most z
within most z h = let low = h.0 in (omega (arith, ints), h.1)

-- prices that are from 0 to so much are of that size at most
pub prices_within : (most : ℕ) (tiers : List Tier) → All (λ tier. IsUpTo most tier.price) tiers → All (λ tier. IsWithin most tier.price) tiers
prices_within most tiers all k d lt = within most _ (all k d lt)

-- a power that was made of a number in range
pub power_of : (made : Option ℤ) (power number : ℤ) → IfSome made (λ x. x ≡ number) → made ≡ Some power → IsWatt number → IsUpTo (10 ^ 13) power
power_of made power number value some range =
    let here : IfSome (Some power) (λ x. x ≡ number) = subst (λ m. IfSome m (λ x. x ≡ number)) some value in
    subst (IsUpTo (10 ^ 13)) (sym here) range
