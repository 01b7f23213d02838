use Rattle.std.proofs.Common.{◌≡◌, ◌*◌, ◌^◌, ◌*ℤ◌, ◌∙◌, ap, subst, ℤ, rules, FitsSigned, w64}
use Rattle.std.proofs.lemmas.Int.{to_z-of_z}
use Rattle.d_num.specs.Amount.{IsWithin}
use Rattle.d_num.proofs.Products.{product_within}
use Rattle.d_bound.proofs.costs.worth.Goals as goal
use Rattle.d_bound.proofs.costs.worth.Goals.{After-times}

-- the product is that of the rate and the amount
worth_is : (c : After-times) → c.times.result ≡ c.args.rate *ℤ c.args.amount
worth_is c =
    let fits : FitsSigned w64 c.value.result = search rules in
    c.times.ensures ∙ ap (λ (z : ℤ). c.args.rate *ℤ z) (to_z-of_z w64 c.value.result fits ∙ c.value.ensures.value)

pub returns-clause-value : goal.returns-clause-value
returns-clause-value c = worth_is c

pub returns-clause-range : goal.returns-clause-range
returns-clause-range c =
    let rate = subst (λ (z : ℤ). IsWithin (10 ^ 22) z) c.units-units.ensures.value c.units-units.ensures.range in
    let amount = subst (λ (z : ℤ). IsWithin (2 * 10 ^ 13) z) c.value.ensures.value c.value.ensures.range in
    rw (worth_is c) (product_within (10 ^ 22) (2 * 10 ^ 13) c.args.rate c.args.amount rate amount)
