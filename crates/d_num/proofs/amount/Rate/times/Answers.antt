use Rattle.std.proofs.Common.{rules, ℤ, ◌*ℤ◌, ◌^◌, ◌∙◌, ap}
use Rattle.d_num.specs.Amount.{IsWithin}
use Rattle.d_num.proofs.Products.{kept_product, price_is_money}
use Rattle.d_num.proofs.amount.Rate.times.Goals as goal

pub invariant_of-result : goal.invariant_of-result
invariant_of-result c =
    let price : IsWithin (10 ^ 22) c.self.inside.0 = search rules in
    rw (kept_product c.self.inside.0 c.args.amount price c.requires) (price_is_money c.self.inside.0 c.args.amount price c.requires)

pub returns : goal.returns
returns c =
    let price : IsWithin (10 ^ 22) c.self.inside.0 = search rules in
    kept_product c.self.inside.0 c.args.amount price c.requires ∙ ap (λ (z : ℤ). z *ℤ c.args.amount) c.self.view_is
