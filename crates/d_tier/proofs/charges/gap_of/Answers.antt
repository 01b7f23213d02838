use Rattle.std.proofs.Common.{◌≡◌, ℤ, ◌*◌, ◌^◌, ◌*ℤ◌, to_z, of_z, w64, arith, ap, ◌∙◌}
use Rattle.std.proofs.lemmas.Int.{ints, to_z-of_z}
use Rattle.d_num.specs.Amount.{IsWithin}
use Rattle.d_num.proofs.Products.{product_within}
use Rattle.d_tier.proofs.charges.gap_of.Goals as goal

pub minus-requires : goal.minus-requires
minus-requires c =
    let slope : IsWithin (10 ^ 22) c.args.slope = rw c.units-units.ensures.value at c.units-units.ensures.range in
    let amount = c.requires.amount in
    let kept : to_z w64 (of_z w64 c.args.amount) ≡ c.args.amount = to_z-of_z w64 c.args.amount c.ranges.amount in
    let is : c.times.result ≡ c.args.slope *ℤ c.args.amount = c.times.ensures ∙ ap (λ (z : ℤ). c.args.slope *ℤ z) kept in
    let part : IsWithin (2 * 10 ^ 35) (c.args.slope *ℤ c.args.amount) = product_within (10 ^ 22) (2 * 10 ^ 13) c.args.slope c.args.amount slope (omega (arith, ints), omega (arith, ints)) in
    let charge = c.charge_of.ensures.range in
    rw is (omega (arith, ints, charge.0, charge.1, part.0, part.1), omega (arith, ints, charge.0, charge.1, part.0, part.1))
