use Rattle.std.proofs.Common.{◌≡◌, ◌/◌, ◌%◌, ◌<◌, ◌^◌, ◌++◌, ◌∷◌, [], List, ℕ, zero, suc, decimal, arith, ap, ap₂, ◌∙◌}
use Rattle.std.proofs.Math.Nat.{pow-zero, pow-suc}
use Rattle.d_text.specs.Text as spec
use Rattle.d_text.proofs.Rooms.{with_part, three-parts}
use Rattle.d_text.proofs.text.put_size.Goals as goal

positive : (places : ℕ) → 0 < 10 ^ places
positive zero = omega (arith, pow-zero 10)
positive (suc places) = omega (arith, pow-suc 10 places, positive places)

some : (whole places : ℕ) → whole ≡ 10 ^ places → 0 < whole
some whole places e = omega (arith, positive places)

pub nonzero_div-units : goal.nonzero_div-units
nonzero_div-units c = some c.args.whole c.args.places c.requires.whole

pub nonzero_rem-units : goal.nonzero_rem-units
nonzero_rem-units c = some c.args.whole c.args.places c.requires.whole

below : (units whole places : ℕ) → whole ≡ 10 ^ places → units % whole < 10 ^ places
below units whole places e = let positive = some whole places e in omega arith

pub padded-digits-requires-clause-fits : goal.padded-digits-requires-clause-fits
padded-digits-requires-clause-fits c = below c.args.units c.args.whole c.args.places c.requires.whole

pub returns-clause-room : goal.returns-clause-room
returns-clause-room c =
    let whole = c.as_bytes.ensures.value ∙ c.format.ensures.text in
    let decimals = c.shortened.ensures.value ∙ ap spec.shortened c.padded-digits.ensures in
    let text = ap₂ (λ (w d : List ℕ). w ++ 46 ∷ d) whole decimals ∙ ap (λ (n : ℕ). decimal (c.args.units / n) ++ 46 ∷ spec.shortened (spec.zero_padded c.args.places (c.args.units % n))) c.requires.whole in
    three-parts c.args.from c.put-point.result c.put-decimals.result c.as_bytes.result.now (46 ∷ []) c.shortened.result.now c.args.room.now c.put-point.new.room c.put-decimals.new.room c.put.new.room
    (omega arith) c.put-point.ensures.behind c.put-decimals.ensures.behind c.put-point.ensures.room c.put-decimals.ensures.room c.put.ensures.room
    ∙ ap (λ (t : List ℕ). with_part c.args.from t c.args.room.now) text
