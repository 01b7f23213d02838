use Rattle.std.proofs.Common.{◌≡◌, ◌++◌, ◌∷◌, List, ℕ, length, drop, arith, rules, ap, ◌∙◌, sym, unsigned_abs, FitsSigned, to_z, of_z}
use Rattle.std.specs.Int.{w128}
use Rattle.std.proofs.lemmas.Int.{to_z-of_z}
use Rattle.d_text.specs.Text.{size_text}
use Rattle.d_text.proofs.Rooms.{minus-part}
use Rattle.d_text.proofs.Decimals.{amount-negative}
use Rattle.d_text.proofs.text.put_amount.Goals as goal

pub returns-then-units-lt0 : goal.returns-then-units-lt0
returns-then-units-lt0 c =
    let fits : FitsSigned w128 c.args.units = search rules in
    let same : to_z w128 (of_z w128 c.args.units) ≡ c.args.units = to_z-of_z w128 c.args.units fits in
    let size = ap (λ (n : ℕ). 45 ∷ size_text c.args.places n) (c.unsigned_abs.ensures.value ∙ ap unsigned_abs same) in
    let text = size ∙ sym (amount-negative c.args.places c.args.units (rw same at c.if-units-lt0.true)) in
    let room = minus-part c.put-from.result (size_text c.args.places c.unsigned_abs.result) c.args.room.now c.put-from.new.room c.put_size.new.room c.put-from.ensures.behind c.put-from.ensures.room c.put_size.ensures.room in
    let long = ap (length {A = ℕ}) text in
    record {
      ends = omega arith;
      writes = room ∙ ap (λ (t : List ℕ). t ++ drop (length t) c.args.room.now) text;
    }
