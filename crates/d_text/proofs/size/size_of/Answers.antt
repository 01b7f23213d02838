use Rattle.std.proofs.Common.{◌≡◌, ◌<◌, ◌+◌, ◌-◌, ◌^◌, Option, None, Some, IfNone, arith, inl, inr}
use Rattle.std.proofs.lemmas.Option.{IfSome_then}
use Rattle.d_text.specs.declared.size.Size.{Size}
use Rattle.d_text.proofs.SizeFacts.{power-le, positive, order, larger-size, above-all, smaller-size, far-size, power-three}
use Rattle.d_text.proofs.size.size_of.Goals as goal

pub returns-then-under-over-clause-some : goal.returns-then-under-over-clause-some
returns-then-under-over-clause-some c =
    let places : c.args.over + c.args.number.dropped ≡ c.args.under + (c.args.over + c.args.number.dropped - c.args.under) = omega arith in
    IfSome_then c.larger.result c.larger.ensures.some
    (λ s h n k. larger-size s n c.args.number.top c.args.number.dropped c.args.over c.args.under (c.args.over + c.args.number.dropped - c.args.under) c.args.number.lost k places h.0 h.1 h.2)

none_then : (r : Option Size) (P Q : Type 0) → IfNone r P → (P → Q) → IfNone r Q
none_then None P Q h f = f h
none_then (Some s) P Q h f = tt

pub returns-then-under-over-clause-none : goal.returns-then-under-over-clause-none
returns-then-under-over-clause-none c =
    let places : c.args.over + c.args.number.dropped ≡ c.args.under + (c.args.over + c.args.number.dropped - c.args.under) = omega arith in
    let some : 0 < c.args.number.top = omega arith in
    none_then c.larger.result _ _ c.larger.ensures.none
    (λ why n k. above-all n c.args.number.top c.args.number.dropped c.args.over c.args.under (c.args.over + c.args.number.dropped - c.args.under) c.args.number.lost k some places why)

pub returns-else-under-over-clause-some : goal.returns-else-under-over-clause-some
returns-else-under-over-clause-some c = λ n k.
    let places : c.args.under ≡ c.args.under - c.args.over - c.args.number.dropped + (c.args.number.dropped + c.args.over) = omega arith in
    let some : 0 < c.args.number.top = omega arith in
    let three = power-three (c.args.under - c.args.over - c.args.number.dropped) c.args.number.dropped c.args.over c.args.under places in
    rw three (elim (order (c.args.under - c.args.over - c.args.number.dropped) 38) [
      | inl near ↦ smaller-size c.smaller.result n c.args.number.top (10 ^ c.args.number.dropped) (10 ^ c.args.over) (10 ^ (c.args.under - c.args.over - c.args.number.dropped)) c.args.number.lost
          (positive c.args.number.dropped) (positive c.args.over) (positive (c.args.under - c.args.over - c.args.number.dropped)) k.least k.most k.exact k.inexact (c.smaller.ensures.near near)
      | inr far ↦ far-size c.smaller.result n c.args.number.top (10 ^ c.args.number.dropped) (10 ^ c.args.over) (10 ^ (c.args.under - c.args.over - c.args.number.dropped))
          (positive c.args.number.dropped) (positive c.args.over) some c.requires.top (power-le 38 (c.args.under - c.args.over - c.args.number.dropped) (omega arith)) k.least k.most (c.smaller.ensures.far far).0 (c.smaller.ensures.far far).1
    ])
