use Rattle.std.proofs.Common.{◌≤◌, ◌*◌, ◌^◌, arith, rules, inl, inr}
use Rattle.std.proofs.lemmas.Nat.{mul-le}
use Rattle.d_text.specs.Decimal.{Written, size_over, size_under}
use Rattle.d_text.specs.Size.{IsSize, Says}
use Rattle.d_text.proofs.SizeFacts.{power-le, said-size, said-above, under-positive, size-above, size-within, above-limit}
use Rattle.d_text.proofs.size.size_within.Goals as goal
use Rattle.d_text.proofs.size.size_within.Goals.{In-Some}

size_is : (c : In-Some) (w : Written) → Says c.args.scan w → IsSize c.in-Some.size (size_over w c.args.places) (size_under w)
size_is c w h = said-size c.args.scan w c.in-Some.size c.args.places c.over-over.result c.under-under.result h c.requires.short c.requires.places c.over-over.ensures c.under-under.ensures c.in-Some.ensures.near c.in-Some.ensures.far c.in-Some.ensures.some

pub returns-then-is_above-clause-none : goal.returns-then-is_above-clause-none
returns-then-is_above-clause-none c = λ w h within.
    let f = rw c.pow.ensures at (c.is_above.ensures.yes c.if-is_above.true) in
    size-above c.in-Some.size (c.args.limit * 10 ^ c.args.places) (size_over w c.args.places) (size_under w) (under-positive w) (size_is (goal.at.returns-then-is_above-clause-none c).In-Some w h) f within

pub returns-else-is_above-clause-limit : goal.returns-else-is_above-clause-limit
returns-else-is_above-clause-limit c = λ w h.
    let f = rw c.pow.ensures at (c.is_above.ensures.no c.if-is_above.false) in
    size-within c.in-Some.size (c.args.limit * 10 ^ c.args.places) (size_over w c.args.places) (size_under w) (size_is (goal.at.returns-else-is_above-clause-limit c).In-Some w h) f

pub returns-else-is_above-clause-size : goal.returns-else-is_above-clause-size
returns-else-is_above-clause-size c = λ w h. size_is (goal.at.returns-else-is_above-clause-size c).In-Some w h

pub returns-else-is_above-clause-most : goal.returns-else-is_above-clause-most
returns-else-is_above-clause-most c =
    let unit : 10 ^ c.args.places ≤ 10 ^ 18 = power-le c.args.places 18 c.requires.places in
    let most : c.args.limit * 10 ^ c.args.places ≤ 10 ^ 10 * 10 ^ 18 = mul-le c.args.limit (10 ^ c.args.places) (10 ^ 10) (10 ^ 18) c.requires.limit unit in
    let f = rw c.pow.ensures at (c.is_above.ensures.no c.if-is_above.false) in
    elim f [ inl lt ↦ omega arith | inr e ↦ (let le : c.in-Some.size.floor ≤ c.args.limit * 10 ^ c.args.places = e.0 in omega arith) ]

pub returns-in-None-clause-none : goal.returns-in-None-clause-none
returns-in-None-clause-none c = λ w h within.
    above-limit c.args.limit c.args.places (size_under w) (size_over w c.args.places) c.requires.limit c.requires.places
    (said-above c.args.scan w c.args.places c.over-over.result c.under-under.result h c.requires.short c.requires.places c.over-over.ensures c.under-under.ensures (c.in-None.ensures.low (search rules)) c.in-None.ensures.none) within
