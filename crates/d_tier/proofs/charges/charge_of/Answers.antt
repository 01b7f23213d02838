use Rattle.std.proofs.Common.{◌≡◌, ◌+◌, ◌*◌, ◌^◌, ℤ, ◌+ℤ◌, ◌-ℤ◌, ◌*ℤ◌, to_z, of_z, w64, arith, sym, ap, subst, ◌∙◌}
use Rattle.std.proofs.lemmas.Int.{ints, to_z-of_z}
use Rattle.d_num.specs.Amount.{IsWithin, IsUpTo}
use Rattle.d_tier.specs.Charges.{part_end, tier_charge}
use Rattle.d_tier.proofs.ChargeFacts.{IsChargedTo, charged_more, charged_whole, charged_part, charged_within, charged_money, IsNextPart, next_part}
use Rattle.d_tier.proofs.charges.charge_of.Goals as goal
use Rattle.d_tier.proofs.charges.charge_of.Goals.{After-end_of_part-end, After-times, After-plus-charge}

-- the facts of the next part
part : (c : After-end_of_part-end) → IsNextPart (to_z w64 (of_z w64 c.args.amount)) (to_z w64 c.loop-tier.begin-bits) c.end_of_part-end.result
part c =
    let x = to_z w64 (of_z w64 c.args.amount) in
    let x_is : x ≡ c.args.amount = to_z-of_z w64 c.args.amount c.ranges.amount in
    let so_far = c.loop-tier.invariant in
    let is = sym c.end_of_part-end.ensures in
    let between = charged_part c.args.tiers.now x c.loop-tier.tier-index (to_z w64 c.loop-tier.begin-bits) c.loop-tier.charge c.tier-item.result so_far c.loop-tier-test.true c.tier-item.is in
    let range : IsUpTo (2 * 10 ^ 13) x = rw x_is c.requires.amount in
    next_part x (to_z w64 c.loop-tier.begin-bits) c.end_of_part-end.result range so_far.low (rw is at between.0) (rw is at between.1)

-- the charge with one more part
charged : (c : After-plus-charge) → IsNextPart (to_z w64 (of_z w64 c.args.amount)) (to_z w64 c.loop-tier.begin-bits) c.end_of_part-end.result
    → c.loop-tier.charge +ℤ c.tier-item.result.price *ℤ (part_end c.tier-item.result.end (to_z w64 (of_z w64 c.args.amount)) -ℤ to_z w64 c.loop-tier.begin-bits) ≡ c.plus-charge.result
charged c p =
    let begin = to_z w64 c.loop-tier.begin-bits in
    let price = c.tier-item.result.price in
    sym (c.plus-charge.ensures ∙ ap (λ (z : ℤ). c.loop-tier.charge +ℤ z) (c.times.ensures ∙ ap (λ (z : ℤ). price *ℤ z) (p.part_is ∙ ap (λ (z : ℤ). z -ℤ begin) c.end_of_part-end.ensures)))

pub times-requires : goal.times-requires
times-requires c =
    let p = part (goal.at.times-requires c).After-end_of_part-end in
    rw p.part_is (let range = p.range in let low = p.low in let from = p.from in let below = p.below in (omega (arith, ints, range.1), omega (arith, ints, range.1)))

-- the charge with one more part is in range
within : (c : After-times) → IsNextPart (to_z w64 (of_z w64 c.args.amount)) (to_z w64 c.loop-tier.begin-bits) c.end_of_part-end.result → IsWithin (2 * 10 ^ 35) (c.loop-tier.charge +ℤ c.times.result)
within c p =
    let price : IsWithin (10 ^ 22) c.tier-item.result.price = rw c.units-units.ensures.value at c.units-units.ensures.range in
    let e : c.times.result ≡ c.tier-item.result.price *ℤ (c.end_of_part-end.result -ℤ to_z w64 c.loop-tier.begin-bits) = c.times.ensures ∙ ap (λ (z : ℤ). c.tier-item.result.price *ℤ z) p.part_is in
    rw e (charged_within (to_z w64 (of_z w64 c.args.amount)) (to_z w64 c.loop-tier.begin-bits) c.end_of_part-end.result c.loop-tier.charge c.tier-item.result.price p.range c.loop-tier.invariant.small price p.low p.from p.below)

pub plus-charge-requires : goal.plus-charge-requires
plus-charge-requires c =
    let s = goal.at.plus-charge-requires c in
    charged_money _ (within s.After-times (part s.After-end_of_part-end))

pub returns-then-end-amount-clause-range : goal.returns-then-end-amount-clause-range
returns-then-end-amount-clause-range c =
    let s = goal.at.returns-then-end-amount-clause-range c in
    rw c.plus-charge.ensures (within s.After-times (part s.After-end_of_part-end))

pub returns-then-end-amount-clause-value : goal.returns-then-end-amount-clause-value
returns-then-end-amount-clause-value c =
    let s = goal.at.returns-then-end-amount-clause-value c in
    let p = part s.After-end_of_part-end in
    let x = to_z w64 (of_z w64 c.args.amount) in
    let x_is : x ≡ c.args.amount = to_z-of_z w64 c.args.amount c.ranges.amount in
    let same : to_z w64 (of_z w64 c.end_of_part-end.result) ≡ x = ap (to_z w64) c.if-end-amount.true in
    let held : part_end c.tier-item.result.end x ≡ x = sym c.end_of_part-end.ensures ∙ sym p.end_is ∙ same in
    sym (charged s.After-plus-charge p)
    ∙ charged_whole c.args.tiers.now x c.loop-tier.tier-index (to_z w64 c.loop-tier.begin-bits) c.loop-tier.charge c.tier-item.result c.loop-tier.invariant c.loop-tier-test.true c.tier-item.is held
    ∙ ap (tier_charge c.args.tiers.now) x_is

pub loop-tier-preserved : goal.loop-tier-preserved
loop-tier-preserved c =
    let s = goal.at.loop-tier-preserved c in
    let p = part s.After-end_of_part-end in
    let ts = c.args.tiers.now in
    let x = to_z w64 (of_z w64 c.args.amount) in
    let x_is : x ≡ c.args.amount = to_z-of_z w64 c.args.amount c.ranges.amount in
    let price : IsWithin (10 ^ 22) c.tier-item.result.price = rw c.units-units.ensures.value at c.units-units.ensures.range in
    let more = λ (same : part_end c.tier-item.result.end x ≡ x). c.if-end-amount.false (ap (of_z w64) (c.end_of_part-end.ensures ∙ same ∙ x_is)) in
    let step = charged_more ts x c.loop-tier.tier-index (to_z w64 c.loop-tier.begin-bits) c.loop-tier.charge c.tier-item.result c.loop-tier.invariant c.loop-tier-test.true c.tier-item.is price more in
    let at_end : IsChargedTo ts x (c.loop-tier.tier-index + 1) (part_end c.tier-item.result.end x) c.plus-charge.result =
    subst (λ (z : ℤ). IsChargedTo ts x (c.loop-tier.tier-index + 1) (part_end c.tier-item.result.end x) z) (charged s.After-plus-charge p) step in
    subst (λ (z : ℤ). IsChargedTo ts x (c.loop-tier.tier-index + 1) z c.plus-charge.result) (sym (p.end_is ∙ c.end_of_part-end.ensures)) at_end
