use Rattle.d_columns.proofs.TextFacts.{never, all_behind}
use Rattle.d_columns.proofs.NumberFacts.{front_digits, number_found, number_missing}
use Rattle.d_columns.proofs.reading.read_number.Goals as goal

pub is_tier_number-requires : goal.is_tier_number-requires
is_tier_number-requires c = rw c.number_end-end.ensures.value (front_digits c.args.text.now)

pub returns-then-is_tier_number : goal.returns-then-is_tier_number
returns-then-is_tier_number c digits rest =
    let number = rw c.number_end-end.ensures.value at (c.is_tier_number.ensures.0 c.if-is_tier_number.true) in
    rw (all_behind c.number_end-end.result c.args.text.now, c.number_end-end.ensures.value) (number_found c.args.text.now number digits rest)

pub returns-else-is_tier_number : goal.returns-else-is_tier_number
returns-else-is_tier_number c digits rest =
    let other = c.if-is_tier_number.false in
    let end = c.number_end-end.ensures.value in
    never (digits, rest) (number_missing c.args.text.now (λ number. let is = c.is_tier_number.ensures.1 (rw end number) in cc) digits rest)
