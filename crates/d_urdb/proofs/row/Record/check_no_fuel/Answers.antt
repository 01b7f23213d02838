use Rattle.std.proofs.Common.{◌≡◌, ℕ, ◌<◌, ◌*◌, ◌^◌, List, Option, [], ◌∷◌, length, refl, ap, ◌∙◌, arith, subst}
use Rattle.d_urdb.specs.declared.fault.Refused.{Refused}
use Rattle.d_urdb.specs.Checks.{Passes}
use Rattle.d_urdb.specs.Months.{item_column}
use Rattle.d_urdb.specs.Periods.{price_limit}
use Rattle.d_urdb.specs.Numbers.{CellReader}
use Rattle.d_urdb.specs.Adjustments.{fuel_refusal}
use Rattle.d_urdb.specs.Refusals.{each}
use Rattle.d_urdb.specs.Shown.{row_of}
use Rattle.d_urdb.proofs.CheckFacts.{refusal_same}
use Rattle.d_urdb.proofs.KeptNumbers.{zero_at, other_at}
use Rattle.d_urdb.proofs.FuelFacts.{fuel_passes, fuel_refuses}
use Rattle.d_urdb.proofs.RefusalOrder.{none_yet, one_more, refused_here}
use Rattle.d_urdb.proofs.row.Record.check_no_fuel.Goals as goal
use Rattle.d_urdb.specs.declared.cause.Cause.TheVariants as cause

pub loop-month-init : goal.loop-month-init
loop-month-init c = none_yet (λ reader month. fuel_refusal reader (row_of c.args.self.now) month ∷ [])

pub returns-then-numbers-from-ne0 : goal.returns-then-numbers-from-ne0
returns-then-numbers-from-ne0 c =
    let row = row_of c.args.self.now in
    let month = c.loop-month.month in
    let list : CellReader → ℕ → List (Option Refused) = λ reader month. fuel_refusal reader row month ∷ [] in
    let within : month < length c.args.numbers.now = omega (arith, c.told-numbers, c.loop-month-test.true) in
    let test = other_at (price_limit * 10 ^ 18) c.args.numbers.now month c.from.result (omega arith) c.requires.small within c.from.ensures c.if-numbers-from-ne0.true in
    let column = c.item_column-column.ensures.value ∙ ap (λ list. item_column row list month) c.requires.items.list_is in
    refused_here 12 month list c.refusal.result c.loop-month-test.true c.loop-month.invariant
    (λ reader are.
    fuel_refuses reader row month _ c.refusal.result (c.requires.numbers reader are month c.loop-month-test.true) test
    (refusal_same _ cause.FuelAdjustment _ _ 0 0 c.refusal.result c.refusal.ensures column refl))

pub loop-month-preserved : goal.loop-month-preserved
loop-month-preserved c =
    let row = row_of c.args.self.now in
    let month = c.loop-month.month in
    let list : CellReader → ℕ → List (Option Refused) = λ reader month. fuel_refusal reader row month ∷ [] in
    let within : month < length c.args.numbers.now = omega (arith, c.told-numbers, c.loop-month-test.true) in
    let test = zero_at (price_limit * 10 ^ 18) c.args.numbers.now month c.from.result (omega arith) c.requires.small within c.from.ensures c.if-numbers-from-ne0.false in
    one_more month list c.loop-month.invariant
    (λ reader are. fuel_passes reader row month _ (c.requires.numbers reader are month c.loop-month-test.true) test)

pub returns : goal.returns
returns c =
    let list : CellReader → ℕ → List (Option Refused) = λ reader month. fuel_refusal reader (row_of c.args.self.now) month ∷ [] in
    let all : c.loop-month.month ≡ 12 = omega arith in
    subst (λ n. Passes (λ reader. each n (list reader))) all c.loop-month.invariant
