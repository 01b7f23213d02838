use Rattle.std.proofs.Common.{◌≡◌, ℕ, ◌*◌, ◌^◌, pos, List, Option, [], ◌∷◌, arith, refl, ◌∙◌, subst}
use Rattle.std.proofs.lemmas.List.{length-set}
use Rattle.std.proofs.lemmas.List.Elements.{All-replicate, All-set}
use Rattle.std.proofs.lemmas.Int.{ints}
use Rattle.std.proofs.lemmas.Result.{err_from_is_err_and}
use Rattle.d_num.specs.Amount.{IsWithin}
use Rattle.d_urdb.specs.declared.fault.Refused.{Refused}
use Rattle.d_urdb.specs.Checks.{Passes}
use Rattle.d_urdb.specs.Items.{item_number}
use Rattle.d_urdb.specs.Months.{item_refusal}
use Rattle.d_urdb.specs.Numbers.{CellReader}
use Rattle.d_urdb.specs.Refusals.{each}
use Rattle.d_urdb.specs.Shown.{row_of}
use Rattle.d_urdb.proofs.MonthLoops.{first_more}
use Rattle.d_urdb.proofs.NamedFacts.{kept_units}
use Rattle.d_urdb.proofs.RefusalOrder.{none_yet, one_more, refused_here}
use Rattle.d_urdb.proofs.row.Record.item_numbers.Goals as goal

pub loop-month-init : goal.loop-month-init
loop-month-init c = (
  none_yet (λ reader month. item_refusal reader (row_of c.args.self.now) c.args.items.now.list c.args.limit month ∷ []),
  λ reader are month below. absurd (omega (arith, below)),
  All-replicate (IsWithin (c.args.limit * 10 ^ 18)) 12 (pos 0) (omega (arith, ints), omega (arith, ints)),
  refl,
)

pub returns-in_err-numbers-clause-refusals : goal.returns-in_err-numbers-clause-refusals
returns-in_err-numbers-clause-refusals c =
    let p = err_from_is_err_and c.from_residual.result c.from_residual.ensures.1 in
    let list : CellReader → ℕ → List (Option Refused) =
    λ reader month. item_refusal reader (row_of c.args.self.now) c.args.items.now.list c.args.limit month ∷ [] in
    rw (p.1, p.2) (refused_here 12 c.loop-month.month list c.in_err-numbers.field-0.0 (omega arith) c.loop-month.invariant.0 c.in_err-numbers.ensures.refusals)

pub loop-month-preserved : goal.loop-month-preserved
loop-month-preserved c =
    let row = row_of c.args.self.now in
    let month = c.loop-month.month in
    let list : CellReader → ℕ → List (Option Refused) =
    λ reader month. item_refusal reader row c.args.items.now.list c.args.limit month ∷ [] in
    let kept = kept_units c.args.limit c.in_ok-numbers.field-0 c.requires.limit c.in_ok-numbers.ensures.range in
    rw (c.from.ensures, kept) (
      one_more month list c.loop-month.invariant.0 c.in_ok-numbers.ensures.refusals,
      λ reader are.
          first_more (item_number reader row c.args.items.now.list c.args.limit) (pos 0) c.in_ok-numbers.field-0 month c.loop-month.numbers
          (omega (arith, c.loop-month.invariant.3, c.loop-month-test.true)) (c.loop-month.invariant.1 reader are)
          (c.in_ok-numbers.ensures.value reader are),
      All-set (IsWithin (c.args.limit * 10 ^ 18)) c.loop-month.numbers month c.in_ok-numbers.field-0 c.in_ok-numbers.ensures.range c.loop-month.invariant.2,
      length-set c.loop-month.numbers month c.in_ok-numbers.field-0 ∙ c.loop-month.invariant.3,
    )

pub returns-clause-refusals : goal.returns-clause-refusals
returns-clause-refusals c =
    let list : CellReader → ℕ → List (Option Refused) =
    λ reader month. item_refusal reader (row_of c.args.self.now) c.args.items.now.list c.args.limit month ∷ [] in
    let all : c.loop-month.month ≡ 12 = omega arith in
    subst (λ n. Passes (λ reader. each n (list reader))) all c.loop-month.invariant.0

pub returns-clause-value : goal.returns-clause-value
returns-clause-value c reader are month below = c.loop-month.invariant.1 reader are month (omega (arith, below))

pub returns-clause-range : goal.returns-clause-range
returns-clause-range c = c.loop-month.invariant.2
