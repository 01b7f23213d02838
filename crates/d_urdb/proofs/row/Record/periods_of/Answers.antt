use Rattle.std.proofs.Common.{◌≡◌, ℕ, ◌≤◌, List, Option, [], ◌∷◌, arith, refl, ◌∙◌, subst}
use Rattle.std.proofs.lemmas.List.{length-set}
use Rattle.std.proofs.lemmas.List.Elements.{All-replicate, All-set}
use Rattle.std.proofs.lemmas.Result.{err_from_is_err_and}
use Rattle.d_urdb.specs.declared.fault.Refused.{Refused}
use Rattle.d_urdb.specs.Checks.{Passes}
use Rattle.d_urdb.specs.FlatMonths.{month_refusal, flat_month}
use Rattle.d_urdb.specs.Numbers.{CellReader}
use Rattle.d_urdb.specs.Refusals.{each}
use Rattle.d_urdb.specs.Shown.{row_of}
use Rattle.d_urdb.proofs.FlatFacts.{flat_all}
use Rattle.d_urdb.proofs.MonthLoops.{first_more}
use Rattle.d_urdb.proofs.RefusalOrder.{none_yet, one_more, refused_here}
use Rattle.d_urdb.proofs.row.Record.periods_of.Goals as goal

pub loop-month-init : goal.loop-month-init
loop-month-init c = (
  none_yet (λ reader month. month_refusal reader (row_of c.args.self.now) month ∷ []),
  λ reader are month below. absurd (omega (arith, below)),
  All-replicate (λ (period : ℕ). period ≤ 35) 12 0 (omega arith),
  refl,
)

pub returns-in_err-months-clause-refusals : goal.returns-in_err-months-clause-refusals
returns-in_err-months-clause-refusals c =
    let p = err_from_is_err_and c.from_residual.result c.from_residual.ensures.1 in
    let list : CellReader → ℕ → List (Option Refused) = λ reader month. month_refusal reader (row_of c.args.self.now) month ∷ [] in
    rw (p.1, p.2) (refused_here 12 c.loop-month.month list c.in_err-months.field-0.0 (omega arith) c.loop-month.invariant.0 c.in_err-months.ensures.refusals)

pub loop-month-preserved : goal.loop-month-preserved
loop-month-preserved c =
    let row = row_of c.args.self.now in
    let month = c.loop-month.month in
    let list : CellReader → ℕ → List (Option Refused) = λ reader month. month_refusal reader row month ∷ [] in
    rw c.from.ensures (
      one_more month list c.loop-month.invariant.0 c.in_ok-months.ensures.refusals,
      λ reader are.
          first_more (flat_month reader row) 0 c.in_ok-months.field-0 month c.loop-month.months (omega (arith, c.loop-month.invariant.3, c.loop-month-test.true)) (c.loop-month.invariant.1 reader are)
          (c.in_ok-months.ensures.value reader are),
      All-set (λ (period : ℕ). period ≤ 35) c.loop-month.months month c.in_ok-months.field-0 c.in_ok-months.ensures.range c.loop-month.invariant.2,
      length-set c.loop-month.months month c.in_ok-months.field-0 ∙ c.loop-month.invariant.3,
    )

pub returns-clause-refusals : goal.returns-clause-refusals
returns-clause-refusals c =
    let list : CellReader → ℕ → List (Option Refused) = λ reader month. month_refusal reader (row_of c.args.self.now) month ∷ [] in
    let all : c.loop-month.month ≡ 12 = omega arith in
    subst (λ n. Passes (λ reader. each n (list reader))) all c.loop-month.invariant.0

pub returns-clause-value : goal.returns-clause-value
returns-clause-value c reader are =
    flat_all reader (row_of c.args.self.now) c.loop-month.month c.loop-month.months (omega arith) c.loop-month.invariant.3 (c.loop-month.invariant.1 reader are)

pub returns-clause-range : goal.returns-clause-range
returns-clause-range c = c.loop-month.invariant.2
