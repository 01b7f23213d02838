use Rattle.std.proofs.Common.{◌≡◌, ◌-◌, List, length, arith, subst}
use Rattle.std.specs.Bool.{⊤}
use Rattle.std.proofs.lemmas.Result.{err_from_is_err_and}
use Rattle.d_list.specs.Firsts.{each}
use Rattle.d_batt.specs.declared.mode.Mode.{Mode}
use Rattle.d_batt.specs.BatteryFile.{row_refusals, rows_refusals, modes}
use Rattle.d_batt.specs.Checks.{Passes}
use Rattle.d_batt.specs.Numbers.{Reads}
use Rattle.d_batt.proofs.Order.{none_yet, one_more, refused_here}
use Rattle.d_batt.proofs.RowFacts.{no_modes}
use Rattle.d_batt.proofs.row.read_rows.Goals as goal

pub loop-row-init : goal.loop-row-init
loop-row-init c = (none_yet (λ reader. row_refusals reader c.args.table.now), no_modes c.args.table.now c.new-modes.result c.new-modes.ensures)

pub returns-in_err-read_row-clause-refusals : goal.returns-in_err-read_row-clause-refusals
unfolding rows_refusals
returns-in_err-read_row-clause-refusals c =
    let p = err_from_is_err_and c.from_residual.result c.from_residual.ensures.1 in
    rw (p.1, p.2) (refused_here ⊤ (List Mode) (length c.args.table.now - 1) c.loop-row.row (λ reader. row_refusals reader c.args.table.now) c.in_err-read_row.field-0.0
    (omega arith) c.loop-row.invariant.0 c.in_err-read_row.ensures.refusals)

pub loop-row-preserved : goal.loop-row-preserved
loop-row-preserved c = (
  one_more c.loop-row.row (λ reader. row_refusals reader c.args.table.now) c.loop-row.invariant.0 c.in_ok-read_row.ensures.refusals,
  c.in_ok-read_row.ensures.modes,
)

pub returns-clause-refusals : goal.returns-clause-refusals
unfolding rows_refusals
returns-clause-refusals c =
    let all : c.loop-row.row ≡ length c.args.table.now - 1 = omega arith in
    subst (λ n. Passes (λ reader. each n (row_refusals reader c.args.table.now))) all c.loop-row.invariant.0

pub returns-clause-modes : goal.returns-clause-modes
returns-clause-modes c =
    let all : c.loop-row.row ≡ length c.args.table.now - 1 = omega arith in
    subst (λ n. Reads (λ reader. modes reader c.args.table.now n) c.loop-row.modes) all c.loop-row.invariant.1
