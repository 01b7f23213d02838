use Rattle.std.proofs.Common.{◌≡◌, arith, inr, nat_le, true, false, length, [], ◌∷◌}
use Rattle.std.specs.Bool.{⊤}
use Rattle.std.proofs.lemmas.Result.{err_from_is_err_and}
use Rattle.std.proofs.lemmas.Bool.Decides.{nat_tests}
use Rattle.d_list.specs.Firsts.{when}
use Rattle.d_batt.specs.declared.mode.Mode.{Mode}
use Rattle.d_batt.specs.declared.fault.BatteryFault.TheVariants.{TooMany}
use Rattle.d_batt.specs.BatteryFile.{number_refusals, modes}
use Rattle.d_batt.proofs.Order.{first_fails}
use Rattle.d_batt.proofs.RowFacts.{mode_too_many, mode_fits}
use Rattle.d_batt.proofs.row.add_mode.Goals as goal

pub returns-in_err-mode-clause-refusals : goal.returns-in_err-mode-clause-refusals
returns-in_err-mode-clause-refusals c =
    let p = err_from_is_err_and c.from_residual.result c.from_residual.ensures.1 in
    rw (p.1, p.2) (first_fails Mode ⊤ (λ reader. number_refusals reader c.args.table.now c.args.row)
    (λ reader. when (nat_le 64 (length (modes reader c.args.table.now c.args.row))) (TooMany c.args.row) ∷ []) c.in_err-mode.field-0.0 c.in_err-mode.ensures.refusals)

pub returns-then-len-ge-MOST_MODES-clause-refusals : goal.returns-then-len-ge-MOST_MODES-clause-refusals
returns-then-len-ge-MOST_MODES-clause-refusals c =
    let many : nat_le 64 (length c.args.modes.now) ≡ true = grind (arith, nat_tests, c.if-len-ge-MOST_MODES.true, c.len.ensures) in
    inr (mode_too_many c.args.table.now c.args.row c.args.modes.now c.requires.modes many c.in_ok-mode.ensures.refusals)

pub returns-clause-refusals : goal.returns-clause-refusals
returns-clause-refusals c =
    let few : nat_le 64 (length c.args.modes.now) ≡ false = grind (arith, nat_tests, c.if-len-ge-MOST_MODES.false, c.len.ensures) in
    mode_fits c.args.table.now c.args.row c.args.modes.now c.requires.modes few c.in_ok-mode.ensures.refusals
