use Rattle.std.proofs.Common.{◌∙◌, inr, List}
use Rattle.std.proofs.lemmas.Result.{err_from_is_err_and}
use Rattle.d_batt.specs.declared.level.Levels.{Levels}
use Rattle.d_batt.specs.declared.mode.Mode.{Mode}
use Rattle.d_batt.specs.declared.fault.BatteryFault.TheVariants.{NoModes}
use Rattle.d_batt.proofs.Outcomes.{header_is, no_header, file_refused, rows_refused, levels_refused, modes_refused, file_passes, made, made_is, made_sound, file_accepted}
use Rattle.d_batt.proofs.reader.read_battery.Goals as goal

pub returns-then-not-has_header-clause-refused : goal.returns-then-not-has_header-clause-refused
returns-then-not-has_header-clause-refused c =
    inr (no_header c.args.table.now (header_is c.args.table.now c.has_header.result c.has_header.ensures ∙ c.if-not-has_header.true))

pub returns-in_err-modes-clause-refused : goal.returns-in_err-modes-clause-refused
returns-in_err-modes-clause-refused c =
    let p = err_from_is_err_and c.from_residual.result c.from_residual.ensures.1 in
    let header = header_is c.args.table.now c.has_header.result c.has_header.ensures ∙ c.if-not-has_header.false in
    rw (p.1, p.2) (file_refused Levels c.args.table.now c.in_err-modes.field-0.0 header
    (rows_refused (List Mode) Levels c.args.table.now c.in_err-modes.field-0.0 c.in_err-modes.ensures.refusals))

pub returns-in_err-levels-clause-refused : goal.returns-in_err-levels-clause-refused
returns-in_err-levels-clause-refused c =
    let p = err_from_is_err_and c.from_residual-in_err-levels.result c.from_residual-in_err-levels.ensures.1 in
    let header = header_is c.args.table.now c.has_header.result c.has_header.ensures ∙ c.if-not-has_header.false in
    rw (p.1, p.2) (file_refused Levels c.args.table.now c.in_err-levels.field-0.0 header
    (levels_refused Levels Levels c.args.table.now c.in_err-levels.field-0.0 c.in_ok-modes.ensures.refusals c.in_err-levels.ensures.refusals))

pub returns-then-is_empty-clause-refused : goal.returns-then-is_empty-clause-refused
returns-then-is_empty-clause-refused c =
    let header = header_is c.args.table.now c.has_header.result c.has_header.ensures ∙ c.if-not-has_header.false in
    file_refused Levels c.args.table.now NoModes header
    (inr (modes_refused c.args.table.now c.in_ok-modes.modes c.is_empty.result c.in_ok-modes.ensures.refusals c.in_ok-levels.ensures.refusals
    c.in_ok-modes.ensures.modes c.is_empty.ensures c.if-is_empty.true))

pub invariant_of-result : goal.invariant_of-result
unfolding made
invariant_of-result c =
    let passes = file_passes c.args.table.now c.in_ok-modes.modes c.is_empty.result c.in_ok-modes.ensures.refusals c.in_ok-levels.ensures.refusals
    c.in_ok-modes.ensures.modes c.is_empty.ensures c.if-is_empty.false in
    record {
      in_range = made_sound c.args.table.now (made c.in_ok-levels.levels c.grid_limit.result c.grid_limit-2.result c.in_ok-modes.modes) passes
          (made_is c.args.table.now c.in_ok-levels.levels c.grid_limit.result c.grid_limit-2.result c.in_ok-modes.modes c.in_ok-levels.ensures.levels
          c.grid_limit.ensures c.grid_limit-2.ensures c.in_ok-modes.ensures.modes);
    }

pub returns-clause-battery : goal.returns-clause-battery
unfolding made
returns-clause-battery c =
    let header = header_is c.args.table.now c.has_header.result c.has_header.ensures ∙ c.if-not-has_header.false in
    let passes = file_passes c.args.table.now c.in_ok-modes.modes c.is_empty.result c.in_ok-modes.ensures.refusals c.in_ok-levels.ensures.refusals
    c.in_ok-modes.ensures.modes c.is_empty.ensures c.if-is_empty.false in
    file_accepted c.args.table.now (made c.in_ok-levels.levels c.grid_limit.result c.grid_limit-2.result c.in_ok-modes.modes) header passes
    (made_is c.args.table.now c.in_ok-levels.levels c.grid_limit.result c.grid_limit-2.result c.in_ok-modes.modes c.in_ok-levels.ensures.levels
    c.grid_limit.ensures c.grid_limit-2.ensures c.in_ok-modes.ensures.modes)
