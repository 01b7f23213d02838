use Rattle.std.proofs.Common.{Ok, Err, Some, None, inr, subst, ◌^◌}
use Rattle.d_text.specs.Fault.{IsFloorFault}
use Rattle.d_text.specs.declared.decimal.DecimalFault.TheVariants.{TooLarge, Form}
use Rattle.d_urdb.proofs.NumberReads.{end_read, beyond_below, beyond_above, kept_end}
use Rattle.d_urdb.proofs.number.read_end.Goals as goal

pub returns-in-Ok-clause-value : goal.returns-in-Ok-clause-value
returns-in-Ok-clause-value c =
    rw (kept_end c.in-Ok.end c.in-Ok.ensures.range)
    (end_read c.args.cell.now (Ok (Some c.in-Ok.end)) (inr c.in-Ok.ensures.value))

pub returns-then-cell-eq45-clause-value : goal.returns-then-cell-eq45-clause-value
returns-then-cell-eq45-clause-value c =
    end_read c.args.cell.now (Err TooLarge) (beyond_below c.args.cell.now (subst (IsFloorFault c.args.cell.now 3 (10 ^ 10)) c.in-Err-TooLarge.field-0-is c.in-Err-TooLarge.ensures.fault) c.if-cell-eq45.true)

pub returns-else-cell-eq45-clause-value : goal.returns-else-cell-eq45-clause-value
returns-else-cell-eq45-clause-value c =
    end_read c.args.cell.now (Ok None) (beyond_above c.args.cell.now (subst (IsFloorFault c.args.cell.now 3 (10 ^ 10)) c.in-Err-TooLarge.field-0-is c.in-Err-TooLarge.ensures.fault) c.if-cell-eq45.false)

pub returns-in-Err-Form-clause-value : goal.returns-in-Err-Form-clause-value
returns-in-Err-Form-clause-value c =
    end_read c.args.cell.now (Err (Form c.in-Err-Form.place))
    (subst (IsFloorFault c.args.cell.now 3 (10 ^ 10)) c.in-Err-Form.field-0-is c.in-Err-Form.ensures.fault)
