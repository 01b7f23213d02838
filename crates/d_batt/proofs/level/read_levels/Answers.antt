use Rattle.std.proofs.Common.{◌∙◌, inr, subst, sym}
use Rattle.d_batt.specs.Checks.{Refuses}
use Rattle.d_batt.specs.BatteryFile.{level_refusals}
use Rattle.d_batt.proofs.RowFacts.{none_is}
use Rattle.d_batt.proofs.LevelFacts.{no_capacity, floor_above, start_outside, end_above, levels_pass, start_too, end_too}
use Rattle.d_batt.proofs.level.read_levels.Goals as goal

pub returns-then-is_none-clause-refusals : goal.returns-then-is_none-clause-refusals
returns-then-is_none-clause-refusals c =
    inr (no_capacity c.args.table.now c.value_of.result c.value_of.ensures.value (none_is c.value_of.result c.is_none.result c.is_none.ensures ∙ c.if-is_none.true))

pub returns-then-floor-capacity-clause-refusals : goal.returns-then-floor-capacity-clause-refusals
returns-then-floor-capacity-clause-refusals c =
    inr (subst (Refuses (λ reader. level_refusals reader c.args.table.now)) (sym c.out_of_range.ensures)
    (floor_above c.args.table.now c.value_of.result c.level-capacity.result c.level-floor.result c.level-start.result c.level-end.result
    c.value_of.ensures.value c.level-capacity.ensures c.level-floor.ensures c.level-start.ensures c.level-end.ensures
    (none_is c.value_of.result c.is_none.result c.is_none.ensures ∙ c.if-is_none.false) c.if-floor-capacity.true))

pub returns-then-is_outside-clause-refusals : goal.returns-then-is_outside-clause-refusals
returns-then-is_outside-clause-refusals c =
    inr (subst (Refuses (λ reader. level_refusals reader c.args.table.now)) (sym c.out_of_range-then-is_outside.ensures)
    (start_outside c.args.table.now c.value_of.result c.level-capacity.result c.level-floor.result c.level-start.result c.level-end.result
    c.value_of.ensures.value c.level-capacity.ensures c.level-floor.ensures c.level-start.ensures c.level-end.ensures
    (none_is c.value_of.result c.is_none.result c.is_none.ensures ∙ c.if-is_none.false) c.if-floor-capacity.false (sym c.is_outside.ensures ∙ c.if-is_outside.true)))

pub returns-then-end-capacity-clause-refusals : goal.returns-then-end-capacity-clause-refusals
returns-then-end-capacity-clause-refusals c =
    inr (subst (Refuses (λ reader. level_refusals reader c.args.table.now)) (sym c.out_of_range-then-end-capacity.ensures)
    (end_above c.args.table.now c.value_of.result c.level-capacity.result c.level-floor.result c.level-start.result c.level-end.result
    c.value_of.ensures.value c.level-capacity.ensures c.level-floor.ensures c.level-start.ensures c.level-end.ensures
    (none_is c.value_of.result c.is_none.result c.is_none.ensures ∙ c.if-is_none.false) c.if-floor-capacity.false (sym c.is_outside.ensures ∙ c.if-is_outside.false) c.if-end-capacity.true))

pub returns-clause-refusals : goal.returns-clause-refusals
returns-clause-refusals c =
    levels_pass c.args.table.now c.value_of.result c.level-capacity.result c.level-floor.result c.level-start.result c.level-end.result
    c.value_of.ensures.value c.level-capacity.ensures c.level-floor.ensures c.level-start.ensures c.level-end.ensures
    (none_is c.value_of.result c.is_none.result c.is_none.ensures ∙ c.if-is_none.false) c.if-floor-capacity.false (sym c.is_outside.ensures ∙ c.if-is_outside.false) c.if-end-capacity.false

pub returns-clause-levels : goal.returns-clause-levels
returns-clause-levels c = record {
  capacity = c.level-capacity.ensures;
  floor = c.level-floor.ensures;
  start = start_too c.args.table.now c.value_of.result c.level-capacity.result c.level-floor.result c.level-start.result c.level-end.result
      c.value_of.ensures.value c.level-capacity.ensures c.level-floor.ensures c.level-start.ensures c.level-end.ensures;
  end = end_too c.args.table.now c.value_of.result c.level-capacity.result c.level-floor.result c.level-start.result c.level-end.result
      c.value_of.ensures.value c.level-capacity.ensures c.level-floor.ensures c.level-start.ensures c.level-end.ensures;
}
