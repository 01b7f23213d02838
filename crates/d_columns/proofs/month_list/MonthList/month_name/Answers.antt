use Rattle.std.proofs.Common.{refl}
use Rattle.d_columns.proofs.month_list.MonthList.month_name.Goals as goal

pub name_at-requires-clause-names : goal.name_at-requires-clause-names
name_at-requires-clause-names c = rw c.in-FlatPeriods.is refl

pub name_at-requires-in-Ratchets-clause-names : goal.name_at-requires-in-Ratchets-clause-names
name_at-requires-in-Ratchets-clause-names c = rw c.in-Ratchets.is refl

pub name_at-requires-in-FuelAdjustments-clause-names : goal.name_at-requires-in-FuelAdjustments-clause-names
name_at-requires-in-FuelAdjustments-clause-names c = rw c.in-FuelAdjustments.is refl
