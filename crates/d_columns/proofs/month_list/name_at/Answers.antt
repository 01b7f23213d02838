use Rattle.d_columns.proofs.MonthNames.{named_among}
use Rattle.d_columns.proofs.month_list.name_at.Goals as goal

pub returns : goal.returns
returns c = rw c.from.ensures (named_among c.args.list c.args.month c.args.names.now _ c.requires.month c.requires.names)
