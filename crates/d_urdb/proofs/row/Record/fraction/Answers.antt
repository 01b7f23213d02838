use Rattle.std.proofs.Common.{sym, ap, ◌∙◌, arith}
use Rattle.d_urdb.specs.Months.{item_cell}
use Rattle.d_urdb.specs.Ratchets.{fraction_of}
use Rattle.d_urdb.specs.Shown.{row_of}
use Rattle.d_columns.specs.Tiers.{is_filled}
use Rattle.d_urdb.proofs.HourFacts.{blank}
use Rattle.d_columns.proofs.CellFacts.{filled_cell}
use Rattle.d_urdb.proofs.NamedFacts.{kept_units}
use Rattle.d_urdb.proofs.RatchetFacts.{own_fraction, other_fraction}
use Rattle.d_urdb.proofs.row.Record.fraction.Goals as goal

pub returns-then-is_empty-clause-value : goal.returns-then-is_empty-clause-value
returns-then-is_empty-clause-value c reader are =
    let row = row_of c.args.self.now in
    let text = c.item.ensures reader are ∙ ap (λ list. item_cell reader row list c.args.month) c.requires.items.list_is in
    let none = ap is_filled (sym text) ∙ ap is_filled (blank c.item.result.now c.if-is_empty.ensures) in
    let kept = kept_units 100 c.args.lookback (omega arith) c.requires.limit in
    other_fraction reader row c.args.month c.fraction_of.result c.args.lookback (c.fraction_of.ensures.value ∙ ap fraction_of kept)
    (c.requires.lookback reader are) none

pub returns-else-is_empty-clause-value : goal.returns-else-is_empty-clause-value
returns-else-is_empty-clause-value c reader are =
    let row = row_of c.args.self.now in
    let text = c.item.ensures reader are ∙ ap (λ list. item_cell reader row list c.args.month) c.requires.items.list_is in
    let given = ap is_filled (sym text) ∙ filled_cell c.item.result.now c.if-is_empty.ensures in
    let kept = kept_units 100 c.args.number (omega arith) c.requires.small in
    own_fraction reader row c.args.month c.fraction_of-else-is_empty.result c.args.number (c.fraction_of-else-is_empty.ensures.value ∙ ap fraction_of kept)
    (c.requires.number reader are) given
