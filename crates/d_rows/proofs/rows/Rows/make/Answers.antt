use Rattle.std.proofs.Common.{◌≡◌, ◌∙◌, ap, rules, ◌*◌, replicate}
use Rattle.d_num.specs.declared.pot.Pot.TheVariants.{NoWay}
use Rattle.d_rows.specs.Blocks.{block_rows}
use Rattle.d_rows.proofs.RowLemmas.{block_full}
use Rattle.d_rows.proofs.rows.Rows.make.Goals as goal

pub returns : goal.returns
returns c =
    let is : c.in_ok-from_elem.field-0.items ≡ replicate (c.args.count * c.args.levels) NoWay = search rules in
    ap (block_rows c.args.levels c.args.count) is ∙ block_full c.args.levels c.args.count NoWay
