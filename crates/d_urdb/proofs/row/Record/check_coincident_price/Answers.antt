use Rattle.d_urdb.specs.Shown.{row_of}
use Rattle.d_urdb.proofs.CoincidentFacts.{price_passes, price_refuses}
use Rattle.d_urdb.proofs.row.Record.check_coincident_price.Goals as goal

pub returns-then-units-ne0 : goal.returns-then-units-ne0
returns-then-units-ne0 c =
    price_refuses (row_of c.args.self.now) c.args.period c.args.tier c.args.part c.units.result c.price_in-price.result c.part_column-column.result c.refusal.result
    c.price_in-price.ensures.value c.units.ensures.value c.if-units-ne0.true c.refusal.ensures c.part_column-column.ensures.value

pub returns : goal.returns
returns c =
    price_passes (row_of c.args.self.now) c.args.period c.args.tier c.args.part c.units.result c.price_in-price.result
    c.price_in-price.ensures.value c.units.ensures.value c.units.ensures.range c.if-units-ne0.false
