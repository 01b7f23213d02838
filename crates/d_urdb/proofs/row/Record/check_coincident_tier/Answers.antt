use Rattle.d_urdb.proofs.row.Record.check_coincident_tier.Goals as goal

pub returns-in-Numbers : goal.returns-in-Numbers
returns-in-Numbers c = rw c.in-Numbers.is c.check_coincident_numbers.ensures

pub returns-in-Prices : goal.returns-in-Prices
returns-in-Prices c = rw c.in-Prices.is c.check_coincident_prices.ensures
