use Rattle.std.proofs.Common.{length}
use Rattle.d_columns.proofs.TextFacts.{never, front_found, front_missing, all_behind}
use Rattle.d_columns.proofs.reading.behind.Goals as goal

pub returns-then-is_named : goal.returns-then-is_named
returns-then-is_named c rest =
    let same = c.is_named.ensures.0 c.if-is_named.true in
    rw (all_behind (length c.args.front.now) c.args.text.now) (front_found c.args.text.now c.args.front.now same rest)

pub returns-else-is_named : goal.returns-else-is_named
returns-else-is_named c rest =
    let other = c.if-is_named.false in
    never rest (front_missing c.args.text.now c.args.front.now (λ same. let is = c.is_named.ensures.1 same in cc) rest)
