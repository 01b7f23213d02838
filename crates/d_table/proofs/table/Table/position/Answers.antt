use Rattle.std.proofs.Common.{◌≡◌, rules, bytes_eq}
use Rattle.std.specs.Str.{str_to_ascii_lowercase}
use Rattle.d_table.specs.Table.{row_at, column_of}
use Rattle.d_table.proofs.ColumnFacts.{place_within}
use Rattle.d_table.proofs.table.Table.position.Goals as goal

pub returns-clause-within : goal.returns-clause-within
returns-clause-within c =
    let found : c.copied.result ≡ column_of c.args.name.now (row_at c.args.self.now 0) = search rules in
    rw found (place_within (λ cell. bytes_eq c.args.name.now (str_to_ascii_lowercase cell)) (row_at c.args.self.now 0))
