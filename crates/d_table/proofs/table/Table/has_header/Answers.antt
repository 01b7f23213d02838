use Rattle.std.proofs.Common.{◌≡◌, ap, arith, ◌∙◌, true, false, refl}
use Rattle.std.specs.Str.{str_to_ascii_lowercase}
use Rattle.d_table.specs.Table.{row_at}
use Rattle.d_table.proofs.NameFacts.{names_are, name_at}
use Rattle.d_table.proofs.table.Table.has_header.Goals as goal

pub returns-then-not-is_named : goal.returns-then-not-is_named
returns-then-not-is_named c = (
  λ (e : false ≡ true). cc,
  λ header.
      let same = name_at (row_at c.args.self.now 0) c.args.names.now c.loop-column.column c.loop-column-test.true header in
      let hit = c.is_named.ensures.1 (ap str_to_ascii_lowercase c.name.ensures ∙ same) in
      let miss = c.if-not-is_named.true in
      cc,
)

pub returns : goal.returns
returns c = (
  λ e. names_are (row_at c.args.self.now 0) c.args.names.now (omega (arith, c.columns.ensures.count, c.if-columns-names.false))
      (λ k within. c.loop-column.invariant k (omega (arith, c.loop-column-test.false))),
  λ header. refl,
)
