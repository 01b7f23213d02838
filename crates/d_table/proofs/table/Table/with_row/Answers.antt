use Rattle.std.proofs.Common.{◌≡◌, ◌∙◌, ◌+◌, rules}
use Rattle.std.proofs.lemmas.List.{length-map}
use Rattle.csv.specs.Records.{fields_of}
use Rattle.d_table.specs.Table.{trimmed}
use Rattle.d_table.specs.Cells.{cells_of}
use Rattle.d_table.proofs.BlockFacts.{longer}
use Rattle.d_table.proofs.table.Table.with_row.Goals as goal

pub invariant_of-result : goal.invariant_of-result
invariant_of-result c =
    let i = c.self.inside in
    let more : c.in-Some.count ≡ i.count + 1 = search rules in
    let long = length-map (fields_of c.args.row.now) trimmed ∙ c.requires.width in
    let now = longer i.width i.count c.in-Some.count i.cells (cells_of c.args.row.now) c.args.self c.self.view_is c.self.invariant.0 c.requires.there long more in
    rw c.in_ok-add_row.ensures.value (now.full, λ name. rw now.first (c.self.invariant.1 name))

pub returns-clause-value : goal.returns-clause-value
returns-clause-value c =
    let i = c.self.inside in
    let more : c.in-Some.count ≡ i.count + 1 = search rules in
    let long = length-map (fields_of c.args.row.now) trimmed ∙ c.requires.width in
    let now = longer i.width i.count c.in-Some.count i.cells (cells_of c.args.row.now) c.args.self c.self.view_is c.self.invariant.0 c.requires.there long more in
    rw c.in_ok-add_row.ensures.value now.rows
