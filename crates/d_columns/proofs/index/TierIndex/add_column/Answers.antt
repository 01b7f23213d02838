use Rattle.std.proofs.Common.{◌≡◌, ◌↔◌, ℕ, List, None, sym, add-one}
use Rattle.d_columns.specs.declared.names.Structure.{Structure}
use Rattle.d_columns.specs.declared.names.Part.{Part}
use Rattle.d_columns.specs.Names.{number_text, IsTierName}
use Rattle.d_columns.specs.Tiers.{data_row}
use Rattle.d_columns.proofs.NameFacts.{is_name}
use Rattle.d_columns.proofs.IndexFacts.{text_at, Finds, is_read, found_same, found_there, index_same, index_column, index_past, index_empty}
use Rattle.d_columns.proofs.CellFacts.{empty_cell}
use Rattle.d_columns.proofs.index.TierIndex.add_column.Goals as goal

pub returns-in_default : goal.returns-in_default
returns-in_default c =
    let row = data_row c.args.table.now c.args.row in
    let text = text_at row c.args.column in
    let exact : (s : Structure) (p : ℕ) (d : List ℕ) (q : Part) → (None ≡ is_name s p d q) ↔ IsTierName text s p d q = rw c.name.ensures at c.in_default.ensures.exact in
    index_same row c.args.column c.args.self.now c.requires.column c.requires.before (λ structure period tier part few has same.
    let found = (exact structure period (number_text tier) part).1 (is_read text structure period tier part few same) in
    cc)

pub returns-then-not-has_part : goal.returns-then-not-has_part
returns-then-not-has_part c =
    let row = data_row c.args.table.now c.args.row in
    let text = text_at row c.args.column in
    let name = c.in-Some.name in
    let finds : Finds text name.structure name.period name.tier.now name.part = record { exact = rw c.name.ensures at c.in-Some.ensures.exact } in
    index_same row c.args.column c.args.self.now c.requires.column c.requires.before (λ structure period tier part few has same.
    let parts = found_same text name.structure name.period name.tier.now name.part finds structure period tier part few same in
    cc (parts.0, parts.3, c.if-not-has_part.ensures))

pub set_column-requires-clause-period : goal.set_column-requires-clause-period
set_column-requires-clause-period c =
    let name = c.in-Some.name in
    found_there _ name.structure name.period name.tier.now name.part (record { exact = c.in-Some.ensures.exact })

pub set_past_last-requires : goal.set_past_last-requires
set_past_last-requires c =
    let name = c.in-Some.name in
    found_there _ name.structure name.period name.tier.now name.part (record { exact = c.in-Some.ensures.exact })

pub returns-in-Some-number : goal.returns-in-Some-number
returns-in-Some-number c =
    let row = data_row c.args.table.now c.args.row in
    let name = c.in-Some.name in
    let finds : Finds (text_at row c.args.column) name.structure name.period name.tier.now name.part = record { exact = rw c.name.ensures at c.in-Some.ensures.exact } in
    index_column row c.args.column c.args.self.now c.set_column.new.self name.structure name.period c.in-Some-number.tier name.tier.now name.part c.requires.column
    c.requires.before finds (sym c.if-not-has_part.ensures) c.in-Some-number.ensures.0 c.in-Some-number.ensures.1
    c.set_column.ensures.here c.set_column.ensures.others c.set_column.ensures.marks

pub returns-then-not-is_empty : goal.returns-then-not-is_empty
returns-then-not-is_empty c =
    let row = data_row c.args.table.now c.args.row in
    let name = c.in-Some.name in
    let finds : Finds (text_at row c.args.column) name.structure name.period name.tier.now name.part = record { exact = rw c.name.ensures at c.in-Some.ensures.exact } in
    index_past row c.args.column c.args.self.now c.set_past_last.new.self name.structure name.period name.tier.now name.part c.requires.column
    c.requires.before finds c.in-None.ensures
    c.set_past_last.ensures.here c.set_past_last.ensures.others c.set_past_last.ensures.columns

pub returns-else-not-is_empty : goal.returns-else-not-is_empty
returns-else-not-is_empty c =
    let row = data_row c.args.table.now c.args.row in
    let name = c.in-Some.name in
    let finds : Finds (text_at row c.args.column) name.structure name.period name.tier.now name.part = record { exact = rw c.name.ensures at c.in-Some.ensures.exact } in
    let cell = rw add-one at c.cell.ensures in
    index_empty row c.args.column c.args.self.now name.structure name.period name.tier.now name.part c.requires.column
    c.requires.before finds c.in-None.ensures (rw (← cell) (empty_cell c.cell.result.now c.if-not-is_empty.ensures))
