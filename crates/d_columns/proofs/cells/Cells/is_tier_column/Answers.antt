use Rattle.std.proofs.Common.{◌≡◌, ◌↔◌, ℕ, List, None}
use Rattle.d_columns.specs.declared.names.Structure.{Structure}
use Rattle.d_columns.specs.declared.names.Part.{Part}
use Rattle.d_columns.specs.Names.{IsTierName}
use Rattle.d_columns.specs.Shown.{row_of}
use Rattle.d_columns.proofs.NameFacts.{is_name}
use Rattle.d_columns.proofs.IndexFacts.{text_at, Finds, found_there}
use Rattle.d_columns.proofs.TierColumns.{unnamed, past_named, own_part}
use Rattle.d_columns.proofs.cells.Cells.is_tier_column.Goals as goal

pub returns-in_default : goal.returns-in_default
returns-in_default c =
    let row = row_of c.args.self.now in
    let text = text_at row c.args.column in
    let exact : (s : Structure) (p : ℕ) (d : List ℕ) (q : Part) → (None ≡ is_name s p d q) ↔ IsTierName text s p d q = rw c.name.ensures at c.in_default.ensures.exact in
    unnamed row c.args.column (λ s p d q is. let found = (exact s p d q).1 is in cc)

pub returns-in_default-number : goal.returns-in_default-number
returns-in_default-number c =
    let row = row_of c.args.self.now in
    let name = c.in-Some.name in
    let finds : Finds (text_at row c.args.column) name.structure name.period name.tier.now name.part = record { exact = rw c.name.ensures at c.in-Some.ensures.exact } in
    past_named row c.args.column name.structure name.period name.tier.now name.part finds c.in_default-number.ensures

pub part_column-requires-clause-period : goal.part_column-requires-clause-period
part_column-requires-clause-period c =
    let name = c.in-Some.name in
    found_there _ name.structure name.period name.tier.now name.part (record { exact = c.in-Some.ensures.exact })

pub returns : goal.returns
returns c =
    let row = row_of c.args.self.now in
    let name = c.in-Some.name in
    let finds : Finds (text_at row c.args.column) name.structure name.period name.tier.now name.part = record { exact = rw c.name.ensures at c.in-Some.ensures.exact } in
    own_part row c.args.column name.structure name.period c.in-Some-number.tier name.tier.now name.part c.is_place.result finds
    c.in-Some-number.ensures.0 c.in-Some-number.ensures.1 (rw c.part_column.ensures.value at c.is_place.ensures)
