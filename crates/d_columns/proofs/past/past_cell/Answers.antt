use Rattle.std.proofs.Common.{◌≡◌, ◌∙◌, ◌↔◌, ℕ, List, None, true, ap, add-one, arith}
use Rattle.d_columns.specs.declared.names.Structure.{Structure}
use Rattle.d_columns.specs.declared.names.Part.{Part}
use Rattle.d_columns.specs.Names.{number_text, IsTierName, IsPastLast}
use Rattle.d_columns.specs.Tiers.{data_row, has_part}
use Rattle.d_columns.proofs.TextFacts.{never}
use Rattle.d_columns.proofs.NameFacts.{is_name}
use Rattle.d_columns.proofs.IndexFacts.{text_at, Finds, is_read, found_same}
use Rattle.d_columns.proofs.PastFacts.{past_says, past_found}
use Rattle.d_columns.proofs.CellFacts.{filled_cell}
use Rattle.d_columns.proofs.past.past_cell.Goals as goal

pub returns-in_default : goal.returns-in_default
returns-in_default c cell =
    let row = data_row c.args.table.now c.args.row in
    let text = text_at row c.args.column in
    let exact : (s : Structure) (p : ℕ) (d : List ℕ) (q : Part) → (None ≡ is_name s p d q) ↔ IsTierName text s p d q = rw c.name.ensures at c.in_default.ensures.exact in
    never cell (λ there.
    let says = past_says row c.args.structure c.args.period c.args.column cell there.0 there.1 in
    let found = (exact c.args.structure c.args.period (number_text cell.tier) cell.part).1 (is_read text c.args.structure c.args.period cell.tier cell.part c.requires.period says.name) in
    cc)

pub returns-then-not-is_past : goal.returns-then-not-is_past
returns-then-not-is_past c cell =
    let row = data_row c.args.table.now c.args.row in
    let text = text_at row c.args.column in
    let name = c.in-Some.name in
    let finds : Finds text name.structure name.period name.tier.now name.part = record { exact = rw c.name.ensures at c.in-Some.ensures.exact } in
    never cell (λ there.
    let says = past_says row c.args.structure c.args.period c.args.column cell there.0 there.1 in
    let parts = found_same text name.structure name.period name.tier.now name.part finds c.args.structure c.args.period cell.tier cell.part c.requires.period says.name in
    let has : has_part c.args.structure name.part ≡ true = ap (λ part. has_part c.args.structure part) parts.3 ∙ says.has in
    let past : IsPastLast name.tier.now = omega (arith, parts.2, there.1.past) in
    let test = c.if-not-is_past.ensures.1 (parts.0, parts.1, has, past) in
    cc)

pub returns-then-not-branch : goal.returns-then-not-branch
returns-then-not-branch c cell =
    let row = data_row c.args.table.now c.args.row in
    never cell (λ there.
    let says = past_says row c.args.structure c.args.period c.args.column cell there.0 there.1 in
    let first = c.in_ok-is_first_of_name.ensures.1 says.first in
    cc (first, c.if-not-branch.true))

pub returns : goal.returns
returns c cell =
    let row = data_row c.args.table.now c.args.row in
    let text = text_at row c.args.column in
    let name = c.in-Some.name in
    let finds : Finds text name.structure name.period name.tier.now name.part = record { exact = rw c.name.ensures at c.in-Some.ensures.exact } in
    let past = c.is_past.ensures.0 c.if-not-is_past.false in
    let cell_is = rw add-one at c.cell.ensures in
    let filled = filled_cell c.cell.result.now c.if-is_empty.ensures in
    past_found row name.structure name.period name.tier.now name.part c.args.structure c.args.period c.args.column finds
    past.0 past.1 c.requires.period past.2 past.3 (rw (← cell_is) filled) (c.in_ok-is_first_of_name.ensures.0 c.if-not-branch.false) cell
