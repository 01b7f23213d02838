-- What holds of grids and lists whatever the code does: a cell is one of them in one way at most, and it is one or isn't.
use Rattle.std.proofs.Common.{◌≡◌, ◌⊎◌, ℕ, List}
use Rattle.d_text.specs.Grid.{IsGridText, IsGridOf, IsListText, IsListOf}
use Rattle.d_text.specs.Brackets.{grid_reader, list_reader}
use Rattle.d_text.specs.declared.items.Span.{Span}
use Rattle.d_text.proofs.ReaderFacts.{one-value, form-decided}
use Rattle.d_text.proofs.PartFacts.{GridGood, ListGood, grid-recognizes, list-recognizes}

pub grid_same : (cell : List ℕ) (rows others : List (List ℕ)) → IsGridOf cell rows → IsGridOf cell others → rows ≡ others
grid_same cell rows others h k = one-value grid_reader 0 cell rows others (grid-recognizes.complete 0 cell rows h) (grid-recognizes.complete 0 cell others k)

pub list_same : (cell : List ℕ) (spans others : List Span) → IsListOf cell spans → IsListOf cell others → spans ≡ others
list_same cell spans others h k = one-value list_reader 0 cell spans others (list-recognizes.complete 0 cell spans h) (list-recognizes.complete 0 cell others k)

pub grid_decided : (cell : List ℕ) → ((rows : List (List ℕ)) × IsGridOf cell rows) ⊎ ((rows : List (List ℕ)) → IsGridOf cell rows → ⊥)
grid_decided cell = form-decided grid_reader IsGridText GridGood grid-recognizes cell

pub list_decided : (cell : List ℕ) → ((spans : List Span) × IsListOf cell spans) ⊎ ((spans : List Span) → IsListOf cell spans → ⊥)
list_decided cell = form-decided list_reader IsListText ListGood list-recognizes cell
