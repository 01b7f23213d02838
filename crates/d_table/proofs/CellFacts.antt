-- How the cells of a record lie over its fields.
use Rattle.std.proofs.Common.{◌≡◌, ℕ, zero, suc, List, [], ◌∷◌, map, None, Some, refl, ap}
use Rattle.csv.specs.Records.{field_at}
use Rattle.d_table.specs.Table.{trimmed, without_front, without_back, is_blank, cell_in}

-- a field that is there, as a cell
pub cell_found : (fields : List (List ℕ)) (column : ℕ) (field : List ℕ) → Some field ≡ field_at fields column
    → without_back is_blank (without_front is_blank field) ≡ cell_in (map trimmed fields) column
unfolding field_at trimmed
cell_found [] column field found = cc
cell_found (first ∷ rest) zero field found = let same : field ≡ first = cc in ap trimmed same
cell_found (first ∷ rest) (suc column) field found = cell_found rest column field found

-- no field, no bytes
pub cell_missing : (fields : List (List ℕ)) (column : ℕ) → None ≡ field_at fields column → [] ≡ cell_in (map trimmed fields) column
unfolding field_at
cell_missing [] column missing = refl
cell_missing (first ∷ rest) zero missing = cc
cell_missing (first ∷ rest) (suc column) missing = cell_missing rest column missing
