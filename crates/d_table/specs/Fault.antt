-- Why no table is made of a file.
use Rattle.std.specs.Prelude.{ℕ, List, ⊤}
use Rattle.d_table.specs.declared.table.TableFault.{TableFault}
use Rattle.d_table.specs.declared.table.TableFault.TheVariants.{Shape, Memory}
use Rattle.d_table.specs.Table.{IsFirstOdd}

-- what each refusal says of the file's rows; want of memory says nothing of them
abbrev pub IsTableFault : List (List (List ℕ)) → TableFault → Type 0
IsTableFault rows (Shape row) = IsFirstOdd rows row
IsTableFault rows Memory = ⊤
