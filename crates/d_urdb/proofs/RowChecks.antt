-- What a check refuses is refused by a check of which it is a part.
use Rattle.std.proofs.Common.{◌≡◌, List, Option, Some, Err}
use Rattle.d_urdb.specs.declared.fault.Refused.{Refused}
use Rattle.d_urdb.specs.declared.fault.RecordFault.{RecordFault}
use Rattle.d_urdb.specs.declared.fault.RecordFault.TheVariants as fault
use Rattle.d_urdb.specs.Numbers.{CellReader, IsCellReader}
use Rattle.d_urdb.specs.Refusals.{first_of}
use Rattle.d_urdb.specs.Checks.{ChecksOrNot}

-- the first refusal of the inner list is that of the outer one
abbrev pub Moves : (CellReader → List (Option Refused)) → (CellReader → List (Option Refused)) → Type 0
Moves inner outer =
    (reader : CellReader) → IsCellReader reader → (refused : Refused) → first_of (inner reader) ≡ Some refused → first_of (outer reader) ≡ Some refused

pub fault_moves : (A : Type 0) (B : Type 0) (inner outer : CellReader → List (Option Refused)) (found : RecordFault) → Moves inner outer
    → ChecksOrNot {A = A} inner (Err found) → ChecksOrNot {A = B} outer (Err found)
fault_moves A B inner outer (fault.Refused refused) moves refuses = λ reader are. moves reader are refused (refuses reader are)
fault_moves A B inner outer fault.Memory moves refuses = tt
