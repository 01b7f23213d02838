-- Each cell is read in exactly one way.
use Rattle.std.proofs.Common.{◌≡◌, ◌≢◌, ◌⊎◌, inl, inr, ℕ, ◌^◌, ℤ, pos, Bool, true, false, Option, None, Some, Result, Ok, Err, List, [], ◌∷◌, refl}
use Rattle.std.proofs.Math.Path.{fun_ext}
use Rattle.d_text.specs.Fault.{IsDecimalOf, IsDecimalFault, IsFloorOf, IsFloorFault}
use Rattle.d_text.specs.declared.items.Span.{Span}
use Rattle.d_text.specs.Grid.{IsGridOf, IsGridFault, IsListOf, IsListFault}
use Rattle.d_text.specs.declared.decimal.DecimalFault.{DecimalFault}
use Rattle.d_text.specs.declared.decimal.DecimalFault.TheVariants.{Empty, Form, TooLarge, TooFine}
use Rattle.d_text.proofs.OutcomeLaws.{decimal_outcome, floor_outcome, grid_outcome, list_outcome}
use Rattle.d_urdb.specs.Numbers.{IsNumber, IsBeyond, IsEnd, zero_hours, IsHours, IsList, CellReader, IsCellReader, HasOneReader}
use Rattle.d_urdb.proofs.ReadOnce.{number_once, end_once, hours_once, spans_once}
use Rattle.d_columns.proofs.HoleLaws.{hole_once}
use Rattle.d_columns.proofs.HoleFound.{hole_found}

-- a cell with a byte isn't blank
filled : (byte : ℕ) (rest : List ℕ) → byte ∷ rest ≢ []
filled byte rest same = cc

pub number_found : (limit : ℕ) (cell : List ℕ) → (r : Result ℤ DecimalFault) × IsNumber limit cell r
number_found limit [] = (Ok (pos 0), inl (refl, refl))
number_found limit (byte ∷ rest) = by_outcome (decimal_outcome (byte ∷ rest) 18 limit)
  where
    by_outcome : ((units : ℤ) × IsDecimalOf (byte ∷ rest) 18 limit units) ⊎ ((fault : DecimalFault) × IsDecimalFault (byte ∷ rest) 18 limit fault)
        → (r : Result ℤ DecimalFault) × IsNumber limit (byte ∷ rest) r
    by_outcome (inl value) = (Ok value.0, inr value.1)
    by_outcome (inr fault) = (Err fault.0, (filled byte rest, fault.1))

pub end_found : (cell : List ℕ) → (r : Result (Option ℤ) DecimalFault) × IsEnd cell r
end_found [] = (Ok (Some (pos 0)), inl (refl, refl))
end_found (byte ∷ rest) = by_outcome (floor_outcome (byte ∷ rest) 3 (10 ^ 10))
  where
    by_sign : (minus : Bool) → IsBeyond (byte ∷ rest) minus → (r : Result (Option ℤ) DecimalFault) × IsEnd (byte ∷ rest) r
    by_sign false is = (Ok None, is)
    by_sign true is = (Err TooLarge, is)

    by_fault : (fault : DecimalFault) → IsFloorFault (byte ∷ rest) 3 (10 ^ 10) fault → (r : Result (Option ℤ) DecimalFault) × IsEnd (byte ∷ rest) r
    by_fault Empty is = absurd (filled byte rest is)
    by_fault (Form place) is = (Err (Form place), is)
    by_fault TooLarge is = by_sign is.0.minus (record { written = is.0; form = is.1; beyond = is.2; sign = refl })
    by_fault TooFine is = absurd is

    by_outcome : ((units : ℤ) × IsFloorOf (byte ∷ rest) 3 (10 ^ 10) units) ⊎ ((fault : DecimalFault) × IsFloorFault (byte ∷ rest) 3 (10 ^ 10) fault)
        → (r : Result (Option ℤ) DecimalFault) × IsEnd (byte ∷ rest) r
    by_outcome (inl value) = (Ok (Some value.0), inr value.1)
    by_outcome (inr fault) = by_fault fault.0 fault.1

pub hours_found : (cell : List ℕ) → (r : Result (List (List ℕ)) ℕ) × IsHours cell r
hours_found [] = (Ok zero_hours, inl (refl, refl))
hours_found (byte ∷ rest) = by_outcome (grid_outcome (byte ∷ rest))
  where
    by_outcome : ((rows : List (List ℕ)) × IsGridOf (byte ∷ rest) rows) ⊎ ((place : ℕ) × IsGridFault (byte ∷ rest) place) → (r : Result (List (List ℕ)) ℕ) × IsHours (byte ∷ rest) r
    by_outcome (inl rows) = (Ok rows.0, inr rows.1)
    by_outcome (inr place) = (Err place.0, (filled byte rest, place.1))

pub spans_found : (cell : List ℕ) → (r : Result (List Span) ℕ) × IsList cell r
spans_found cell = by_outcome (list_outcome cell)
  where
    by_outcome : ((spans : List Span) × IsListOf cell spans) ⊎ ((place : ℕ) × IsListFault cell place) → (r : Result (List Span) ℕ) × IsList cell r
    by_outcome (inl spans) = (Ok spans.0, spans.1)
    by_outcome (inr place) = (Err place.0, place.1)

-- the reader that is found
found : CellReader
found = record {
  number = λ limit cell. (number_found limit cell).0;
  end = λ cell. (end_found cell).0;
  hours = λ cell. (hours_found cell).0;
  spans = λ cell. (spans_found cell).0;
  hole = λ row structure period. (hole_found row structure period).0;
}

are_found : IsCellReader found
unfolding found
are_found = record {
  number_is = λ limit cell. (number_found limit cell).1;
  end_is = λ cell. (end_found cell).1;
  hours_is = λ cell. (hours_found cell).1;
  spans_is = λ cell. (spans_found cell).1;
  hole_is = λ row structure period. (hole_found row structure period).1;
}

-- readers are the same where all their functions are
same_readers : (a b : CellReader) → a.number ≡ b.number → a.end ≡ b.end → a.hours ≡ b.hours → a.spans ≡ b.spans → a.hole ≡ b.hole → a ≡ b
same_readers a b number end hours spans hole = λ i. record { number = number i; end = end i; hours = hours i; spans = spans i; hole = hole i }

reader_once : (a b : CellReader) → IsCellReader a → IsCellReader b → a ≡ b
reader_once a b are are_too = same_readers a b
    (fun_ext (λ limit. fun_ext (λ cell. number_once limit cell (a.number limit cell) (b.number limit cell) (are.number_is limit cell) (are_too.number_is limit cell))))
    (fun_ext (λ cell. end_once cell (a.end cell) (b.end cell) (are.end_is cell) (are_too.end_is cell)))
    (fun_ext (λ cell. hours_once cell (a.hours cell) (b.hours cell) (are.hours_is cell) (are_too.hours_is cell)))
    (fun_ext (λ cell. spans_once cell (a.spans cell) (b.spans cell) (are.spans_is cell) (are_too.spans_is cell)))
    (fun_ext (λ row. fun_ext (λ structure. fun_ext (λ period. hole_once row structure period (a.hole row structure period) (b.hole row structure period)
    (are.hole_is row structure period) (are_too.hole_is row structure period)))))

pub one_reader : HasOneReader
one_reader = record { reader = found; is_reader = are_found; only = λ others are. reader_once others found are are_found }
