-- Each cell has a value, or a reason why it has none.
use Rattle.std.proofs.Common.{◌≡◌, ◌⊎◌, inl, inr, ℕ, zero, suc, ◌+◌, ◌*◌, ◌/◌, ◌%◌, ◌^◌, ◌≤◌, ◌<◌, ℤ, Bool, true, false, Option, None, Some, List, [], ◌∷◌, length, take, get_or, arith, refl, sym, ap, ◌∙◌}
use Rattle.std.proofs.lemmas.List.{take_all}
use Rattle.std.proofs.lemmas.Nat.{div-add-mod'}
use Rattle.d_text.specs.Decimal.{Written, IsDecimalText, IsFormFault, IsNearest, signed, size_over, size_under}
use Rattle.d_text.specs.Fault.{IsDecimalOf, IsDecimalFault, IsFloorOf, IsFloorFault}
use Rattle.d_text.specs.Grid.{IsGridText, IsGridOf, IsGridFault, IsListText, IsListOf, IsListFault}
use Rattle.d_text.specs.Scan.{kind_of, after_kind}
use Rattle.d_text.specs.Brackets.{grid_reader, list_reader}
use Rattle.d_text.specs.declared.decimal.DecimalFault.{DecimalFault}
use Rattle.d_text.specs.declared.decimal.DecimalFault.TheVariants.{Empty, Form, TooLarge, TooFine}
use Rattle.d_text.specs.declared.items.Span.{Span}
use Rattle.d_text.specs.declared.scan.Phase.{Phase}
use Rattle.d_text.specs.declared.scan.Phase.TheVariants.{Start}
use Rattle.d_text.proofs.PhaseFacts.{run}
use Rattle.d_text.proofs.FaultFacts.{run-more, stuck-at}
use Rattle.d_text.proofs.TextDecided.{IsDecimalOrNot, text_decided, led-begins}
use Rattle.d_text.proofs.SizeFacts.{order, times-le, times-lt, under-positive}
use Rattle.d_text.proofs.DecimalLaws.{decimal_decided}
use Rattle.d_text.proofs.ReaderFacts.{form-or-refused}
use Rattle.d_text.proofs.PartFacts.{GridGood, ListGood, grid-recognizes, list-recognizes}

-- a place where no decimal goes on
record Stuck (cell : List ℕ) : Type 0 where
  place : ℕ
  phase : Phase
  within : place < length cell
  runs : run (take place cell) Start ≡ Some phase
  stops : None ≡ after_kind (kind_of (get_or cell place 0)) phase

-- a cell is scanned up to some place, or it stops before
stuck_or_led : (cell : List ℕ) (i : ℕ) → i ≤ length cell → Stuck cell ⊎ ((q : Phase) × (run (take i cell) Start ≡ Some q))
stuck_or_led cell zero le = inr (Start, refl)
stuck_or_led cell (suc i) le = by_front (stuck_or_led cell i (omega arith))
  where
    by_next : (q : Phase) (o : Option Phase) → run (take i cell) Start ≡ Some q → o ≡ after_kind (kind_of (get_or cell i 0)) q → Stuck cell ⊎ ((r : Phase) × (run (take (suc i) cell) Start ≡ Some r))
    by_next q None e f = inl (record { place = i; phase = q; within = omega arith; runs = e; stops = f })
    by_next q (Some r) e f =
        let more : run (take (i + 1) cell) Start ≡ Some r = run-more cell i q r (omega arith) e f in
        let next : i + 1 ≡ suc i = omega arith in
        inr (r, sym (ap (λ (k : ℕ). run (take k cell) Start) next) ∙ more)

    by_front : Stuck cell ⊎ ((q : Phase) × (run (take i cell) Start ≡ Some q)) → Stuck cell ⊎ ((r : Phase) × (run (take (suc i) cell) Start ≡ Some r))
    by_front (inl stuck) = inl stuck
    by_front (inr led) = by_next led.0 (after_kind (kind_of (get_or cell i 0)) led.0) led.1 refl

-- a cell that isn't empty and no decimal is no decimal from some place on
form_fault : (cell : List ℕ) → 0 < length cell → ((w : Written) → IsDecimalText cell w → ⊥) → (place : ℕ) × IsFormFault cell place
form_fault cell some none = by_front (stuck_or_led cell (length cell) (omega arith))
  where
    by_end : (q : Phase) → run cell Start ≡ Some q → (place : ℕ) × IsFormFault cell place
    by_end q e = (
      length cell,
      record {
        some = some;
        other = none;
        within = omega arith;
        begins = rw (take_all (length cell) cell (omega arith)) (led-begins cell q e);
        longest = λ k le b. le;
      },
    )

    by_front : Stuck cell ⊎ ((q : Phase) × (run (take (length cell) cell) Start ≡ Some q)) → (place : ℕ) × IsFormFault cell place
    by_front (inl s) = (s.place, stuck-at cell s.place s.phase s.within s.runs (led-begins (take s.place cell) s.phase s.runs) s.stops)
    by_front (inr led) = by_end led.0 (sym (ap (λ (t : List ℕ). run t Start) (take_all (length cell) cell (omega arith))) ∙ led.1)

-- a cell is a decimal, empty, or no decimal from some place on
data TextOutcome (cell : List ℕ) : Type 0 where
  says : (w : Written) → IsDecimalText cell w → TextOutcome cell
  empty : cell ≡ [] → TextOutcome cell
  refused : (place : ℕ) → IsFormFault cell place → TextOutcome cell

text_outcome : (cell : List ℕ) → TextOutcome cell
text_outcome cell = by_text cell (text_decided cell)
  where
    by_text : (text : List ℕ) → IsDecimalOrNot text → TextOutcome text
    by_text text (inl is) = says is.0 is.1
    by_text [] (inr none) = empty refl
    by_text (byte ∷ rest) (inr none) = let fault = form_fault (byte ∷ rest) (omega arith) none in refused fault.0 fault.1

-- a decimal in units of 10^-places
pub decimal_outcome : (cell : List ℕ) (places limit : ℕ) → ((units : ℤ) × IsDecimalOf cell places limit units) ⊎ ((fault : DecimalFault) × IsDecimalFault cell places limit fault)
decimal_outcome cell places limit = by_value (decimal_decided cell places limit)
  where
    by_limit : ((units : ℤ) → IsDecimalOf cell places limit units → ⊥) → (w : Written) → IsDecimalText cell w
        → (size_over w places ≤ limit * 10 ^ places * size_under w) ⊎ (limit * 10 ^ places * size_under w < size_over w places) → (fault : DecimalFault) × IsDecimalFault cell places limit fault
    by_limit none w is (inl within) = (TooFine, (w, is, within, λ units value. none units (record { written = w; form = is; within = within; value = value })))
    by_limit none w is (inr above) = (TooLarge, (w, is, λ within. omega arith))

    by_text : ((units : ℤ) → IsDecimalOf cell places limit units → ⊥) → TextOutcome cell → (fault : DecimalFault) × IsDecimalFault cell places limit fault
    by_text none (says w is) = by_limit none w is (order (size_over w places) (limit * 10 ^ places * size_under w))
    by_text none (empty is) = (Empty, is)
    by_text none (refused place fault) = (Form place, fault)

    by_value : ((units : ℤ) × IsDecimalOf cell places limit units) ⊎ ((units : ℤ) → IsDecimalOf cell places limit units → ⊥)
        → ((units : ℤ) × IsDecimalOf cell places limit units) ⊎ ((fault : DecimalFault) × IsDecimalFault cell places limit fault)
    by_value (inl value) = inl value
    by_value (inr none) = inr (by_text none (text_outcome cell))

-- a number over another, rounded down or up
nearest_found : (minus : Bool) (over under : ℕ) → 0 < under → (size : ℕ) × IsNearest minus size over under
nearest_found true over under some = by_rest (order (over % under) 0)
  where
    by_rest : (over % under ≤ 0) ⊎ (0 < over % under) → (size : ℕ) × IsNearest true size over under
    by_rest (inl none) =
        let parts : over / under * under + over % under ≡ over = div-add-mod' over under in
        (over / under, record { above = omega arith; least = λ other lt. let less : other * under < over / under * under = times-lt other (over / under) under lt some in omega arith })
    by_rest (inr rest) =
        let parts : over / under * under + over % under ≡ over = div-add-mod' over under in
        let small : over % under < under = omega arith in
        let more : (over / under + 1) * under ≡ over / under * under + under = omega arith in (
          over / under + 1,
          record { above = omega arith; least = λ other lt. let less : other * under ≤ over / under * under = times-le other (over / under) under (omega arith) in omega arith },
        )
nearest_found false over under some =
    let parts : over / under * under + over % under ≡ over = div-add-mod' over under in
    let small : over % under < under = omega arith in
    let more : (over / under + 1) * under ≡ over / under * under + under = omega arith in (
      over / under,
      record { below = omega arith; greatest = λ other lt. let less : (over / under + 1) * under ≤ other * under = times-le (over / under + 1) other under (omega arith) in omega arith },
    )

-- a decimal rounded down
pub floor_outcome : (cell : List ℕ) (places limit : ℕ) → ((units : ℤ) × IsFloorOf cell places limit units) ⊎ ((fault : DecimalFault) × IsFloorFault cell places limit fault)
floor_outcome cell places limit = by_text (text_outcome cell)
  where
    by_limit : (w : Written) → IsDecimalText cell w → (size_over w places ≤ limit * 10 ^ places * size_under w) ⊎ (limit * 10 ^ places * size_under w < size_over w places)
        → ((units : ℤ) × IsFloorOf cell places limit units) ⊎ ((fault : DecimalFault) × IsFloorFault cell places limit fault)
    by_limit w is (inl within) =
        let near = nearest_found w.minus (size_over w places) (size_under w) (under-positive w) in
        inl (signed w.minus near.0, record { written = w; form = is; within = within; value = (near.0, refl, near.1) })
    by_limit w is (inr above) = inr (TooLarge, (w, is, λ within. omega arith))

    by_text : TextOutcome cell → ((units : ℤ) × IsFloorOf cell places limit units) ⊎ ((fault : DecimalFault) × IsFloorFault cell places limit fault)
    by_text (says w is) = by_limit w is (order (size_over w places) (limit * 10 ^ places * size_under w))
    by_text (empty is) = inr (Empty, is)
    by_text (refused place fault) = inr (Form place, fault)

-- a grid, and a list of items
pub grid_outcome : (cell : List ℕ) → ((rows : List (List ℕ)) × IsGridOf cell rows) ⊎ ((place : ℕ) × IsGridFault cell place)
grid_outcome cell = form-or-refused grid_reader IsGridText GridGood grid-recognizes cell

pub list_outcome : (cell : List ℕ) → ((spans : List Span) × IsListOf cell spans) ⊎ ((place : ℕ) × IsListFault cell place)
list_outcome cell = form-or-refused list_reader IsListText ListGood list-recognizes cell
