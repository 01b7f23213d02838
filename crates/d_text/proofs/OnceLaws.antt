-- A cell is refused for one reason at most, and has no value then.
use Rattle.std.proofs.Common.{◌≡◌, ◌⊎◌, inl, inr, ℕ, ◌≤◌, ◌<◌, ℤ, List, [], length, arith, refl, ap, subst}
use Rattle.d_text.specs.Decimal.{Written, IsDecimalText, IsFormFault, IsInLimit}
use Rattle.d_text.specs.Fault.{IsDecimalOf, IsDecimalFault, IsFloorOf, IsFloorFault}
use Rattle.d_text.specs.Grid.{IsGridOf, IsGridText, IsGridFault, IsListOf, IsListText, IsListFault, IsRefusedAt}
use Rattle.d_text.specs.Law.{HasOneOutcome, HasValueOrFault, HasFloorOrFault, HasGridOrFault, HasListOrFault}
use Rattle.d_text.specs.declared.decimal.DecimalFault.{DecimalFault}
use Rattle.d_text.specs.declared.decimal.DecimalFault.TheVariants.{Empty, Form, TooLarge, TooFine}
use Rattle.d_text.specs.declared.items.Span.{Span}
use Rattle.d_text.proofs.OneReading.{one-reading}
use Rattle.d_text.proofs.DecimalLaws.{decimal_same, floor_same}
use Rattle.d_text.proofs.FaultLaws.{empty_other, decimal_refused}
use Rattle.d_text.proofs.GridLaws.{grid_same, list_same}
use Rattle.d_text.proofs.OutcomeLaws.{decimal_outcome, floor_outcome, grid_outcome, list_outcome}

-- the place at which a cell is no decimal
pub form_once : (cell : List ℕ) (a b : ℕ) → IsFormFault cell a → IsFormFault cell b → a ≡ b
form_once cell a b ha hb =
    let up : b ≤ a = ha.longest b hb.within hb.begins in
    let down : a ≤ b = hb.longest a ha.within ha.begins in
    omega arith

-- an empty cell is no decimal for another reason
pub form_filled : (cell : List ℕ) (place : ℕ) → cell ≡ [] → IsFormFault cell place → ⊥
form_filled cell place empty h =
    let none : length cell ≡ 0 = ap length empty in
    let some : 0 < length cell = h.some in
    omega arith

-- a decimal has one limit
pub large_other : (cell : List ℕ) (places limit : ℕ) (w v : Written) → IsDecimalText cell w → IsDecimalText cell v → (IsInLimit w places limit → ⊥) → IsInLimit v places limit → ⊥
large_other cell places limit w v hw hv above within =
    let same : v ≡ w = one-reading cell v w hv hw in
    above (let P : Written → Type 0 = λ x. IsInLimit x places limit in subst P same within)

-- why a cell is no decimal
pub fault_once : (cell : List ℕ) (places limit : ℕ) (a b : DecimalFault) → IsDecimalFault cell places limit a → IsDecimalFault cell places limit b → a ≡ b
fault_once cell places limit Empty Empty ha hb = refl
fault_once cell places limit Empty (Form q) ha hb = absurd (form_filled cell q ha hb)
fault_once cell places limit Empty TooLarge ha hb = absurd (empty_other cell hb.0 ha hb.1)
fault_once cell places limit Empty TooFine ha hb = absurd (empty_other cell hb.0 ha hb.1)
fault_once cell places limit (Form p) Empty ha hb = absurd (form_filled cell p hb ha)
fault_once cell places limit (Form p) (Form q) ha hb = ap Form (form_once cell p q ha hb)
fault_once cell places limit (Form p) TooLarge ha hb = absurd (ha.other hb.0 hb.1)
fault_once cell places limit (Form p) TooFine ha hb = absurd (ha.other hb.0 hb.1)
fault_once cell places limit TooLarge Empty ha hb = absurd (empty_other cell ha.0 hb ha.1)
fault_once cell places limit TooLarge (Form q) ha hb = absurd (hb.other ha.0 ha.1)
fault_once cell places limit TooLarge TooLarge ha hb = refl
fault_once cell places limit TooLarge TooFine ha hb = absurd (large_other cell places limit ha.0 hb.0 ha.1 hb.1 ha.2 hb.2)
fault_once cell places limit TooFine Empty ha hb = absurd (empty_other cell ha.0 hb ha.1)
fault_once cell places limit TooFine (Form q) ha hb = absurd (hb.other ha.0 ha.1)
fault_once cell places limit TooFine TooLarge ha hb = absurd (large_other cell places limit hb.0 ha.0 hb.1 ha.1 hb.2 ha.2)
fault_once cell places limit TooFine TooFine ha hb = refl

-- why a cell has no value rounded down
pub floor_fault_once : (cell : List ℕ) (places limit : ℕ) (a b : DecimalFault) → IsFloorFault cell places limit a → IsFloorFault cell places limit b → a ≡ b
floor_fault_once cell places limit Empty Empty ha hb = refl
floor_fault_once cell places limit Empty (Form q) ha hb = absurd (form_filled cell q ha hb)
floor_fault_once cell places limit Empty TooLarge ha hb = absurd (empty_other cell hb.0 ha hb.1)
floor_fault_once cell places limit Empty TooFine ha hb = absurd hb
floor_fault_once cell places limit (Form p) Empty ha hb = absurd (form_filled cell p hb ha)
floor_fault_once cell places limit (Form p) (Form q) ha hb = ap Form (form_once cell p q ha hb)
floor_fault_once cell places limit (Form p) TooLarge ha hb = absurd (ha.other hb.0 hb.1)
floor_fault_once cell places limit (Form p) TooFine ha hb = absurd hb
floor_fault_once cell places limit TooLarge Empty ha hb = absurd (empty_other cell ha.0 hb ha.1)
floor_fault_once cell places limit TooLarge (Form q) ha hb = absurd (hb.other ha.0 ha.1)
floor_fault_once cell places limit TooLarge TooLarge ha hb = refl
floor_fault_once cell places limit TooLarge TooFine ha hb = absurd hb
floor_fault_once cell places limit TooFine b ha hb = absurd ha

-- what is refused has no value rounded down
pub floor_refused : (cell : List ℕ) (places limit : ℕ) (fault : DecimalFault) (units : ℤ) → IsFloorFault cell places limit fault
    → IsFloorOf cell places limit units → ⊥
floor_refused cell places limit Empty units refused h = empty_other cell h.written refused h.form
floor_refused cell places limit (Form place) units refused h = refused.other h.written h.form
floor_refused cell places limit TooLarge units refused h = large_other cell places limit refused.0 h.written refused.1 h.form refused.2 h.within
floor_refused cell places limit TooFine units refused h = refused

-- the place at which a cell isn't of a form
pub place_once : {A : Type 0} (form : ℕ → List ℕ → A → Type 0) (cell : List ℕ) (a b : ℕ) → IsRefusedAt form cell a → IsRefusedAt form cell b → a ≡ b
place_once form cell a b ha hb =
    let up : b ≤ a = ha.longest b hb.within hb.begins in
    let down : a ≤ b = hb.longest a ha.within ha.begins in
    omega arith

-- where values and faults are one each and exclude each other, a cell that has one of them has one outcome
one_outcome : {V F : Type 0} (IsValue : V → Type 0) (IsFault : F → Type 0) → ((v w : V) → IsValue v → IsValue w → w ≡ v)
    → ((f g : F) → IsFault f → IsFault g → g ≡ f) → ((f : F) (v : V) → IsFault f → IsValue v → ⊥)
    → ((v : V) × IsValue v) ⊎ ((f : F) × IsFault f) → HasOneOutcome IsValue IsFault
one_outcome IsValue IsFault one other apart (inl value) = inl (value.0, value.1, λ w is. one value.0 w value.1 is, λ f is. apart f value.0 is value.1)
one_outcome IsValue IsFault one other apart (inr fault) = inr (fault.0, fault.1, λ g is. other fault.0 g fault.1 is, λ v is. apart fault.0 v fault.1 is)

pub decimal_once : HasValueOrFault
decimal_once cell places limit =
    one_outcome (IsDecimalOf cell places limit) (IsDecimalFault cell places limit) (λ v w is also. decimal_same cell places limit w v also is)
    (λ f g is also. fault_once cell places limit g f also is) (λ f v refused is. decimal_refused cell places limit f v refused is) (decimal_outcome cell places limit)

pub floor_once : HasFloorOrFault
floor_once cell places limit =
    one_outcome (IsFloorOf cell places limit) (IsFloorFault cell places limit) (λ v w is also. floor_same cell places limit w v also is)
    (λ f g is also. floor_fault_once cell places limit g f also is) (λ f v refused is. floor_refused cell places limit f v refused is) (floor_outcome cell places limit)

pub grid_once : HasGridOrFault
grid_once cell =
    one_outcome (IsGridOf cell) (IsGridFault cell) (λ v w is also. grid_same cell w v also is) (λ f g is also. place_once IsGridText cell g f also is)
    (λ f v refused is. refused.other v is) (grid_outcome cell)

pub list_once : HasListOrFault
list_once cell =
    one_outcome (IsListOf cell) (IsListFault cell) (λ v w is also. list_same cell w v also is) (λ f g is also. place_once IsListText cell g f also is)
    (λ f v refused is. refused.other v is) (list_outcome cell)
