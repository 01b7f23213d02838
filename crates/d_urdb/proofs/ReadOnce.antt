-- A cell is read in at most one way.
use Rattle.std.proofs.Common.{◌≡◌, inl, inr, ℕ, ◌^◌, ℤ, Bool, true, false, Option, None, Some, Result, Ok, Err, List, [], ◌∷◌, refl, sym, ap, ◌∙◌}
use Rattle.d_text.specs.Decimal.{IsFormFault}
use Rattle.d_text.specs.declared.items.Span.{Span}
use Rattle.d_text.specs.Grid.{IsGridOf, IsGridText, IsListText}
use Rattle.d_text.specs.declared.decimal.DecimalFault.{DecimalFault}
use Rattle.d_text.specs.declared.decimal.DecimalFault.TheVariants.{Empty, Form, TooLarge, TooFine}
use Rattle.d_text.proofs.OneReading.{one-reading}
use Rattle.d_text.proofs.OnceLaws.{form_once, form_filled, large_other, fault_once, place_once}
use Rattle.d_text.proofs.DecimalLaws.{decimal_same, floor_same}
use Rattle.d_text.proofs.FaultLaws.{empty_other, decimal_refused}
use Rattle.d_text.proofs.GridLaws.{grid_same, list_same}
use Rattle.d_urdb.specs.Numbers.{IsNumber, IsBeyond, IsEnd, IsHours, IsList}

-- a value and why there is none
number_or_fault : (cell : List ℕ) (limit : ℕ) (value : ℤ) (fault : DecimalFault) → IsNumber limit cell (Ok value) → IsNumber limit cell (Err fault) → ⊥
number_or_fault cell limit value fault (inl blank) refused = refused.0 blank.0
number_or_fault cell limit value fault (inr is) refused = decimal_refused cell 18 limit fault value refused.1 is

value_once : (cell : List ℕ) (limit : ℕ) (u v : ℤ) → IsNumber limit cell (Ok u) → IsNumber limit cell (Ok v) → u ≡ v
value_once cell limit u v (inl a) (inl b) = a.1 ∙ sym b.1
value_once cell limit u v (inl a) (inr b) = absurd (empty_other cell b.written a.0 b.form)
value_once cell limit u v (inr a) (inl b) = absurd (empty_other cell a.written b.0 a.form)
value_once cell limit u v (inr a) (inr b) = decimal_same cell 18 limit u v a b

pub number_once : (limit : ℕ) (cell : List ℕ) (a b : Result ℤ DecimalFault) → IsNumber limit cell a → IsNumber limit cell b → a ≡ b
number_once limit cell (Ok u) (Ok v) ha hb = ap Ok (value_once cell limit u v ha hb)
number_once limit cell (Ok u) (Err f) ha hb = absurd (number_or_fault cell limit u f ha hb)
number_once limit cell (Err f) (Ok v) ha hb = absurd (number_or_fault cell limit v f hb ha)
number_once limit cell (Err f) (Err g) ha hb = ap Err (fault_once cell 18 limit f g ha.1 hb.1)

-- an end and none
end_or_beyond : (cell : List ℕ) (end : ℤ) (minus : Bool) → IsEnd cell (Ok (Some end)) → IsBeyond cell minus → ⊥
end_or_beyond cell end minus (inl blank) is = empty_other cell is.written blank.0 is.form
end_or_beyond cell end minus (inr floor) is = large_other cell 3 (10 ^ 10) is.written floor.written is.form floor.form is.beyond floor.within

end_or_form : (cell : List ℕ) (end : ℤ) (place : ℕ) → IsEnd cell (Ok (Some end)) → IsFormFault cell place → ⊥
end_or_form cell end place (inl blank) fault = form_filled cell place blank.0 fault
end_or_form cell end place (inr floor) fault = fault.other floor.written floor.form

beyond_once : (cell : List ℕ) → IsBeyond cell false → IsBeyond cell true → ⊥
beyond_once cell a b =
    let same : a.written ≡ b.written = one-reading cell a.written b.written a.form b.form in
    let bad : false ≡ true = sym a.sign ∙ ap (λ w. w.minus) same ∙ b.sign in
    cc

some_end_once : (cell : List ℕ) (u v : ℤ) → IsEnd cell (Ok (Some u)) → IsEnd cell (Ok (Some v)) → u ≡ v
some_end_once cell u v (inl a) (inl b) = a.1 ∙ sym b.1
some_end_once cell u v (inl a) (inr b) = absurd (empty_other cell b.written a.0 b.form)
some_end_once cell u v (inr a) (inl b) = absurd (empty_other cell a.written b.0 a.form)
some_end_once cell u v (inr a) (inr b) = floor_same cell 3 (10 ^ 10) u v a b

pub end_once : (cell : List ℕ) (a b : Result (Option ℤ) DecimalFault) → IsEnd cell a → IsEnd cell b → a ≡ b
end_once cell (Err Empty) b ha hb = absurd ha
end_once cell (Err TooFine) b ha hb = absurd ha
end_once cell (Ok (Some u)) (Err Empty) ha hb = absurd hb
end_once cell (Ok None) (Err Empty) ha hb = absurd hb
end_once cell (Err (Form p)) (Err Empty) ha hb = absurd hb
end_once cell (Err TooLarge) (Err Empty) ha hb = absurd hb
end_once cell (Ok (Some u)) (Err TooFine) ha hb = absurd hb
end_once cell (Ok None) (Err TooFine) ha hb = absurd hb
end_once cell (Err (Form p)) (Err TooFine) ha hb = absurd hb
end_once cell (Err TooLarge) (Err TooFine) ha hb = absurd hb
end_once cell (Ok (Some u)) (Ok (Some v)) ha hb = ap (λ end. Ok (Some end)) (some_end_once cell u v ha hb)
end_once cell (Ok (Some u)) (Ok None) ha hb = absurd (end_or_beyond cell u false ha hb)
end_once cell (Ok (Some u)) (Err (Form q)) ha hb = absurd (end_or_form cell u q ha hb)
end_once cell (Ok (Some u)) (Err TooLarge) ha hb = absurd (end_or_beyond cell u true ha hb)
end_once cell (Ok None) (Ok (Some v)) ha hb = absurd (end_or_beyond cell v false hb ha)
end_once cell (Ok None) (Ok None) ha hb = refl
end_once cell (Ok None) (Err (Form q)) ha hb = absurd (hb.other ha.written ha.form)
end_once cell (Ok None) (Err TooLarge) ha hb = absurd (beyond_once cell ha hb)
end_once cell (Err (Form p)) (Ok (Some v)) ha hb = absurd (end_or_form cell v p hb ha)
end_once cell (Err (Form p)) (Ok None) ha hb = absurd (ha.other hb.written hb.form)
end_once cell (Err (Form p)) (Err (Form q)) ha hb = ap (λ place. Err (Form place)) (form_once cell p q ha hb)
end_once cell (Err (Form p)) (Err TooLarge) ha hb = absurd (ha.other hb.written hb.form)
end_once cell (Err TooLarge) (Ok (Some v)) ha hb = absurd (end_or_beyond cell v true hb ha)
end_once cell (Err TooLarge) (Ok None) ha hb = absurd (beyond_once cell hb ha)
end_once cell (Err TooLarge) (Err (Form q)) ha hb = absurd (hb.other ha.written ha.form)
end_once cell (Err TooLarge) (Err TooLarge) ha hb = refl

-- no grid is empty
no_grid : (cell : List ℕ) (rows : List (List ℕ)) → cell ≡ [] → IsGridOf cell rows → ⊥
no_grid cell [] empty is = is.bracketed
no_grid cell (row ∷ rows) empty is = let bad : [] ≡ 91 ∷ is.bracketed.0 = sym empty ∙ is.bracketed.1 in cc

rows_once : (cell : List ℕ) (rows others : List (List ℕ)) → IsHours cell (Ok rows) → IsHours cell (Ok others) → rows ≡ others
rows_once cell rows others (inl a) (inl b) = a.1 ∙ sym b.1
rows_once cell rows others (inl a) (inr b) = absurd (no_grid cell others a.0 b)
rows_once cell rows others (inr a) (inl b) = absurd (no_grid cell rows b.0 a)
rows_once cell rows others (inr a) (inr b) = grid_same cell rows others a b

rows_or_place : (cell : List ℕ) (rows : List (List ℕ)) (place : ℕ) → IsHours cell (Ok rows) → IsHours cell (Err place) → ⊥
rows_or_place cell rows place (inl blank) refused = refused.0 blank.0
rows_or_place cell rows place (inr is) refused = refused.1.other rows is

pub hours_once : (cell : List ℕ) (a b : Result (List (List ℕ)) ℕ) → IsHours cell a → IsHours cell b → a ≡ b
hours_once cell (Ok rows) (Ok others) ha hb = ap Ok (rows_once cell rows others ha hb)
hours_once cell (Ok rows) (Err place) ha hb = absurd (rows_or_place cell rows place ha hb)
hours_once cell (Err place) (Ok rows) ha hb = absurd (rows_or_place cell rows place hb ha)
hours_once cell (Err p) (Err q) ha hb = ap Err (place_once IsGridText cell p q ha.1 hb.1)

pub spans_once : (cell : List ℕ) (a b : Result (List Span) ℕ) → IsList cell a → IsList cell b → a ≡ b
spans_once cell (Ok spans) (Ok others) ha hb = ap Ok (list_same cell spans others ha hb)
spans_once cell (Ok spans) (Err place) ha hb = absurd (hb.other spans ha)
spans_once cell (Err place) (Ok spans) ha hb = absurd (ha.other spans hb)
spans_once cell (Err p) (Err q) ha hb = ap Err (place_once IsListText cell p q ha hb)
