-- A row lowered move by move.
use Rattle.std.proofs.Common.{◌≡◌, ◌≢◌, ◌+◌, ◌-◌, ◌≤◌, ◌<◌, ℕ, List, length, Option, None, inl, inr, ap, sym, subst, ◌∙◌, refl, arith, slice_index_or, slice_set}
use Rattle.std.proofs.lemmas.List.{get_or-set_same, get_or-set_other, get_or_default, length-set}
use Rattle.d_num.specs.declared.pot.Pot.{Pot}
use Rattle.d_num.specs.declared.pot.Pot.TheVariants.{NoWay}
use Rattle.d_num.specs.Pot.{joined}
use Rattle.d_path.specs.declared.ways.Move.{Move}
use Rattle.d_path.specs.Arcs.{Arcs, next_level, along, intervals_of}
use Rattle.d_path.specs.Cheapest.{entry, HasCheapest}
use Rattle.d_path.specs.Best.{IsLeastOf, IsLesser, IsSpan, IsLowered, AreCostsAt, cost_by}
use Rattle.d_path.proofs.CostLemmas.{along-NoWay}
use Rattle.d_path.proofs.WayLemmas.{next_level_in}
use Rattle.d_path.proofs.StepLemmas.{below?, least_more, lesser_stays, read_cost, cheapest_step}
use Rattle.d_path.proofs.RowLemmas.{columns_all}

-- the cost by a move from a level
abbrev pub by_move : Arcs → Move → Pot → List Pot → ℕ → Pot
by_move a move cost next column = along cost (next_level a (a.floor + column) move) (entry a next)

-- the columns before this one are lowered, and the others are as they were
pub record IsLoweredBefore (a : Arcs) (move : Move) (cost : Pot) (next old new : List Pot) (end : ℕ) : Type 0 where
  pub long : length new ≡ length old
  pub lowered : (column : ℕ) → column < length old → column < end → IsLesser (slice_index_or old column NoWay) (by_move a move cost next column) (slice_index_or new column NoWay)
  pub same : (column : ℕ) → end ≤ column → slice_index_or new column NoWay ≡ slice_index_or old column NoWay

-- where the move can't be made nothing changes
barred : (a : Arcs) (move : Move) (cost : Pot) (next old : List Pot) (column : ℕ) → next_level a (a.floor + column) move ≡ None → IsLesser (slice_index_or old column NoWay) (by_move a move cost next column) (slice_index_or old column NoWay)
barred a move cost next old column none =
    subst (λ (q : Pot). IsLesser (slice_index_or old column NoWay) q (slice_index_or old column NoWay)) (sym (ap (λ (o : Option ℕ). along cost o (entry a next)) none)) (lesser_stays (slice_index_or old column NoWay))

pub lowered_none : (a : Arcs) (move : Move) (cost : Pot) (next row : List Pot) (from to count : ℕ) → IsSpan a move from to count → IsLoweredBefore a move cost next row row (from + 0)
lowered_none a move cost next row from to count span = record {
  long = refl;
  lowered = λ column lt before. barred a move cost next row column (span.not_below column (omega arith));
  same = λ column h. refl;
}

-- what the code writes there
pub lowered_more : (a : Arcs) (move : Move) (cost : Pot) (next old new : List Pot) (from to count i : ℕ) (value : Pot) → IsSpan a move from to count → IsLoweredBefore a move cost next old new (from + i) → i < count → from + i < length old → IsLesser (slice_index_or new (from + i) NoWay) (joined cost (slice_index_or next (to + i) NoWay)) value → IsLoweredBefore a move cost next old (slice_set new (from + i) value) (from + (i + 1))
lowered_more a move cost next old new from to count i value span before lt inside lesser = record {
  long = simp length-set before.long;
  lowered = λ column less here. elim (below? column (from + i)) [
    | inl earlier ↦
        let other : column ≢ from + i = omega arith in
        subst (λ (q : Pot). IsLesser (slice_index_or old column NoWay) (by_move a move cost next column) q) (sym (get_or-set_other new (from + i) column value NoWay other)) (before.lowered column less earlier)
    | inr ge ↦
        let at : from + i ≡ column = omega arith in
        subst (λ (j : ℕ). IsLesser (slice_index_or old j NoWay) (by_move a move cost next j) (slice_index_or (slice_set new (from + i) value) j NoWay)) at written
  ];
  same = λ column h.
      let other : column ≢ from + i = omega arith in
      get_or-set_other new (from + i) column value NoWay other ∙ before.same column (omega arith);
}
  where
    step : by_move a move cost next (from + i) ≡ joined cost (slice_index_or next (to + i) NoWay)
    step =
        let place : (a.floor + (to + i)) - a.floor ≡ to + i = omega arith in
        ap (λ (o : Option ℕ). along cost o (entry a next)) (span.leads i lt) ∙ ap (λ (j : ℕ). joined cost (slice_index_or next j NoWay)) place

    in_new : from + i < length new
    in_new = omega (arith, before.long)

    written : IsLesser (slice_index_or old (from + i) NoWay) (by_move a move cost next (from + i)) (slice_index_or (slice_set new (from + i) value) (from + i) NoWay)
    written =
        subst (λ (q : Pot). IsLesser (slice_index_or old (from + i) NoWay) (by_move a move cost next (from + i)) q) (sym (get_or-set_same new (from + i) value NoWay in_new))
        (subst (λ (q : Pot). IsLesser (slice_index_or old (from + i) NoWay) q value) (sym step)
        (subst (λ (q : Pot). IsLesser q (joined cost (slice_index_or next (to + i) NoWay)) value) (before.same (from + i) (omega arith)) lesser))

-- at the end of the span the whole row is lowered
pub lowered_all : (a : Arcs) (move : Move) (cost : Pot) (next old new : List Pot) (from to count i : ℕ) → IsSpan a move from to count → a.floor + length old ≡ a.capacity + 1 → count ≤ i → IsLoweredBefore a move cost next old new (from + i) → IsLowered a move cost next old new
lowered_all a move cost next old new from to count i span wide done before column lt = elim (below? column (from + i)) [
  | inl less ↦ before.lowered column lt less
  | inr ge ↦ subst (λ (q : Pot). IsLesser (slice_index_or old column NoWay) (by_move a move cost next column) q) (sym (before.same column ge)) (barred a move cost next old column (span.not_above column (omega arith) (omega arith)))
]

-- each entry of a row is the least over the first k moves
abbrev pub AreLeastOf : Arcs → List Pot → List Pot → List Pot → ℕ → Type 0
AreLeastOf a costs next row k = (column : ℕ) → column < length row → IsLeastOf (cost_by a costs next (a.floor + column)) k (slice_index_or row column NoWay)

-- where a column of the span leads is in the next row
pub lands : (a : Arcs) (move : Move) (from to count i size : ℕ) → IsSpan a move from to count → i < count → a.floor + size ≡ a.capacity + 1 → to + i < size
lands a move from to count i size span lt wide =
    let in_range = next_level_in a (a.floor + (from + i)) move (a.floor + (to + i)) (span.leads i lt) in
    omega (arith, in_range.1)

-- one more move
pub least_lowered : (a : Arcs) (costs next row new : List Pot) (k : ℕ) (cost e : Pot) (d : Move) → AreLeastOf a costs next row k → k < length a.moves → length costs ≡ length a.moves → slice_index_or costs k e ≡ cost → length new ≡ length row → IsLowered a (slice_index_or a.moves k d) cost next row new → AreLeastOf a costs next new (k + 1)
least_lowered a costs next row new k cost e d before lt long read same lowered column inside =
    let here : column < length row = omega arith in
    let at : cost ≡ slice_index_or costs k cost = sym read ∙ get_or_default costs k e cost (omega arith) in
    least_more (cost_by a costs next (a.floor + column)) k (slice_index_or row column NoWay) (by_move a (slice_index_or a.moves k d) cost next column) (slice_index_or new column NoWay) (before column here)
    (read_cost a costs next (a.floor + column) k cost d lt long at) (lowered column here)

-- one more move that may not be used
pub least_skipped : (a : Arcs) (costs next row : List Pot) (k : ℕ) (e : Pot) (d : Move) → AreLeastOf a costs next row k → k < length a.moves → length costs ≡ length a.moves → slice_index_or costs k e ≡ NoWay → AreLeastOf a costs next row (k + 1)
least_skipped a costs next row k e d before lt long none column inside =
    let at : NoWay ≡ slice_index_or costs k NoWay = sym none ∙ get_or_default costs k e NoWay (omega arith) in
    least_more (cost_by a costs next (a.floor + column)) k (slice_index_or row column NoWay) NoWay (slice_index_or row column NoWay) (before column inside)
    (sym (along-NoWay (next_level a (a.floor + column) (slice_index_or a.moves k d)) (entry a next)) ∙ read_cost a costs next (a.floor + column) k NoWay d lt long at)
    (lesser_stays (slice_index_or row column NoWay))

-- all moves
pub least_all : (a : Arcs) (t : ℕ) (costs next row : List Pot) (k : ℕ) → AreLeastOf a costs next row k → k ≡ length a.moves → AreCostsAt a t costs → HasCheapest a (t + 1) next → t < intervals_of a → a.floor + length row ≡ a.capacity + 1 → HasCheapest a t row
least_all a t costs next row k least all are after_is inside wide =
    columns_all a t row wide (λ column lt.
    cheapest_step a t (a.floor + column) costs next are after_is (slice_index_or row column NoWay) inside
    (subst (λ (n : ℕ). IsLeastOf (cost_by a costs next (a.floor + column)) n (slice_index_or row column NoWay)) all (least column lt)))
