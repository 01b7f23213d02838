-- Layers that are saved one after the other.
use Rattle.std.proofs.Common.{◌≡◌, ℕ, suc, ◌+◌, List, [], ◌∷◌, ◌++◌, length, append-nil, arith, sym, refl, ap, subst, ◌∙◌}
use Rattle.std.proofs.lemmas.List.{append_assoc}
use Rattle.d_num.specs.declared.pot.Pot.{Pot}
use Rattle.d_path.specs.Arcs.{Arcs}
use Rattle.d_path.specs.Cheapest.{HasCheapest}
use Rattle.d_desk.specs.Scene.{Scene}
use Rattle.d_desk.specs.Stages.{SavesOnly, SavesFront}
use Rattle.d_desk.proofs.StageLaws.{saves_none}
use Rattle.d_certline.specs.Lines.{Line, text_of}
use Rattle.d_certline.specs.Lines as line
use Rattle.d_certline.specs.Certificates.{layer_lines}
use Rattle.d_cert.specs.Written.{IsRow, AreRows}
use Rattle.d_cert.proofs.ChainFacts.{lines_then, lines_stop}
use Rattle.d_cert.proofs.CostFacts.{row_one}

-- the layers before were saved, and these are left
pub record RowsLeft (a : Arcs) (left : ℕ) (whole : List Line) (start now : Scene) : Type 0 where
  pub done : List Line
  pub rest : List (List Pot)
  pub all : done ++ layer_lines rest ≡ whole
  pub count : length rest ≡ left
  pub rows : AreRows a rest
  pub saved : SavesOnly (text_of done) start now

-- a row of the same ways
pub turned_row : (a b : Arcs) (t : ℕ) (row : List Pot) → a ≡ b → HasCheapest a t row → a.floor + length row ≡ a.capacity + 1 → IsRow b t row
turned_row a b t row same cheapest wide = subst (λ (x : Arcs). IsRow x t row) same (record { cheapest = cheapest; wide = wide })

pub rows_begin : (a : Arcs) (layers : List (List Pot)) (left : ℕ) (x : Scene) → AreRows a layers → length layers ≡ left → RowsLeft a left (layer_lines layers) x x
unfolding text_of
rows_begin a layers left x rows count = record { done = []; rest = layers; all = refl; count = count; rows = rows; saved = saves_none x }

-- the next of them
record IsNext (a : Arcs) (t : ℕ) (row : List Pot) (rest : List (List Pot)) : Type 0 where
  behind : List (List Pot)
  split : layer_lines rest ≡ line.layer t row ∷ layer_lines behind
  count : length behind ≡ t
  rows : AreRows a behind

next_row : (a : Arcs) (t : ℕ) (row : List Pot) (rest : List (List Pot)) → IsRow a t row → length rest ≡ suc t → AreRows a rest → IsNext a t row rest
unfolding AreRows layer_lines
next_row a t row [] is count rows = absurd (omega (arith, count))
next_row a t row (first ∷ behind) is count rows =
    let many : length behind ≡ t = omega (arith, count) in
    let same : first ≡ row = row_one a t first row (subst (λ (k : ℕ). IsRow a k first) many rows.0) is in
    record {
      behind = behind;
      split = ap (λ (k : ℕ). line.layer k first ∷ layer_lines behind) many ∙ ap (λ (r : List Pot). line.layer t r ∷ layer_lines behind) same;
      count = many;
      rows = rows.1;
    }

pub rows_step : (a : Arcs) (left t : ℕ) (row : List Pot) (whole : List Line) (x y z : Scene) → left ≡ suc t → IsRow a t row → RowsLeft a left whole x y
    → SavesOnly (text_of (line.layer t row ∷ [])) y z → RowsLeft a t whole x z
rows_step a left t row whole x y z more is old saved =
    let next = next_row a t row old.rest is (old.count ∙ more) old.rows in
    record {
      done = old.done ++ line.layer t row ∷ [];
      rest = next.behind;
      all = append_assoc old.done (line.layer t row ∷ []) (layer_lines next.behind) ∙ (ap (λ (l : List Line). old.done ++ l) (sym next.split) ∙ old.all);
      count = next.count;
      rows = next.rows;
      saved = lines_then old.done (line.layer t row ∷ []) x y z old.saved saved;
    }

pub rows_stop : (a : Arcs) (left t : ℕ) (row : List Pot) (whole : List Line) (x y z : Scene) → left ≡ suc t → IsRow a t row → RowsLeft a left whole x y
    → SavesFront (text_of (line.layer t row ∷ [])) y z → SavesFront (text_of whole) x z
rows_stop a left t row whole x y z more is old saved =
    let next = next_row a t row old.rest is (old.count ∙ more) old.rows in
    subst (λ (l : List Line). SavesFront (text_of l) x z) (ap (λ (l : List Line). old.done ++ l) (sym next.split) ∙ old.all)
    (lines_stop old.done (line.layer t row ∷ []) (layer_lines next.behind) x y z old.saved saved)

nil_lines : [] ≡ layer_lines []
unfolding layer_lines
nil_lines = refl

pub rows_end : (a : Arcs) (left : ℕ) (whole : List Line) (x y : Scene) → left ≡ 0 → RowsLeft a left whole x y → SavesOnly (text_of whole) x y
rows_end a left whole x y none old = by_rest old.rest (old.count ∙ none) old.all
  where
    none_lines : [] ≡ layer_lines []
    none_lines = nil_lines

    by_rest : (rest : List (List Pot)) → length rest ≡ 0 → old.done ++ layer_lines rest ≡ whole → SavesOnly (text_of whole) x y
    by_rest [] count all = subst (λ (l : List Line). SavesOnly (text_of l) x y) (sym (append-nil old.done) ∙ (ap (λ (l : List Line). old.done ++ l) none_lines ∙ all)) old.saved
    by_rest (row ∷ rest) count all = absurd (omega (arith, count))
