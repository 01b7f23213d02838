-- The part of a cell that is shown.
use Rattle.std.proofs.Common.{◌≡◌, ◌⊎◌, inl, inr, ℕ, ◌≤◌, ◌<◌, min, List, length, take, ap, ◌∙◌, sym, arith}
use Rattle.std.proofs.Math.Nat.{min-eq_left, min-eq_right}
use Rattle.std.proofs.lemmas.List.{take_all}
use Rattle.d_text.proofs.SizeFacts.{order}

-- all of a cell that has fewer than 60 bytes, or its first 60
pub front_shown : (cell : List ℕ) (place : ℕ) → place ≡ min (length cell) 60 → take place cell ≡ take 60 cell
front_shown cell place at = by_order (order (length cell) 60)
  where
    by_order : (length cell ≤ 60) ⊎ (60 < length cell) → take place cell ≡ take 60 cell
    by_order (inl few) =
        let all : place ≡ length cell = at ∙ min-eq_left few in
        take_all place cell (omega arith) ∙ sym (take_all 60 cell few)
    by_order (inr many) =
        let le : 60 ≤ length cell = omega arith in
        ap (λ n. take n cell) (at ∙ min-eq_right le)
