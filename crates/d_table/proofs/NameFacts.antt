-- Names of a header, place by place.
use Rattle.std.proofs.Common.{◌≡◌, ℕ, ◌<◌, List, [], length, map, get_or, Bor, arith, sym, ap, ◌∙◌}
use Rattle.std.specs.Str.{str_to_ascii_lowercase}
use Rattle.std.proofs.lemmas.List.{get_or-map, length-map, ext_get_or}

-- names that are the same, place by place
pub names_are : (header : List (List ℕ)) (names : List (Bor (List ℕ))) → length header ≡ length names
    → ((k : ℕ) → k < length names → str_to_ascii_lowercase (get_or header k []) ≡ get_or (map (λ (name : Bor (List ℕ)). name.now) names) k [])
    → map str_to_ascii_lowercase header ≡ map (λ (name : Bor (List ℕ)). name.now) names
names_are header names long same =
    ext_get_or [] (map str_to_ascii_lowercase header) (map (λ (name : Bor (List ℕ)). name.now) names) (simp length-map long)
    (λ k within. let lt : k < length header = omega (arith, length-map header str_to_ascii_lowercase) in
    get_or-map str_to_ascii_lowercase header k [] [] lt ∙ same k (omega arith))

-- and the other way round
pub name_at : (header : List (List ℕ)) (names : List (Bor (List ℕ))) (k : ℕ) → k < length names
    → map str_to_ascii_lowercase header ≡ map (λ (name : Bor (List ℕ)). name.now) names
    → str_to_ascii_lowercase (get_or header k []) ≡ (get_or names k (record { ref_ptr = (0, 0); now = [] })).now
name_at header names k within same =
    let long : length header ≡ length names = omega (arith, ap length same, length-map header str_to_ascii_lowercase, length-map names (λ (name : Bor (List ℕ)). name.now)) in
    let there : k < length header = omega arith in
    sym (get_or-map str_to_ascii_lowercase header k [] [] there) ∙ ap (λ (cells : List (List ℕ)). get_or cells k []) same
    ∙ get_or-map (λ (name : Bor (List ℕ)). name.now) names k (record { ref_ptr = (0, 0); now = [] }) [] within
