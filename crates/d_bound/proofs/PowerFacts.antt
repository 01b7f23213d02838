-- The powers of all modes, and layers for a problem's days.
use Rattle.std.proofs.Common.{◌≡◌, ℕ, ℤ, ◌+◌, ◌*◌, ◌/◌, ◌%◌, ◌<◌, ◌++◌, List, [], ◌∷◌, length, map, ap, sym, ◌∙◌, arith, get_or}
use Rattle.std.specs.List.{range_with_len}
use Rattle.std.proofs.Math.Path.{ap₂}
use Rattle.std.proofs.lemmas.List.FromFn.{length-map-range_with_len, get_or-map-range_with_len, map-range_with_len_more}
use Rattle.d_bill.specs.Inputs.{Inputs}
use Rattle.d_bill.specs.Flows.{arc_of}
use Rattle.d_bound.specs.Bounders.{power_in, power_at_place, mode_powers}

-- one more power
pub powers_more : (i : Inputs) (place modes : ℕ) (powers new : List ℤ) (power : ℤ) → modes ≡ length i.storage.modes → powers ≡ map (power_at_place i) (range_with_len 0 place)
    → power ≡ power_in (arc_of i (place / modes) (place % modes)) → new ≡ powers ++ power ∷ [] → new ≡ map (power_at_place i) (range_with_len 0 (place + 1))
powers_more i place modes powers new power count so_far here push =
    let at : power ≡ power_at_place i place = here ∙ ap (λ (k : ℕ). power_in (arc_of i (place / k) (place % k))) count in
    push ∙ ap₂ (λ (list : List ℤ) (last : ℤ). list ++ last ∷ []) so_far at ∙ sym (map-range_with_len_more (power_at_place i) 0 place place (omega arith))

-- all powers
pub powers_all : (i : Inputs) (place : ℕ) → place ≡ length i.net * length i.storage.modes → map (power_at_place i) (range_with_len 0 place) ≡ mode_powers i
unfolding mode_powers
powers_all i place whole = ap (λ (n : ℕ). map (power_at_place i) (range_with_len 0 n)) whole

-- there is one an interval and mode
pub powers_long : (i : Inputs) → length (mode_powers i) ≡ length i.net * length i.storage.modes
unfolding mode_powers
powers_long i = length-map-range_with_len (power_at_place i) 0 (length i.net * length i.storage.modes)

-- the power at a place
pub powers_read : (i : Inputs) (place : ℕ) (d : ℤ) → place < length i.net * length i.storage.modes → get_or (mode_powers i) place d ≡ power_at_place i place
unfolding mode_powers
powers_read i place d within = get_or-map-range_with_len (power_at_place i) 0 (length i.net * length i.storage.modes) place place d within (omega arith)
