-- Values of the months, set one after the other.
use Rattle.std.proofs.Common.{◌≡◌, ◌∙◌, ℕ, ◌+◌, ◌<◌, List, length, map, get_or, sym, ap, arith, inl, inr}
use Rattle.std.specs.List.{range_with_len}
use Rattle.std.proofs.Math.ListN.{set}
use Rattle.std.proofs.lemmas.Bool.{cases_eq}
use Rattle.std.proofs.lemmas.Grind.{get_or-set_at}
use Rattle.std.proofs.lemmas.List.{ext_get_or, get_or-set_other}
use Rattle.std.proofs.lemmas.List.FromFn.{get_or-map-range_with_len, length-map-range_with_len}

-- the first values are those of a function
abbrev pub AreFirst : {A : Type 0} → (ℕ → A) → A → ℕ → List A → Type 0
AreFirst f other count values = (month : ℕ) → month < count → get_or values month other ≡ f month

-- one more value
pub first_more : {A : Type 0} (f : ℕ → A) (other value : A) (count : ℕ) (values : List A) → count < length values → AreFirst f other count values
    → value ≡ f count → AreFirst f other (count + 1) (set values count value)
first_more f other value count values within before here month below = elim (cases_eq month count) [
  | inl is ↦ get_or-set_at values count month value other is within ∙ here ∙ ap f (sym is)
  | inr differs ↦ get_or-set_other values count month value other differs ∙ before month (omega (arith, below, differs))
]

-- all twelve
pub all_twelve : {A : Type 0} (f : ℕ → A) (other : A) (count : ℕ) (values : List A) → count ≡ 12 → length values ≡ 12 → AreFirst f other count values
    → values ≡ map f (range_with_len 0 12)
all_twelve f other count values all long before =
    ext_get_or other values (map f (range_with_len 0 12)) (long ∙ sym (length-map-range_with_len f 0 12))
    (λ month within. before month (omega (arith, all, long, within)) ∙ sym (get_or-map-range_with_len f 0 12 month month other (omega (arith, long, within)) (omega arith)))
