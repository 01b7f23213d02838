-- The keys of a search's open boxes, and which of them comes first. The order is our own rule.
use Rattle.std.specs.Prelude.{ℕ, Bool, true, false, ◌<◌, ◌≤◌, ◌<ℤ◌, ◌≡◌, ◌⊎◌}
use Rattle.std.specs.declared.cmp.Ordering.{Ordering}
use Rattle.std.specs.Ordering.{nat_cmp, int_cmp, bool_cmp, on, flip_args, then_cmp}
use Rattle.d_front.specs.declared.key.Key.{Key}

-- of boxes with one bound, points come before those that can be split
abbrev pub rank : Bool → ℕ
rank true = 0
rank false = 1

-- one key comes before another, or is the same: its bound is lower; or both bounds are one, and its rank is lower; or both ranks are one as
-- well, and its number isn't higher
abbrev pub ComesFirst : Key → Key → Type 0
ComesFirst a b =
    (a.bound <ℤ b.bound) ⊎ ((a.bound ≡ b.bound) × ((rank a.point < rank b.point) ⊎ ((rank a.point ≡ rank b.point) × (a.node ≤ b.node))))

-- how the heap compares two keys: part by part, in the same order
abbrev pub key_cmp : Key → Key → Ordering
key_cmp = then_cmp (then_cmp (on (λ k. k.bound) int_cmp) (flip_args (on (λ k. k.point) bool_cmp))) (on (λ k. k.node) nat_cmp)
