-- Sizes in whole units.
use Rattle.std.proofs.Common.{◌≡◌, ℕ, zero, suc, ◌+◌, ◌-◌, ◌*◌, ◌/◌, ◌%◌, ◌^◌, ◌≤◌, ◌<◌, ◌⊎◌, min, Bool, true, false, arith, refl, sym, ap, ap₂, ◌∙◌, inl, inr, cond, List, ℤ}
use Rattle.d_text.proofs.PhaseFacts.{read-done}
use Rattle.std.proofs.lemmas.Nat.{mul-le, div-add-mod', pow-add}
use Rattle.std.proofs.Math.Nat.{pow-zero, pow-suc}
use Rattle.d_text.specs.Decimal.{Written, IsDecimalText, IsUnits, size_over, size_under, IsNearest}
use Rattle.d_text.specs.declared.scan.Scan.{Scan}
use Rattle.d_text.specs.Scan.{Keeps, IsShort, Holds, is_done}
use Rattle.d_text.specs.Size.{IsSize, IsQuotient, Says}
use Rattle.d_text.specs.declared.size.Size.{Size}

pub positive : (k : ℕ) → 0 < 10 ^ k
positive zero = omega (arith, pow-zero 10)
positive (suc k) = omega (arith, pow-suc 10 k, positive k)

pub times-le : (a b p : ℕ) → a ≤ b → a * p ≤ b * p
times-le a b p h = mul-le a p b p h (omega arith)

pub times-lt : (a b p : ℕ) → a < b → 0 < p → a * p < b * p
times-lt a b p h some = let more : (a + 1) * p ≤ b * p = times-le (a + 1) b p (omega arith) in omega arith

pub power-le : (j k : ℕ) → j ≤ k → 10 ^ j ≤ 10 ^ k
power-le j k h =
    let sum : 10 ^ (j + (k - j)) ≡ 10 ^ j * 10 ^ (k - j) = pow-add 10 j (k - j) in
    let place : j + (k - j) ≡ k = omega arith in
    let same : 10 ^ k ≡ 10 ^ j * 10 ^ (k - j) = sym (ap (λ (x : ℕ). 10 ^ x) place) ∙ sum in
    let least : 1 * 10 ^ j ≤ 10 ^ (k - j) * 10 ^ j = times-le 1 (10 ^ (k - j)) (10 ^ j) (let some : 0 < 10 ^ (k - j) = positive (k - j) in omega arith) in
    omega arith

-- a number over a power, from its first digits
pub smaller-size : (s : Size) (n top d p u : ℕ) (lost : Bool) → 0 < d → 0 < p → 0 < u → top * d ≤ n → n < (top + 1) * d → (lost ≡ false → n ≡ top * d) → (lost ≡ true → top * d < n)
    → IsQuotient s top u lost → IsSize s (n * p) (u * (d * p))
smaller-size s n top d p u lost hd hp hu least most kept gone q =
    let parts : top / u * u + top % u ≡ top = div-add-mod' top u in
    let rest : top % u < u = omega arith in
    let floor : s.floor ≡ top / u = q.floor in
    let whole : s.floor * u + top % u ≡ top = ap (λ (x : ℕ). x * u + top % u) floor ∙ parts in
    let next : top + 1 ≤ (s.floor + 1) * u = omega arith in
    let group : s.floor * (u * (d * p)) ≡ s.floor * u * d * p = omega arith in
    let group_next : (s.floor + 1) * (u * (d * p)) ≡ (s.floor + 1) * u * d * p = omega arith in
    record {
      exact = λ e. group ∙ ap (λ (x : ℕ). x * d * p) (let none : top % u ≡ 0 = (q.exact e).0 in omega arith) ∙ ap (λ (x : ℕ). x * p) (sym (kept (q.exact e).1));
      above = λ e. rw group (times-lt (s.floor * u * d) n p (elim (q.inexact e) [
        | inl some ↦ (let small : s.floor * u < top = omega arith in let lt : s.floor * u * d < top * d = times-lt (s.floor * u) top d small hd in omega arith)
        | inr l ↦ (let small : s.floor * u ≤ top = omega arith in let le : s.floor * u * d ≤ top * d = times-le (s.floor * u) top d small in let lt : top * d < n = gone l in omega arith)
      ]) hp);
      below = λ e. rw group_next (times-lt n ((s.floor + 1) * u * d) p (let le : (top + 1) * d ≤ (s.floor + 1) * u * d = times-le (top + 1) ((s.floor + 1) * u) d next in omega arith) hp);
    }

-- or less than one unit
pub far-size : (s : Size) (n top d p u : ℕ) → 0 < d → 0 < p → 0 < top → top < 10 ^ 38 → 10 ^ 38 ≤ u → top * d ≤ n → n < (top + 1) * d → s.floor ≡ 0 → s.exact ≡ false → IsSize s (n * p) (u * (d * p))
far-size s n top d p u hd hp ht short far least most floor inexact =
    let zero_floor : s.floor * (u * (d * p)) ≡ 0 = ap (λ (x : ℕ). x * (u * (d * p))) floor ∙ (omega arith) in
    let one_floor : (s.floor + 1) * (u * (d * p)) ≡ u * d * p = ap (λ (x : ℕ). (x + 1) * (u * (d * p))) floor ∙ (omega arith) in
    let some : 1 * d ≤ top * d = times-le 1 top d (omega arith) in
    let le : (top + 1) * d ≤ u * d = times-le (top + 1) u d (omega arith) in
    record {
      exact = λ e. absurd (let bad : false ≡ true = sym inexact ∙ e in cc);
      above = λ e. rw zero_floor (let lt : 0 * p < n * p = times-lt 0 n p (omega arith) hp in omega arith);
      below = λ e. rw one_floor (times-lt n (u * d) p (omega arith) hp);
    }

-- a power split in three
pub power-three : (a b c sum : ℕ) → sum ≡ a + (b + c) → 10 ^ sum ≡ 10 ^ a * (10 ^ b * 10 ^ c)
power-three a b c sum e = ap (λ (x : ℕ). 10 ^ x) e ∙ pow-add 10 a (b + c) ∙ ap (λ (x : ℕ). 10 ^ a * x) (pow-add 10 b c)

pub kept-all : (n top dropped : ℕ) (lost : Bool) → Keeps n top dropped lost → dropped ≡ 0 → n ≡ top
kept-all n top dropped lost k none =
    let unit : 10 ^ dropped ≡ 1 = ap (λ (x : ℕ). 10 ^ x) none ∙ pow-zero 10 in
    let least : top * 1 ≤ n = rw unit at k.least in
    let most : n < (top + 1) * 1 = rw unit at k.most in
    omega arith

pub kept-none : (n top dropped : ℕ) (lost : Bool) → Keeps n top dropped lost → top ≡ 0 → n ≡ 0
kept-none n top dropped lost k none = let all : dropped ≡ 0 = elim k.long [ inl e ↦ e | inr h ↦ absurd (omega arith) ] in kept-all n top dropped lost k all ∙ none

-- a number times a power
pub larger-size : (s : Size) (n top dropped over under power : ℕ) (lost : Bool) → Keeps n top dropped lost → over + dropped ≡ under + power → s.exact ≡ true → s.floor ≡ top * 10 ^ power → dropped ≡ 0
    → IsSize s (n * 10 ^ over) (10 ^ under)
larger-size s n top dropped over under power lost k places exact floor none =
    let same : n ≡ top = kept-all n top dropped lost k none in
    let sum : over ≡ power + under = omega arith in
    record {
      exact = λ e. ap (λ (x : ℕ). x * 10 ^ under) floor ∙ regroup top (10 ^ power) (10 ^ under) ∙ ap₂ (λ (x y : ℕ). x * y) (sym same) (sym (ap (λ (x : ℕ). 10 ^ x) sum ∙ pow-add 10 power under));
      above = λ e. absurd (let bad : true ≡ false = sym exact ∙ e in cc);
      below = λ e. absurd (let bad : true ≡ false = sym exact ∙ e in cc);
    }
  where
    regroup : (a b c : ℕ) → a * b * c ≡ a * (b * c)
    regroup a b c = omega arith

-- above 10^28
pub above-all : (n top dropped over under power : ℕ) (lost : Bool) → Keeps n top dropped lost → 0 < top → over + dropped ≡ under + power → (0 < dropped) ⊎ ((28 < power) ⊎ (10 ^ 28 < top * 10 ^ power))
    → 10 ^ 28 * 10 ^ under < n * 10 ^ over
above-all n top dropped over under power lost k some places why =
    let big : 10 ^ 28 < top * 10 ^ power = elim why [
      | inl d ↦ (let long : 10 ^ 37 ≤ top = elim k.long [ inl e ↦ absurd (omega arith) | inr h ↦ h ] in let one : 0 < 10 ^ power = positive power in many top (10 ^ power) long one)
      | inr r ↦ elim r [
        | inl p ↦ (let long : 10 ^ 29 ≤ 10 ^ power = power-le 29 power (omega arith) in let le : 1 * 10 ^ power ≤ top * 10 ^ power = times-le 1 top (10 ^ power) (omega arith) in omega arith)
        | inr b ↦ b
      ]
    ] in
    let lt : 10 ^ 28 * 10 ^ under < top * 10 ^ power * 10 ^ under = times-lt (10 ^ 28) (top * 10 ^ power) (10 ^ under) big (positive under) in
    let le : top * 10 ^ dropped * 10 ^ over ≤ n * 10 ^ over = times-le (top * 10 ^ dropped) n (10 ^ over) k.least in
    let sum : 10 ^ dropped * 10 ^ over ≡ 10 ^ power * 10 ^ under = sym (pow-add 10 dropped over) ∙ ap (λ (x : ℕ). 10 ^ x) (let e : dropped + over ≡ power + under = omega arith in e) ∙ pow-add 10 power under in
    let same : top * 10 ^ dropped * 10 ^ over ≡ top * 10 ^ power * 10 ^ under = regroup top (10 ^ dropped) (10 ^ over) ∙ ap (λ (x : ℕ). top * x) sum ∙ sym (regroup top (10 ^ power) (10 ^ under)) in
    omega arith
  where
    regroup : (a b c : ℕ) → a * b * c ≡ a * (b * c)
    regroup a b c = omega arith

    many : (t q : ℕ) → 10 ^ 37 ≤ t → 0 < q → 10 ^ 28 < t * q
    many t q long one = let le : t * 1 ≤ t * q = mul-le t 1 t q (omega arith) (omega arith) in omega arith

pub order : (a b : ℕ) → (a ≤ b) ⊎ (b < a)
order a b = grind arith

-- a size of nothing, or of less than one unit, over more
zero-size : (s : Size) (o u v : ℕ) → o ≡ 0 → 0 < u → IsSize s o u → IsSize s o v
zero-size s o u v none some h = record {
  exact = λ e. (let z : s.floor * u ≡ o = h.exact e in let zero_floor : s.floor ≡ 0 = no_factor s.floor u (z ∙ none) some in ap (λ (x : ℕ). x * v) zero_floor ∙ (let q : 0 * v ≡ 0 = omega arith in q) ∙ sym none);
  above = λ e. absurd (let lt : s.floor * u < o = h.above e in omega arith);
  below = λ e. absurd (let lt : s.floor * u < o = h.above e in omega arith);
}
  where
    no_factor : (f u : ℕ) → f * u ≡ 0 → 0 < u → f ≡ 0
    no_factor f u z some = elim (order f 0) [ inl le ↦ omega arith | inr lt ↦ absurd (let big : 0 * u < f * u = times-lt 0 f u lt some in omega arith) ]

wide-size : (s : Size) (o u v : ℕ) → s.floor ≡ 0 → s.exact ≡ false → u ≤ v → IsSize s o u → IsSize s o v
wide-size s o u v floor inexact wide h =
    let none : s.floor * v ≡ 0 = ap (λ (x : ℕ). x * v) floor ∙ (let q : 0 * v ≡ 0 = omega arith in q) in
    let one : (s.floor + 1) * v ≡ v = ap (λ (x : ℕ). (x + 1) * v) floor ∙ (let q : (0 + 1) * v ≡ v = omega arith in q) in
    let old : (s.floor + 1) * u ≡ u = ap (λ (x : ℕ). (x + 1) * u) floor ∙ (let q : (0 + 1) * u ≡ u = omega arith in q) in
    let above : s.floor * u < o = h.above inexact in
    let below : o < (s.floor + 1) * u = h.below inexact in
    record {
      exact = λ e. absurd (let bad : false ≡ true = sym inexact ∙ e in cc);
      above = λ e. rw none (omega arith);
      below = λ e. rw one (omega arith);
    }

-- the whole power in place of the one that is kept
size-up : (s : Size) (n top dropped kept power behind places : ℕ) (lost : Bool) → Keeps n top dropped lost → kept ≡ min power (10 ^ 30) → behind ≤ 2 ^ 64 → (0 < top → kept + places ≤ behind + 28)
    → IsSize s (n * 10 ^ (kept + places)) (10 ^ behind) → IsSize s (n * 10 ^ (power + places)) (10 ^ behind)
size-up s n top dropped kept power behind places lost k is short near h = elim (order power (10 ^ 30)) [
  | inl le ↦ (let same : kept ≡ power = omega arith in rw same at h)
  | inr lt ↦ (let none : top ≡ 0 = elim (order top 0) [ inl z ↦ omega arith | inr some ↦ absurd (let nr : kept + places ≤ behind + 28 = near some in omega arith) ] in
      let zero_n : n ≡ 0 = kept-none n top dropped lost k none in
      let same : n * 10 ^ (kept + places) ≡ n * 10 ^ (power + places) = ap (λ (x : ℕ). x * 10 ^ (kept + places)) zero_n ∙ zeros (10 ^ (kept + places)) (10 ^ (power + places)) ∙ ap (λ (x : ℕ). x * 10 ^ (power + places)) (sym zero_n) in
      rw same at h)
]
  where
    zeros : (a b : ℕ) → 0 * a ≡ 0 * b
    zeros a b = omega arith

size-down : (s : Size) (n top dropped kept power behind places : ℕ) (lost : Bool) → Keeps n top dropped lost → kept ≡ min power (10 ^ 30) → places ≤ 18 → dropped ≤ 2 ^ 64
    → (0 < top → places + dropped + 38 < behind + kept → (s.floor ≡ 0) × (s.exact ≡ false))
    → IsSize s (n * 10 ^ places) (10 ^ (behind + kept)) → IsSize s (n * 10 ^ places) (10 ^ (behind + power))
size-down s n top dropped kept power behind places lost k is few short far h = elim (order power (10 ^ 30)) [
  | inl le ↦ (let same : kept ≡ power = omega arith in rw same at h)
  | inr lt ↦ elim (order top 0) [
    | inl z ↦ zero-size s (n * 10 ^ places) (10 ^ (behind + kept)) (10 ^ (behind + power)) (ap (λ (x : ℕ). x * 10 ^ places) (kept-none n top dropped lost k (omega arith)) ∙ zeros (10 ^ places)) (positive (behind + kept)) h
    | inr some ↦ (let small = far some (omega arith) in wide-size s (n * 10 ^ places) (10 ^ (behind + kept)) (10 ^ (behind + power)) small.0 small.1 (power-le (behind + kept) (behind + power) (omega arith)) h)
  ]
]
  where
    zeros : (a : ℕ) → 0 * a ≡ 0
    zeros a = omega arith

pub whole-size : (down : Bool) (s : Size) (n top dropped kept power behind places over under : ℕ) (lost : Bool) → Keeps n top dropped lost → kept ≡ min power (10 ^ 30) → places ≤ 18 → dropped ≤ 2 ^ 64 → behind ≤ 2 ^ 64
    → over ≡ cond down places (kept + places) → under ≡ cond down (behind + kept) behind → (0 < top → over ≤ under + 28) → (0 < top → over + dropped + 38 < under → (s.floor ≡ 0) × (s.exact ≡ false))
    → IsSize s (n * 10 ^ over) (10 ^ under) → IsSize s (cond down (n * 10 ^ places) (n * 10 ^ (power + places))) (cond down (10 ^ (behind + power)) (10 ^ behind))
whole-size true s n top dropped kept power behind places over under lost k is few short back eo eu near far h =
    size-down s n top dropped kept power behind places lost k is few short (λ some lt. far some (omega arith)) (rw (eo, eu) at h)
whole-size false s n top dropped kept power behind places over under lost k is few short back eo eu near far h =
    size-up s n top dropped kept power behind places lost k is back (λ some. (let nr : over ≤ under + 28 = near some in omega arith)) (rw (eo, eu) at h)

pub whole-above : (down : Bool) (n kept power behind dropped places over under : ℕ) → kept ≡ min power (10 ^ 30) → places ≤ 18 → dropped ≤ 2 ^ 64 → over ≡ cond down places (kept + places) → under ≡ cond down (behind + kept) behind
    → under ≤ over + dropped → 10 ^ 28 * 10 ^ under < n * 10 ^ over → 10 ^ 28 * cond down (10 ^ (behind + power)) (10 ^ behind) < cond down (n * 10 ^ places) (n * 10 ^ (power + places))
whole-above true n kept power behind dropped places over under is few short eo eu low h =
    let same : kept ≡ power = omega arith in
    let there : 10 ^ 28 * 10 ^ (behind + kept) < n * 10 ^ places = rw (eo, eu) at h in
    rw same at there
whole-above false n kept power behind dropped places over under is few short eo eu low h =
    let there : 10 ^ 28 * 10 ^ behind < n * 10 ^ (kept + places) = rw (eo, eu) at h in
    let le : n * 10 ^ (kept + places) ≤ n * 10 ^ (power + places) = mul-le n (10 ^ (kept + places)) n (10 ^ (power + places)) (omega arith) (power-le (kept + places) (power + places) (omega arith)) in
    omega arith

-- what is above 10^28 is above each limit
pub above-limit : (limit places under over : ℕ) → limit ≤ 10 ^ 10 → places ≤ 18 → 10 ^ 28 * under < over → over ≤ limit * 10 ^ places * under → ⊥
above-limit limit places under over small few above within =
    let unit : 10 ^ places ≤ 10 ^ 18 = power-le places 18 few in
    let most : limit * 10 ^ places ≤ 10 ^ 10 * 10 ^ 18 = mul-le limit (10 ^ places) (10 ^ 10) (10 ^ 18) small unit in
    let le : limit * 10 ^ places * under ≤ 10 ^ 28 * under = times-le (limit * 10 ^ places) (10 ^ 28) under (omega arith) in
    omega arith

-- a size against a number of units
pub size-above : (s : Size) (most o u : ℕ) → 0 < u → IsSize s o u → (most < s.floor) ⊎ ((most ≤ s.floor) × (s.exact ≡ false)) → o ≤ most * u → ⊥
size-above s most o u some h (inl lt) within = at_least (floor-le s o u h)
  where
    floor-le : (s : Size) (o u : ℕ) → IsSize s o u → s.floor * u ≤ o
    floor-le s o u h = by_exact s.exact refl
      where
        by_exact : (b : Bool) → s.exact ≡ b → s.floor * u ≤ o
        by_exact true e = let q : s.floor * u ≡ o = h.exact e in omega arith
        by_exact false e = let q : s.floor * u < o = h.above e in omega arith

    at_least : s.floor * u ≤ o → ⊥
    at_least le = let big : most * u < s.floor * u = times-lt most s.floor u lt some in omega arith
size-above s most o u some h (inr e) within =
    let le : most * u ≤ s.floor * u = times-le most s.floor u e.0 in
    let lt : s.floor * u < o = h.above e.1 in
    omega arith

pub size-within : (s : Size) (most o u : ℕ) → IsSize s o u → (s.floor < most) ⊎ ((s.floor ≤ most) × (s.exact ≡ true)) → o ≤ most * u
size-within s most o u h (inl lt) = by_exact s.exact refl
  where
    le : (s.floor + 1) * u ≤ most * u
    le = times-le (s.floor + 1) most u (omega arith)

    by_exact : (b : Bool) → s.exact ≡ b → o ≤ most * u
    by_exact true e = let q : s.floor * u ≡ o = h.exact e in let l : s.floor * u ≤ most * u = times-le s.floor most u (omega arith) in omega arith
    by_exact false e = let q : o < (s.floor + 1) * u = h.below e in let l : (s.floor + 1) * u ≤ most * u = le in omega arith
size-within s most o u h (inr e) = let q : s.floor * u ≡ o = h.exact e.1 in let l : s.floor * u ≤ most * u = times-le s.floor most u e.0 in omega arith

-- the size of what a scan says
pub said-size : (scan : Scan) (w : Written) (s : Size) (places over under : ℕ) → Says scan w → IsShort (2 ^ 64) scan → places ≤ 18 → over ≡ cond scan.down places (scan.power + places)
    → under ≡ cond scan.down (scan.behind + scan.power) scan.behind → (0 < scan.number.top → over ≤ under + 28)
    → (0 < scan.number.top → over + scan.number.dropped + 38 < under → (s.floor ≡ 0) × (s.exact ≡ false))
    → ((n : ℕ) → Keeps n scan.number.top scan.number.dropped scan.number.lost → IsSize s (n * 10 ^ over) (10 ^ under)) → IsSize s (size_over w places) (size_under w)
said-size scan w s places over under h short few eo eu near far size =
    rw (← h.down, ← h.behind) (whole-size scan.down s w.digits scan.number.top scan.number.dropped scan.power w.power scan.behind places over under scan.number.lost h.keeps h.power few short.dropped short.behind eo eu near far (size w.digits h.keeps))

pub said-above : (scan : Scan) (w : Written) (places over under : ℕ) → Says scan w → IsShort (2 ^ 64) scan → places ≤ 18 → over ≡ cond scan.down places (scan.power + places)
    → under ≡ cond scan.down (scan.behind + scan.power) scan.behind → under ≤ over + scan.number.dropped
    → ((n : ℕ) → Keeps n scan.number.top scan.number.dropped scan.number.lost → 10 ^ 28 * 10 ^ under < n * 10 ^ over) → 10 ^ 28 * size_under w < size_over w places
said-above scan w places over under h short few eo eu low above =
    rw (← h.down, ← h.behind) (whole-above scan.down w.digits scan.power w.power scan.behind scan.number.dropped places over under h.power few short.dropped eo eu low (above w.digits h.keeps))

pub under-positive : (w : Written) → 0 < size_under w
under-positive w = by_down w.down
  where
    by_down : (down : Bool) → 0 < cond down (10 ^ (w.behind + w.power)) (10 ^ w.behind)
    by_down true = positive (w.behind + w.power)
    by_down false = positive w.behind

-- what a scan says
pub says : (text : List ℕ) (s : Scan) (h : Holds text s) → Says s (record { minus = s.minus; digits = h.digits; behind = s.behind; down = s.down; power = h.power })
says text s h = record { minus = refl; keeps = h.keeps; behind = refl; down = refl; power = h.power_is }

pub is-said : (text : List ℕ) (s : Scan) (h : Holds text s) → is_done s.phase ≡ true → IsDecimalText text (record { minus = s.minus; digits = h.digits; behind = s.behind; down = s.down; power = h.power })
is-said text s h done = read-done s.phase text s.minus h.digits s.behind s.down h.power done h.read

-- no whole number of units
pub no-units : (w : Written) (places : ℕ) (s : Size) (units : ℤ) → IsSize s (size_over w places) (size_under w) → s.exact ≡ false → IsUnits w places units → ⊥
no-units w places s units h e u =
    let above : s.floor * size_under w < size_over w places = h.above e in
    let below : size_over w places < (s.floor + 1) * size_under w = h.below e in
    let is : u.0 * size_under w ≡ size_over w places = u.2 in
    elim (order u.0 s.floor) [
      | inl le ↦ (let low : u.0 * size_under w ≤ s.floor * size_under w = times-le u.0 s.floor (size_under w) le in between (u.0 * size_under w) (s.floor * size_under w) (size_over w places) is low above)
      | inr lt ↦ (let high : (s.floor + 1) * size_under w ≤ u.0 * size_under w = times-le (s.floor + 1) u.0 (size_under w) (omega arith) in over_high (size_over w places) (u.0 * size_under w) ((s.floor + 1) * size_under w) is high below)
    ]
  where
    between : (a b o : ℕ) → a ≡ o → a ≤ b → b < o → ⊥
    between a b o e le lt = omega arith

    over_high : (o a b : ℕ) → a ≡ o → b ≤ a → o < b → ⊥
    over_high o a b e le lt = omega arith

-- rounded down
pub nearest-plain : (s : Size) (o u : ℕ) → 0 < u → IsSize s o u → IsNearest false s.floor o u
nearest-plain s o u some h = by_exact s.exact refl
  where
    far : (other : ℕ) → s.floor < other → o < (s.floor + 1) * u → o < other * u
    far other lt below = let le : (s.floor + 1) * u ≤ other * u = times-le (s.floor + 1) other u (omega arith) in omega arith

    by_exact : (b : Bool) → s.exact ≡ b → IsNearest false s.floor o u
    by_exact true e = let q : s.floor * u ≡ o = h.exact e in record { below = omega arith; greatest = λ other lt. far other lt (let more : s.floor * u < (s.floor + 1) * u = times-lt s.floor (s.floor + 1) u (omega arith) some in omega arith) }
    by_exact false e = let q : s.floor * u < o = h.above e in record { below = omega arith; greatest = λ other lt. far other lt (h.below e) }

pub nearest-exact : (s : Size) (o u : ℕ) → 0 < u → IsSize s o u → s.exact ≡ true → IsNearest true s.floor o u
nearest-exact s o u some h e = let q : s.floor * u ≡ o = h.exact e in
    record { above = omega arith; least = λ other lt. (let less : other * u < s.floor * u = times-lt other s.floor u lt some in omega arith) }

pub nearest-over : (s : Size) (o u : ℕ) → IsSize s o u → s.exact ≡ false → IsNearest true (s.floor + 1) o u
nearest-over s o u h e = let above : s.floor * u < o = h.above e in let below : o < (s.floor + 1) * u = h.below e in
    record { above = omega arith; least = λ other lt. (let le : other * u ≤ s.floor * u = times-le other s.floor u (omega arith) in omega arith) }
