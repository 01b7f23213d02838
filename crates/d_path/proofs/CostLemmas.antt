-- The order of costs, and sums of them.
use Rattle.std.proofs.Common.{◌≡◌, ◌≢◌, ◌⊎◌, ◌+◌, ◌≤◌, ℕ, ℤ, Option, Some, None, inl, inr, ap, refl, arith, ◌+ℤ◌, ◌≤ℤ◌}
use Rattle.std.proofs.lemmas.Int.{ints}
use Rattle.d_num.specs.declared.pot.Pot.{Pot}
use Rattle.d_num.specs.declared.pot.Pot.TheVariants.{To, NoWay}
use Rattle.d_num.specs.Pot.{AtMost, joined, IsPotWithin}
use Rattle.d_path.specs.Arcs.{along}

pub AtMost-refl : (p : Pot) → AtMost p p
AtMost-refl (To x) = omega (arith, ints)
AtMost-refl NoWay = tt

pub AtMost-trans : (p q r : Pot) → AtMost p q → AtMost q r → AtMost p r
AtMost-trans (To x) (To y) (To z) h k = omega (arith, ints)
AtMost-trans (To x) (To y) NoWay h k = tt
AtMost-trans (To x) NoWay (To z) h k = absurd k
AtMost-trans (To x) NoWay NoWay h k = tt
AtMost-trans NoWay (To y) r h k = absurd h
AtMost-trans NoWay NoWay r h k = k

pub AtMost-antisym : (p q : Pot) → AtMost p q → AtMost q p → p ≡ q
AtMost-antisym (To x) (To y) h k = let same : x ≡ y = omega (arith, ints) in ap To same
AtMost-antisym (To x) NoWay h k = absurd k
AtMost-antisym NoWay (To y) h k = absurd h
AtMost-antisym NoWay NoWay h k = refl

total_numbers : (x y : ℤ) → (x ≤ℤ y) ⊎ (y ≤ℤ x)
total_numbers x y = grind (arith, ints)

pub AtMost-total : (p q : Pot) → AtMost p q ⊎ AtMost q p
AtMost-total (To x) (To y) = total_numbers x y
AtMost-total (To x) NoWay = inl tt
AtMost-total NoWay (To y) = inr tt
AtMost-total NoWay NoWay = inl tt

-- whatever isn't at most another is at least that
pub AtMost-other : (p q : Pot) → (AtMost p q → ⊥) → AtMost q p
AtMost-other p q h = elim (AtMost-total p q) [ inl k ↦ absurd (h k) | inr k ↦ k ]

pub AtMost-NoWay : (p : Pot) → AtMost p NoWay
AtMost-NoWay (To x) = tt
AtMost-NoWay NoWay = tt

-- what is no less than no way is no way
pub NoWay-AtMost : (p : Pot) → AtMost NoWay p → p ≡ NoWay
NoWay-AtMost (To x) h = absurd h
NoWay-AtMost NoWay h = refl

pub NoWay? : (p : Pot) → (p ≡ NoWay) ⊎ (p ≢ NoWay)
NoWay? (To x) = inr (λ e. cc)
NoWay? NoWay = inl refl

-- a sum of costs is no greater than one of greater costs
pub AtMost-joined : (c d p q : Pot) → AtMost c d → AtMost p q → AtMost (joined c p) (joined d q)
AtMost-joined (To c) (To d) (To x) (To y) h k = omega (arith, ints)
AtMost-joined (To c) (To d) (To x) NoWay h k = tt
AtMost-joined (To c) (To d) NoWay (To y) h k = absurd k
AtMost-joined (To c) (To d) NoWay NoWay h k = tt
AtMost-joined (To c) NoWay (To x) q h k = tt
AtMost-joined (To c) NoWay NoWay q h k = tt
AtMost-joined NoWay (To d) p q h k = absurd h
AtMost-joined NoWay NoWay p q h k = tt

pub joined-NoWay : (c : Pot) → joined c NoWay ≡ NoWay
joined-NoWay (To c) = refl
joined-NoWay NoWay = refl

same_rest : (c x y : ℤ) → c +ℤ x ≡ c +ℤ y → x ≡ y
same_rest c x y e = omega (arith, ints)

-- equal sums of one cost and another have equal others, where the sum is there
pub joined_cancel : (c p q : Pot) → joined c p ≡ joined c q → joined c p ≢ NoWay → p ≡ q
joined_cancel (To c) (To x) (To y) e there = let sums : c +ℤ x ≡ c +ℤ y = cc in ap To (same_rest c x y sums)
joined_cancel (To c) (To x) NoWay e there = absurd (there e)
joined_cancel (To c) NoWay q e there = absurd (there refl)
joined_cancel NoWay p q e there = absurd (there refl)

-- a sum that is there has both its parts
pub joined_there : (c p : Pot) → joined c p ≢ NoWay → (c ≢ NoWay) × (p ≢ NoWay)
joined_there (To c) (To x) h = (λ e. cc, λ e. cc)
joined_there (To c) NoWay h = absurd (h refl)
joined_there NoWay p h = absurd (h refl)

pub joined_within : (m n : ℕ) (c p : Pot) → IsPotWithin m c → IsPotWithin n p → IsPotWithin (m + n) (joined c p)
joined_within m n (To c) (To x) h k = (omega (arith, ints), omega (arith, ints))
joined_within m n (To c) NoWay h k = tt
joined_within m n NoWay p h k = tt

pub within_more : (m n : ℕ) (p : Pot) → m ≤ n → IsPotWithin m p → IsPotWithin n p
within_more m n (To x) le h = (omega (arith, ints), omega (arith, ints))
within_more m n NoWay le h = tt

pub AtMost-along : (cost : Pot) (o : Option ℕ) (f g : ℕ → Pot) → ((after : ℕ) → o ≡ Some after → AtMost (f after) (g after)) → AtMost (along cost o f) (along cost o g)
AtMost-along cost None f g h = tt
AtMost-along cost (Some after) f g h = AtMost-joined cost cost (f after) (g after) (AtMost-refl cost) (h after refl)

-- a step that costs no way leads nowhere
pub along-NoWay : (o : Option ℕ) (f : ℕ → Pot) → along NoWay o f ≡ NoWay
along-NoWay None f = refl
along-NoWay (Some after) f = refl

-- a way that is there has a step that can be made, and a way after it
pub along_there : (cost : Pot) (o : Option ℕ) (f : ℕ → Pot) → along cost o f ≢ NoWay → (after : ℕ) × (o ≡ Some after) × (cost ≢ NoWay) × (f after ≢ NoWay)
along_there cost None f h = absurd (h refl)
along_there cost (Some after) f h = let parts = joined_there cost (f after) h in (after, refl, parts.0, parts.1)

pub along_within : (m n : ℕ) (cost : Pot) (o : Option ℕ) (f : ℕ → Pot) → IsPotWithin m cost → ((after : ℕ) → IsPotWithin n (f after)) → IsPotWithin (m + n) (along cost o f)
along_within m n cost None f h k = tt
along_within m n cost (Some after) f h k = joined_within m n cost (f after) h (k after)
