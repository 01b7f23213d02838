-- One more tier behind a table, and where ends stand.
use Rattle.std.proofs.Common.{◌≡◌, ◌↔◌, ℕ, zero, suc, ℤ, pos, ◌+◌, ◌-◌, ◌≤◌, ◌<◌, ◌<ℤ◌, ◌≢◌, List, [], ◌∷◌, ◌++◌, length, take, slice_index_or, slice_set, Some, IsNone, IfSome, true, false, if◌then◌else◌, arith, refl, sym, ap, subst, ◌∙◌}
use Rattle.std.proofs.lemmas.List.{take_more, take_more_set, length-set, append_assoc}
use Rattle.std.proofs.lemmas.List.{get_or-take, get_or_default, length-take}
use Rattle.std.proofs.lemmas.Bool.{true≢false}
use Rattle.std.proofs.lemmas.Bool.Decides.{Decides-int_eq}
use Rattle.std.specs.Ordering.{int_eq}
use Rattle.d_tier.specs.declared.tier.Tier.{Tier}
use Rattle.d_tier.specs.Tables.{IsTierEnd, IsFollowed, AreTiersFrom, IsTierTable, last_end_from, last_end, open_tier, with_tier}

-- what comes behind the tiers before the last
abbrev added : ℤ → ℤ → Tier → List Tier
added end price last = record last { end = Some end } ∷ open_tier price ∷ []

with_tier-snoc : (e p : ℤ) (ys : List Tier) (x : Tier)
    → with_tier e p (ys ++ x ∷ []) ≡ ys ++ (if int_eq x.price p then x ∷ [] else added e p x)
with_tier-snoc e p [] x = refl
with_tier-snoc e p (y ∷ []) x = refl
with_tier-snoc e p (y ∷ z ∷ ys) x = ap (λ (ts : List Tier). y ∷ ts) (with_tier-snoc e p (z ∷ ys) x)

AreTiersFrom-snoc : (s e p : ℤ) (ys : List Tier) (x : Tier) → AreTiersFrom s (ys ++ x ∷ [])
    → last_end_from s (ys ++ x ∷ []) <ℤ e → IsTierEnd e → x.price ≢ p → AreTiersFrom s (ys ++ added e p x)
AreTiersFrom-snoc s e p [] x h above range apart =
    let over : s <ℤ e = rw h at above in
    (e, record { there = refl; above = over; range = range; apart = apart }, refl)
AreTiersFrom-snoc s e p (y ∷ []) x h above range apart =
    let over : h.0 <ℤ e = rw (h.2, h.1.there) at above in
    let follows : IsFollowed s h.0 y (record x { end = Some e }) =
    record { there = h.1.there; above = h.1.above; range = h.1.range; apart = h.1.apart } in
    (h.0, follows, (e, record { there = refl; above = over; range = range; apart = apart }, refl))
AreTiersFrom-snoc s e p (y ∷ z ∷ ys) x h above range apart =
    let over : last_end_from h.0 ((z ∷ ys) ++ x ∷ []) <ℤ e = rw h.1.there at above in
    (h.0, h.1, AreTiersFrom-snoc h.0 e p (z ∷ ys) x h.2 over range apart)

last_end-snoc : (s e p : ℤ) (ys : List Tier) (x : Tier) → last_end_from s (ys ++ added e p x) ≡ e
last_end-snoc s e p [] x = refl
last_end-snoc s e p (y ∷ ys) x = last_end-snoc _ e p ys x

-- the tiers up to the last, and the last
front-last : (xs : List Tier) (n : ℕ) (d : Tier) → 1 ≤ n → n ≤ length xs
    → take n xs ≡ take (n - 1) xs ++ slice_index_or xs (n - 1) d ∷ []
front-last xs n d some short =
    let e : n ≡ (n - 1) + 1 = omega arith in
    let below : n - 1 < length xs = omega arith in
    ap (λ (k : ℕ). take k xs) e ∙ take_more xs (n - 1) d below

-- the array after both writes of a new tier
abbrev pub array_added : ℤ → ℤ → List Tier → ℕ → Tier → List Tier
array_added e p xs n f =
    slice_set (slice_set xs (n - 1) (record { price = (slice_index_or xs (n - 1) f).price; end = Some e })) n (open_tier p)

-- the table in it
front-added : (e p : ℤ) (xs : List Tier) (n : ℕ) (d : Tier) → 1 ≤ n → n < length xs
    → take (n + 1) (array_added e p xs n d) ≡ take (n - 1) xs ++ added e p (slice_index_or xs (n - 1) d)
front-added e p xs n d some short =
    let w : Tier = record { price = (slice_index_or xs (n - 1) d).price; end = Some e } in
    let long : length (slice_set xs (n - 1) w) ≡ length xs = length-set xs (n - 1) w in
    let fits : n < length (slice_set xs (n - 1) w) = omega (arith, long) in
    let below : n - 1 < length xs = omega arith in
    let e1 : n ≡ (n - 1) + 1 = omega arith in
    let inner : take n (slice_set xs (n - 1) w) ≡ take (n - 1) xs ++ w ∷ [] =
    ap (λ (k : ℕ). take k (slice_set xs (n - 1) w)) e1 ∙ take_more_set xs (n - 1) w below in
    take_more_set (slice_set xs (n - 1) w) n (open_tier p) fits
    ∙ ap (λ (ys : List Tier). ys ++ open_tier p ∷ []) inner
    ∙ append_assoc (take (n - 1) xs) (w ∷ []) (open_tier p ∷ [])

-- a table has a tier
some_tier : (s : ℤ) (ts : List Tier) → AreTiersFrom s ts → 1 ≤ length ts
some_tier s [] h = absurd h
some_tier s (t ∷ ts) h = omega arith

-- in the first tiers of an array
some_taken : (s : ℤ) (xs : List Tier) (n : ℕ) → AreTiersFrom s (take n xs) → 1 ≤ n
some_taken s xs n h = omega (arith, some_tier s (take n xs) h, length-take n xs)

-- an array of which the first tiers are a table
abbrev pub HoldsTable : List Tier → ℕ → Type 0
HoldsTable xs n = (length xs ≡ 16) × (n ≤ 16) × IsTierTable (take n xs)

pub with_tier-same : (e p : ℤ) (xs ts : List Tier) (n : ℕ) (d : Tier) → take n xs ≡ ts → HoldsTable xs n
    → int_eq (slice_index_or xs (n - 1) d).price p ≡ true → ts ≡ with_tier e p ts
with_tier-same e p xs ts n d is h same =
    let x = slice_index_or xs (n - 1) d in
    let whole : ts ≡ take (n - 1) xs ++ x ∷ [] = sym is ∙ front-last xs n d (some_taken _ xs n h.2.whole) (omega (arith, h)) in
    let kept : take (n - 1) xs ++ (if int_eq x.price p then x ∷ [] else added e p x) ≡ take (n - 1) xs ++ x ∷ [] = rw same refl in
    whole ∙ sym (ap (λ (zs : List Tier). with_tier e p zs) whole ∙ with_tier-snoc e p (take (n - 1) xs) x ∙ kept)

-- with both writes the tier is added
pub record Adds (e p : ℤ) (ts news : List Tier) (n : ℕ) : Type 0 where
  pub made : take n news ≡ with_tier e p ts
  pub holds : HoldsTable news n
  pub begins : last_end (take n news) ≡ e

pub array_added-Adds : (e p : ℤ) (xs ts : List Tier) (n : ℕ) (d f : Tier) → take n xs ≡ ts → HoldsTable xs n
    → length ts < 16 → last_end ts <ℤ e → IsTierEnd e → int_eq (slice_index_or xs (n - 1) d).price p ≡ false
    → Adds e p ts (array_added e p xs n f) (n + 1)
array_added-Adds e p xs ts n d f is h more above range test =
    let some = some_taken _ xs n h.2.whole in
    let lengths : length (take n xs) ≡ length ts = ap (λ (zs : List Tier). length zs) is in
    let room : n < length xs = omega (arith, h, lengths, length-take n xs) in
    let x = slice_index_or xs (n - 1) f in
    let ys = take (n - 1) xs in
    let whole : ts ≡ ys ++ x ∷ [] = sym is ∙ front-last xs n f some (omega arith) in
    let new = front-added e p xs n f some room in
    let known : AreTiersFrom (pos 0) (ys ++ x ∷ []) = subst (λ (zs : List Tier). AreTiersFrom (pos 0) zs) (is ∙ whole) h.2.whole in
    let over : last_end (ys ++ x ∷ []) <ℤ e = subst (λ (zs : List Tier). last_end zs <ℤ e) whole above in
    let other : int_eq x.price p ≡ false = rw (get_or_default xs (n - 1) f d (omega arith)) test in
    let apart : x.price ≢ p = λ same. true≢false (sym ((Decides-int_eq x.price p).1 same) ∙ other) in
    let grown : ys ++ (if int_eq x.price p then x ∷ [] else added e p x) ≡ ys ++ added e p x = rw other refl in
    let long : length (array_added e p xs n f) ≡ 16 = length-set _ n (open_tier p) ∙ length-set xs (n - 1) _ ∙ h.0 in
    let table = AreTiersFrom-snoc (pos 0) e p ys x known over range apart in
    record {
      made = new ∙ sym (ap (λ (zs : List Tier). with_tier e p zs) whole ∙ with_tier-snoc e p ys x ∙ grown);
      holds = (
        long,
        omega (arith, h),
        record {
          few = omega (arith, h, room, length-take (n + 1) (array_added e p xs n f));
          whole = subst (λ (zs : List Tier). AreTiersFrom (pos 0) zs) (sym new) table;
        },
      );
      begins = ap (λ (zs : List Tier). last_end zs) new ∙ last_end-snoc (pos 0) e p ys x;
    }

-- the last tier, and no other, has no end
end-last : (s : ℤ) (ts : List Tier) (k : ℕ) (d : Tier) → AreTiersFrom s ts → k < length ts
    → IsNone (slice_index_or ts k d).end ↔ (k + 1 ≡ length ts)
end-last s [] k d h below = absurd h
end-last s (t ∷ []) zero d h below = (λ _. refl, λ _. rw h refl)
end-last s (t ∷ []) (suc k) d h below = absurd (omega arith)
end-last s (t ∷ u ∷ ts) zero d h below = (λ none. absurd (true≢false (rw h.1.there at none)), λ e. absurd (omega arith))
end-last s (t ∷ u ∷ ts) (suc k) d h below =
    let there : k < length (u ∷ ts) = omega arith in
    let rest = end-last h.0 (u ∷ ts) k d h.2 there in
    (λ none. let e = rest.0 none in omega arith, λ e. rest.1 (omega arith))

-- each end is in range
end-range : (s : ℤ) (ts : List Tier) (k : ℕ) (d : Tier) → AreTiersFrom s ts → k < length ts
    → IfSome (slice_index_or ts k d).end IsTierEnd
end-range s [] k d h below = absurd h
end-range s (t ∷ []) zero d h below = rw h tt
end-range s (t ∷ []) (suc k) d h below = absurd (omega arith)
end-range s (t ∷ u ∷ ts) zero d h below = rw h.1.there h.1.range
end-range s (t ∷ u ∷ ts) (suc k) d h below = end-range h.0 (u ∷ ts) k d h.2 (omega arith)

-- a tier of the table is read from the array
get_or-taken : (xs ts : List Tier) (n k : ℕ) (d : Tier) → take n xs ≡ ts → k < length ts
    → slice_index_or ts k d ≡ slice_index_or xs k d
get_or-taken xs ts n k d is below =
    let lengths : length (take n xs) ≡ length ts = ap (λ (zs : List Tier). length zs) is in
    let near : k < n = omega (arith, lengths, length-take n xs) in
    ap (λ (zs : List Tier). slice_index_or zs k d) (sym is) ∙ get_or-take n xs k d near

pub end-last-taken : (xs ts : List Tier) (n k : ℕ) (d : Tier) → take n xs ≡ ts → IsTierTable (take n xs) → k < length ts
    → IsNone (slice_index_or xs k d).end ↔ (k + 1 ≡ length ts)
end-last-taken xs ts n k d is h below =
    let known : AreTiersFrom (pos 0) ts = subst (λ (zs : List Tier). AreTiersFrom (pos 0) zs) is h.whole in
    rw (← get_or-taken xs ts n k d is below) (end-last (pos 0) ts k d known below)

pub end-range-taken : (xs ts : List Tier) (n k : ℕ) (d : Tier) → take n xs ≡ ts → IsTierTable (take n xs) → k < length ts
    → IfSome (slice_index_or xs k d).end IsTierEnd
end-range-taken xs ts n k d is h below =
    let known : AreTiersFrom (pos 0) ts = subst (λ (zs : List Tier). AreTiersFrom (pos 0) zs) is h.whole in
    rw (← get_or-taken xs ts n k d is below) (end-range (pos 0) ts k d known below)
