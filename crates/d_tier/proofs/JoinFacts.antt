-- Neighbours of one price charge as one tier.
use Rattle.std.proofs.Common.{◌≡◌, ℤ, pos, ◌+ℤ◌, ◌-ℤ◌, ◌*ℤ◌, ◌≤ℤ◌, ◌<ℤ◌, Bool, true, false, List, [], ◌∷◌, Some, None, fold, if◌then◌else◌, arith, refl, ap, ◌∙◌}
use Rattle.std.proofs.Math.Path.{ap₂}
use Rattle.std.specs.Int.{int_min}
use Rattle.std.specs.Ordering.{int_eq}
use Rattle.std.proofs.lemmas.Int.{ints, clamps}
use Rattle.std.proofs.lemmas.Bool.Decides.{Decides-int_eq}
use Rattle.d_num.proofs.Times.{times_sum}
use Rattle.d_tier.specs.declared.tier.Tier.{Tier}
use Rattle.d_tier.specs.Tables.{last_end_from, open_tier, with_tier}
use Rattle.d_tier.specs.Charges.{charge_from}
use Rattle.d_tier.specs.Joined.{Step, IsRisingFrom, own_tiers, JoiningKeepsCharges}

-- ends rise from `start` on, and the last tier has none
abbrev Rises : ℤ → List Tier → Type 0
Rises start [] = ⊥
Rises start (t ∷ []) = t.end ≡ None
Rises start (t ∷ u ∷ ts) = (end : ℤ) × (t.end ≡ Some end) × (start <ℤ end) × Rises end (u ∷ ts)

end_above : (s : ℤ) (ts : List Tier) → Rises s ts → s ≤ℤ last_end_from s ts
end_above s [] h = absurd h
end_above s (t ∷ []) h = rw h (omega (arith, ints))
end_above s (t ∷ u ∷ ts) h = rw h.1 (let later = end_above h.0 (u ∷ ts) h.3 in let above = h.2 in omega (arith, ints))

rises_onto : (s end : ℤ) (t : Tier) (ts : List Tier) → t.end ≡ Some end → s <ℤ end → Rises end ts → Rises s (t ∷ ts)
rises_onto s end t [] there above h = absurd h
rises_onto s end t (u ∷ ts) there above h = (end, there, above, h)

-- a price for a part that is cut in two
cut_part : (price whole a b : ℤ) → whole ≡ a +ℤ b → price *ℤ whole ≡ price *ℤ a +ℤ price *ℤ b
cut_part price whole a b e = ap (λ (z : ℤ). price *ℤ z) e ∙ times_sum price a b

same_part : (price a b : ℤ) → a ≡ b → price *ℤ a ≡ price *ℤ b
same_part price a b e = ap (λ (z : ℤ). price *ℤ z) e

-- one more tier charges what lies above its begin, and the others what lies below
record Grows (s e p : ℤ) (ts news : List Tier) : Type 0 where
  pub rises : Rises s news
  pub end : last_end_from s news ≤ℤ e
  pub charges : (x : ℤ) → charge_from s news x ≡ charge_from s ts (int_min x e) +ℤ p *ℤ (x -ℤ int_min x e)

-- behind a tier of the same price it is that tier going on
goes_on : (s e p : ℤ) (t : Tier) → t.end ≡ None → s <ℤ e → t.price ≡ p → Grows s e p (t ∷ []) (t ∷ [])
goes_on s e p t none above same = record {
  rises = none;
  end = rw none (omega (arith, ints));
  charges = λ x. rw (none, ← same) (whole t.price x);
}
  where
    whole : (q x : ℤ) → q *ℤ (x -ℤ int_min x s) +ℤ pos 0 ≡ (q *ℤ (int_min x e -ℤ int_min (int_min x e) s) +ℤ pos 0) +ℤ q *ℤ (x -ℤ int_min x e)
    whole q x =
        let cut = cut_part q (x -ℤ int_min x s) (int_min x e -ℤ int_min (int_min x e) s) (x -ℤ int_min x e) (omega (arith, ints, clamps)) in
        omega (arith, ints, cut)

-- behind a tier of another price it is the next
comes_next : (s e p : ℤ) (t : Tier) → t.end ≡ None → s <ℤ e → Grows s e p (t ∷ []) (record t { end = Some e } ∷ open_tier p ∷ [])
comes_next s e p t none above = record {
  rises = (e, refl, above, refl);
  end = omega (arith, ints);
  charges = λ x. rw none (whole t.price x);
}
  where
    whole : (q x : ℤ) → q *ℤ (int_min x e -ℤ int_min x s) +ℤ (p *ℤ (x -ℤ int_min x e) +ℤ pos 0)
        ≡ (q *ℤ (int_min x e -ℤ int_min (int_min x e) s) +ℤ pos 0) +ℤ p *ℤ (x -ℤ int_min x e)
    whole q x =
        let same = same_part q (int_min x e -ℤ int_min x s) (int_min x e -ℤ int_min (int_min x e) s) (omega (arith, ints, clamps)) in
        omega (arith, ints, same)

grows : (s e p : ℤ) (ts : List Tier) → Rises s ts → last_end_from s ts <ℤ e → Grows s e p ts (with_tier e p ts)
grows s e p [] h above = absurd h
grows s e p (t ∷ []) h above = by_price (int_eq t.price p) refl
  where
    over : s <ℤ e
    over = rw h at above

    by_price : (same : Bool) → int_eq t.price p ≡ same → Grows s e p (t ∷ []) (if same then t ∷ [] else record t { end = Some e } ∷ open_tier p ∷ [])
    by_price true is = goes_on s e p t h over ((Decides-int_eq t.price p).0 is)
    by_price false is = comes_next s e p t h over
grows s e p (t ∷ u ∷ ts) h above = behind (grows h.0 e p (u ∷ ts) h.3 over)
  where
    over : last_end_from h.0 (u ∷ ts) <ℤ e
    over = rw h.1 at above

    within : h.0 <ℤ e
    within = let reach = end_above h.0 (u ∷ ts) h.3 in let top = over in omega (arith, ints)

    whole : (q x rest more : ℤ) → q *ℤ (int_min x h.0 -ℤ int_min x s) +ℤ (rest +ℤ more)
        ≡ (q *ℤ (int_min (int_min x e) h.0 -ℤ int_min (int_min x e) s) +ℤ rest) +ℤ more
    whole q x rest more =
        let low = h.2 in
        let high = within in
        let same = same_part q (int_min x h.0 -ℤ int_min x s) (int_min (int_min x e) h.0 -ℤ int_min (int_min x e) s) (omega (arith, ints, clamps)) in
        omega (arith, ints, same)

    behind : Grows h.0 e p (u ∷ ts) (with_tier e p (u ∷ ts)) → Grows s e p (t ∷ u ∷ ts) (t ∷ with_tier e p (u ∷ ts))
    behind g = record {
      rises = rises_onto s h.0 t (with_tier e p (u ∷ ts)) h.1 h.2 g.rises;
      end = rw h.1 g.end;
      charges = λ x. rw (h.1, g.charges x) (whole t.price x (charge_from h.0 (u ∷ ts) (int_min x e)) (p *ℤ (x -ℤ int_min x e)));
    }

-- the steps behind a table charge what lies above their first begin
joined_rest : (s : ℤ) (ts : List Tier) (step : Step) (rest : List Step) → Rises s ts → last_end_from s ts <ℤ step.begin → IsRisingFrom step.begin rest → (x : ℤ)
    → charge_from s (fold (λ (tiers : List Tier) (next : Step). with_tier next.begin next.price tiers) ts (step ∷ rest)) x
    ≡ charge_from s ts (int_min x step.begin) +ℤ charge_from step.begin (own_tiers step.price rest) x
joined_rest s ts step [] h above rising x =
    (grows s step.begin step.price ts h above).charges x ∙ none (charge_from s ts (int_min x step.begin)) (step.price *ℤ (x -ℤ int_min x step.begin))
  where
    none : (a b : ℤ) → a +ℤ b ≡ a +ℤ (b +ℤ pos 0)
    none a b = omega (arith, ints)
joined_rest s ts step (next ∷ rest) h above rising x =
    joined_rest s (with_tier step.begin step.price ts) next rest g.rises over rising.1 x
    ∙ ap (λ (z : ℤ). z +ℤ charge_from next.begin (own_tiers next.price rest) x) (g.charges (int_min x next.begin) ∙ ap₂ ◌+ℤ◌ (ap (λ (z : ℤ). charge_from s ts z) lower) (same_part step.price _ _ part))
    ∙ regroup (charge_from s ts (int_min x step.begin)) (step.price *ℤ (int_min x next.begin -ℤ int_min x step.begin)) (charge_from next.begin (own_tiers next.price rest) x)
  where
    g : Grows s step.begin step.price ts (with_tier step.begin step.price ts)
    g = grows s step.begin step.price ts h above

    over : last_end_from s (with_tier step.begin step.price ts) <ℤ next.begin
    over = let end = g.end in let more = rising.0 in omega (arith, ints)

    lower : int_min (int_min x next.begin) step.begin ≡ int_min x step.begin
    lower = let more = rising.0 in omega (arith, ints, clamps)

    part : int_min x next.begin -ℤ int_min (int_min x next.begin) step.begin ≡ int_min x next.begin -ℤ int_min x step.begin
    part = let same = lower in omega (arith, ints, same)

    regroup : (a b c : ℤ) → (a +ℤ b) +ℤ c ≡ a +ℤ (b +ℤ c)
    regroup a b c = omega (arith, ints)

pub joining_keeps : JoiningKeepsCharges
joining_keeps price [] x rising = refl
joining_keeps price (step ∷ rest) x rising =
    joined_rest (pos 0) (open_tier price ∷ []) step rest refl rising.0 rising.1 x
    ∙ ap (λ (z : ℤ). z +ℤ charge_from step.begin (own_tiers step.price rest) x) (first price)
  where
    first : (q : ℤ) → q *ℤ (int_min x step.begin -ℤ int_min (int_min x step.begin) (pos 0)) +ℤ pos 0 ≡ q *ℤ (int_min x step.begin -ℤ int_min x (pos 0))
    first q =
        let more = rising.0 in
        let same = same_part q (int_min x step.begin -ℤ int_min (int_min x step.begin) (pos 0)) (int_min x step.begin -ℤ int_min x (pos 0)) (omega (arith, ints, clamps)) in
        omega (arith, ints, same)
