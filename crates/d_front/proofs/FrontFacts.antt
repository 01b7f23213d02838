-- What the heap's steps do to the keys that a front shows.
use Rattle.std.proofs.Common.{◌≡◌, ◌<◌, ◌∙◌, List, ◌∷◌, Some, length, subst, ap, sym, get_or}
use Rattle.std.specs.BinaryHeap.{IsUpperBound}
use Rattle.std.specs.List.Sorted.{IsPermutation}
use Rattle.std.specs.declared.cmp.Reverse.{Reverse}
use Rattle.std.proofs.lemmas.List.{get_or-map, length-map}
use Rattle.std.proofs.lemmas.List.Sorted.{IsPermutation-map, IsPermutation-sym}
use Rattle.d_front.specs.declared.key.Key.{Key}
use Rattle.d_front.specs.Fronts.{shown, last_cmp, IsFirst, IsTaken}
use Rattle.d_front.proofs.FirstFacts.{all_first}

-- one more in the heap is one more key
pub put_shown : (r : Reverse Key) (keys : List Key) (old new : List (Reverse Key)) → shown old ≡ keys → IsPermutation (r ∷ old) new → IsPermutation (r.0 ∷ keys) (shown new)
put_shown r keys old new is moved = subst (λ l. IsPermutation (r.0 ∷ l) (shown new)) is (IsPermutation-map (λ x. x.0) (r ∷ old) new moved)

-- the greatest of the heap, taken out of it
pub taken_shown : (r : Reverse Key) (keys : List Key) (old new : List (Reverse Key)) → shown old ≡ keys → IsPermutation old (r ∷ new) → IsUpperBound last_cmp r old → IsTaken keys (Some r.0) (shown new)
taken_shown r keys old new is moved bound =
    subst (λ l. IsTaken l (Some r.0) (shown new)) is
    (IsPermutation-sym (shown old) (shown (r ∷ new)) (IsPermutation-map (λ x. x.0) old (r ∷ new) moved), all_first r old bound)

-- the greatest of the heap, which stands at its top
pub first_shown : (r : Reverse Key) (keys : List Key) (heap : List (Reverse Key)) → shown heap ≡ keys → 0 < length heap → get_or heap 0 r ≡ r → IsUpperBound last_cmp r heap → IsFirst keys (Some r.0)
first_shown r keys heap is some top bound =
    let at : get_or (shown heap) 0 r.0 ≡ r.0 = get_or-map (λ x. x.0) heap 0 r r.0 some ∙ ap (λ x. x.0) top in
    let there : 0 < length (shown heap) = subst (λ n. 0 < n) (sym (length-map heap (λ x. x.0))) some in
    subst (λ l. IsFirst l (Some r.0)) is ((0, there, at), all_first r heap bound)
