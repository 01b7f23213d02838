-- A part of a slice's elements is lent, and another part is shared for as long: what is owned goes over, and no MIR is walked.
use mathlib.Core.Logic.{◌⊎◌, inl, inr}
use mathlib.Core.Path.{◌≡◌, refl, sym, ap, ◌∙◌}
use Prim.Native.Nat.{ℕ, ◌+◌, ◌-◌, ◌*◌, ◌≤◌}
use native.Mathlib.Nat.{add-mul}
use native.Mathlib.Omega.{arith}
use mathlib.Core.List.{List, [], ◌∷◌, ◌++◌}
use lib.ListN.{length, take, drop as rest_from, take-append-drop, length-drop}
use lib.Seq.{drop-drop}
use seplogic.Ra.Ura.{Ura}
use base.Fraction.{full_share}
use base.Logic.{SProp, ent, sep, ex, id⊢}
use base.Stored.{coded_list}
use base.Fml.{Lft, GName, Share, Fml, ftrue, fsep, fseps, fobs, fbor, flft, fhide, Incl-refl}
use mir.Syntax.{named}
use mir.Val.{Val}
use types.Logic.{Logic, sem}
use types.Kit.{‵, ◌⊛◌, some, later, ◌$◌, ◌∵◌, !, qed, move, keep, drop, use1, use2, split, split3, join, group, pick, rewrite, fsplit, fsplit3, fjoin, feq_l, feq_i, show, await, updating, now, done}
use types.SemTy.{SemTy, cells, Arr, Body}
use types.Mut.{open_ref}
use types.Follow.{takes_beside}
use contract.BorrowLft.{◌⊑◌}
use denote.RattleType.{RattleType}
use denote.Memory.{mem, shared_of}
use denote.Array.{Array}
use denote.Index.{row, whole_in, whole_out}
use denote.Param.Laws.{Laws}
use denote.Shares.{shares_each}
use denote.Slice.{MutSlice, Room, slice_val, elements_shared}
use denote.Steps.{nothing}
use denote.Follow.{follows}
use denote.FollowSlice.{heres_id, slice_of}
use borrow.Table.Elements.{at, at_mul, cut_app, join_app, length-take-le, length_app}
use Rattle.std.proofs.VecSteps.Gaps.{all_new}
use Rattle.std.proofs.lemmas.List.{take-append-le, drop-append-le}
use Rattle.std.specs.List.{refill, slice_range}
use Rattle.d_rows.specs.Runs.{with_run}

-- ---- lists
pub range_long : {X : Type 0} (xs : List X) (i j : ℕ) → i ≤ j → j ≤ length xs → length (slice_range xs i j) ≡ j - i
range_long xs i j ij le = let l = length-drop i xs in length-take-le (j - i) (rest_from i xs) (omega arith)

-- the three parts are the whole
unspliced : {X : Type 0} (xs : List X) (i j : ℕ) → i ≤ j → take i xs ++ (slice_range xs i j ++ rest_from j xs) ≡ xs
unspliced {X} xs i j ij =
    let e : i + (j - i) ≡ j = omega arith in
    ap (λ (l : List X). take i xs ++ (slice_range xs i j ++ l)) (ap (λ (k : ℕ). rest_from k xs) (sym e) ∙ sym (drop-drop (j - i) i xs)) ∙ ap (λ (l : List X). take i xs ++ l) (take-append-drop (j - i) (rest_from i xs)) ∙ take-append-drop i xs

-- a part past j is a part of what is past j
range_past : {X : Type 0} (xs : List X) (j f t : ℕ) → j ≤ f → f ≤ t → slice_range (rest_from j xs) (f - j) (t - j) ≡ slice_range xs f t
range_past {X} xs j f t jf ft =
    let n : (t - j) - (f - j) ≡ t - f = omega arith in
    let e : j + (f - j) ≡ f = omega arith in
    ap (λ (k : ℕ). take k (rest_from (f - j) (rest_from j xs))) n ∙ ap (take (t - f)) (drop-drop (f - j) j xs ∙ ap (λ (k : ℕ). rest_from k xs) e)

-- a part before i is a part of what is before i
range_before : {X : Type 0} (xs : List X) (i f t : ℕ) → f ≤ t → t ≤ i → i ≤ length xs → slice_range (take i xs) f t ≡ slice_range xs f t
range_before {X} xs i f t ft ti le =
    let a : List X = take i xs in let c : List X = rest_from i xs in
    let la : length a ≡ i = length-take-le i xs le in
    let ld = length-drop f a in
    sym (take-append-le (t - f) (rest_from f a) c (omega arith)) ∙ ap (take (t - f)) (sym (drop-append-le f a c (omega arith)) ∙ ap (rest_from f) (take-append-drop i xs))

module _ (R : RattleType) {M : Type 1} {𝓤 : Ura M} (𝓛 : Logic 𝓤) (b : ℕ) where
  abbrev X : Type 0
  X = R.Denot

  abbrev s : ℕ
  s = (mem R).size

  -- the elements l, from o on
  abbrev C : List X → ℕ → Fml
  C l o = cells (mem R) l b o

  -- what is not in xs[i..j]
  abbrev Around : List X → ℕ → ℕ → ℕ → Fml
  Around xs i j o = fsep (C (take i xs) o) (C (rest_from j xs) (j * s + o))

  module _ (xs : List X) (i j o : ℕ) (ij : i ≤ j) (le : j ≤ length xs) where
    front_at : at o s (length (take i xs)) ≡ i * s + o
    front_at = at_mul o s (length (take i xs)) ∙ ap (λ (k : ℕ). k * s + o) (length-take-le i xs (omega arith))

    run_at : (n : ℕ) → n ≡ j - i → at (i * s + o) s n ≡ j * s + o
    run_at n e =
        let f : at (i * s + o) s n ≡ n * s + (i * s + o) = at_mul (i * s + o) s n in
        let g : (i + n) * s ≡ i * s + n * s = add-mul i n s in
        let h : (i + n) * s ≡ j * s = ap (λ (k : ℕ). k * s) (omega arith) in
        omega arith

    part_out : ent 𝓤 (sem 𝓛 (C xs o)) (sep 𝓤 (sem 𝓛 (C (slice_range xs i j) (i * s + o))) (sem 𝓛 (Around xs i j o)))
    part_out =
        let ys : List X = rest_from i xs in let zs : List X = rest_from (j - i) ys in
        let same : zs ≡ rest_from j xs = drop-drop (j - i) i xs ∙ ap (λ (k : ℕ). rest_from k xs) (omega arith) in
        qed 𝓛 (‵ (C xs o) ∷ []) ∵ rewrite ! 0 (λ (l : List X). ‵ (C l o)) (sym (take-append-drop i xs)) refl $
        use1 𝓛 (‵ (C (take i xs) o) ⊛ ‵ (C ys (at o s (length (take i xs))))) (cut_app 𝓛 (mem R) (take i xs) ys b o) $ split ! $ move ! (1 ∷ []) $
        rewrite ! 0 (λ (k : ℕ). ‵ (C ys k)) front_at refl $ rewrite ! 0 (λ (l : List X). ‵ (C l (i * s + o))) (sym (take-append-drop (j - i) ys)) refl $
        use1 𝓛 (‵ (C (slice_range xs i j) (i * s + o)) ⊛ ‵ (C zs (at (i * s + o) s (length (slice_range xs i j))))) (cut_app 𝓛 (mem R) (slice_range xs i j) zs b (i * s + o)) $ split ! $ move ! (1 ∷ []) $
        rewrite ! 0 (λ (k : ℕ). ‵ (C zs k)) (run_at (length (slice_range xs i j)) (range_long xs i j ij le)) refl $ rewrite ! 0 (λ (l : List X). ‵ (C l (j * s + o))) same refl $
        -- [the rest; the part; the front]
        move ! (2 ∷ 0 ∷ []) $ fjoin ! $ move ! (1 ∷ 0 ∷ []) $ done !

    part_in : (ws : List X) → length ws ≡ j - i → ent 𝓤 (sep 𝓤 (sem 𝓛 (C ws (i * s + o))) (sem 𝓛 (Around xs i j o))) (sem 𝓛 (C (take i xs ++ (ws ++ rest_from j xs)) o))
    part_in ws e =
        let zs : List X = rest_from j xs in
        qed 𝓛 (‵ (C ws (i * s + o)) ∷ ‵ (Around xs i j o) ∷ []) ∵ move ! (1 ∷ []) $ fsplit ! $ move ! (1 ∷ []) $ rewrite ! 0 (λ (k : ℕ). ‵ (C zs k)) (sym (run_at (length ws) e)) refl $
        move ! (2 ∷ 0 ∷ []) $ use2 𝓛 (‵ (C (ws ++ zs) (i * s + o))) (join_app 𝓛 (mem R) ws zs b (i * s + o)) $ rewrite ! 0 (λ (k : ℕ). ‵ (C (ws ++ zs) k)) (sym front_at) refl $
        move ! (1 ∷ 0 ∷ []) $ use2 𝓛 (‵ (C (take i xs ++ (ws ++ zs)) o)) (join_app 𝓛 (mem R) (take i xs) (ws ++ zs) b o) $ done !

  -- the same of the elements of another part
  module _ (xs : List X) (i j f t o : ℕ) (ij : i ≤ j) (le : j ≤ length xs) (ft : f ≤ t) (lt : t ≤ length xs) where
    abbrev Apart : Type 0
    Apart = (j ≤ f) ⊎ (t ≤ i)

    abbrev Rest : Apart → Fml
    Rest (inl jf) = fsep (C (take i xs) o) (Around (rest_from j xs) (f - j) (t - j) (j * s + o))
    Rest (inr ti) = fsep (C (rest_from j xs) (j * s + o)) (Around (take i xs) f t o)

    abbrev run : List X
    run = slice_range xs i j

    abbrev next : List X
    next = slice_range xs f t

    shifted : j ≤ f → (f - j) * s + (j * s + o) ≡ f * s + o
    shifted jf =
        let g : (f - j + j) * s ≡ (f - j) * s + j * s = add-mul (f - j) j s in
        let h : (f - j + j) * s ≡ f * s = ap (λ (k : ℕ). k * s) (omega arith) in
        omega arith

    parted : (a : Apart) → ent 𝓤 (sem 𝓛 (C xs o)) (sep 𝓤 (sem 𝓛 (C run (i * s + o))) (sep 𝓤 (sem 𝓛 (C next (f * s + o))) (sem 𝓛 (Rest a))))
    parted (inl jf) =
        let ds : List X = rest_from j xs in let l = length-drop j xs in
        qed 𝓛 (‵ (C xs o) ∷ []) ∵ use1 𝓛 (‵ (C run (i * s + o)) ⊛ ‵ (Around xs i j o)) (part_out xs i j o ij le) $ split ! $ move ! (1 ∷ []) $ fsplit ! $ move ! (1 ∷ []) $
        use1 𝓛 (‵ (C (slice_range ds (f - j) (t - j)) ((f - j) * s + (j * s + o))) ⊛ ‵ (Around ds (f - j) (t - j) (j * s + o))) (part_out ds (f - j) (t - j) (j * s + o) (omega arith) (omega arith)) $ split ! $
        rewrite ! 0 (λ (k : ℕ). ‵ (C (slice_range ds (f - j) (t - j)) k)) (shifted jf) refl $ rewrite ! 0 (λ (k : List X). ‵ (C k (f * s + o))) (range_past xs j f t jf ft) refl $
        -- [the next; around it; the front; the run]
        move ! (2 ∷ 1 ∷ []) $ fjoin ! $ move ! (2 ∷ 1 ∷ 0 ∷ []) $ done !
    parted (inr ti) =
        let hs : List X = take i xs in let l : length hs ≡ i = length-take-le i xs (omega arith) in
        qed 𝓛 (‵ (C xs o) ∷ []) ∵ use1 𝓛 (‵ (C run (i * s + o)) ⊛ ‵ (Around xs i j o)) (part_out xs i j o ij le) $ split ! $ move ! (1 ∷ []) $ fsplit ! $
        use1 𝓛 (‵ (C (slice_range hs f t) (f * s + o)) ⊛ ‵ (Around hs f t o)) (part_out hs f t o ft (omega arith)) $ split ! $
        rewrite ! 0 (λ (k : List X). ‵ (C k (f * s + o))) (range_before xs i f t ft ti (omega arith)) refl $
        -- [the next; around it; the rest; the run]
        move ! (2 ∷ 1 ∷ []) $ fjoin ! $ move ! (2 ∷ 1 ∷ 0 ∷ []) $ done !

    joined : (a : Apart) (ws : List X) → length ws ≡ j - i → ent 𝓤 (sep 𝓤 (sem 𝓛 (C ws (i * s + o))) (sep 𝓤 (sem 𝓛 (C next (f * s + o))) (sem 𝓛 (Rest a)))) (sem 𝓛 (C (take i xs ++ (ws ++ rest_from j xs)) o))
    joined (inl jf) ws e =
        let ds : List X = rest_from j xs in let l = length-drop j xs in
        qed 𝓛 (‵ (C ws (i * s + o)) ∷ ‵ (C next (f * s + o)) ∷ ‵ (Rest (inl jf)) ∷ []) ∵ move ! (1 ∷ []) $
        rewrite ! 0 (λ (k : List X). ‵ (C k (f * s + o))) (sym (range_past xs j f t jf ft)) refl $ rewrite ! 0 (λ (k : ℕ). ‵ (C (slice_range ds (f - j) (t - j)) k)) (sym (shifted jf)) refl $
        move ! (2 ∷ []) $ fsplit ! $ move ! (2 ∷ 1 ∷ []) $
        use2 𝓛 (‵ (C (take (f - j) ds ++ (slice_range ds (f - j) (t - j) ++ rest_from (t - j) ds)) (j * s + o))) (part_in ds (f - j) (t - j) (j * s + o) (omega arith) (omega arith) (slice_range ds (f - j) (t - j)) (range_long ds (f - j) (t - j) (omega arith) (omega arith))) $
        rewrite ! 0 (λ (k : List X). ‵ (C k (j * s + o))) (unspliced ds (f - j) (t - j) (omega arith)) refl $
        -- [the rest; the front; ws]
        move ! (1 ∷ 0 ∷ []) $ fjoin ! $ move ! (1 ∷ 0 ∷ []) $ use2 𝓛 (‵ (C (take i xs ++ (ws ++ rest_from j xs)) o)) (part_in xs i j o ij le ws e) $ done !
    joined (inr ti) ws e =
        let hs : List X = take i xs in let l : length hs ≡ i = length-take-le i xs (omega arith) in
        qed 𝓛 (‵ (C ws (i * s + o)) ∷ ‵ (C next (f * s + o)) ∷ ‵ (Rest (inr ti)) ∷ []) ∵ move ! (1 ∷ []) $
        rewrite ! 0 (λ (k : List X). ‵ (C k (f * s + o))) (sym (range_before xs i f t ft ti (omega arith))) refl $
        move ! (2 ∷ []) $ fsplit ! $ move ! (2 ∷ 1 ∷ []) $
        use2 𝓛 (‵ (C (take f hs ++ (slice_range hs f t ++ rest_from t hs)) o)) (part_in hs f t o ft (omega arith) (slice_range hs f t) (range_long hs f t ft (omega arith))) $
        rewrite ! 0 (λ (k : List X). ‵ (C k o)) (unspliced hs f t ft) refl $
        -- [the front; the rest; ws]
        fjoin ! $ move ! (1 ∷ 0 ∷ []) $ use2 𝓛 (‵ (C (take i xs ++ (ws ++ rest_from j xs)) o)) (part_in xs i j o ij le ws e) $ done !

    module _ (L : Laws R) (κ : Lft) (q : Share) (γ : GName) (a : Apart) where
      open 𝓛 use {H, A}

      abbrev Shared : Fml
      Shared = row R full_share next b (f * s + o)

      back : (ws : List X) → ent 𝓤 (sep 𝓤 (sem 𝓛 ((Arr (mem R) (j - i)).own_at ws b (i * s + o))) (sep 𝓤 (sem 𝓛 (fseps (Shared ∷ []))) (sem 𝓛 (Rest a)))) (sem 𝓛 ((Arr (mem R) (length xs)).own_at (with_run xs i j ws) b o))
      unfolding fseps
      back ws =
          qed 𝓛 (‵ ((Arr (mem R) (j - i)).own_at ws b (i * s + o)) ∷ ‵ (fsep Shared ftrue) ∷ ‵ (Rest a) ∷ []) ∵ fsplit ! $ feq_l ! (λ e.
          let same : refill (j - i) run ws ≡ ws = all_new (j - i) run ws e in
          let one = length-take-le i xs (omega arith) in let two = length-drop j xs in
          let three : length (ws ++ rest_from j xs) ≡ length ws + length (rest_from j xs) = length_app ws (rest_from j xs) in
          let four : length (take i xs ++ (ws ++ rest_from j xs)) ≡ length (take i xs) + length (ws ++ rest_from j xs) = length_app (take i xs) (ws ++ rest_from j xs) in
          let five : length (with_run xs i j ws) ≡ length (take i xs ++ (ws ++ rest_from j xs)) = ap (λ (k : List X). length (take i xs ++ (k ++ rest_from j xs))) same in
          let long : length (with_run xs i j ws) ≡ length xs = omega arith in
          move ! (1 ∷ []) $ fsplit ! $ use1 𝓛 (‵ (C next (f * s + o))) (whole_in 𝓛 R next b (f * s + o)) $ move ! (0 ∷ 3 ∷ []) $ join ! $ move ! (2 ∷ 0 ∷ []) $
          use2 𝓛 (‵ (C (take i xs ++ (ws ++ rest_from j xs)) o)) (joined a ws e) $ rewrite ! 0 (λ (k : List X). ‵ (C (take i xs ++ (k ++ rest_from j xs)) o)) (sym same) refl $
          feq_i ! ℕ (length (with_run xs i j ws)) (length xs) long $ fjoin ! $ keep ! (0 ∷ []) $ done !)

      abbrev pub Cut : GName → SProp 𝓤
      Cut γ' = sep 𝓤 (sem 𝓛 ((MutSlice (named 0) κ R).own_val (record { ref_ptr = (b, i * s + o); ghost_name = γ'; now = run }) (slice_val (b, i * s + o) (j - i) ∷ [])))
          (sep 𝓤 (sem 𝓛 (fhide (elements_shared R next b (f * s + o) κ))) (sep 𝓤 (A.lft κ q) (sem 𝓛 (follows (Array R 0) (Array R 0) γ γ' (with_run xs i j)))))

      pub cuts : κ ⊑ R.lives → Room R (length run) → (vs : List Val)
          → ent 𝓤 (sep 𝓤 (sem 𝓛 ((MutSlice (named 0) κ R).own_val (record { ref_ptr = (b, o); ghost_name = γ; now = xs }) vs)) (A.lft κ q)) (H.⇛ (ex 𝓤 Cut))
      unfolding fseps
      cuts within rm vs =
          let n : ℕ = length xs in let Run : SemTy = Arr (mem R) (j - i) in let long : length run ≡ j - i = range_long xs i j ij le in
          qed 𝓛 (‵ ((MutSlice (named 0) κ R).own_val (record { ref_ptr = (b, o); ghost_name = γ; now = xs }) vs) ∷ ‵ (flft κ q) ∷ []) ∵ updating ! $ fsplit3 ! $ drop ! $
          rewrite ! 0 (λ (l : List X). ‵ (fobs γ ((coded_list R.coded).code l))) (heres_id R xs) refl $ open_ref ! tt (Arr (mem R) n) {b = b} {o = o} $ fsplit ! $ drop ! $
          use1 𝓛 (‵ (C run (i * s + o)) ⊛ ‵ (C next (f * s + o)) ⊛ ‵ (Rest a)) (parted a) $ split3 ! $
          feq_i ! ℕ (length run) (j - i) long $ fjoin ! $ move ! (1 ∷ []) $ use1 𝓛 (‵ Shared) (whole_out 𝓛 R next b (f * s + o)) $ nothing ! $ move ! (1 ∷ 0 ∷ []) $ fjoin ! $
          -- [next; run; the others; the open borrow; obs; auth]
          move ! (3 ∷ 4 ∷ 5 ∷ 1 ∷ 0 ∷ 2 ∷ []) $ group ! 6 $
          use1 𝓛 (later (some (λ (γ' : GName). ‵ (fobs γ' ((coded_list R.coded).code run)) ⊛ ‵ (fbor κ (Body Run b (i * s + o) γ')) ⊛ ‵ (flft κ q) ⊛ ‵ (follows (Array R 0) (Array R 0) γ γ' (with_run xs i j)) ⊛ ‵ (fbor κ Shared) ⊛ ‵ ftrue)))
          (takes_beside 𝓛 (Arr (mem R) n) Run (with_run xs i j) κ q b o b (i * s + o) γ (Shared ∷ []) (sem 𝓛 (Rest a)) back ((coded_list R.coded).code xs) ((coded_list R.coded).code xs) run) $ await ! tt $ pick ! (λ γ'. split3 ! $ move ! (1 ∷ []) $
          rewrite ! 0 (λ (k : ℕ). ‵ (fbor κ (Body (Arr (mem R) k) b (i * s + o) γ'))) (sym long) refl $ move ! (1 ∷ 0 ∷ []) $
          use2 𝓛 (‵ ((MutSlice (named 0) κ R).own_val (record { ref_ptr = (b, i * s + o); ghost_name = γ'; now = run }) (slice_val (b, i * s + o) (length run) ∷ []))) (slice_of 𝓛 R (named 0) κ b (i * s + o) γ' run rm) $
          rewrite ! 0 (λ (k : ℕ). ‵ ((MutSlice (named 0) κ R).own_val (record { ref_ptr = (b, i * s + o); ghost_name = γ'; now = run }) (slice_val (b, i * s + o) k ∷ []))) long refl $
          move ! (1 ∷ []) $ split3 ! $ move ! (2 ∷ []) $ split ! $ move ! (0 ∷ 2 ∷ []) $
          use2 𝓛 (later (‵ (elements_shared R next b (f * s + o) κ) ⊛ ‵ (flft κ q))) (shares_each 𝓛 R (shared_of R) R.lives (L.shares 𝓛) next κ ((κ, q) ∷ []) b (f * s + o) within (Incl-refl κ)) $ await ! tt $ split ! $
          use1 𝓛 (‵ (fhide (elements_shared R next b (f * s + o) κ))) (id⊢ 𝓤 _) $
          -- [next; the token; true; follows; run]
          now ! $ show ! Cut γ' $ keep ! (4 ∷ 0 ∷ 1 ∷ 3 ∷ []) $ done !)
