-- `cut_apart` meets its contract, at any element type: a walk of its MIR by hand. It lends the whole Vec as a slice, and cuts that (`Cuts.antt`).
use mathlib.Core.Path.{◌≡◌, refl, sym, ap, subst, ◌∙◌}
use Prim.Native.Nat.{ℕ, zero, suc, ◌+◌, ◌-◌, ◌*◌, ◌≤◌, ◌<◌, ◌^◌}
use native.Mathlib.Nat.{mul-le-mul_right, zero-mul, suc-mul}
use native.Mathlib.Omega.{arith}
use mathlib.Core.List.{List, [], ◌∷◌}
use lib.ListN.{length}
use seplogic.Ra.Ura.{Ura}
use mir.Syntax.{Fn, w64, named}
use mir.MapTy.{inst_fn}
use mir.Val.{Val, vint, vptr, vstruct, vcons, vnil}
use base.Logic.{SProp, ent, emp, id⊢}
use base.Fml.{GName, ftrue, fhide, flft, Incl-trans}
use prog.Memory.{Memory, capped}
use prog.Capped.{capped_is}
use prog.Routine.{Routine}
use prog.Wp.{Env, WpFn, Tables}
use types.Logic.{Logic}
use contract.BorrowLft.{◌⊑◌}
use contract.Monad.{Fun, fact, fact_i}
use contract.Running.{tables, tables_of}
use sound.WpLaws.{fm_of, WpFn-mono}
use types.Kit.{‵, raw, ◌⊛◌, some, later, at_ret, ◌$◌, ◌∵◌, !, qed, move, keep, use0, use1, use2, drop, split, split3, join, await, pick, rewrite, fsplit, fjoin, fpack, feq_i, feq_l, suffices, frame, done}
use types.Part.{whole, sub, agg}
use types.Run.{stop, fld, addr, hop, from, of_opd, bin, size_word, and_then, no_more, first, blocks, exec, returns, enter}
use types.ByLocal.{alloc_all, pass_all, free_all, look_at, look_in_at, get, through, is, lands_as, sets, sets_last, env}
use denote.Exit.{yes, no}
use denote.RattleType.{RattleType, Valss, owns}
use denote.Memory.{mem}
use denote.Array.{Array}
use denote.Param.Laws.{param_laws}
use denote.Plain.{uint_vals, uint_Tells}
use denote.Builtin.{usize}
use denote.Ref.{Bor, MutBor, mut_vals, mut_Tells}
use denote.Shadow.{pure_l, pure_i}
use denote.Slice.{MutSlice, ShrSlice, Room, room, slice_val, mut_slice_at, shr_slice_at, elements_shared}
use denote.Signature.{plain, types_at, mut_ref_to}
use denote.Struct.Struct.{within}
use denote.Struct.Tuple.{tuple_type}
use denote.Struct.Declared.{shape}
use denote.Steps.{heard, nothing, only}
use denote.Follow.{follows, follows_then}
use denote.Triple.Call.{calls_at}
use denote.Triple.Clauses.{Clauses, Ended, closing, lasts}
use denote.Triple.Spec.{Meets, triple_of}
use denote.Triple.Statement.{Triple}
use denote.Triple.Table.{entered}
use denote.Triple.Walked.{Stays, stay_dropped, walk_of, ends_at, walked, Goes-dropped, Goes-spent_ref, walk_Meets}
use mathlib.Core.Logic.{◌⊎◌}
use Rattle.std.proofs.mem.Facts.{says_two}
use Rattle.std.proofs.VecSteps.El.{El, args, el_x, el_d, R, Vr}
use Rattle.std.proofs.VecSteps.Shapes.{after}
use Rattle.std.specs.List.{slice_range}
use Rattle.std.specs.Vec.{with_items}
use Rattle.d_rows.specs.Runs.{with_run}
use Rattle.std.specs.contracts.vec.Vec.as_mut_slice as g
use Rattle.std.specs.contracts.vec.Vec.as_mut_slice.Key.{name as #slice}
use Rattle.std.proofs.vec.Vec.as_mut_slice.Met as g-thm
use Rattle.d_rows.proofs.PartLemmas.{cuts, range_long}
use Rattle.d_rows.specs.contracts.cuts.cut_apart as fn
use Rattle.d_rows.specs.contracts.cuts.cut_apart.Key.{name as #self}
use Rattle.d_rows.proofs.cuts.cut_apart.Statement as stated
use Rattle.d_rows.proofs.cuts.cut_apart.Code as code

-- where the product fits a word, the count is zero or the size fits too
uncapped : (i k : ℕ) → i * k < 2 ^ 64 → i * capped k ≡ i * k
uncapped zero k h = zero-mul (capped k) ∙ sym (zero-mul k)
uncapped (suc i) k h = let step = suc-mul i k in ap (λ (j : ℕ). suc i * j) (capped_is k (omega arith))

module _ (E : El) where
  abbrev here : Fn
  here = inst_fn (args E) code.function

  abbrev ended : Ended
  ended = fn.ended E.row E.al.row E.al.g E.al.d E.al.drops

  abbrev stayed : Stays ended.signature.params ended.kept
  stayed = (stay_dropped (mut_ref_to (0 ∷ []) tt (plain (λ _. Vr E))) no, (stay_dropped (plain (λ _. usize)) yes, (stay_dropped (plain (λ _. usize)) yes, (stay_dropped (plain (λ _. usize)) yes, (stay_dropped (plain (λ _. usize)) yes, tt)))))

  module _ {M : Type 1} {𝓤 : Ura M} (𝓛 : Logic 𝓤) (at_mem : Memory → SProp 𝓤) (returns_of : Routine → Fun 𝓤) (𝓣 : Tables 𝓤 𝓛.H) where
    open 𝓛 use {H}

    abbrev held : Clauses 𝓤 ended
    held = fn.clauses E.row E.al.row E.al.g E.al.d E.al.drops 𝓛 at_mem returns_of

    abbrev Bound : Type 0
    Bound = (walk_of 𝓛 ended stayed held).Ghost

    abbrev spelled : Bound → Bound
    spelled z = ((z.0.0, z.0.1, z.0.2, z.0.3, (mut_vals z.0.3.0, (vint w64 z.0.3.1.0 ∷ [], (vint w64 z.0.3.1.1.0 ∷ [], (vint w64 z.0.3.1.1.1.0 ∷ [], (vint w64 z.0.3.1.1.1.1.0 ∷ [], tt)))))), z.1)

    walk : Triple 𝓤 (𝓣.C (#slice (args E))) (triple_of 𝓛 (g.signature E.row E.al.row E.al.g E.al.d E.al.drops) (g.spec E.row E.al.row E.al.g E.al.d E.al.drops 𝓛 at_mem returns_of))
        → (z : Bound) → z.0.3.1.0 < 2 ^ 64 → z.0.3.1.1.0 < 2 ^ 64 → z.0.3.1.1.1.0 < 2 ^ 64 → z.0.3.1.1.1.1.0 < 2 ^ 64
        → ent 𝓤 ((walk_of 𝓛 ended stayed held).pre (spelled z)) (WpFn 𝓤 H 𝓣.C 𝓣.Λ here ((walk_of 𝓛 ended stayed held).args (spelled z)) ((walk_of 𝓛 ended stayed held).post (spelled z)))
    walk met z fi fj ff ft =
        let κ = z.0.0.0 in let κ₁ = z.0.0.1.0 in let κ₂ = z.0.0.1.1.0 in let q = z.0.1.0 in let q₁ = z.0.1.1.0 in let q₂ = z.0.1.1.1.0 in
        let rb : ℕ = z.0.3.0.ref_ptr.0 in let ro : ℕ = z.0.3.0.ref_ptr.1 in let γ : GName = z.0.3.0.ghost_name in let h : el_d E = z.0.3.0.now in
        let i : ℕ = z.0.3.1.0 in let j : ℕ = z.0.3.1.1.0 in let f : ℕ = z.0.3.1.1.1.0 in let t : ℕ = z.0.3.1.1.1.1.0 in
        let Post : Val → SProp 𝓤 = (walk_of 𝓛 ended stayed held).post (spelled z) in
        qed 𝓛 (((‵ (flft κ q) ⊛ ‵ (flft κ₁ q₁) ⊛ ‵ (flft κ₂ q₂) ⊛ ‵ ftrue) ⊛ ‵ (owns (types_at ended.signature.params z.0.0) z.0.3 (spelled z).0.4))
        ∷ (raw (fact 𝓤 (κ₁ ⊑ E.row.lives)) ⊛ raw (fact 𝓤 (κ₂ ⊑ E.al.row.lives)) ⊛ raw (fact 𝓤 (i ≤ j)) ⊛ raw (fact 𝓤 (f ≤ t)) ⊛ raw (fact 𝓤 (j ≤ h.len)) ⊛ raw (fact 𝓤 (t ≤ h.len)) ⊛ raw (fact 𝓤 ((j ≤ f) ⊎ (t ≤ i)))) ∷ []) ∵
        move ! (1 ∷ []) $ split ! $ heard ! (κ₁ ⊑ E.row.lives) (λ within₁. split ! $ heard ! (κ₂ ⊑ E.al.row.lives) (λ within₂. split ! $ heard ! (i ≤ j) (λ ij. split ! $ heard ! (f ≤ t) (λ f_t.
        split ! $ heard ! (j ≤ h.len) (λ jn. split ! $ heard ! (t ≤ h.len) (λ tn. heard ! ((j ≤ f) ⊎ (t ≤ i)) (λ apart.
        split ! $ split ! $ move ! (2 ∷ []) $ fsplit ! $ move ! (1 ∷ []) $ drop ! $
        -- [self; the token of κ; the other tokens]
        enter ! 𝓣.C 𝓣.Λ here (vptr rb ro ∷ vint w64 i ∷ vint w64 j ∷ vint w64 f ∷ vint w64 t ∷ []) _ $
        alloc_all ! (λ l. pass_all ! refl ((tt, tt), ((tt, record { fits = fi }), ((tt, record { fits = fj }), ((tt, record { fits = ff }), ((tt, record { fits = ft }), tt))))) $
        let En : Env 𝓤 H = env here.locals l in
        -- let s = v.as_mut_slice();
        sets ! (addr ! (through ! refl (stop !))) refl (tt, tt) $
        let G = triple_of 𝓛 (g.signature E.row E.al.row E.al.g E.al.d E.al.drops) (g.spec E.row E.al.row E.al.g E.al.d E.al.drops 𝓛 at_mem returns_of) in
        let y : G.Ghost = ((z.0.0, z.0.1, z.0.2, (z.0.3.0, tt), (mut_vals z.0.3.0, tt)), tt) in
        move ! (1 ∷ 2 ∷ []) $ join ! $ nothing ! $ move ! (2 ∷ 0 ∷ []) $ fjoin ! $ move ! (1 ∷ 0 ∷ []) $ join ! $
        nothing ! $ use0 𝓛 (raw (fact 𝓤 (κ₂ ⊑ E.al.row.lives))) (fact_i 𝓤 (κ₂ ⊑ E.al.row.lives) (emp 𝓤) within₂) $ join ! $
        use0 𝓛 (raw (fact 𝓤 (κ₁ ⊑ E.row.lives))) (fact_i 𝓤 (κ₁ ⊑ E.row.lives) (emp 𝓤) within₁) $ join ! $ move ! (1 ∷ 0 ∷ []) $
        use2 𝓛 (raw (G.pre y)) (id⊢ 𝓤 _) $
        calls_at ! (fm_of 𝓤 H 𝓛.laws 𝓣) G met y (and_then ! (get ! refl) (no_more !)) (λ v.
        use1 𝓛 (later (some (λ (r : MutBor (List (el_x E))). ((‵ (flft κ q) ⊛ ‵ (flft κ₁ q₁) ⊛ ‵ (flft κ₂ q₂) ⊛ ‵ ftrue) ⊛ ‵ ((MutSlice (named 0) κ (R E)).own_val r (v ∷ []))) ⊛
        some (λ (ws : Unit {0} × Unit {0}). ‵ (lasts (g.ended E.row E.al.row E.al.g E.al.d E.al.drops) z.0.0 (z.0.3.0, tt) ws) ⊛
        (‵ (follows (Vr E) (Array (R E) 0) γ r.ghost_name (with_items h)) ⊛ raw (fact 𝓤 (r.now ≡ h.items)) ⊛ raw (fact 𝓤 (length r.now ≡ h.len))))))) (id⊢ 𝓤 _) $
        await ! tt $ pick ! (λ r. split ! $ split ! $ move ! (2 ∷ []) $ pick ! (λ ws. split ! $ drop ! $ split3 ! $
        move ! (1 ∷ []) $ heard ! (r.now ≡ h.items) (λ same. move ! (1 ∷ []) $ heard ! (length r.now ≡ h.len) (λ long.
        -- [follows; the tokens; the slice]
        move ! (2 ∷ []) $ fsplit ! $ fsplit ! $ feq_l ! (λ word. pure_l ! (room (R E) (length r.now)) (λ rm.
        lands_as ! (ap only word) refl (tt, (tt, (record { fits = rm.0 }, tt))) $
        let xs : List (el_x E) = r.now in let n : ℕ = length xs in let b : ℕ = r.ref_ptr.0 in let o : ℕ = r.ref_ptr.1 in
        let s : ℕ = (mem (R E)).size in
        let m : ℕ = j - i in let p : ℕ = t - f in
        let bytes : n * s < 2 ^ 63 = rm.1 in
        let b₁ : i * s ≤ n * s = mul-le-mul_right s (omega arith) in let b₂ : f * s ≤ n * s = mul-le-mul_right s (omega arith) in
        let fis : i * s < 2 ^ 64 = omega arith in let ffs : f * s < 2 ^ 64 = omega arith in
        let fm : m < 2 ^ 64 = omega arith in let fp : p < 2 ^ 64 = omega arith in
        -- let p = s.as_mut_ptr();
        sets ! (addr ! (from ! (fld ! refl (hop ! (look_in_at ! 6 (sub ! 0 refl (whole !))) (stop !))))) refl (tt, tt) $
        first ! $ blocks ! $
        sets ! (is ! (bin ! (get ! refl) (size_word !) (record { fits = subst (λ (c : ℕ). c < 2 ^ 64) (sym (uncapped i s fis)) fis })) (ap (vint w64) (uncapped i s fis))) refl (tt, record { fits = fis }) $
        sets ! (bin ! (get ! refl) (get ! refl) tt) refl (tt, tt) $
        sets ! (bin ! (get ! refl) (get ! refl) ij) refl (tt, record { fits = fm }) $
        sets ! (agg ! (and_then ! (get ! refl) (and_then ! (get ! refl) (no_more !)))) refl (tt, (tt, (record { fits = fm }, tt))) $
        sets ! (is ! (bin ! (get ! refl) (size_word !) (record { fits = subst (λ (c : ℕ). c < 2 ^ 64) (sym (uncapped f s ffs)) ffs })) (ap (vint w64) (uncapped f s ffs))) refl (tt, record { fits = ffs }) $
        sets ! (bin ! (get ! refl) (get ! refl) tt) refl (tt, tt) $
        sets ! (bin ! (get ! refl) (get ! refl) f_t) refl (tt, record { fits = fp }) $
        sets ! (agg ! (and_then ! (get ! refl) (and_then ! (get ! refl) (no_more !)))) refl (tt, (tt, (record { fits = fp }, tt))) $
        sets_last ! (agg ! (and_then ! (get ! refl) (and_then ! (get ! refl) (no_more !)))) refl (tt, ((tt, (record { fits = fm }, tt)), ((tt, (record { fits = fp }, tt)), tt))) $
        exec ! 𝓣.C 𝓣.Λ En (after 4 here.body) (at_ret En Post) $
        sets ! (of_opd ! (get ! refl)) refl (tt, ((tt, (record { fits = fm }, tt)), ((tt, (record { fits = fp }, tt)), tt))) $
        -- the borrow is cut
        pure_i ! (mut_slice_at (R E) r (slice_val r.ref_ptr n ∷ [])) (tt, (tt, tt)) (refl, rm) $ fjoin ! $ move ! (2 ∷ []) $ split ! $ move ! (2 ∷ 0 ∷ []) $
        let written : List (el_x E) = slice_range xs i j in let read : List (el_x E) = slice_range xs f t in
        let l₁ : length written ≡ m = range_long xs i j ij (omega arith) in let l₂ : length read ≡ p = range_long xs f t f_t (omega arith) in
        let c₁ : length written * s ≤ n * s = mul-le-mul_right s (omega arith) in let c₂ : length read * s ≤ n * s = mul-le-mul_right s (omega arith) in
        let rm₁ : Room (R E) (length written) = (omega arith, omega arith) in let rm₂ : Room (R E) (length read) = (omega arith, omega arith) in
        use2 𝓛 (later (some (λ (γ' : GName). ‵ ((MutSlice (named 0) κ (R E)).own_val (record { ref_ptr = (b, i * s + o); ghost_name = γ'; now = written }) (slice_val (b, i * s + o) m ∷ [])) ⊛
        ‵ (fhide (elements_shared (R E) read b (f * s + o) κ)) ⊛ ‵ (flft κ q) ⊛ ‵ (follows (Array (R E) 0) (Array (R E) 0) r.ghost_name γ' (with_run xs i j)))))
        (cuts (R E) 𝓛 b xs i j f t o ij (omega arith) f_t (omega arith) (param_laws 0 E.row E.laws) κ q r.ghost_name apart (Incl-trans z.0.2.0 within₁) rm₁ (slice_val r.ref_ptr n ∷ [])) $ await ! tt $ pick ! (λ γ'. split3 ! $ move ! (2 ∷ []) $ split ! $
        -- [the token of κ; the slice follows the part; the part; the other part; the other tokens; the Vec follows the slice]
        move ! (5 ∷ 1 ∷ []) $ use2 𝓛 (‵ (follows (Vr E) (Array (R E) 0) γ γ' (λ ws. with_items h (with_run xs i j ws)))) (follows_then 𝓛 (Vr E) (Array (R E) 0) (Array (R E) 0) (with_items h) (with_run xs i j) γ r.ghost_name γ') $
        rewrite ! 0 (λ (k : List (el_x E)). ‵ (follows (Vr E) (Array (R E) 0) γ γ' (λ ws. with_items h (with_run k i j ws)))) same refl $
        -- [the Vec follows the part; the token of κ; the part; the other part; the other tokens]
        let one : MutBor (List (el_x E)) = record { ref_ptr = (b, i * s + o); ghost_name = γ'; now = written } in
        let two : Bor (List (el_x E)) = record { ref_ptr = (b, f * s + o); now = read } in
        let Pair : List RattleType = MutSlice (named 0) κ (R E) ∷ ShrSlice (named 0) κ (R E) ∷ [] in
        let v' : Val = vstruct (vcons (slice_val (b, i * s + o) m) (vcons (slice_val (b, f * s + o) p) vnil)) in
        move ! (3 ∷ []) $ pure_i ! (shr_slice_at (R E) two (slice_val (b, f * s + o) p ∷ [])) (tt, (tt, tt)) (ap (λ (c : ℕ). slice_val (b, f * s + o) c ∷ []) (sym l₂), rm₂) $ fjoin ! $
        nothing ! $ move ! (1 ∷ 0 ∷ []) $ fjoin ! $ move ! (3 ∷ 0 ∷ []) $ fjoin ! $ feq_i ! (List Val) (v' ∷ []) (v' ∷ []) refl $ fjoin ! $
        fpack ! (Valss Pair) (within (shape (tuple_type Pair)) (one, (two, tt)) (v' ∷ [])) (slice_val (b, i * s + o) m ∷ [], (slice_val (b, f * s + o) p ∷ [], tt)) $
        -- [the pair; the Vec follows the part; the token of κ; the other tokens]
        returns ! (look_at ! 0 refl) $ free_all ! refl $
        suffices ! _ (ends_at 𝓛 ended stayed held (spelled z) v' (one, two) (tt, (tt, (tt, (tt, (tt, tt))))) (tt, (tt, (tt, (tt, (tt, tt)))))) $
        nothing ! $ nothing ! $ fjoin ! $ nothing ! $ fjoin ! $ nothing ! $ fjoin ! $ nothing ! $ fjoin ! $ nothing ! $ fjoin ! $ join ! $ move ! (2 ∷ 3 ∷ []) $ join ! $ join ! $ frame ! $
        says_two ! (ap (λ (k : List (el_x E)). slice_range k i j) same, ap (λ (k : List (el_x E)). slice_range k f t) same) $ keep ! (0 ∷ []) $ done !))))))))))))))))

    meets : Triple 𝓤 (𝓣.C (#slice (args E))) (triple_of 𝓛 (g.signature E.row E.al.row E.al.g E.al.d E.al.drops) (g.spec E.row E.al.row E.al.g E.al.d E.al.drops 𝓛 at_mem returns_of))
        → Meets 𝓛 ended.signature (WpFn 𝓤 H 𝓣.C 𝓣.Λ here) (closing 𝓛 ended held)
    meets met =
        walk_Meets 𝓛 ended stayed (Goes-spent_ref 𝓛 3 (0 ∷ []) tt (plain (λ _. Vr E)), (Goes-dropped 𝓛 3 (plain (λ _. usize)) yes (λ κs x w. refl), (Goes-dropped 𝓛 3 (plain (λ _. usize)) yes (λ κs x w. refl), (Goes-dropped 𝓛 3 (plain (λ _. usize)) yes (λ κs x w. refl), (Goes-dropped 𝓛 3 (plain (λ _. usize)) yes (λ κs x w. refl), tt))))) held (WpFn 𝓤 H 𝓣.C 𝓣.Λ here) (WpFn-mono 𝓤 H 𝓛.laws 𝓣 here)
        (walked 𝓛 ended stayed held (WpFn 𝓤 H 𝓣.C 𝓣.Λ here) (λ κs. (mut_vals, (uint_vals w64, (uint_vals w64, (uint_vals w64, (uint_vals w64, tt)))))) (λ κs. (mut_Tells (named 0) κs.0 (Vr E), (uint_Tells w64, (uint_Tells w64, (uint_Tells w64, (uint_Tells w64, tt))))))
        (λ κs qs bounds a ghost are. walk met ((κs, qs, bounds, a, (mut_vals a.0, (vint w64 a.1.0 ∷ [], (vint w64 a.1.1.0 ∷ [], (vint w64 a.1.1.1.0 ∷ [], (vint w64 a.1.1.1.1.0 ∷ [], tt)))))), ghost) are.1.0.1 are.1.1.0.1 are.1.1.1.0.1 are.1.1.1.1.0.1))

pub cut_apart_spec : {M : Type 1} → stated.statement M
unfolding tables_of
cut_apart_spec 𝓤 𝓛 𝓜 𝓡 wired Y Z L LZ gh d dd bm dm =
    let E : El = record { row = Y; laws = L; al = record { row = Z; laws = LZ; g = gh; d = d; drops = dd } } in
    let 𝓣 : Tables 𝓤 𝓛.H = tables_of 𝓤 𝓛.H 𝓜 (tables 𝓤 𝓛.H 𝓜 𝓡 𝓡.env) in
    entered 𝓤 𝓛.H (triple_of 𝓛 (ended E).signature (fn.spec Y Z gh d dd 𝓛 𝓜.mem 𝓡.returns)) 𝓣.C 𝓣.Λ (#self (args E)) (here E) (code.unfolded 𝓤 𝓛.H 𝓜 𝓡 wired (Y, (Z, tt)) d dd)
    (meets E 𝓛 𝓜.mem 𝓡.returns 𝓣 (g-thm.met 𝓤 𝓛 𝓜 𝓡 (code.calls-std_alloc::vec::Vec::as_mut_slice 𝓡.env wired) Y Z L LZ gh d dd bm dm))
