-- Reading a piece of what is stored, and storing a file.
use Rattle.std.proofs.Common.{◌≡◌, ℕ, ◌+◌, ◌-◌, ◌<◌, ◌≤◌, List, [], ◌++◌, take, drop, length, min, Bool, true, false, cond, refl, sym, ◌∙◌, ap, arith, length-append, length-drop}
use Rattle.std.proofs.lemmas.List.{take-append-drop, drop-drop, take_at, length-take-le, nil_from_length}
use Rattle.std.proofs.lemmas.Map.Text.{btree_map_updates_text}
use Rattle.std.proofs.Math.Path.{fun_ext}
use Rattle.std.specs.Prelude.{Option, Some, Vec, String, option_map, string_bytes, string_cmp, bytes_eq}
use Rattle.std.specs.BTreeMap.{BTreeMap, UpdatesBy, get_by_text}
use Rattle.std.specs.Cmp.Lexicographic.{slice_cmp}
use Rattle.std.specs.Map.{update}
use Rattle.std.specs.Ordering.{nat_cmp}
use Rattle.std.specs.declared.alloc.Global.{Global}
use Rattle.d_desk.specs.Stored.{files_of}

-- the n bytes of the input at a place
piece_is : (input front : List ℕ) (at n : ℕ) → front ≡ take ((at + n) - at) (drop at input) → front ≡ take n (drop at input)
piece_is input front at n is =
    let same : (at + n) - at ≡ n = omega arith in
    is ∙ ap (λ k. take k (drop at input)) same

-- are n
length_piece : (input front : List ℕ) (at n : ℕ) → at + n ≤ length input → front ≡ take ((at + n) - at) (drop at input) → length front ≡ n
length_piece input front at n fits is =
    let room_left : n ≤ length (drop at input) = simp length-drop (omega arith) in
    ap length (piece_is input front at n is) ∙ length-take-le n (drop at input) room_left

-- what a read of n bytes put in front of the room, and what is left after it, are what was left before
pub piece_and_rest : (input room front : List ℕ) (at n : ℕ) → at + n ≤ length input → front ≡ take ((at + n) - at) (drop at input) → drop at input ≡ take n (front ++ drop n room) ++ drop (at + n) input
piece_and_rest input room front at n fits is =
    sym (ap (λ w. w ++ drop (at + n) input) (take_at front (drop n room) n (length_piece input front at n fits is) ∙ piece_is input front at n is)
    ∙ ap (λ w. take n (drop at input) ++ w) (sym (drop-drop n at input))
    ∙ take-append-drop n (drop at input))

-- a read of nothing into a room that isn't empty shows that nothing is left
pub nothing_left : (input room front : List ℕ) (at n greatest : ℕ) → at + n ≤ length input → front ≡ take ((at + n) - at) (drop at input) → 1 ≤ greatest → n ≡ min (min (length room) (length input - at)) greatest → n ≡ 0 → 0 < length (front ++ drop n room) → drop at input ≡ []
nothing_left input room front at n greatest fits is moves count none some =
    let long : length front ≡ n = length_piece input front at n fits is in
    let whole : 0 < length front + (length room - n) = simp (length-append, length-drop) at some in
    nil_from_length (drop at input) (simp length-drop (omega arith))

mapped_choice : {X Y : Type 0} (f : X → Y) (b : Bool) (x y : Option X) → option_map f (cond b x y) ≡ cond b (option_map f x) (option_map f y)
mapped_choice f true x y = refl
mapped_choice f false x y = refl

-- a map with one entry set holds the files with that file set
pub files_after_put : (name : List ℕ) (before now : BTreeMap (String Global) (Vec ℕ Global)) (bytes : Vec ℕ Global) → UpdatesBy string_cmp (λ k. slice_cmp nat_cmp name (string_bytes k)) before now (Some bytes) → files_of now ≡ update bytes_eq (files_of before) name (Some bytes.items)
files_after_put name before now bytes updates = fun_ext (λ q.
    ap (option_map (λ b. b.items)) (btree_map_updates_text name before now (Some bytes) updates q)
    ∙ mapped_choice (λ b. b.items) (bytes_eq name q) (Some bytes) (get_by_text before q))
