-- Going over the bytes of a kind at a text's ends.
use Rattle.std.proofs.Common.{◌≡◌, ℕ, zero, suc, ◌-◌, ◌≤◌, ◌<◌, Bool, true, false, ◌&&◌, ◌==◌, cond, List, [], ◌∷◌, ◌++◌, length, take, get_or, arith, refl, sym, length-append}
use Rattle.std.proofs.Math.Seq.{take-suc}
use Rattle.d_text.specs.Text.{without_back}

-- a front of a text and its last byte
last_of : (text : List ℕ) (end : ℕ) → 0 < end → end ≤ length text → take end text ≡ take (end - 1) text ++ get_or text (end - 1) 0 ∷ []
last_of text zero some within = absurd (omega arith)
last_of text (suc end) some within = rw (suc-sub-one end) (take-suc text end 0 (omega arith))
  where
    suc-sub-one : (end : ℕ) → suc end - 1 ≡ end
    suc-sub-one end = omega arith

-- one byte of the kind at the end
without_back-append : (test : ℕ → Bool) (text : List ℕ) (byte : ℕ) → test byte ≡ true → without_back test (text ++ byte ∷ []) ≡ without_back test text
unfolding without_back
without_back-append test [] byte hit = rw hit refl
without_back-append test (x ∷ xs) byte hit = rw (without_back-append test xs byte hit) refl

-- a byte of another kind at the end
without_back-end : (test : ℕ → Bool) (text : List ℕ) (byte : ℕ) → test byte ≡ false → without_back test (text ++ byte ∷ []) ≡ text ++ byte ∷ []
unfolding without_back
without_back-end test [] byte other = rw other refl
without_back-end test (x ∷ xs) byte other = rw (without_back-end test xs byte other) (long test x xs byte)
  where
    long : (test : ℕ → Bool) (x : ℕ) (xs : List ℕ) (byte : ℕ) → cond (test x && (length (xs ++ byte ∷ []) == 0)) [] (x ∷ (xs ++ byte ∷ [])) ≡ x ∷ (xs ++ byte ∷ [])
    long test x xs byte = grind (arith, length-append)

pub without_back-more : (test : ℕ → Bool) (text : List ℕ) (end : ℕ) → 0 < end → end ≤ length text → test (get_or text (end - 1) 0) ≡ true
    → without_back test (take (end - 1) text) ≡ without_back test (take end text)
without_back-more test text end some within hit = rw (last_of text end some within) (sym (without_back-append test (take (end - 1) text) (get_or text (end - 1) 0) hit))

pub without_back-stop : (test : ℕ → Bool) (text : List ℕ) (end : ℕ) → 0 < end → end ≤ length text → test (get_or text (end - 1) 0) ≡ false
    → take end text ≡ without_back test (take end text)
without_back-stop test text end some within other = rw (last_of text end some within) (sym (without_back-end test (take (end - 1) text) (get_or text (end - 1) 0) other))

-- an empty front
pub without_back-none : (test : ℕ → Bool) (text : List ℕ) (end : ℕ) → end ≡ 0 → take end text ≡ without_back test (take end text)
unfolding without_back
without_back-none test text end none = rw none refl
