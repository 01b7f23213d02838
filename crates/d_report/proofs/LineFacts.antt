-- Lines made part by part.
use Rattle.std.proofs.Common.{◌≡◌, List, [], ◌++◌, append_assoc, refl}

-- two parts behind a text
pub two_parts : {X : Type 0} (old one two a b : List X) → one ≡ old ++ a → two ≡ one ++ b → two ≡ old ++ (a ++ b)
two_parts {X} old one two a b e1 e2 = rw (e2, e1) (simp append_assoc refl)

-- three parts behind a text
pub three_parts : {X : Type 0} (old one two three a b c : List X) → one ≡ old ++ a → two ≡ one ++ b → three ≡ two ++ c → three ≡ old ++ (a ++ (b ++ c))
three_parts {X} old one two three a b c e1 e2 e3 = rw (e3, e2, e1) (simp append_assoc refl)

-- four parts behind a text
pub four_parts : {X : Type 0} (old one two three four a b c d : List X) → one ≡ old ++ a → two ≡ one ++ b → three ≡ two ++ c → four ≡ three ++ d
    → four ≡ old ++ (a ++ (b ++ (c ++ d)))
four_parts {X} old one two three four a b c d e1 e2 e3 e4 = rw (e4, e3, e2, e1) (simp append_assoc refl)

-- five parts behind a text
pub five_parts : {X : Type 0} (old one two three four five a b c d e : List X) → one ≡ old ++ a → two ≡ one ++ b → three ≡ two ++ c → four ≡ three ++ d
    → five ≡ four ++ e → five ≡ old ++ (a ++ (b ++ (c ++ (d ++ e))))
five_parts {X} old one two three four five a b c d e e1 e2 e3 e4 e5 = rw (e5, e4, e3, e2, e1) (simp append_assoc refl)

-- four parts of a new text
pub four_new : {X : Type 0} (old one two three four a b c d : List X) → old ≡ [] → one ≡ old ++ a → two ≡ one ++ b → three ≡ two ++ c → four ≡ three ++ d
    → four ≡ a ++ (b ++ (c ++ d))
four_new {X} old one two three four a b c d e0 e1 e2 e3 e4 = rw (e4, e3, e2, e1, e0) (simp append_assoc refl)
