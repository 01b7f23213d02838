-- Lines made part by part.
use Rattle.std.proofs.Common.{◌≡◌, List, [], ◌∷◌, ◌++◌, append_assoc, refl}

-- the five parts of a record's line: its front, the column's name, the detail, the cell and the line feed
pub record_parts : {X : Type 0} (blank feed : X) (old one two three four five front number name column detail cell : List X) → old ≡ []
    → one ≡ old ++ (front ++ (number ++ blank ∷ (name ++ blank ∷ []))) → two ≡ one ++ column → three ≡ two ++ (blank ∷ detail) → four ≡ three ++ cell → five ≡ four ++ feed ∷ []
    → five ≡ (front ++ (number ++ blank ∷ (name ++ blank ∷ (column ++ blank ∷ (detail ++ cell))))) ++ feed ∷ []
record_parts {X} blank feed old one two three four five front number name column detail cell e0 e1 e2 e3 e4 e5 = rw (e5, e4, e3, e2, e1, e0) (simp append_assoc refl)
