-- What holds of the entries of a list.
use Rattle.std.proofs.Common.{◌≡◌, ℕ, List, [], ◌∷◌, All, Option, None, Some, IfSome, Bor, option_map, get_or, arith, sym, zero, suc}
use Rattle.std.specs.Option.{ForSome}

-- what holds of each entry that is there holds of the one with this number
pub entry_keeps : {T : Type 0} (P : T → Type 0) (entries : List (Option T)) (number : ℕ) → All (λ entry. ForSome entry P) entries
    → ForSome (get_or entries number None) P
entry_keeps P [] number keeps value there = cc
entry_keeps P (entry ∷ rest) zero keeps value there = keeps 0 None (omega arith) value there
entry_keeps P (entry ∷ rest) (suc number) keeps value there = entry_keeps P rest number (λ k d within. keeps (suc k) d (omega arith)) value there

-- a reference to such an entry
pub found_keeps : {T : Type 0} (P : T → Type 0) (found : Option (Bor T)) (entry : Option T) → option_map (λ (b : Bor T). b.now) found ≡ entry → ForSome entry P
    → IfSome found (λ b. P b.now)
found_keeps P None entry same keeps = tt
found_keeps P (Some b) entry same keeps = keeps b.now (sym same)
