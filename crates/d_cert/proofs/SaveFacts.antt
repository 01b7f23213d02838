-- What a line that was put together is saved as.
use Rattle.std.proofs.Common.{◌≡◌, ℕ, ℤ, pos, List, [], ◌∷◌, ◌++◌, codes, map, Result, sym, refl, ap, subst, ◌∙◌}
use Rattle.std.specs.List.{flat_map}
use Rattle.std.proofs.lemmas.List.{append_assoc}
use Rattle.std.proofs.lemmas.List.Folds.{flat_map-map}
use Rattle.d_num.specs.declared.pot.Pot.{Pot}
use Rattle.d_num.specs.declared.pot.Pot.TheVariants.{To}
use Rattle.d_desk.specs.declared.fault.DeskFault.{DeskFault}
use Rattle.d_desk.specs.Scene.{Scene}
use Rattle.d_certline.specs.Wholes.{whole}
use Rattle.d_certline.specs.Lines.{Line, line_text, text_of, word, parts, spaced, pot_text}
use Rattle.d_certline.specs.Lines as line
use Rattle.d_cert.specs.Saved.{SavesText}

pub text_as : (text other : List ℕ) (before now : Scene) (r : Result (Unit {0}) DeskFault) → text ≡ other → SavesText text before now r → SavesText other before now r
text_as text other before now r same saved = subst (λ (t : List ℕ). SavesText t before now r) same saved

-- a line that was put together
pub put_line : (l : Line) (text whole_line : List ℕ) (before now : Scene) (r : Result (Unit {0}) DeskFault) → whole_line ≡ text → line_text l ≡ text
    → SavesText (whole_line ++ 10 ∷ []) before now r → SavesText (text_of (l ∷ [])) before now r
unfolding text_of
put_line l text whole_line before now r put is saved =
    text_as (whole_line ++ 10 ∷ []) (text_of (l ∷ [])) before now r (ap (λ t. t ++ 10 ∷ []) (put ∙ sym is)) saved

-- a word and what was put behind it
pub put_behind : (first rest : List ℕ) (empty begun whole_line : List ℕ) → empty ≡ [] → begun ≡ empty ++ first → whole_line ≡ begun ++ rest → whole_line ≡ first ++ rest
put_behind first rest empty begun whole_line none begin put = put ∙ ap (λ l. l ++ rest) (begin ∙ ap (λ l. l ++ first) none)

-- numbers behind spaces
pub number_parts : (zs : List ℤ) → flat_map spaced (map (λ z. To z) zs) ≡ flat_map (λ z. 32 ∷ whole z) zs
unfolding pot_text
number_parts zs = flat_map-map spaced (λ z. To z) zs

-- the text of a line of this word and these numbers
pub numbers_are : (l : Line) (first : List ℕ) (zs : List ℤ) → word l ≡ first → parts l ≡ map (λ z. To z) zs → line_text l ≡ first ++ flat_map (λ z. 32 ∷ whole z) zs
unfolding line_text
numbers_are l first zs begins has = ap (λ t. t ++ flat_map spaced (parts l)) begins ∙ ap (λ t. first ++ t) (ap (flat_map spaced) has ∙ number_parts zs)

-- counts behind spaces
count_parts : (ns : List ℕ) → flat_map spaced (map (λ n. To (pos n)) ns) ≡ flat_map (λ n. 32 ∷ whole (pos n)) ns
unfolding pot_text
count_parts ns = flat_map-map spaced (λ n. To (pos n)) ns

-- the text of a line of this word and these counts
pub counts_are : (l : Line) (first : List ℕ) (ns : List ℕ) → word l ≡ first → parts l ≡ map (λ n. To (pos n)) ns
    → line_text l ≡ first ++ flat_map (λ n. 32 ∷ whole (pos n)) ns
unfolding line_text
counts_are l first ns begins has = ap (λ t. t ++ flat_map spaced (parts l)) begins ∙ ap (λ t. first ++ t) (ap (flat_map spaced) has ∙ count_parts ns)

-- the numbers of modes
mode_parts : (ms : List ℕ) → flat_map spaced (map (λ z. To z) (map (λ m. pos m) ms)) ≡ flat_map (λ m. 32 ∷ whole (pos m)) ms
unfolding pot_text
mode_parts ms = flat_map-map spaced (λ z. To z) (map (λ m. pos m) ms) ∙ flat_map-map (λ z. spaced (To z)) (λ m. pos m) ms

pub day_is : (d : ℕ) (ms : List ℕ) → codes "day" ++ ((32 ∷ whole (pos d)) ++ flat_map (λ m. 32 ∷ whole (pos m)) ms) ≡ line_text (line.day d (map (λ m. pos m) ms))
unfolding line_text word parts pot_text
day_is d ms = ap (λ l. codes "day" ++ ((32 ∷ whole (pos d)) ++ l)) (sym (mode_parts ms))

pub layer_is : (t : ℕ) (row : List Pot) → codes "at" ++ ((32 ∷ whole (pos t)) ++ flat_map spaced row) ≡ line_text (line.layer t row)
unfolding line_text word parts pot_text
layer_is t row = refl

-- a word, a number and what was put behind it
pub put_list : (first number rest : List ℕ) (empty begun numbered whole_line : List ℕ) → empty ≡ []
    → begun ≡ empty ++ first → numbered ≡ begun ++ number → whole_line ≡ numbered ++ rest → whole_line ≡ first ++ (number ++ rest)
put_list first number rest empty begun numbered whole_line none begin count put =
    let from : begun ≡ first = begin ∙ ap (λ l. l ++ first) none in
    put ∙ (ap (λ l. l ++ rest) (count ∙ ap (λ l. l ++ number) from) ∙ append_assoc first number rest)
