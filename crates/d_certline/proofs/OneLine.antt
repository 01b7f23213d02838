-- A text is that of one line at most.
use Rattle.std.proofs.Common.{◌≡◌, ◌∙◌, ◌+◌, ◌*◌, ℕ, ℤ, pos, List, [], ◌∷◌, ◌++◌, map, get_or, refl, sym, ap, ap₂}
use Rattle.std.specs.Prelude.{codes}
use Rattle.std.proofs.lemmas.Bool.{eqb-false}
use Rattle.std.proofs.lemmas.List.{append-nil, append_cancel_left}
use Rattle.d_num.specs.declared.pot.Pot.{Pot}
use Rattle.d_num.specs.declared.pot.Pot.TheVariants.{To}
use Rattle.d_certline.specs.declared.kind.Kind.{Kind}
use Rattle.d_certline.specs.declared.kind.Kind.TheVariants.{Least, Gap, Nothing}
use Rattle.d_certline.specs.Wholes.{padded}
use Rattle.d_certline.specs.Lines.{Line, version, label, month, minutes, intervals, levels, modes, groups, tiered, verdict, day, bill, lower, total, peak, leaf, slopes, layer, finish, line_text, word, parts, kind_text}
use Rattle.d_certline.proofs.DigitFacts.{padded_digits, padded_one}
use Rattle.d_certline.proofs.PartFacts.{parts_one, numbers_one, digits_one}

-- the bytes that tell lines apart
abbrev mark : List ℕ → ℕ
mark bytes = get_or bytes 0 0 * 65536 + get_or bytes 1 0 * 256 + get_or bytes 2 0

abbrev later : List ℕ → ℕ
later bytes = get_or bytes 6 0

kinds : (k j : Kind) → kind_text k ≡ kind_text j → k ≡ j
unfolding kind_text
kinds Least Least e = refl
kinds Least k e = absurd (eqb-false 108 (get_or (kind_text k) 0 0) refl (ap (λ bytes. get_or bytes 0 0) e))
kinds Gap Gap e = refl
kinds Gap k e = absurd (eqb-false 103 (get_or (kind_text k) 0 0) refl (ap (λ bytes. get_or bytes 0 0) e))
kinds Nothing Nothing e = refl
kinds Nothing k e = absurd (eqb-false 110 (get_or (kind_text k) 0 0) refl (ap (λ bytes. get_or bytes 0 0) e))

first_one : (y z : ℤ) (ps qs : List Pot) → To y ∷ ps ≡ To z ∷ qs → (y ≡ z) × (ps ≡ qs)
first_one y z ps qs e = (cc, cc)

text_one : (word a b : List ℕ) → (word ++ a) ++ [] ≡ (word ++ b) ++ [] → a ≡ b
text_one word a b e = append_cancel_left word a b (sym (append-nil (word ++ a)) ∙ e ∙ append-nil (word ++ b))

pub line_one : (l m : Line) → line_text l ≡ line_text m → l ≡ m
unfolding line_text word parts
line_one version version e = refl
line_one version m e = absurd (eqb-false (mark (line_text version)) (mark (line_text m)) refl (ap mark e))
line_one (label a) (label b) e = ap (λ t. label t) (text_one (codes "label ") a b e)
line_one (label a) m e = absurd (eqb-false (mark (line_text (label a))) (mark (line_text m)) refl (ap mark e))
line_one (month y a) (month z b) e =
    let tail : padded 4 y ++ 45 ∷ padded 2 a ≡ padded 4 z ++ 45 ∷ padded 2 b = text_one (codes "month ") (padded 4 y ++ 45 ∷ padded 2 a) (padded 4 z ++ 45 ∷ padded 2 b) e in
    let both = digits_one (padded 4 y) (padded 4 z) (padded 2 a) (padded 2 b) (padded_digits 4 y) (padded_digits 4 z) tail in
    ap₂ (λ (x c : ℕ). month x c) (padded_one 4 y z both.0) (padded_one 2 a b both.1)
line_one (month y a) m e = absurd (eqb-false (mark (line_text (month y a))) (mark (line_text m)) refl (ap mark e))
line_one (minutes y) (minutes z) e = ap (λ n. minutes n) (first_one y z [] [] (parts_one (codes "minutes") (To y ∷ []) (To z ∷ []) e)).0
line_one (minutes y) m e = absurd (eqb-false (mark (line_text (minutes y))) (mark (line_text m)) refl (ap mark e))
line_one (intervals y) (intervals z) e = ap (λ n. intervals n) (first_one y z [] [] (parts_one (codes "intervals") (To y ∷ []) (To z ∷ []) e)).0
line_one (intervals y) m e = absurd (eqb-false (mark (line_text (intervals y))) (mark (line_text m)) refl (ap mark e))
line_one (levels f c s t) (levels g d u v) e =
    let all = parts_one (codes "levels") (To f ∷ To c ∷ To s ∷ To t ∷ []) (To g ∷ To d ∷ To u ∷ To v ∷ []) e in
    let a = first_one f g (To c ∷ To s ∷ To t ∷ []) (To d ∷ To u ∷ To v ∷ []) all in
    let b = first_one c d (To s ∷ To t ∷ []) (To u ∷ To v ∷ []) a.1 in
    let x = first_one s u (To t ∷ []) (To v ∷ []) b.1 in
    let y = first_one t v [] [] x.1 in
    ap₂ (λ (h i : ℤ). levels h i s t) a.0 b.0 ∙ ap₂ (λ (h i : ℤ). levels g d h i) x.0 y.0
line_one (levels f c s t) m e = absurd (eqb-false (mark (line_text (levels f c s t))) (mark (line_text m)) refl (ap mark e))
line_one (modes y) (modes z) e = ap (λ n. modes n) (first_one y z [] [] (parts_one (codes "modes") (To y ∷ []) (To z ∷ []) e)).0
line_one (modes y) m e = absurd (eqb-false (mark (line_text (modes y))) (mark (line_text m)) refl (ap mark e))
line_one (groups y) (groups z) e = ap (λ n. groups n) (first_one y z [] [] (parts_one (codes "groups") (To y ∷ []) (To z ∷ []) e)).0
line_one (groups y) m e = absurd (eqb-false (mark (line_text (groups y))) (mark (line_text m)) refl (ap mark e))
line_one (tiered y) (tiered z) e = ap (λ n. tiered n) (first_one y z [] [] (parts_one (codes "tiered") (To y ∷ []) (To z ∷ []) e)).0
line_one (tiered y) m e = absurd (eqb-false (mark (line_text (tiered y))) (mark (line_text m)) refl (ap mark e))
line_one (verdict k) (verdict j) e = ap (λ n. verdict n) (kinds k j (text_one (codes "verdict ") (kind_text k) (kind_text j) e))
line_one (verdict k) m e = absurd (eqb-false (mark (line_text (verdict k))) (mark (line_text m)) refl (ap mark e))
line_one (day d ms) (day n ns) e =
    let both = first_one (pos d) (pos n) (map (λ z. To z) ms) (map (λ z. To z) ns) (parts_one (codes "day") (To (pos d) ∷ map (λ z. To z) ms) (To (pos n) ∷ map (λ z. To z) ns) e) in
    ap₂ (λ (x : ℕ) (zs : List ℤ). day x zs) (same_pos d n both.0) (numbers_one ms ns both.1)
  where
    same_pos : (a b : ℕ) → pos a ≡ pos b → a ≡ b
    same_pos a b e = cc
line_one (day d ms) m e = absurd (eqb-false (mark (line_text (day d ms))) (mark (line_text m)) refl (ap mark e))
line_one (bill y) (bill z) e = ap (λ n. bill n) (first_one y z [] [] (parts_one (codes "bill") (To y ∷ []) (To z ∷ []) e)).0
line_one (bill y) m e = absurd (eqb-false (mark (line_text (bill y))) (mark (line_text m)) refl (ap mark e))
line_one (lower y) (lower z) e = ap (λ n. lower n) (first_one y z [] [] (parts_one (codes "lower") (To y ∷ []) (To z ∷ []) e)).0
line_one (lower y) m e = absurd (eqb-false (mark (line_text (lower y))) (mark (line_text m)) refl (ap mark e))
line_one (total n a) (total o b) e =
    let x = first_one n o (To a ∷ []) (To b ∷ []) (parts_one (codes "split total") (To n ∷ To a ∷ []) (To o ∷ To b ∷ []) e) in
    let y = first_one a b [] [] x.1 in
    ap₂ (λ (h i : ℤ). total h i) x.0 y.0
line_one (total n a) (peak o b) e = absurd (eqb-false (later (line_text (total n a))) (later (line_text (peak o b))) refl (ap later e))
line_one (total n a) m e = absurd (eqb-false (mark (line_text (total n a))) (mark (line_text m)) refl (ap mark e))
line_one (peak n a) (peak o b) e =
    let x = first_one n o (To a ∷ []) (To b ∷ []) (parts_one (codes "split peak") (To n ∷ To a ∷ []) (To o ∷ To b ∷ []) e) in
    let y = first_one a b [] [] x.1 in
    ap₂ (λ (h i : ℤ). peak h i) x.0 y.0
line_one (peak n a) (total o b) e = absurd (eqb-false (later (line_text (peak n a))) (later (line_text (total o b))) refl (ap later e))
line_one (peak n a) m e = absurd (eqb-false (mark (line_text (peak n a))) (mark (line_text m)) refl (ap mark e))
line_one leaf leaf e = refl
line_one leaf m e = absurd (eqb-false (mark (line_text leaf)) (mark (line_text m)) refl (ap mark e))
line_one (slopes ys) (slopes zs) e = ap (λ n. slopes n) (numbers_one ys zs (parts_one (codes "slopes") (map (λ z. To z) ys) (map (λ z. To z) zs) e))
line_one (slopes ys) m e = absurd (eqb-false (mark (line_text (slopes ys))) (mark (line_text m)) refl (ap mark e))
line_one (layer t ps) (layer n qs) e =
    let both = first_one (pos t) (pos n) ps qs (parts_one (codes "at") (To (pos t) ∷ ps) (To (pos n) ∷ qs) e) in
    ap₂ (λ (x : ℕ) (rs : List Pot). layer x rs) (same_pos t n both.0) both.1
  where
    same_pos : (a b : ℕ) → pos a ≡ pos b → a ≡ b
    same_pos a b e = cc
line_one (layer t ps) m e = absurd (eqb-false (mark (line_text (layer t ps))) (mark (line_text m)) refl (ap mark e))
line_one finish finish e = refl
line_one finish m e = absurd (eqb-false (mark (line_text finish)) (mark (line_text m)) refl (ap mark e))
