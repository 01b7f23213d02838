-- A list in brackets is read to its end.
use Rattle.std.proofs.Common.{◌≡◌, ℕ, ◌+◌, ◌<◌, inl, inr, Bool, true, false, nat_lt, ◌==◌, cond, All, Option, None, Some, option_map, List, [], ◌∷◌, ◌++◌, length, arith, refl, sym, ap, ap₂, ◌∙◌, append_assoc}
use Rattle.std.proofs.lemmas.List.{append-nil, length-append}
use Rattle.std.proofs.lemmas.List.Elements.{All-head, All-tail}
use Rattle.std.proofs.lemmas.Bool.Decides.{nat_tests}
use Rattle.d_text.specs.Grid.{IsBlank, GoesOn, IsBracketed}
use Rattle.d_text.specs.declared.brackets.Stage.TheVariants.{Open, Closed}
use Rattle.d_text.specs.declared.brackets.Role.{Role}
use Rattle.d_text.specs.declared.brackets.Role.TheVariants.{Opening, Closing, Comma, Blank, Other}
use Rattle.d_text.specs.Brackets.{Reader, Level, unread, waiting, within, rested, shut, role_of, is_blank, level_of, level, level_next, next_behind, next_end, next_within, next_waiting}
use Rattle.d_text.proofs.ReaderFacts.{on, run, Recognizes, is_stop, further, here}

-- blanks
pub blank_role : (byte : ℕ) → IsBlank byte → role_of byte ≡ Blank
blank_role byte (inl e) = ap role_of e
blank_role byte (inr (inl e)) = ap role_of e
blank_role byte (inr (inr (inl e))) = ap role_of e
blank_role byte (inr (inr (inr e))) = ap role_of e

-- only blanks are passed by
abbrev Stays : {S A : Type 0} → Reader S A → S → Type 0
Stays m s = (place byte : ℕ) → role_of byte ≡ Blank → m.next place s byte ≡ Some s

blanks-stay : {S A : Type 0} (m : Reader S A) (s : S) → Stays m s → (blanks rest : List ℕ) (place : ℕ) → All IsBlank blanks → run m place (blanks ++ rest) s ≡ run m (place + length blanks) rest s
blanks-stay m s stays [] rest place h = ap (λ (p : ℕ). run m p rest s) (here place)
blanks-stay m s stays (byte ∷ blanks) rest place h =
    ap (λ o. on o (run m (place + 1) (blanks ++ rest))) (stays place byte (blank_role byte (All-head IsBlank byte blanks h)))
    ∙ blanks-stay m s stays blanks rest (place + 1) (All-tail IsBlank byte blanks h) ∙ ap (λ (p : ℕ). run m p rest s) (further place (length blanks))

waiting-stays : {S A : Type 0} (m : Reader S A) (most : ℕ) (parts : List A) → Stays (level m most) (waiting parts)
waiting-stays m most parts place byte e = ap (λ (r : Role). next_waiting parts (m.next place m.start byte) (is_blank r)) e

rested-stays : {S A : Type 0} (m : Reader S A) (most : ℕ) (parts : List A) → Stays (level m most) (rested parts)
rested-stays m most parts place byte e = ap (λ (r : Role). next_behind most parts m.start r) e

-- in a part
pub part-run : {S A : Type 0} (m : Reader S A) (most : ℕ) (parts : List A) (text rest : List ℕ) (place : ℕ) (s t : S) → run m place text s ≡ Some t
    → run (level m most) place (text ++ rest) (within parts s) ≡ run (level m most) (place + length text) rest (within parts t)
part-run m most parts [] rest place s t e = let same : s ≡ t = cc in ap₂ (λ p u. run (level m most) p rest (within parts u)) (here place) same
part-run {S = S} m most parts (byte ∷ text) rest place s t e = by_next (m.next place s byte) e (λ u. part-run m most parts text rest (place + 1) u t)
  where
    by_next : (o : Option S) → on o (run m (place + 1) text) ≡ Some t
        → ((u : S) → run m (place + 1) text u ≡ Some t → run (level m most) (place + 1) (text ++ rest) (within parts u) ≡ run (level m most) (place + 1 + length text) rest (within parts t))
        → on (next_within parts o (next_end most parts s (m.value s) (role_of byte))) (run (level m most) (place + 1) (text ++ rest)) ≡ run (level m most) (place + length (byte ∷ text)) rest (within parts t)
    by_next None e f = absurd cc
    by_next (Some u) e f = f u e ∙ ap (λ (p : ℕ). run (level m most) p rest (within parts t)) (further place (length text))

-- a whole part
pub whole-part : {S A : Type 0} (m : Reader S A) (Form : ℕ → List ℕ → A → Type 0) (Good : S → Type 0) → Recognizes m Form Good → (most : ℕ) (parts : List A) (text rest : List ℕ) (place : ℕ) (t : S) (value : A)
    → run m place text m.start ≡ Some t → m.value t ≡ Some value → run (level m most) place (text ++ rest) (waiting parts) ≡ run (level m most) (place + length text) rest (within parts t)
whole-part m Form Good r most parts [] rest place t value e says =
    absurd (let same : m.start ≡ t = cc in let bad : None ≡ Some value = sym r.unstarted ∙ ap m.value same ∙ says in cc)
whole-part {S = S} m Form Good r most parts (byte ∷ text) rest place t value e says = by_blank (is_blank (role_of byte)) refl
  where
    by_next : (o : Option S) → on o (run m (place + 1) text) ≡ Some t
        → on (next_waiting parts o false) (run (level m most) (place + 1) (text ++ rest)) ≡ run (level m most) (place + length (byte ∷ text)) rest (within parts t)
    by_next None e = absurd cc
    by_next (Some u) e = part-run m most parts text rest (place + 1) u t e ∙ ap (λ (p : ℕ). run (level m most) p rest (within parts t)) (further place (length text))

    by_blank : (b : Bool) → is_blank (role_of byte) ≡ b → run (level m most) place ((byte ∷ text) ++ rest) (waiting parts) ≡ run (level m most) (place + length (byte ∷ text)) rest (within parts t)
    by_blank true h = absurd (let bad : None ≡ Some t = ap (λ (o : Option S). on o (run m (place + 1) text)) (sym (r.no_blank place byte h)) ∙ e in cc)
    by_blank false h = ap (λ (b : Bool). on (next_waiting parts (m.next place m.start byte) b) (run (level m most) (place + 1) (text ++ rest))) h ∙ by_next (m.next place m.start byte) e

-- behind a part it doesn't matter how it was read
behind_any : {S A : Type 0} (most : ℕ) (parts : List A) (s t : S) (role : Role) → next_behind most parts s role ≡ next_behind most parts t role
behind_any most parts s t Opening = refl
behind_any most parts s t Closing = by_count (length parts == most)
  where
    by_count : (b : Bool) → option_map (λ stage. level_of stage parts s) (cond b (Some Closed) None) ≡ option_map (λ stage. level_of stage parts t) (cond b (Some Closed) None)
    by_count true = refl
    by_count false = refl
behind_any most parts s t Comma = by_count (nat_lt (length parts) most)
  where
    by_count : (b : Bool) → option_map (λ stage. level_of stage parts s) (cond b (Some Open) None) ≡ option_map (λ stage. level_of stage parts t) (cond b (Some Open) None)
    by_count true = refl
    by_count false = refl
behind_any most parts s t Blank = refl
behind_any most parts s t Other = refl

-- a state that a stop leads on from as from behind a part
abbrev pub LikeRested : {S A : Type 0} → Reader S A → ℕ → List A → Level S A → Type 0
LikeRested m most parts l = (place byte : ℕ) → is_stop (role_of byte) ≡ true → level_next m most place l byte ≡ level_next m most place (rested parts) byte

pub part-like : {S A : Type 0} (m : Reader S A) (Form : ℕ → List ℕ → A → Type 0) (Good : S → Type 0) → Recognizes m Form Good → (most : ℕ) (parts : List A) (t : S) (value : A) → m.value t ≡ Some value
    → LikeRested m most (parts ++ value ∷ []) (within parts t)
part-like m Form Good r most parts t value says place byte stop =
    ap₂ (λ o v. next_within parts o (next_end most parts t v (role_of byte))) (r.stops place byte t value says stop) says ∙ behind_any most (parts ++ value ∷ []) t m.start (role_of byte)

stop_at : (byte : ℕ) (role : Role) → role_of byte ≡ role → is_stop role ≡ true → is_stop (role_of byte) ≡ true
stop_at byte role e h = ap is_stop e ∙ h

like-rested : {S A : Type 0} (m : Reader S A) (most : ℕ) (parts : List A) (l : Level S A) → LikeRested m most parts l → (blanks rest : List ℕ) (byte place : ℕ) → All IsBlank blanks → is_stop (role_of byte) ≡ true
    → run (level m most) place (blanks ++ byte ∷ rest) l ≡ run (level m most) (place + length blanks) (byte ∷ rest) (rested parts)
like-rested m most parts l like [] rest byte place h stop =
    ap (λ o. on o (run (level m most) (place + 1) rest)) (like place byte stop) ∙ ap (λ (p : ℕ). run (level m most) p (byte ∷ rest) (rested parts)) (here place)
like-rested m most parts l like (blank ∷ blanks) rest byte place h stop =
    ap (λ o. on o (run (level m most) (place + 1) (blanks ++ byte ∷ rest))) (like place blank (stop_at blank Blank (blank_role blank (All-head IsBlank blank blanks h)) refl))
    ∙ blanks-stay (level m most) (rested parts) (rested-stays m most parts) (blank ∷ blanks) (byte ∷ rest) place h

-- a comma and a bracket
comma-next : {S A : Type 0} (m : Reader S A) (most place : ℕ) (parts : List A) → length parts < most → level_next m most place (rested parts) 44 ≡ Some (waiting parts)
comma-next m most place parts lt = ap (λ b. option_map (λ stage. level_of stage parts m.start) (cond b (Some Open) None)) (room (length parts) most lt)
  where
    room : (a b : ℕ) → a < b → nat_lt a b ≡ true
    room a b lt = grind (arith, nat_tests)

bracket-next : {S A : Type 0} (m : Reader S A) (most place : ℕ) (parts : List A) → length parts ≡ most → level_next m most place (rested parts) 93 ≡ Some (shut parts)
bracket-next m most place parts e = ap (λ b. option_map (λ stage. level_of stage parts m.start) (cond b (Some Closed) None)) (full (length parts) most e)
  where
    full : (a b : ℕ) → a ≡ b → (a == b) ≡ true
    full a b e = grind (arith, nat_tests)

-- the rest of a list, and a list
pub goes-on-run : {S A : Type 0} (m : Reader S A) (Form : ℕ → List ℕ → A → Type 0) (Good : S → Type 0) → Recognizes m Form Good → (most : ℕ) (more parts : List A) (l : Level S A) (place : ℕ) (text : List ℕ)
    → LikeRested m most parts l → length (parts ++ more) ≡ most → GoesOn Form place text more → run (level m most) place text l ≡ Some (shut (parts ++ more))
goes-on-run m Form Good r most [] parts l place text like full h =
    let same : parts ++ [] ≡ parts = append-nil parts in
    let count : length parts ≡ most = rw same at full in
    ap (λ (x : List ℕ). run (level m most) place x l) h.2 ∙ like-rested m most parts l like h.0 [] 93 place h.1 refl
    ∙ ap (λ o. on o (run (level m most) (place + length h.0 + 1) [])) (bracket-next m most (place + length h.0) parts count) ∙ ap (λ ps. Some (shut ps)) (sym same)
goes-on-run m Form Good r most (value ∷ more) parts l place text like full h =
    let count : length parts < most = omega (arith, length-append parts (value ∷ more)) in
    let w = h.4 in
    let read = r.complete (place + length h.0 + 1 + length w.blanks) w.part value w.part_is in
    let again : (parts ++ value ∷ []) ++ more ≡ parts ++ value ∷ more = append_assoc parts (value ∷ []) more in
    ap (λ (x : List ℕ). run (level m most) place x l) h.3 ∙ like-rested m most parts l like h.0 h.1 44 place h.2 refl
    ∙ ap (λ o. on o (run (level m most) (place + length h.0 + 1) h.1)) (comma-next m most (place + length h.0) parts count)
    ∙ ap (λ (x : List ℕ). run (level m most) (place + length h.0 + 1) x (waiting parts)) w.form
    ∙ blanks-stay (level m most) (waiting parts) (waiting-stays m most parts) w.blanks (w.part ++ w.rest) (place + length h.0 + 1) w.blanks_are
    ∙ whole-part m Form Good r most parts w.part w.rest (place + length h.0 + 1 + length w.blanks) read.end value read.runs read.says
    ∙ goes-on-run m Form Good r most more (parts ++ value ∷ []) (within parts read.end) (place + length h.0 + 1 + length w.blanks + length w.part) w.rest (part-like m Form Good r most parts read.end value read.says)
    (ap (λ ps. length ps) again ∙ full) w.rest_is
    ∙ ap (λ ps. Some (shut ps)) again

pub bracketed-run : {S A : Type 0} (m : Reader S A) (Form : ℕ → List ℕ → A → Type 0) (Good : S → Type 0) → Recognizes m Form Good → (most place : ℕ) (text : List ℕ) (values : List A)
    → length values ≡ most → IsBracketed Form place text values → run (level m most) place text unread ≡ Some (shut values)
bracketed-run m Form Good r most place text [] full h = absurd h
bracketed-run {A = A} m Form Good r most place text (value ∷ more) full h =
    let w = h.2 in
    let read = r.complete (place + 1 + length w.blanks) w.part value w.part_is in
    ap (λ (x : List ℕ). run (level m most) place x unread) h.1
    ∙ ap (λ (x : List ℕ). run (level m most) (place + 1) x (waiting [])) w.form
    ∙ blanks-stay (level m most) (waiting []) (waiting-stays m most []) w.blanks (w.part ++ w.rest) (place + 1) w.blanks_are
    ∙ whole-part m Form Good r most [] w.part w.rest (place + 1 + length w.blanks) read.end value read.runs read.says
    ∙ goes-on-run m Form Good r most more (value ∷ []) (within [] read.end) (place + 1 + length w.blanks + length w.part) w.rest (part-like m Form Good r most [] read.end value read.says) full w.rest_is
