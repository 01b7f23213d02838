-- Numbers and items are recognized, and with them rows, grids and lists.
use Rattle.std.proofs.Common.{◌≡◌, ℕ, ◌+◌, ◌*◌, ◌<◌, ◌≤◌, ◌&&◌, Bool, true, false, nat_lt, cond, All, Option, None, Some, option_map, List, [], ◌∷◌, length, arith, refl, sym, ap, ap₂, ◌∙◌, subst, inl, inr}
use Rattle.std.proofs.lemmas.List.Elements.{All-nil, All-cons, All-head, All-tail}
use Rattle.std.proofs.lemmas.Bool.Decides.{nat_tests}
use Rattle.std.specs.Char.{digit_value}
use Rattle.std.specs.Str.Parse.{AllDigits, digits_value_after}
use Rattle.d_text.specs.Grid.{IsBlank, IsItemByte, IsNumber, IsItem, IsRow, IsGridText, IsListText}
use Rattle.d_text.specs.declared.items.Span.{Span}
use Rattle.d_text.specs.declared.brackets.Role.{Role}
use Rattle.d_text.specs.declared.brackets.Role.TheVariants.{Opening, Closing, Comma, Blank, Other}
use Rattle.d_text.specs.Brackets.{Level, role_of, so_far, with_digit, number_reader, item_with, item_next, item_reader, row_reader, grid_reader, list_reader}
use Rattle.d_text.proofs.ReaderFacts.{on, run, Reads, Ends, Recognizes, is_stop, further, here}
use Rattle.d_text.proofs.LevelReads.{blank_role}
use Rattle.d_text.proofs.LevelSays.{role_blank, role_closing, role_comma, blank_only}
use Rattle.d_text.proofs.LevelFacts.{LevelGood, level-recognizes}

-- no number goes on at a stop
stop-digit : (number byte : ℕ) (role : Role) → role_of byte ≡ role → is_stop role ≡ true → with_digit number byte ≡ None
stop-digit number byte Opening e h = cc
stop-digit number byte Closing e h = ap (with_digit number) (role_closing byte e)
stop-digit number byte Comma e h = ap (with_digit number) (role_comma byte e)
stop-digit number byte Blank e h = blank (role_blank byte e)
  where
    blank : IsBlank byte → with_digit number byte ≡ None
    blank (inl f) = ap (with_digit number) f
    blank (inr (inl f)) = ap (with_digit number) f
    blank (inr (inr (inl f))) = ap (with_digit number) f
    blank (inr (inr (inr f))) = ap (with_digit number) f
stop-digit number byte Other e h = cc

-- what one more digit says
record Digit (number byte next : ℕ) : Type 0 where
  digit : digit_value byte < 10
  next_is : next ≡ number * 10 + digit_value byte
  most : next ≤ 35

digit-said : (number byte next : ℕ) → with_digit number byte ≡ Some next → Digit number byte next
digit-said number byte next e = by_test (nat_lt (digit_value byte) 10) (nat_lt (number * 10 + digit_value byte) 36) refl refl e
  where
    by_test : (a b : Bool) → nat_lt (digit_value byte) 10 ≡ a → nat_lt (number * 10 + digit_value byte) 36 ≡ b → cond (a && b) (Some (number * 10 + digit_value byte)) None ≡ Some next → Digit number byte next
    by_test true true f g h = let same : number * 10 + digit_value byte ≡ next = cc in record { digit = below (digit_value byte) 10 f; next_is = sym same; most = within (number * 10 + digit_value byte) next same g }
      where
        below : (a b : ℕ) → nat_lt a b ≡ true → a < b
        below a b e = grind (arith, nat_tests)

        within : (a b : ℕ) → a ≡ b → nat_lt a 36 ≡ true → b ≤ 35
        within a b same e = let lt : a < 36 = below a 36 e in omega arith
    by_test true false f g h = absurd cc
    by_test false b f g h = absurd cc

digit-read : (number byte : ℕ) → digit_value byte < 10 → number * 10 + digit_value byte ≤ 35 → with_digit number byte ≡ Some (number * 10 + digit_value byte)
digit-read number byte small most = ap₂ (λ a b. cond (a && b) (Some (number * 10 + digit_value byte)) None) (below (digit_value byte) 10 small) (below (number * 10 + digit_value byte) 36 (omega arith))
  where
    below : (a b : ℕ) → a < b → nat_lt a b ≡ true
    below a b lt = grind (arith, nat_tests)

-- what digits say
record Digits (s t : Option ℕ) (text : List ℕ) : Type 0 where
  digits : AllDigits 10 text
  number : so_far t ≡ digits_value_after 10 (so_far s) text
  most : so_far t ≤ 35

digits-said : (text : List ℕ) (place : ℕ) (s t : Option ℕ) → so_far s ≤ 35 → run number_reader place text s ≡ Some t → Digits s t text
digits-said [] place s t small e = let same : s ≡ t = cc in subst (λ u. Digits s u []) same (record { digits = tt; number = refl; most = small })
digits-said (byte ∷ text) place s t small e = by_next (with_digit (so_far s) byte) refl e (λ n h. digits-said text (place + 1) (Some n) t h)
  where
    by_next : (o : Option ℕ) → with_digit (so_far s) byte ≡ o → on (option_map Some o) (run number_reader (place + 1) text) ≡ Some t
        → ((n : ℕ) → n ≤ 35 → run number_reader (place + 1) text (Some n) ≡ Some t → Digits (Some n) t text) → Digits s t (byte ∷ text)
    by_next None f h g = absurd cc
    by_next (Some n) f h g =
        let d = digit-said (so_far s) byte n f in
        let more = g n d.most h in
        record { digits = (d.digit, more.digits); number = more.number ∙ ap (λ (v : ℕ). digits_value_after 10 v text) d.next_is; most = more.most }

at-least : (text : List ℕ) (number : ℕ) → number ≤ digits_value_after 10 number text
at-least [] number = omega arith
at-least (byte ∷ text) number = omega (arith, at-least text (number * 10 + digit_value byte))

digits-read : (text : List ℕ) (place number : ℕ) → AllDigits 10 text → digits_value_after 10 number text ≤ 35 → run number_reader place text (Some number) ≡ Some (Some (digits_value_after 10 number text))
digits-read [] place number digits most = refl
digits-read (byte ∷ text) place number digits most =
    ap (λ o. on (option_map Some o) (run number_reader (place + 1) text)) (digit-read number byte digits.0 (omega (arith, at-least text (number * 10 + digit_value byte))))
    ∙ digits-read text (place + 1) (number * 10 + digit_value byte) digits.1 most

number-sound : (place : ℕ) (text : List ℕ) (value : ℕ) → Reads number_reader place text value → IsNumber place text value
number-sound place [] value h = absurd (let same : None ≡ h.end = cc in let bad : None ≡ Some value = same ∙ h.says in cc)
number-sound place (byte ∷ text) value h =
    let said = digits-said (byte ∷ text) place None h.end (omega arith) h.runs in
    let is : so_far h.end ≡ value = ap so_far h.says in
    record { digits = (omega arith, said.digits); number_is = sym is ∙ said.number; most = omega (arith, said.most) }

number-complete : (place : ℕ) (text : List ℕ) (value : ℕ) → IsNumber place text value → Reads number_reader place text value
number-complete place [] value h = absurd (let bad : 0 < 0 = h.digits.0 in omega arith)
number-complete place (byte ∷ text) value h =
    let small : digits_value_after 10 (0 * 10 + digit_value byte) text ≤ 35 = rw (sym h.number_is) h.most in
    record {
      end = Some (digits_value_after 10 (0 * 10 + digit_value byte) text);
      runs = ap (λ o. on (option_map Some o) (run number_reader (place + 1) text)) (digit-read 0 byte h.digits.1.0 (omega (arith, at-least text (0 * 10 + digit_value byte))))
          ∙ digits-read text (place + 1) (0 * 10 + digit_value byte) h.digits.1.1 small;
      says = ap Some (sym h.number_is);
    }

abbrev pub NumberGood : Option ℕ → Type 0
NumberGood s = so_far s ≤ 35

number-next : (s t : Option ℕ) (byte : ℕ) (o : Option ℕ) → with_digit (so_far s) byte ≡ o → option_map Some o ≡ Some t → NumberGood t
number-next s t byte None f e = cc
number-next s t byte (Some n) f e = let same : Some n ≡ t = cc in subst NumberGood same (digit-said (so_far s) byte n f).most

number-ends : (place : ℕ) (s : Option ℕ) → Ends number_reader place s
number-ends place None = record { rest = 48 ∷ []; end = Some 0; value = 0; runs = refl; says = refl }
number-ends place (Some n) = record { rest = []; end = Some n; value = n; runs = refl; says = refl }

pub number-recognizes : Recognizes number_reader IsNumber NumberGood
number-recognizes = record {
  sound = number-sound;
  complete = number-complete;
  unstarted = refl;
  no_blank = λ place byte e. ap (option_map Some) (stop-digit 0 byte Blank (blank_only (role_of byte) e) refl);
  stops = λ place byte s value e stop. ap (option_map Some) (stop-digit (so_far s) byte (role_of byte) refl stop);
  good_start = omega arith;
  good_next = λ place byte s t g e. number-next s t byte (with_digit (so_far s) byte) refl e;
  ends = λ place s g. number-ends place s;
}

-- items
role_item : (byte : ℕ) → role_of byte ≡ Other → IsItemByte byte
role_item byte e = record {
  no_comma = λ f. let bad : Comma ≡ Other = sym (ap role_of f) ∙ e in cc;
  no_opening = λ f. let bad : Opening ≡ Other = sym (ap role_of f) ∙ e in cc;
  no_closing = λ f. let bad : Closing ≡ Other = sym (ap role_of f) ∙ e in cc;
  no_blank = λ f. let bad : Blank ≡ Other = sym (blank_role byte f) ∙ e in cc;
}

item_role : (byte : ℕ) (role : Role) → role_of byte ≡ role → IsItemByte byte → role ≡ Other
item_role byte Opening e h = absurd (h.no_opening (grind (arith, nat_tests)))
item_role byte Closing e h = absurd (h.no_closing (role_closing byte e))
item_role byte Comma e h = absurd (h.no_comma (role_comma byte e))
item_role byte Blank e h = absurd (h.no_blank (role_blank byte e))
item_role byte Other e h = refl

spanned : ℕ → ℕ → Span
spanned from to = record { from = from; to = to }

record Bytes (from place : ℕ) (text : List ℕ) (t : Option Span) : Type 0 where
  bytes : All IsItemByte text
  span : t ≡ Some (spanned from (place + length text))

bytes-said : (text : List ℕ) (place from : ℕ) (t : Option Span) → run item_reader place text (Some (spanned from place)) ≡ Some t → Bytes from place text t
unfolding spanned
bytes-said [] place from t e = let same : Some (spanned from place) ≡ t = cc in record { bytes = All-nil IsItemByte; span = sym same ∙ ap (λ (p : ℕ). Some (spanned from p)) (here place) }
bytes-said (byte ∷ text) place from t e = by_role (role_of byte) refl e (λ h. bytes-said text (place + 1) from t h)
  where
    by_role : (role : Role) → role_of byte ≡ role → on (item_next place (Some (spanned from place)) role) (run item_reader (place + 1) text) ≡ Some t
        → (run item_reader (place + 1) text (Some (spanned from (place + 1))) ≡ Some t → Bytes from (place + 1) text t) → Bytes from place (byte ∷ text) t
    by_role Opening f e g = absurd cc
    by_role Closing f e g = absurd cc
    by_role Comma f e g = absurd cc
    by_role Blank f e g = absurd cc
    by_role Other f e g =
        let more = g e in
        record { bytes = All-cons IsItemByte byte text (role_item byte f) more.bytes; span = more.span ∙ ap (λ (p : ℕ). Some (spanned from p)) (further place (length text)) }

bytes-read : (text : List ℕ) (place from : ℕ) → All IsItemByte text → run item_reader place text (Some (spanned from place)) ≡ Some (Some (spanned from (place + length text)))
unfolding spanned
bytes-read [] place from h = ap (λ (p : ℕ). Some (Some (spanned from p))) (here place)
bytes-read (byte ∷ text) place from h =
    ap (λ r. on (item_next place (Some (spanned from place)) r) (run item_reader (place + 1) text)) (item_role byte (role_of byte) refl (All-head IsItemByte byte text h))
    ∙ bytes-read text (place + 1) from (All-tail IsItemByte byte text h) ∙ ap (λ (p : ℕ). Some (Some (spanned from p))) (further place (length text))

item-sound : (place : ℕ) (text : List ℕ) (value : Span) → Reads item_reader place text value → IsItem place text value
unfolding spanned
item-sound place [] value h = absurd (let same : None ≡ h.end = cc in let bad : None ≡ Some value = same ∙ h.says in cc)
item-sound place (byte ∷ text) value h = by_role (role_of byte) refl h.runs
  where
    by_role : (role : Role) → role_of byte ≡ role → on (item_next place None role) (run item_reader (place + 1) text) ≡ Some h.end → IsItem place (byte ∷ text) value
    by_role Opening f e = absurd cc
    by_role Closing f e = absurd cc
    by_role Comma f e = absurd cc
    by_role Blank f e = absurd cc
    by_role Other f e =
        let more = bytes-said text (place + 1) place h.end e in
        let values : Some value ≡ Some (spanned place (place + 1 + length text)) = sym h.says ∙ more.span in
        let same : value ≡ spanned place (place + 1 + length text) = cc in
        record {
          bytes = All-cons IsItemByte byte text (role_item byte f) more.bytes;
          some = omega arith;
          from_is = ap (λ (s : Span). s.from) same;
          to_is = ap (λ (s : Span). s.to) same ∙ further place (length text);
        }

item-complete : (place : ℕ) (text : List ℕ) (value : Span) → IsItem place text value → Reads item_reader place text value
unfolding spanned
item-complete place [] value h = absurd (let bad : 0 < 0 = h.some in omega arith)
item-complete place (byte ∷ text) value h = record {
  end = Some (spanned place (place + 1 + length text));
  runs = ap (λ r. on (item_next place None r) (run item_reader (place + 1) text)) (item_role byte (role_of byte) refl (All-head IsItemByte byte text h.bytes))
      ∙ bytes-read text (place + 1) place (All-tail IsItemByte byte text h.bytes);
  says = ap₂ (λ a b. Some (spanned a b)) (sym h.from_is) (further place (length text) ∙ sym h.to_is);
}

stop-item : (place : ℕ) (s : Option Span) (role : Role) → is_stop role ≡ true → item_next place s role ≡ None
stop-item place s Opening h = refl
stop-item place s Closing h = refl
stop-item place s Comma h = refl
stop-item place s Blank h = refl
stop-item place s Other h = cc

abbrev pub ItemGood : Option Span → Type 0
ItemGood s = Unit {0}

item-ends : (place : ℕ) (s : Option Span) → Ends item_reader place s
item-ends place None = record { rest = 48 ∷ []; end = Some (item_with None place); value = item_with None place; runs = refl; says = refl }
item-ends place (Some span) = record { rest = []; end = Some span; value = span; runs = refl; says = refl }

pub item-recognizes : Recognizes item_reader IsItem ItemGood
item-recognizes = record {
  sound = item-sound;
  complete = item-complete;
  unstarted = refl;
  no_blank = λ place byte e. ap (item_next place None) (blank_only (role_of byte) e);
  stops = λ place byte s value e stop. stop-item place s (role_of byte) stop;
  good_start = tt;
  good_next = λ place byte s t g e. tt;
  ends = λ place s g. item-ends place s;
}

-- rows, grids and lists
abbrev pub RowGood : Level (Option ℕ) ℕ → Type 0
RowGood s = LevelGood NumberGood 24 s

abbrev pub GridGood : Level (Level (Option ℕ) ℕ) (List ℕ) → Type 0
GridGood s = LevelGood RowGood 12 s

abbrev pub ListGood : Level (Option Span) Span → Type 0
ListGood s = LevelGood ItemGood 12 s

row-recognizes : Recognizes row_reader IsRow RowGood
row-recognizes = level-recognizes number_reader IsNumber NumberGood number-recognizes 24 (omega arith)

pub grid-recognizes : Recognizes grid_reader IsGridText GridGood
grid-recognizes = level-recognizes row_reader IsRow RowGood row-recognizes 12 (omega arith)

pub list-recognizes : Recognizes list_reader IsListText ListGood
list-recognizes = level-recognizes item_reader IsItem ItemGood item-recognizes 12 (omega arith)
