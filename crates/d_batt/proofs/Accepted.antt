-- What isn't refused is a battery.
use Rattle.std.proofs.Common.{◌≡◌, ◌⊎◌, inl, inr, ℕ, zero, suc, ◌<◌, ◌≤◌, ◌^◌, Bool, true, false, ◌&&◌, ◌||◌, ◌==◌, nat_le, nat_lt, ℤ, pos, neg_ℤ, ◌≤ℤ◌, unsigned_abs, List, [], ◌∷◌, ◌++◌, length, length-append, bytes_eq, codes, All, Option, None, Some, option_map, is_some, unwrap_or, slice_get, IfSome, Result, Ok, Err, refl, sym, ap, ◌∙◌, arith, subst, true≢false}
use Rattle.std.specs.Prelude.{int_le, if◌then◌else◌}
use Rattle.std.specs.Option.{is_none}
use Rattle.std.proofs.lemmas.Bool.{cases_Bool}
use Rattle.std.proofs.lemmas.Bool.Decides.{nat_tests}
use Rattle.std.proofs.lemmas.Int.{ints}
use Rattle.std.proofs.lemmas.List.Elements.{All-push, All-from_recursion}
use Rattle.std.proofs.lemmas.Slice.Eq.{bytes_eq-Decides}
use Rattle.d_num.specs.Amount.{IsWithin, IsUpTo}
use Rattle.d_text.specs.declared.decimal.DecimalFault.{DecimalFault}
use Rattle.d_list.specs.Firsts.{first_of, each, when}
use Rattle.d_list.proofs.Firsts.{front_none, none_before, some_before}
use Rattle.d_table.specs.Table.{cell_in}
use Rattle.d_batt.specs.declared.fault.BatteryFault.{BatteryFault}
use Rattle.d_batt.specs.declared.fault.BatteryFault.TheVariants.{Missing, Twice, Number, Range, NoModes, TooMany}
use Rattle.d_batt.specs.declared.mode.Mode.{Mode}
use Rattle.d_batt.specs.declared.setting.Setting.{Setting}
use Rattle.d_batt.specs.declared.setting.Setting.TheVariants.{Capacity, Floor, Start, End, MaxImport, MaxExport}
use Rattle.d_batt.specs.declared.kind.Kind.{Kind}
use Rattle.d_batt.specs.declared.kind.Kind.TheVariants.{Sets, HasMode}
use Rattle.d_batt.specs.Storage.{IsMode, IsStorage, HasDifferentNames}
use Rattle.d_batt.specs.Kinds.{setting_limit, setting_of, kind_of, is_named, first_named, cells_at}
use Rattle.d_batt.specs.Numbers.{Reader, level_number, within, change_within, grid_within, level_within}
use Rattle.d_batt.specs.BatteryFile.{kind_in, kind_refusals, has_unread, row_refusals, rows_refusals, mode_at, mode_in, mode_by, modes, listed, count_of, first_row, value_at, value_of, capacity_of, floor_of, start_of, end_of, row_of, level_refusals, battery_refusals, battery_of, battery_outcome, refused_or, has_header}
use Rattle.d_batt.specs.Law.{AcceptsBatteries}

-- ---- tests that fail

passed : {R : Type 0} (test : Bool) (refused : R) (rest : List (Option R)) → first_of (when test refused ∷ rest) ≡ None
    → (test ≡ false) × (first_of rest ≡ None)
unfolding first_of
passed true refused rest none = absurd (let e : Some refused ≡ None = none in cc)
passed false refused rest none = (refl, none)

neither : (a b : Bool) → (a || b) ≡ false → (a ≡ false) × (b ≡ false)
neither true b e = absurd (true≢false e)
neither false b e = (refl, e)

at_most : (a b : ℕ) → nat_lt b a ≡ false → a ≤ b
at_most a b e = grind (arith, nat_tests)

-- a value that is there
some_value : {A : Type 0} (value : Option A) → is_none value ≡ false → (x : A) × (value ≡ Some x)
some_value None e = absurd (true≢false e)
some_value (Some x) e = (x, refl)

-- ---- numbers in their ranges

within_bounds : (least most : ℤ) (number : Result ℤ DecimalFault) → IfSome (within least most number) (λ z. (least ≤ℤ z) × (z ≤ℤ most))
within_bounds least most (Err fault) = tt
within_bounds least most (Ok z) = elim (cases_Bool (int_le least z && int_le z most)) [
  | inl e ↦ let bounds : (least ≤ℤ z) × (z ≤ℤ most) = grind (arith, ints, nat_tests) in rw e bounds
  | inr e ↦ rw e tt
]

level_bounds : (value : Option ℤ) → IfSome value (λ z. (pos 0 ≤ℤ z) × (z ≤ℤ pos 255)) → IfSome (option_map unsigned_abs value) (λ level. level ≤ 255)
level_bounds None is = tt
level_bounds (Some z) is = grind (arith, ints)

-- ---- a row's mode

mode_sound : (name : List ℕ) (change grid : Option ℤ) (low high : Option ℕ) (mode : Mode) → IfSome change (IsWithin 255) → IfSome grid (IsWithin (10 ^ 9))
    → IfSome high (λ level. level ≤ 255) → mode_at name change grid low high ≡ Some mode → IsMode mode × (mode.name ≡ name)
mode_sound name None grid low high mode c g h e = absurd (let x : None ≡ Some mode = e in cc)
mode_sound name (Some change) None low high mode c g h e = absurd (let x : None ≡ Some mode = e in cc)
mode_sound name (Some change) (Some grid) None high mode c g h e = absurd (let x : None ≡ Some mode = e in cc)
mode_sound name (Some change) (Some grid) (Some low) None mode c g h e = absurd (let x : None ≡ Some mode = e in cc)
mode_sound name (Some change) (Some grid) (Some low) (Some high) mode c g h e = elim (cases_Bool (nat_lt high low)) [
  | inl crossed ↦ absurd (let x : None ≡ Some mode = sym (rw crossed refl) ∙ e in cc)
  | inr ordered ↦
      let made : Mode = record { name = name; change = change; grid = grid; low = low; high = high } in
      let some : Some made ≡ Some mode = sym (rw ordered refl) ∙ e in
      let same : made ≡ mode = cc in
      subst (λ (m : Mode). IsMode m × (m.name ≡ name)) same (record { change = c; grid = g; ordered = at_most low high ordered; top = h }, refl)
]

mode_in_sound : (reader : Reader) (cells : List (List ℕ)) (mode : Mode) → mode_in reader cells ≡ Some mode → IsMode mode × (mode.name ≡ cell_in cells 1)
mode_in_sound reader cells mode e =
    mode_sound (cell_in cells 1) (change_within (reader (cell_in cells 2))) (grid_within (reader (cell_in cells 3)))
    (level_within (level_number reader 0 (cell_in cells 4))) (level_within (level_number reader 255 (cell_in cells 5))) mode
    (within_bounds (neg_ℤ (pos 255)) (pos 255) (reader (cell_in cells 2))) (within_bounds (neg_ℤ (pos (10 ^ 9))) (pos (10 ^ 9)) (reader (cell_in cells 3)))
    (level_bounds (within (pos 0) (pos 255) (level_number reader 255 (cell_in cells 5))) (within_bounds (pos 0) (pos 255) (level_number reader 255 (cell_in cells 5)))) e

-- ---- names

-- what has a mode is of that kind
no_mode : (setting : Option Setting) → option_map Sets setting ≡ Some HasMode → ⊥
no_mode None e = let x : None ≡ Some HasMode = e in cc
no_mode (Some setting) e = let x : Some (Sets setting) ≡ Some HasMode = e in cc

mode_kind : (kind name : List ℕ) → kind_of kind name ≡ Some HasMode → kind ≡ codes "mode"
mode_kind kind name e = elim (cases_Bool (bytes_eq kind (codes "set"))) [
  | inl set ↦ absurd (no_mode (setting_of name) (sym (rw set refl) ∙ e))
  | inr other ↦ elim (cases_Bool (bytes_eq kind (codes "mode"))) [
    | inl mode ↦ (bytes_eq-Decides kind (codes "mode")).0 mode
    | inr none ↦ absurd (let x : None ≡ Some HasMode = sym (rw (other, none) refl) ∙ e in cc)
  ]
]

-- a name that was there is there among more rows
still_named : (rows : List (List (List ℕ))) (n : ℕ) (kind name : List ℕ) → is_some (first_named rows n kind name) ≡ true
    → is_some (first_named rows (suc n) kind name) ≡ true
unfolding each
still_named rows n kind name there = by_first (first_named rows n kind name) refl there
  where
    by_first : (first : Option ℕ) → first_named rows n kind name ≡ first → is_some first ≡ true → is_some (first_named rows (suc n) kind name) ≡ true
    by_first None e none = absurd (true≢false (sym none))
    by_first (Some row) e some = ap is_some (some_before (each n (λ row. when (is_named kind name (cells_at rows row)) row ∷ [])) (when (is_named kind name (cells_at rows n)) n ∷ []) row e)

-- so is that of the last row
last_named : (rows : List (List (List ℕ))) (n : ℕ) (kind name : List ℕ) → is_named kind name (cells_at rows n) ≡ true
    → is_some (first_named rows (suc n) kind name) ≡ true
unfolding each first_of
last_named rows n kind name here = by_first (first_named rows n kind name) refl
  where
    by_first : (first : Option ℕ) → first_named rows n kind name ≡ first → is_some (first_named rows (suc n) kind name) ≡ true
    by_first None e =
        ap is_some (none_before (each n (λ row. when (is_named kind name (cells_at rows row)) row ∷ [])) (when (is_named kind name (cells_at rows n)) n ∷ []) e) ∙ rw here refl
    by_first (Some row) e = still_named rows n kind name (ap is_some e)

own_name : (cells : List (List ℕ)) (kind name : List ℕ) → cell_in cells 0 ≡ kind → name ≡ cell_in cells 1 → is_named kind name cells ≡ true
own_name cells kind name kind_is name_is =
    rw ((bytes_eq-Decides (cell_in cells 0) kind).1 kind_is, (bytes_eq-Decides (cell_in cells 1) name).1 (sym name_is)) refl

-- ---- the modes of so many rows

record Sound (rows : List (List (List ℕ))) (n : ℕ) (list : List Mode) : Type 0 where
  all : All IsMode list
  few : length list ≤ 64
  names : HasDifferentNames list
  before : (k : ℕ) (mode : Mode) → slice_get list k ≡ Some mode → is_some (first_named rows n (codes "mode") mode.name) ≡ true

-- an item of a list with one more at its end
get_push : {A : Type 0} (xs : List A) (x : A) (k : ℕ) (y : A) → slice_get (xs ++ x ∷ []) k ≡ Some y → (slice_get xs k ≡ Some y) ⊎ ((k ≡ length xs) × (x ≡ y))
get_push [] x zero y e = inr (refl, cc)
get_push [] x (suc k) y e = inl e
get_push (z ∷ xs) x zero y e = inl e
get_push (z ∷ xs) x (suc k) y e =
    elim (get_push xs x k y e) [ inl front ↦ inl front | inr last ↦ inr (ap suc last.0, last.1) ]

more_names : (list : List Mode) (mode : Mode) → HasDifferentNames list
    → ((k : ℕ) (other : Mode) → slice_get list k ≡ Some other → other.name ≡ mode.name → ⊥) → HasDifferentNames (list ++ mode ∷ [])
more_names list mode names fresh j k one other at_j at_k same = elim (get_push list mode j one at_j) [
  | inl front_j ↦ elim (get_push list mode k other at_k) [
    | inl front_k ↦ names j k one other front_j front_k same
    | inr last_k ↦ absurd (fresh j one front_j (same ∙ ap (λ (m : Mode). m.name) (sym last_k.1)))
  ]
  | inr last_j ↦ elim (get_push list mode k other at_k) [
    | inl front_k ↦ absurd (fresh k other front_k (sym same ∙ ap (λ (m : Mode). m.name) (sym last_j.1)))
    | inr last_k ↦ last_j.0 ∙ sym last_k.0
  ]
]

sound_more : (rows : List (List (List ℕ))) (n : ℕ) (list : List Mode) (mode : Mode) → Sound rows n list → IsMode mode → nat_le 64 (length list) ≡ false
    → is_some (first_named rows n (codes "mode") mode.name) ≡ false → is_named (codes "mode") mode.name (cells_at rows n) ≡ true
    → Sound rows (suc n) (list ++ mode ∷ [])
sound_more rows n list mode sound is few fresh here = record {
  all = All-push IsMode list mode sound.all is;
  few = let small : length list < 64 = grind (arith, nat_tests) in omega (arith, small, length-append list (mode ∷ []));
  names = more_names list mode sound.names (λ k other at same. true≢false (sym (sound.before k other at) ∙ ap (λ name. is_some (first_named rows n (codes "mode") name)) same ∙ fresh));
  before = λ k other at. elim (get_push list mode k other at) [
    | inl front ↦ still_named rows n (codes "mode") other.name (sound.before k other front)
    | inr last ↦ subst (λ (m : Mode). is_some (first_named rows (suc n) (codes "mode") m.name) ≡ true) last.1 (last_named rows n (codes "mode") mode.name here)
  ];
}

append_none : (list : List Mode) → list ≡ list ++ []
append_none [] = refl
append_none (mode ∷ rest) = ap (λ (list : List Mode). mode ∷ list) (append_none rest)

sound_kept : (rows : List (List (List ℕ))) (n : ℕ) (list : List Mode) → Sound rows n list → Sound rows (suc n) (list ++ [])
sound_kept rows n list sound = subst (Sound rows (suc n)) (append_none list) (record {
  all = sound.all;
  few = sound.few;
  names = sound.names;
  before = λ k mode at. still_named rows n (codes "mode") mode.name (sound.before k mode at);
})

sound_mode : (reader : Reader) (rows : List (List (List ℕ))) (n : ℕ) → Sound rows n (modes reader rows n) → kind_in (cells_at rows n) ≡ Some HasMode
    → first_of (kind_refusals reader rows n (Some HasMode)) ≡ None → Sound rows (suc n) (modes reader rows n ++ listed (mode_in reader (cells_at rows n)))
sound_mode reader rows n sound is none =
    let cells = cells_at rows n in
    let twice = passed (is_some (first_named rows n (cell_in cells 0) (cell_in cells 1))) (Twice n) _ none in
    let number = passed (has_unread reader cells) (Number n) _ twice.1 in
    let range = passed (is_none (mode_in reader cells)) (Range n) _ number.1 in
    let many = passed (nat_le 64 (length (modes reader rows n))) (TooMany n) [] range.1 in
    let mode = some_value (mode_in reader cells) range.0 in
    let facts = mode_in_sound reader cells mode.0 mode.1 in
    let kind = mode_kind (cell_in cells 0) (cell_in cells 1) is in
    let fresh : is_some (first_named rows n (codes "mode") mode.0.name) ≡ false =
    ap (λ name. is_some (first_named rows n (codes "mode") name)) facts.1 ∙ ap (λ k. is_some (first_named rows n k (cell_in cells 1))) (sym kind) ∙ twice.0 in
    subst (λ (m : Option Mode). Sound rows (suc n) (modes reader rows n ++ listed m)) (sym mode.1)
    (sound_more rows n (modes reader rows n) mode.0 sound facts.0 many.0 fresh (own_name cells (codes "mode") mode.0.name kind facts.1))

sound_row : (reader : Reader) (rows : List (List (List ℕ))) (n : ℕ) (kind : Option Kind) → Sound rows n (modes reader rows n) → kind_in (cells_at rows n) ≡ kind
    → first_of (kind_refusals reader rows n kind) ≡ None → Sound rows (suc n) (modes reader rows n ++ mode_by reader (cells_at rows n) kind)
unfolding first_of
sound_row reader rows n None sound is none = absurd (let e : Some (BatteryFault.Unknown n) ≡ None = none in cc)
sound_row reader rows n (Some (Sets setting)) sound is none = sound_kept rows n (modes reader rows n) sound
sound_row reader rows n (Some HasMode) sound is none = sound_mode reader rows n sound is none

sound_rows : (reader : Reader) (rows : List (List (List ℕ))) (n : ℕ) → first_of (each n (row_refusals reader rows)) ≡ None → Sound rows n (modes reader rows n)
unfolding each modes row_refusals
sound_rows reader rows zero none = record { all = All-from_recursion IsMode [] tt; few = omega arith; names = λ j k one other at_j at_k same. absurd (let e : None ≡ Some one = at_j in cc); before = λ k mode at. absurd (let e : None ≡ Some mode = at in cc) }
sound_rows reader rows (suc n) none =
    let parts = front_none (each n (row_refusals reader rows)) (row_refusals reader rows n) none in
    sound_row reader rows n (kind_in (cells_at rows n)) (sound_rows reader rows n parts.0) refl parts.1

-- ---- levels and limits

value_bounds : (reader : Reader) (rows : List (List (List ℕ))) (setting : Setting) → IfSome (value_of reader rows setting) (IsUpTo (setting_limit setting))
unfolding value_of
value_bounds reader rows setting = by_row (first_row rows setting)
  where
    by_row : (row : Option ℕ) → IfSome (value_at reader rows setting row) (IsUpTo (setting_limit setting))
    by_row None = tt
    by_row (Some row) = within_bounds (pos 0) (pos (setting_limit setting)) (reader (cell_in (cells_at rows row) 2))

level_up_to : (value : Option ℤ) → IfSome value (IsUpTo 255) → unsigned_abs (unwrap_or value (pos 0)) ≤ 255
level_up_to None is = omega arith
level_up_to (Some z) is = grind (arith, ints)

limit_up_to : (value : Option ℤ) → IfSome value (IsUpTo (10 ^ 10)) → IsUpTo (10 ^ 10) (unwrap_or value (pos (10 ^ 10)))
limit_up_to None is = omega (arith, ints)
limit_up_to (Some z) is = is

some_mode : (list : List Mode) → (length list == 0) ≡ false → 1 ≤ length list
some_mode list e = grind (arith, nat_tests)

-- ---- the battery

pub battery_sound : (reader : Reader) (rows : List (List (List ℕ))) → first_of (battery_refusals reader rows) ≡ None → IsStorage (battery_of reader rows)
unfolding battery_refusals battery_of rows_refusals level_refusals
battery_sound reader rows none =
    let parts = front_none (each (count_of rows) (row_refusals reader rows)) _ none in
    let rest = front_none (level_refusals reader rows) (when (length (modes reader rows (count_of rows)) == 0) NoModes ∷ []) parts.1 in
    let sound = sound_rows reader rows (count_of rows) parts.0 in
    let missing = passed (is_none (value_of reader rows Capacity)) Missing _ rest.0 in
    let floor = passed (nat_lt (capacity_of reader rows) (floor_of reader rows)) (Range (row_of rows Floor)) _ missing.1 in
    let start = passed (nat_lt (start_of reader rows) (floor_of reader rows) || nat_lt (capacity_of reader rows) (start_of reader rows)) (Range (row_of rows Start)) _ floor.1 in
    let end = passed (nat_lt (capacity_of reader rows) (end_of reader rows)) (Range (row_of rows End)) [] start.1 in
    let modes_there = passed (length (modes reader rows (count_of rows)) == 0) NoModes [] rest.1 in
    let sides = neither (nat_lt (start_of reader rows) (floor_of reader rows)) (nat_lt (capacity_of reader rows) (start_of reader rows)) start.0 in
    record {
      floor = at_most (floor_of reader rows) (start_of reader rows) sides.0;
      start = at_most (start_of reader rows) (capacity_of reader rows) sides.1;
      end = at_most (end_of reader rows) (capacity_of reader rows) end.0;
      top = level_up_to (value_of reader rows Capacity) (value_bounds reader rows Capacity);
      max_import = limit_up_to (value_of reader rows MaxImport) (value_bounds reader rows MaxImport);
      max_export = limit_up_to (value_of reader rows MaxExport) (value_bounds reader rows MaxExport);
      some_mode = some_mode (modes reader rows (count_of rows)) modes_there.0;
      few_modes = sound.few;
      modes = sound.all;
      names = sound.names;
    }

-- of each file that is accepted
pub accepts : AcceptsBatteries
unfolding battery_outcome
accepts rows storage is = by_header (has_header rows) (first_of (battery_refusals is.0 rows)) refl is.2
  where
    by_header : (header : Bool) (first : Option BatteryFault) → first_of (battery_refusals is.0 rows) ≡ first
        → Ok storage ≡ (if header then refused_or first (battery_of is.0 rows) else Err BatteryFault.Shape) → IsStorage storage
    by_header false first e same = absurd (let x : Ok storage ≡ Err BatteryFault.Shape = same in cc)
    by_header true (Some fault) e same = absurd (let x : Ok storage ≡ Err fault = same in cc)
    by_header true None e same =
        let x : Ok storage ≡ Ok (battery_of is.0 rows) = same in
        let y : storage ≡ battery_of is.0 rows = cc in
        subst IsStorage (sym y) (battery_sound is.0 rows e)
