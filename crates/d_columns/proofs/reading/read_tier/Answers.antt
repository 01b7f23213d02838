use Rattle.std.proofs.Common.{◌≡◌, ◌↔◌, ◌++◌, ℕ, List, None, Some, codes}
use Rattle.std.specs.Str.{str_to_ascii_lowercase}
use Rattle.d_columns.specs.declared.names.Part.{Part}
use Rattle.d_columns.specs.Names.{part_text}
use Rattle.d_columns.specs.Reading.{IsNumberThen}
use Rattle.d_columns.proofs.TextFacts.{never, not_found, pair_not_found, is_pair}
use Rattle.d_columns.proofs.NameFacts.{tier_behind, tier_found, tier_no_part}
use Rattle.d_columns.proofs.reading.read_tier.Goals as goal

pub returns-in_err-behind : goal.returns-in_err-behind
returns-in_err-behind c digits part =
    let front : (r : List ℕ) → (None ≡ Some r) ↔ (str_to_ascii_lowercase c.args.text.now ≡ codes "/tier" ++ r) = rw c.in_err-behind.was at c.behind.ensures in
    rw c.from_residual.ensures (never (digits, part) (λ end. not_found front (digits ++ part_text part) end.form))

pub returns-in_err-number : goal.returns-in_err-number
returns-in_err-number c digits part =
    let behind = str_to_ascii_lowercase c.in_ok-behind.field-0.now in
    let front : (r : List ℕ) → (Some behind ≡ Some r) ↔ (str_to_ascii_lowercase c.args.text.now ≡ codes "/tier" ++ r) = rw c.in_ok-behind.was at c.behind.ensures in
    let middle : (d r : List ℕ) → (None ≡ is_pair d r) ↔ IsNumberThen behind d r = rw c.in_err-number.was at c.read_number.ensures in
    rw c.from_residual-in_err-number.ensures
    (never (digits, part) (λ end. pair_not_found middle digits (part_text part) (tier_behind (str_to_ascii_lowercase c.args.text.now) behind front digits part end)))

pub returns-in_err-part : goal.returns-in_err-part
returns-in_err-part c digits part =
    let behind = str_to_ascii_lowercase c.in_ok-behind.field-0.now in
    let number = c.in_ok-number.number.digits.now in
    let rest = str_to_ascii_lowercase c.in_ok-number.number.rest.now in
    let front : (r : List ℕ) → (Some behind ≡ Some r) ↔ (str_to_ascii_lowercase c.args.text.now ≡ codes "/tier" ++ r) = rw c.in_ok-behind.was at c.behind.ensures in
    let middle : (d r : List ℕ) → (is_pair number rest ≡ is_pair d r) ↔ IsNumberThen behind d r = rw c.in_ok-number.was at c.read_number.ensures in
    let last : (q : Part) → (None ≡ Some q) ↔ (rest ≡ part_text q) = rw c.in_err-part.was at c.read_part.ensures in
    rw c.from_residual-in_err-part.ensures
    (never (digits, part) (tier_no_part (str_to_ascii_lowercase c.args.text.now) behind number rest front middle last digits part))

pub returns : goal.returns
returns c digits part =
    let behind = str_to_ascii_lowercase c.in_ok-behind.field-0.now in
    let number = c.in_ok-number.number.digits.now in
    let rest = str_to_ascii_lowercase c.in_ok-number.number.rest.now in
    let front : (r : List ℕ) → (Some behind ≡ Some r) ↔ (str_to_ascii_lowercase c.args.text.now ≡ codes "/tier" ++ r) = rw c.in_ok-behind.was at c.behind.ensures in
    let middle : (d r : List ℕ) → (is_pair number rest ≡ is_pair d r) ↔ IsNumberThen behind d r = rw c.in_ok-number.was at c.read_number.ensures in
    let last : (q : Part) → (Some c.in_ok-part.part ≡ Some q) ↔ (rest ≡ part_text q) = rw c.in_ok-part.was at c.read_part.ensures in
    tier_found (str_to_ascii_lowercase c.args.text.now) behind number rest c.in_ok-part.part front middle last digits part
