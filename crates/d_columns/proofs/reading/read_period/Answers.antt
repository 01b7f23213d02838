use Rattle.std.proofs.Common.{◌≡◌, ◌↔◌, ◌≤◌, ◌++◌, ℕ, List, None, Some, codes, decimal, refl}
use Rattle.std.specs.Str.{str_to_ascii_lowercase}
use Rattle.d_columns.specs.declared.names.Part.{Part}
use Rattle.d_columns.specs.Names.{part_text}
use Rattle.d_columns.specs.Reading.{IsNumberThen, IsTierEnd}
use Rattle.d_columns.proofs.TextFacts.{never, not_found, pair_not_found, is_pair}
use Rattle.d_columns.proofs.NameFacts.{period_behind, period_tier, period_found}
use Rattle.d_columns.proofs.reading.read_period.Goals as goal

pub returns-in_err-behind : goal.returns-in_err-behind
returns-in_err-behind c period digits part =
    let text = str_to_ascii_lowercase c.args.text.now in
    let front : (r : List ℕ) → (None ≡ Some r) ↔ (text ≡ codes "/period" ++ r) = rw c.in_err-behind.was at c.behind.ensures in
    rw c.from_residual.ensures
    (never (period, digits, part) (λ form. not_found front (decimal period ++ (codes "/tier" ++ (digits ++ part_text part))) form.form))

pub returns-in_err-number : goal.returns-in_err-number
returns-in_err-number c period digits part =
    let text = str_to_ascii_lowercase c.args.text.now in
    let behind = str_to_ascii_lowercase c.in_ok-behind.field-0.now in
    let front : (r : List ℕ) → (Some behind ≡ Some r) ↔ (text ≡ codes "/period" ++ r) = rw c.in_ok-behind.was at c.behind.ensures in
    let middle : (d r : List ℕ) → (None ≡ is_pair d r) ↔ IsNumberThen behind d r = rw c.in_err-number.was at c.read_number.ensures in
    rw c.from_residual-in_err-number.ensures
    (never (period, digits, part) (λ form. pair_not_found middle (decimal period) (codes "/tier" ++ (digits ++ part_text part)) (period_behind text behind front period digits part form)))

pub period_of-requires : goal.period_of-requires
period_of-requires c =
    let text = str_to_ascii_lowercase c.args.text.now in
    let behind = str_to_ascii_lowercase c.in_ok-behind.field-0.now in
    let front : (r : List ℕ) → (Some behind ≡ Some r) ↔ (text ≡ codes "/period" ++ r) = rw c.in_ok-behind.was at c.behind.ensures in
    let number = c.in_ok-number.number.digits.now in
    let rest = str_to_ascii_lowercase c.in_ok-number.number.rest.now in
    let middle : (d r : List ℕ) → (is_pair number rest ≡ is_pair d r) ↔ IsNumberThen behind d r = rw c.in_ok-number.was at c.read_number.ensures in
    ((middle number rest).0 refl).number

pub returns-in_err-period : goal.returns-in_err-period
returns-in_err-period c period digits part =
    let text = str_to_ascii_lowercase c.args.text.now in
    let behind = str_to_ascii_lowercase c.in_ok-behind.field-0.now in
    let front : (r : List ℕ) → (Some behind ≡ Some r) ↔ (text ≡ codes "/period" ++ r) = rw c.in_ok-behind.was at c.behind.ensures in
    let number = c.in_ok-number.number.digits.now in
    let rest = str_to_ascii_lowercase c.in_ok-number.number.rest.now in
    let middle : (d r : List ℕ) → (is_pair number rest ≡ is_pair d r) ↔ IsNumberThen behind d r = rw c.in_ok-number.was at c.read_number.ensures in
    let value : (p : ℕ) → (None ≡ Some p) ↔ ((p ≤ 35) × (number ≡ decimal p)) = rw c.in_err-period.was at c.period_of.ensures in
    rw c.from_residual-in_err-period.ensures
    (never (period, digits, part) (λ form. not_found value period (period_tier text behind number rest front middle period digits part form).0))

pub returns-in_err-end : goal.returns-in_err-end
returns-in_err-end c period digits part =
    let text = str_to_ascii_lowercase c.args.text.now in
    let behind = str_to_ascii_lowercase c.in_ok-behind.field-0.now in
    let front : (r : List ℕ) → (Some behind ≡ Some r) ↔ (text ≡ codes "/period" ++ r) = rw c.in_ok-behind.was at c.behind.ensures in
    let number = c.in_ok-number.number.digits.now in
    let rest = str_to_ascii_lowercase c.in_ok-number.number.rest.now in
    let middle : (d r : List ℕ) → (is_pair number rest ≡ is_pair d r) ↔ IsNumberThen behind d r = rw c.in_ok-number.was at c.read_number.ensures in
    let end : (d : List ℕ) (q : Part) → (None ≡ is_pair d q) ↔ IsTierEnd rest d q = rw c.in_err-end.was at c.read_tier.ensures in
    rw c.from_residual-in_err-end.ensures
    (never (period, digits, part) (λ form. pair_not_found end digits part (period_tier text behind number rest front middle period digits part form).1))

pub returns : goal.returns
returns c period digits part =
    let text = str_to_ascii_lowercase c.args.text.now in
    let behind = str_to_ascii_lowercase c.in_ok-behind.field-0.now in
    let front : (r : List ℕ) → (Some behind ≡ Some r) ↔ (text ≡ codes "/period" ++ r) = rw c.in_ok-behind.was at c.behind.ensures in
    let number = c.in_ok-number.number.digits.now in
    let rest = str_to_ascii_lowercase c.in_ok-number.number.rest.now in
    let middle : (d r : List ℕ) → (is_pair number rest ≡ is_pair d r) ↔ IsNumberThen behind d r = rw c.in_ok-number.was at c.read_number.ensures in
    let value : (p : ℕ) → (Some c.in_ok-period.period ≡ Some p) ↔ ((p ≤ 35) × (number ≡ decimal p)) = rw c.in_ok-period.was at c.period_of.ensures in
    let end : (d : List ℕ) (q : Part) → (is_pair c.in_ok-end.end.tier.now c.in_ok-end.end.part ≡ is_pair d q) ↔ IsTierEnd rest d q = rw c.in_ok-end.was at c.read_tier.ensures in
    period_found text behind number rest c.in_ok-end.end.tier.now c.in_ok-period.period c.in_ok-end.end.part front middle value end period digits part
