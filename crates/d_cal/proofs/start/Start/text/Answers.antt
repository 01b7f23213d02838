use Rattle.std.proofs.Common.{w16, to_z, of_z, unsigned_abs, arith, ◌≡◌, ◌+◌, ◌/◌, ◌%◌, ◌++◌, ◌∷◌, [], List, ℕ, append-nil, ◌∙◌, ap, sym}
use Rattle.std.proofs.lemmas.Int.{ints}
use Rattle.d_cal.specs.Starts.{time_text, date_text}
use Rattle.d_cal.proofs.StartPairs.{has_bytes}
use Rattle.d_cal.proofs.start.Start.text.Goals as goal

pub returns : goal.returns
returns c =
    let start = c.args.self in
    let date = date_text start.year start.month start.day in
    let time = time_text start.minute in
    let bytes = ap (λ (t : List ℕ). date ++ 84 ∷ t) (sym (append-nil time)) ∙ has_bytes start 84 [] c.requires in
    let low = c.requires.month.after_year_0 in
    let high = c.requires.month.before_year_10000 in
    let kept : to_z w16 (of_z w16 start.year) ≡ start.year = omega (arith, ints, low, high) in
    let size = ap unsigned_abs kept in
    let front = c.two_digits.ensures ∙ ap (λ (y : ℕ). (48 + y / 100 / 10) ∷ (48 + y / 100 % 10) ∷ []) (c.unsigned_abs.ensures.value ∙ size) in
    let back = c.two_digits-2.ensures ∙ ap (λ (y : ℕ). (48 + y % 100 / 10) ∷ (48 + y % 100 % 10) ∷ []) (c.unsigned_abs-2.ensures.value ∙ size) in
    rw (front, back, c.two_digits-3.ensures, c.two_digits-4.ensures, c.two_digits-5.ensures, c.two_digits-6.ensures) (sym bytes)
