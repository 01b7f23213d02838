-- Days that are saved one after the other.
use Rattle.std.proofs.Common.{◌≡◌, ℕ, zero, suc, ◌+◌, ◌/◌, pos, min, List, [], ◌∷◌, ◌++◌, length, map, take, drop, append-nil, arith, sym, refl, ap, subst, ◌∙◌}
use Rattle.std.proofs.Math.Seq.{take-nil, drop-nil}
use Rattle.std.proofs.lemmas.List.{append_assoc}
use Rattle.d_desk.specs.Scene.{Scene}
use Rattle.d_desk.specs.Stages.{SavesOnly, SavesFront}
use Rattle.d_desk.proofs.StageLaws.{saves_none}
use Rattle.d_certline.specs.Lines.{Line, text_of}
use Rattle.d_certline.specs.Lines as line
use Rattle.d_certline.specs.Certificates.{day_lines}
use Rattle.d_bill.specs.Inputs.{Inputs}
use Rattle.d_certline.specs.Ranges.{per_day}
use Rattle.d_cert.specs.Written.{days_of, month_days}
use Rattle.d_cert.proofs.ChainFacts.{lines_then, lines_stop}

-- the month's days by the numbers that are at hand
pub month_is : (i : Inputs) (minutes count : ℕ) (modes : List ℕ) → minutes ≡ i.minutes → count ≡ length i.net
    → day_lines 1 (days_of (1440 / minutes) (count / (1440 / minutes)) modes) ≡ day_lines 1 (month_days i modes)
unfolding month_days per_day
month_is i minutes count modes same all =
    ap (λ (m : ℕ). day_lines 1 (days_of (1440 / m) (count / (1440 / m)) modes)) same
    ∙ ap (λ (n : ℕ). day_lines 1 (days_of (1440 / i.minutes) (n / (1440 / i.minutes)) modes)) all

pub only_month : (i : Inputs) (minutes count : ℕ) (modes : List ℕ) (x y : Scene) → minutes ≡ i.minutes → count ≡ length i.net
    → SavesOnly (text_of (day_lines 1 (days_of (1440 / minutes) (count / (1440 / minutes)) modes))) x y → SavesOnly (text_of (day_lines 1 (month_days i modes))) x y
only_month i minutes count modes x y same all saved = subst (λ (l : List Line). SavesOnly (text_of l) x y) (month_is i minutes count modes same all) saved

pub front_month : (i : Inputs) (minutes count : ℕ) (modes : List ℕ) (x y : Scene) → minutes ≡ i.minutes → count ≡ length i.net
    → SavesFront (text_of (day_lines 1 (days_of (1440 / minutes) (count / (1440 / minutes)) modes))) x y → SavesFront (text_of (day_lines 1 (month_days i modes))) x y
front_month i minutes count modes x y same all saved = subst (λ (l : List Line). SavesFront (text_of l) x y) (month_is i minutes count modes same all) saved

-- some days were saved, and these are left
pub record AreLeft (per left d : ℕ) (rest : List ℕ) (whole : List Line) (start now : Scene) : Type 0 where
  pub done : List Line
  pub all : done ++ day_lines (d + 1) (days_of per left rest) ≡ whole
  pub saved : SavesOnly (text_of done) start now

min_none : (n : ℕ) → min (suc n) 0 ≡ 0
min_none n = omega arith

min_more : (n k : ℕ) → min (suc n) (suc k) ≡ suc (min n k)
min_more n k = omega arith

-- of a list no more is taken than it has
pub take_min : (k : ℕ) (xs : List ℕ) → take (min (length xs) k) xs ≡ take k xs
take_min zero [] = refl
take_min (suc k) [] = take-nil (min 0 (suc k))
take_min zero (x ∷ xs) = ap (λ (k : ℕ). take k (x ∷ xs)) (min_none (length xs))
take_min (suc k) (x ∷ xs) = ap (λ (j : ℕ). take j (x ∷ xs)) (min_more (length xs) k) ∙ ap (λ l. x ∷ l) (take_min k xs)

pub drop_min : (k : ℕ) (xs : List ℕ) → drop (min (length xs) k) xs ≡ drop k xs
drop_min zero [] = refl
drop_min (suc k) [] = drop-nil (min 0 (suc k))
drop_min zero (x ∷ xs) = ap (λ (k : ℕ). drop k (x ∷ xs)) (min_none (length xs))
drop_min (suc k) (x ∷ xs) = ap (λ (j : ℕ). drop j (x ∷ xs)) (min_more (length xs) k) ∙ drop_min k xs

pub days_begin : (per count left : ℕ) (rest : List ℕ) (x : Scene) → left ≡ count → AreLeft per left 0 rest (day_lines 1 (days_of per count rest)) x x
unfolding text_of
days_begin per count left rest x same = record { done = []; all = ap (λ (k : ℕ). day_lines 1 (days_of per k rest)) same; saved = saves_none x }

-- the next day
next_day : ℕ → ℕ → List ℕ → List Line
next_day per d rest = line.day (d + 1) (map (λ m. pos m) (take per rest)) ∷ []

day_ahead : (per n d : ℕ) (rest : List ℕ) → day_lines (d + 1) (days_of per (suc n) rest) ≡ next_day per d rest ++ day_lines (d + 1 + 1) (days_of per n (drop per rest))
unfolding day_lines days_of next_day
day_ahead per n d rest = ap (λ k. line.day (d + 1) (map (λ m. pos m) (take per rest)) ∷ day_lines k (days_of per n (drop per rest))) (omega arith)

pub days_step : (per left n d : ℕ) (rest now behind : List ℕ) (whole : List Line) (x y z : Scene) → left ≡ suc n → now ≡ take per rest → behind ≡ drop per rest
    → AreLeft per left d rest whole x y → SavesOnly (text_of (line.day (d + 1) (map (λ m. pos m) now) ∷ [])) y z → AreLeft per n (d + 1) behind whole x z
unfolding next_day
days_step per left n d rest now behind whole x y z more front back old saved = record {
  done = old.done ++ next_day per d rest;
  all = ap (λ (l : List ℕ). (old.done ++ next_day per d rest) ++ day_lines (d + 1 + 1) (days_of per n l)) back
      ∙ (append_assoc old.done (next_day per d rest) (day_lines (d + 1 + 1) (days_of per n (drop per rest)))
      ∙ (ap (λ (l : List Line). old.done ++ l) (sym (day_ahead per n d rest) ∙ ap (λ (k : ℕ). day_lines (d + 1) (days_of per k rest)) (sym more)) ∙ old.all));
  saved = lines_then old.done (next_day per d rest) x y z old.saved
      (subst (λ (l : List ℕ). SavesOnly (text_of (line.day (d + 1) (map (λ m. pos m) l) ∷ [])) y z) front saved);
}

pub days_stop : (per left n d : ℕ) (rest now : List ℕ) (whole : List Line) (x y z : Scene) → left ≡ suc n → now ≡ take per rest
    → AreLeft per left d rest whole x y → SavesFront (text_of (line.day (d + 1) (map (λ m. pos m) now) ∷ [])) y z → SavesFront (text_of whole) x z
unfolding next_day
days_stop per left n d rest now whole x y z more front old saved =
    subst (λ (l : List Line). SavesFront (text_of l) x z)
    (ap (λ (l : List Line). old.done ++ l) (sym (day_ahead per n d rest) ∙ ap (λ (k : ℕ). day_lines (d + 1) (days_of per k rest)) (sym more)) ∙ old.all)
    (lines_stop old.done (next_day per d rest) (day_lines (d + 1 + 1) (days_of per n (drop per rest))) x y z old.saved
    (subst (λ (l : List ℕ). SavesFront (text_of (line.day (d + 1) (map (λ m. pos m) l) ∷ [])) y z) front saved))

pub days_end : (per left d : ℕ) (rest : List ℕ) (whole : List Line) (x y : Scene) → left ≡ 0 → AreLeft per left d rest whole x y → SavesOnly (text_of whole) x y
unfolding days_of day_lines
days_end per left d rest whole x y none old =
    subst (λ (l : List Line). SavesOnly (text_of l) x y)
    (sym (append-nil old.done) ∙ (ap (λ (k : ℕ). old.done ++ day_lines (d + 1) (days_of per k rest)) (sym none) ∙ old.all)) old.saved
