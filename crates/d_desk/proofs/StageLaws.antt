-- How the stages of a program follow one another on a desk's scene.
use Rattle.std.proofs.Common.{◌≡◌, ℕ, ◌+◌, ◌-◌, List, [], ◌++◌, take, drop, length, refl, sym, ◌∙◌, ap, append_assoc, subst, length-drop}
use Rattle.std.proofs.lemmas.List.{append-nil}
use Rattle.std.proofs.Math.Seq.{take-add, take-length}
use Rattle.std.specs.Prelude.{Ok, Err}
use Rattle.d_desk.specs.declared.fault.DeskFault.{DeskFault}
use Rattle.d_desk.specs.Front.{IsFront}
use Rattle.d_desk.specs.Scene.{Scene, Opening}
use Rattle.d_desk.specs.Calls.{Prints, Saves}
use Rattle.d_desk.specs.Stages.{Opens, OpensSome, PrintsOnly, PrintsFront, SavesOnly, SavesFront}
use Rattle.d_desk.proofs.Fronts.{front_take, gains_none, gains_part, gains_all, gains_more, gains_after}

-- two gains one after the other
then_gained : {X : Type 0} (x y z a b : List X) → y ≡ x ++ a → z ≡ y ++ b → z ≡ x ++ (a ++ b)
then_gained x y z a b p q = q ∙ ap (λ w. w ++ b) p ∙ append_assoc x a b

-- nothing was opened
pub opens_none : (x : Scene) → Opens [] x x
opens_none x = record { opened = sym (append-nil x.opened); files = refl; saved = refl; printed = refl }

-- openings, and then more of them
pub opens_then : {a b : List Opening} {x y z : Scene} → Opens a x y → Opens b y z → Opens (a ++ b) x z
opens_then {a} {b} {x} {y} {z} p q = record {
  opened = then_gained x.opened y.opened z.opened a b p.opened q.opened;
  files = q.files ∙ p.files;
  saved = q.saved ∙ p.saved;
  printed = q.printed ∙ p.printed;
}

-- what opened nothing opened a front of any list
pub opens_some_none : (os : List Opening) (x : Scene) → OpensSome os x x
opens_some_none os x = record { opened = gains_none os refl; files = refl; saved = refl; printed = refl }

-- what opened all of them opened a front
pub opens_some_all : {os : List Opening} {x y : Scene} → Opens os x y → OpensSome os x y
opens_some_all p = record { opened = gains_all p.opened; files = p.files; saved = p.saved; printed = p.printed }

-- a front of these openings is one of these and more
pub opens_some_more : {a : List Opening} {x y : Scene} (more : List Opening) → OpensSome a x y → OpensSome (a ++ more) x y
opens_some_more more p = record {
  opened = gains_more more p.opened;
  files = p.files;
  saved = p.saved;
  printed = p.printed;
}

-- openings, and then a front of more of them
pub opens_some_after : {a b : List Opening} {x y z : Scene} → Opens a x y → OpensSome b y z → OpensSome (a ++ b) x z
opens_some_after {a} p q = record {
  opened = gains_after a p.opened q.opened;
  files = q.files ∙ p.files;
  saved = q.saved ∙ p.saved;
  printed = q.printed ∙ p.printed;
}

-- no text was printed
pub prints_none : (x : Scene) → PrintsOnly [] x x
prints_none x = record { printed = sym (append-nil x.printed); files = refl; left = refl; saved = refl; opened = refl }

-- one text, and then another
pub prints_then : {a b : List ℕ} {x y z : Scene} → PrintsOnly a x y → PrintsOnly b y z → PrintsOnly (a ++ b) x z
prints_then {a} {b} {x} {y} {z} p q = record {
  printed = then_gained x.printed y.printed z.printed a b p.printed q.printed;
  files = q.files ∙ p.files;
  left = q.left ∙ p.left;
  saved = q.saved ∙ p.saved;
  opened = q.opened ∙ p.opened;
}

-- a text of which a front is this one was printed in part
pub prints_part : {part text : List ℕ} {x y : Scene} → PrintsOnly part x y → IsFront part text → PrintsFront text x y
prints_part p f = record {
  printed = gains_part p.printed f;
  files = p.files;
  left = p.left;
  saved = p.saved;
  opened = p.opened;
}

-- a front of this text is one of this text and more
pub prints_front_more : {a : List ℕ} {x y : Scene} (more : List ℕ) → PrintsFront a x y → PrintsFront (a ++ more) x y
prints_front_more more p = record {
  printed = gains_more more p.printed;
  files = p.files;
  left = p.left;
  saved = p.saved;
  opened = p.opened;
}

-- one text, and then a front of another
pub prints_front_after : {a b : List ℕ} {x y z : Scene} → PrintsOnly a x y → PrintsFront b y z → PrintsFront (a ++ b) x z
prints_front_after {a} p q = record {
  printed = gains_after a p.printed q.printed;
  files = q.files ∙ p.files;
  left = q.left ∙ p.left;
  saved = q.saved ∙ p.saved;
  opened = q.opened ∙ p.opened;
}

-- one call that answers Ok prints what it counted
pub print_took : {part : List ℕ} {x y : Scene} (n : ℕ) → Prints part x y (Ok n) → PrintsOnly (take n part) x y
print_took n p = record { printed = p.printed; files = p.files; left = p.left; saved = p.saved; opened = p.opened }

-- one call that answers an error prints nothing
pub print_failed : {part : List ℕ} {x y : Scene} (e : DeskFault) → Prints part x y (Err e) → PrintsOnly [] x y
print_failed e p = record { printed = p.printed; files = p.files; left = p.left; saved = p.saved; opened = p.opened }

-- no text was saved
pub saves_none : (x : Scene) → SavesOnly [] x x
saves_none x = record { saved = sym (append-nil x.saved); files = refl; left = refl; printed = refl; opened = refl }

-- one text, and then another
pub saves_then : {a b : List ℕ} {x y z : Scene} → SavesOnly a x y → SavesOnly b y z → SavesOnly (a ++ b) x z
saves_then {a} {b} {x} {y} {z} p q = record {
  saved = then_gained x.saved y.saved z.saved a b p.saved q.saved;
  files = q.files ∙ p.files;
  left = q.left ∙ p.left;
  printed = q.printed ∙ p.printed;
  opened = q.opened ∙ p.opened;
}

-- a text of which a front is this one was saved in part
pub saves_part : {part text : List ℕ} {x y : Scene} → SavesOnly part x y → IsFront part text → SavesFront text x y
saves_part p f = record {
  saved = gains_part p.saved f;
  files = p.files;
  left = p.left;
  printed = p.printed;
  opened = p.opened;
}

-- a front of this text is one of this text and more
pub saves_front_more : {a : List ℕ} {x y : Scene} (more : List ℕ) → SavesFront a x y → SavesFront (a ++ more) x y
saves_front_more more p = record {
  saved = gains_more more p.saved;
  files = p.files;
  left = p.left;
  printed = p.printed;
  opened = p.opened;
}

-- one text, and then a front of another
pub saves_front_after : {a b : List ℕ} {x y z : Scene} → SavesOnly a x y → SavesFront b y z → SavesFront (a ++ b) x z
saves_front_after {a} p q = record {
  saved = gains_after a p.saved q.saved;
  files = q.files ∙ p.files;
  left = q.left ∙ p.left;
  printed = q.printed ∙ p.printed;
  opened = q.opened ∙ p.opened;
}

-- one call that answers Ok saves what it counted
pub save_took : {part : List ℕ} {x y : Scene} (n : ℕ) → Saves part x y (Ok n) → SavesOnly (take n part) x y
save_took n p = record { saved = p.saved; files = p.files; left = p.left; printed = p.printed; opened = p.opened }

-- one call that answers an error saves nothing
pub save_failed : {part : List ℕ} {x y : Scene} (e : DeskFault) → Saves part x y (Err e) → SavesOnly [] x y
save_failed e p = record { saved = p.saved; files = p.files; left = p.left; printed = p.printed; opened = p.opened }

-- the part of a list that a loop hands over is all that is left of it
rest_is : (part : List ℕ) (d : ℕ) → take (length part - d) (drop d part) ≡ drop d part
rest_is part d = ap (λ n. take n (drop d part)) (sym (length-drop d part)) ∙ take-length (drop d part)

-- n elements more of what is left of a list
taken_more : (part : List ℕ) (d n : ℕ) → take d part ++ take n (take (length part - d) (drop d part)) ≡ take (d + n) part
taken_more part d n = ap (λ w. take d part ++ take n w) (rest_is part d) ∙ sym (take-add d n part)

-- in a loop over a part, a call that printed n bytes of what is left
pub prints_step : (part : List ℕ) (d n : ℕ) {x y z : Scene} → PrintsOnly (take d part) x y → Prints (take (length part - d) (drop d part)) y z (Ok n) → PrintsOnly (take (d + n) part) x z
prints_step part d n {x} {y} {z} p q =
    let P : List ℕ → Type 0 = λ w. PrintsOnly w x z in
    subst P (taken_more part d n) (prints_then p (print_took n q))

-- in a loop over a part, a call that failed
pub prints_stop : (part rest : List ℕ) (d : ℕ) (e : DeskFault) {x y z : Scene} → PrintsOnly (take d part) x y → Prints rest y z (Err e) → PrintsFront part x z
prints_stop part rest d e {x} {y} {z} p q =
    let P : List ℕ → Type 0 = λ w. PrintsOnly w x z in
    prints_part (subst P (append-nil (take d part)) (prints_then p (print_failed e q))) (front_take d part)

-- in a loop over a part, a call that saved n bytes of what is left
pub saves_step : (part : List ℕ) (d n : ℕ) {x y z : Scene} → SavesOnly (take d part) x y → Saves (take (length part - d) (drop d part)) y z (Ok n) → SavesOnly (take (d + n) part) x z
saves_step part d n {x} {y} {z} p q =
    let P : List ℕ → Type 0 = λ w. SavesOnly w x z in
    subst P (taken_more part d n) (saves_then p (save_took n q))

-- in a loop over a part, a call that failed
pub saves_stop : (part rest : List ℕ) (d : ℕ) (e : DeskFault) {x y z : Scene} → SavesOnly (take d part) x y → Saves rest y z (Err e) → SavesFront part x z
saves_stop part rest d e {x} {y} {z} p q =
    let P : List ℕ → Type 0 = λ w. SavesOnly w x z in
    saves_part (subst P (append-nil (take d part)) (saves_then p (save_failed e q))) (front_take d part)
