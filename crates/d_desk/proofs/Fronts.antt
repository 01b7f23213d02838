-- Laws of fronts: of a list itself, of an appended list, and of a front after a whole.
use Rattle.std.proofs.Common.{◌≡◌, ℕ, List, [], ◌++◌, take, drop, refl, sym, ◌∙◌, ap, append_assoc}
use Rattle.std.proofs.lemmas.List.{append-nil, take-append-drop}
use Rattle.d_desk.specs.Front.{IsFront, GainsFront}

-- the empty list is a front of every list
pub front_none : {X : Type 0} (whole : List X) → IsFront [] whole
front_none whole = record { rest = whole; whole_is = refl }

-- every list is a front of itself
pub front_all : {X : Type 0} (whole : List X) → IsFront whole whole
front_all whole = record { rest = []; whole_is = sym (append-nil whole) }

-- the first elements are a front
pub front_take : {X : Type 0} (n : ℕ) (whole : List X) → IsFront (take n whole) whole
front_take n whole = record { rest = drop n whole; whole_is = sym (take-append-drop n whole) }

-- a front of a list is a front of that list with more after it
pub front_more : {X : Type 0} {a b : List X} (more : List X) → IsFront a b → IsFront a (b ++ more)
front_more {X} {a} {b} more f = record {
  rest = f.rest ++ more;
  whole_is = ap (λ w. w ++ more) f.whole_is ∙ append_assoc a f.rest more;
}

-- a whole, and then a front, is a front of both
pub front_after : {X : Type 0} {b c : List X} (a : List X) → IsFront b c → IsFront (a ++ b) (a ++ c)
front_after {X} {b} {c} a f = record {
  rest = f.rest;
  whole_is = ap (λ w. a ++ w) f.whole_is ∙ sym (append_assoc a b f.rest);
}

-- a front of a front is a front
pub front_front : {X : Type 0} {a b c : List X} → IsFront a b → IsFront b c → IsFront a c
front_front {X} {a} {b} {c} f g = record {
  rest = f.rest ++ g.rest;
  whole_is = g.whole_is ∙ ap (λ w. w ++ g.rest) f.whole_is ∙ append_assoc a f.rest g.rest;
}

-- what stays as it was has gained the empty front
pub gains_none : {X : Type 0} {x y : List X} (whole : List X) → y ≡ x → GainsFront x y whole
gains_none {X} {x} {y} whole same = record {
  part = [];
  gained = same ∙ sym (append-nil x);
  front = front_none whole;
}

-- what gained a front of a list gained a front of each list that goes on from it
pub gains_part : {X : Type 0} {x y part whole : List X} → y ≡ x ++ part → IsFront part whole → GainsFront x y whole
gains_part {X} {x} {y} {part} {whole} gained front = record { part = part; gained = gained; front = front }

-- what gained the whole gained a front of it
pub gains_all : {X : Type 0} {x y whole : List X} → y ≡ x ++ whole → GainsFront x y whole
gains_all {X} {x} {y} {whole} gained = gains_part gained (front_all whole)

-- a front gained of a list is one gained of that list with more after it
pub gains_more : {X : Type 0} {x y whole : List X} (more : List X) → GainsFront x y whole → GainsFront x y (whole ++ more)
gains_more more g = gains_part g.gained (front_more more g.front)

-- a whole gained, and then a front
pub gains_after : {X : Type 0} {x y z b : List X} (a : List X) → y ≡ x ++ a → GainsFront y z b → GainsFront x z (a ++ b)
gains_after {X} {x} {y} {z} {b} a whole g = gains_part (
    g.gained ∙ ap (λ w. w ++ g.part) whole ∙ append_assoc x a g.part) (front_after a g.front)
