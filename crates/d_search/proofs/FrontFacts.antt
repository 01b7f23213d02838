-- The keys that wait in the front are those of the open leaves.
use Rattle.std.proofs.Common.{◌≡◌, ◌⊎◌, inl, inr, ℕ, zero, suc, ◌+◌, ◌≤◌, ◌&&◌, ℤ, Bool, true, false, cond, eqb, List, [], ◌∷◌, ◌++◌, Option, Some, None, length, slice_get, slice_set, option_and_then, sum_by, is_none, is_some, not, length-append, Decides, arith, sym, refl, ap, subst, ◌∙◌}
use Rattle.std.specs.List.{All}
use Rattle.std.specs.List.Sorted.{IsPermutation}
use Rattle.std.specs.Ordering.{int_eq}
use Rattle.std.proofs.lemmas.Bool.{cases_Bool, true≢false}
use Rattle.std.proofs.lemmas.Bool.Decides.{Decides-and, Decides-eqb, Decides-int_eq}
use Rattle.std.proofs.lemmas.List.Sums.{sum_by-cons, sum_by-append}
use Rattle.std.proofs.lemmas.List.Sorted.{sum_by-IsPermutation}
use Rattle.std.proofs.lemmas.Option.{same_Some, none-some}
use Rattle.d_box.specs.declared.space.Space.{Space}
use Rattle.d_box.specs.declared.space.Split.{Split}
use Rattle.d_front.specs.declared.key.Key.{Key}
use Rattle.d_front.specs.Keys.{rank, ComesFirst}
use Rattle.d_front.specs.Fronts.{IsTaken}
use Rattle.d_search.specs.declared.tree.TreeNode.{TreeNode}
use Rattle.d_search.specs.Rules.{Rules}
use Rattle.d_search.specs.Trees.{key_from, key_of, key_at, IsFirstLeaf}
use Rattle.d_search.specs.Outcomes.{IsFirstOpen}
use Rattle.d_search.specs.Growths.{one_key, open_keys, key_with, IsFrontOf}
use Rattle.d_search.proofs.SplitFacts.{key_parts}

-- one of the keys
abbrev IsAmong : Key → List Key → Type 0
IsAmong key [] = ⊥
IsAmong key (k ∷ keys) = (k ≡ key) ⊎ IsAmong key keys

among_front : (key : Key) (xs ys : List Key) → IsAmong key xs → IsAmong key (xs ++ ys)
among_front key [] ys among = absurd among
among_front key (x ∷ xs) ys (inl here) = inl here
among_front key (x ∷ xs) ys (inr there) = inr (among_front key xs ys there)

among_behind : (key : Key) (xs ys : List Key) → IsAmong key ys → IsAmong key (xs ++ ys)
among_behind key [] ys among = among
among_behind key (x ∷ xs) ys among = inr (among_behind key xs ys among)

among_either : (key : Key) (xs ys : List Key) → IsAmong key (xs ++ ys) → IsAmong key xs ⊎ IsAmong key ys
among_either key [] ys among = inr among
among_either key (x ∷ xs) ys (inl here) = inl (inl here)
among_either key (x ∷ xs) ys (inr there) = elim (among_either key xs ys there) [ inl left ↦ inl (inr left) | inr right ↦ inr right ]

among_one : (key : Key) (o : Option Key) → IsAmong key (one_key o) → o ≡ Some key
among_one key None among = absurd among
among_one key (Some k) (inl same) = ap Some same
among_one key (Some k) (inr none) = absurd none

one_among : (key : Key) (o : Option Key) → o ≡ Some key → IsAmong key (one_key o)
one_among key None e = absurd (none-some key e)
one_among key (Some k) e = inl (same_Some k key e)

all_among : (P : Key → Type 0) (key : Key) (xs : List Key) → All P xs → IsAmong key xs → P key
all_among P key [] all among = absurd among
all_among P key (x ∷ xs) all (inl same) = subst P same (all 0 x (omega arith))
all_among P key (x ∷ xs) all (inr there) = all_among P key xs (λ k d inside. all (suc k) d (omega arith)) there

-- whether two keys are the same
abbrev same_key : Key → Key → Bool
same_key a b = int_eq a.bound b.bound && (eqb (rank a.point) (rank b.point) && eqb a.node b.node)

abbrev AreSame : Key → Key → Type 0
AreSame a b = (a.bound ≡ b.bound) × ((rank a.point ≡ rank b.point) × (a.node ≡ b.node))

same_decides : (a b : Key) → Decides (same_key a b) (AreSame a b)
same_decides a b =
    Decides-and (int_eq a.bound b.bound) (eqb (rank a.point) (rank b.point) && eqb a.node b.node) (Decides-int_eq a.bound b.bound)
    (Decides-and (eqb (rank a.point) (rank b.point)) (eqb a.node b.node) (Decides-eqb (rank a.point) (rank b.point)) (Decides-eqb a.node b.node))

same_point : (a b : Bool) → rank a ≡ rank b → a ≡ b
same_point true true e = refl
same_point true false e = absurd (omega arith)
same_point false true e = absurd (omega arith)
same_point false false e = refl

abbrev made : ℤ → Bool → ℕ → Key
made bound point node = record { bound = bound; point = point; node = node }

keys_same : (a b : Key) → AreSame a b → a ≡ b
keys_same a b same =
    let point : a.point ≡ b.point = same_point a.point b.point same.1.0 in
    let joined : made a.bound a.point a.node ≡ made b.bound b.point b.node =
    ap (λ (x : ℤ). made x a.point a.node) same.0 ∙ (ap (λ (p : Bool). made b.bound p a.node) point ∙ ap (made b.bound b.point) same.1.1) in
    joined

-- how often a key is there
count_of : Key → Key → ℕ
count_of a b = cond (same_key a b) 1 0

count_same : (a b : Key) → a ≡ b → count_of a b ≡ 1
unfolding count_of
count_same a b e = ap (λ (t : Bool). cond {A = ℕ} t 1 0) ((same_decides a b).1 (ap (λ (k : Key). k.bound) e, (ap (λ (k : Key). rank k.point) e, ap (λ (k : Key). k.node) e)))

count_other : (a b : Key) → (a ≡ b) ⊎ (count_of a b ≡ 0)
unfolding count_of
count_other a b = elim (cases_Bool (same_key a b)) [
  | inl is ↦ inl (keys_same a b ((same_decides a b).0 is))
  | inr not ↦ inr (ap (λ (t : Bool). cond {A = ℕ} t 1 0) not)
]

among_counted : (key : Key) (xs : List Key) → IsAmong key xs → 1 ≤ sum_by (count_of key) xs
among_counted key [] among = absurd among
among_counted key (x ∷ xs) (inl same) = omega (arith, sum_by-cons (count_of key) x xs, count_same key x (sym same))
among_counted key (x ∷ xs) (inr there) = omega (arith, sum_by-cons (count_of key) x xs, among_counted key xs there)

counted_among : (key : Key) (xs : List Key) → 1 ≤ sum_by (count_of key) xs → IsAmong key xs
counted_among key [] some = absurd (omega arith)
counted_among key (x ∷ xs) some = elim (count_other key x) [
  | inl same ↦ inl (sym same)
  | inr none ↦ inr (counted_among key xs (omega (arith, sum_by-cons (count_of key) x xs)))
]

-- lists over which all sums are the same have the same elements
among_same : (key : Key) (xs ys : List Key) → ((f : Key → ℕ) → sum_by f xs ≡ sum_by f ys) → IsAmong key xs → IsAmong key ys
among_same key xs ys same among = counted_among key ys (omega (arith, same (count_of key), among_counted key xs among))

-- a key of one of the nodes
record IsOpenAt (r : Rules) (first : ℕ) (nodes : List TreeNode) (key : Key) : Type 0 where
  place : ℕ
  n : TreeNode
  at : slice_get nodes place ≡ Some n
  number : ℕ
  is : number ≡ first + place
  here : key_of r number n ≡ Some key

open_there : (r : Rules) (first : ℕ) (nodes : List TreeNode) (key : Key) → IsAmong key (open_keys r first nodes) → IsOpenAt r first nodes key
unfolding open_keys
open_there r first [] key among = absurd among
open_there r first (n ∷ nodes) key among = elim (among_either key (one_key (key_of r first n)) (open_keys r (first + 1) nodes) among) [
  | inl here ↦ record { place = 0; n = n; at = refl; number = first; is = omega arith; here = among_one key (key_of r first n) here }
  | inr behind ↦ let got = open_there r (first + 1) nodes key behind in
      record { place = suc got.place; n = got.n; at = got.at; number = got.number; is = omega (arith, got.is); here = got.here }
]

there_open : (r : Rules) (first : ℕ) (nodes : List TreeNode) (place : ℕ) (n : TreeNode) (number : ℕ) (key : Key) → slice_get nodes place ≡ Some n
    → number ≡ first + place → key_of r number n ≡ Some key → IsAmong key (open_keys r first nodes)
unfolding open_keys
there_open r first [] place n number key at is here = absurd (none-some n at)
there_open r first (x ∷ nodes) zero n number key at is here =
    let same : number ≡ first = omega arith in
    among_front key (one_key (key_of r first x)) (open_keys r (first + 1) nodes)
    (one_among key (key_of r first x) (ap (key_of r first) (same_Some x n at) ∙ (ap (λ (k : ℕ). key_of r k n) (sym same) ∙ here)))
there_open r first (x ∷ nodes) (suc place) n number key at is here =
    among_behind key (one_key (key_of r first x)) (open_keys r (first + 1) nodes) (there_open r (first + 1) nodes place n number key at (omega arith) here)

module _ (r : Rules) (keys : List Key) (nodes : List TreeNode) (front : IsFrontOf r keys nodes) where
  -- a key that waits is that of a node
  waits_at : (key : Key) → IsAmong key keys → key_at r nodes key.node ≡ Some key
  waits_at key among =
      let got = open_there r 0 nodes key (among_same key keys (open_keys r 0 nodes) front among) in
      let same : got.number ≡ got.place = omega (arith, got.is) in
      let found : key_at r nodes got.place ≡ Some key = ap (option_and_then (key_of r got.place)) got.at ∙ (ap (λ (k : ℕ). key_of r k got.n) (sym same) ∙ got.here) in
      ap (key_at r nodes) (key_parts r nodes got.place key found).same ∙ found

  -- the key of a node waits
  at_waits : (number : ℕ) (key : Key) → key_at r nodes number ≡ Some key → IsAmong key keys
  at_waits number key at =
      let has = key_parts r nodes number key at in
      among_same key (open_keys r 0 nodes) keys (λ f. sym (front f))
      (there_open r 0 nodes number has.node number key has.at (omega arith) (sym (ap (option_and_then (key_of r number)) has.at) ∙ at))

  -- the key that comes first is that of the first leaf
  pub first_taken : (key : Key) (rest : List Key) → IsTaken keys (Some key) rest → IsFirstLeaf r nodes key
  first_taken key rest taken = record {
    here = waits_at key (counted_among key keys (omega (arith, sum_by-IsPermutation (count_of key) (key ∷ rest) keys taken.0, among_counted key (key ∷ rest) (inl refl))));
    least = λ number other at. all_among (ComesFirst key) other keys taken.1 (at_waits number other at);
  }

  -- the others wait
  pub rest_waits : (key : Key) (rest : List Key) → IsTaken keys (Some key) rest → IsFrontOf r (key ∷ rest) nodes
  rest_waits key rest taken f = sym (sum_by-IsPermutation f (key ∷ rest) keys taken.0) ∙ front f

  -- where no key waits no leaf has one
  pub none_taken : (rest : List Key) → IsTaken keys None rest → IsFirstOpen r nodes None
  none_taken rest taken number = by_key (key_at r nodes number) refl
    where
      by_key : (o : Option Key) → key_at r nodes number ≡ o → o ≡ None
      by_key None at = refl
      by_key (Some key) at = absurd (subst (IsAmong key) taken.0 (at_waits number key at))

-- one more node behind the others
open_more : (r : Rules) (f : Key → ℕ) (first : ℕ) (nodes : List TreeNode) (n : TreeNode) (number : ℕ) → number ≡ first + length nodes
    → sum_by f (open_keys r first (nodes ++ n ∷ [])) ≡ sum_by f (open_keys r first nodes) + sum_by f (one_key (key_of r number n))
unfolding open_keys
open_more r f first [] n number is = omega (
  arith,
  sum_by-append f (one_key (key_of r first n)) [],
  let same : first ≡ number = omega arith in ap (λ (k : ℕ). sum_by f (one_key (key_of r k n))) same,
)
open_more r f first (x ∷ nodes) n number is = omega (
  arith,
  sum_by-append f (one_key (key_of r first x)) (open_keys r (first + 1) (nodes ++ n ∷ [])),
  sum_by-append f (one_key (key_of r first x)) (open_keys r (first + 1) nodes),
  open_more r f (first + 1) nodes n number (omega arith),
)

-- its key is put in
pub front_added : (r : Rules) (keys new : List Key) (nodes : List TreeNode) (n : TreeNode) (key : Option Key) → IsFrontOf r keys nodes
    → IsPermutation (one_key key ++ keys) new → key ≡ key_of r (length nodes) n → IsFrontOf r new (nodes ++ n ∷ [])
front_added r keys new nodes n key front put is f = omega (
  arith,
  sum_by-IsPermutation f (one_key key ++ keys) new put,
  sum_by-append f (one_key key) keys,
  front f,
  open_more r f 0 nodes n (length nodes) (omega arith),
  ap (λ (k : Option Key). sum_by f (one_key k)) is,
)

-- another node in its place
open_set : (r : Rules) (f : Key → ℕ) (first : ℕ) (nodes : List TreeNode) (place : ℕ) (x y : TreeNode) (number : ℕ) → slice_get nodes place ≡ Some x
    → number ≡ first + place
    → sum_by f (open_keys r first (slice_set nodes place y)) + sum_by f (one_key (key_of r number x))
    ≡ sum_by f (open_keys r first nodes) + sum_by f (one_key (key_of r number y))
unfolding open_keys
open_set r f first [] place x y number at is = absurd (none-some x at)
open_set r f first (n ∷ nodes) zero x y number at is = omega (
  arith,
  sum_by-append f (one_key (key_of r first n)) (open_keys r (first + 1) nodes),
  sum_by-append f (one_key (key_of r first y)) (open_keys r (first + 1) nodes),
  let same : first ≡ number = omega arith in ap (λ (k : ℕ). sum_by f (one_key (key_of r k y))) same,
  let same : first ≡ number = omega arith in
      ap (λ (k : ℕ). sum_by f (one_key (key_of r k n))) same ∙ ap (λ (m : TreeNode). sum_by f (one_key (key_of r number m))) (same_Some n x at),
)
open_set r f first (n ∷ nodes) (suc place) x y number at is = omega (
  arith,
  sum_by-append f (one_key (key_of r first n)) (open_keys r (first + 1) nodes),
  sum_by-append f (one_key (key_of r first n)) (open_keys r (first + 1) (slice_set nodes place y)),
  open_set r f (first + 1) nodes place x y number at (omega arith),
)

-- a node that has no key any more, where its key was taken out
pub front_marked : (r : Rules) (key : Key) (keys : List Key) (nodes : List TreeNode) (number : ℕ) (x y : TreeNode) → IsFrontOf r (key ∷ keys) nodes
    → slice_get nodes number ≡ Some x → key_of r number x ≡ Some key → key_of r number y ≡ None → IsFrontOf r keys (slice_set nodes number y)
front_marked r key keys nodes number x y front at had none f = omega (
  arith,
  front f,
  sum_by-cons f key keys,
  open_set r f 0 nodes number x y number at (omega arith),
  ap (λ (k : Option Key). sum_by f (one_key k)) had,
  ap (λ (k : Option Key). sum_by f (one_key k)) none,
  sum_by-cons f key [],
)

counted_ones : (xs : List Key) → sum_by (λ k. 1) xs ≡ length xs
counted_ones [] = refl
counted_ones (x ∷ xs) = omega (arith, sum_by-cons (λ (k : Key). 1) x xs, counted_ones xs)

one_at_most : (o : Option Key) → length (one_key o) ≤ 1
one_at_most None = omega arith
one_at_most (Some k) = omega arith

open_few : (r : Rules) (first : ℕ) (nodes : List TreeNode) → length (open_keys r first nodes) ≤ length nodes
unfolding open_keys
open_few r first [] = omega arith
open_few r first (n ∷ nodes) =
    omega (arith, length-append (one_key (key_of r first n)) (open_keys r (first + 1) nodes), one_at_most (key_of r first n), open_few r (first + 1) nodes)

-- no more keys wait than there are nodes
pub front_few : (r : Rules) (keys : List Key) (nodes : List TreeNode) → IsFrontOf r keys nodes → length keys ≤ length nodes
front_few r keys nodes front = omega (arith, front (λ k. 1), counted_ones keys, counted_ones (open_keys r 0 nodes), open_few r 0 nodes)

-- the key of a leaf
pub leaf_key : (r : Rules) (space : Space) (bound : Option ℤ) (number : ℕ) (point : Bool) → point ≡ is_none (r.split_of space)
    → key_with bound point number ≡ key_from r number space None bound
leaf_key r space None number point is = refl
leaf_key r space (Some bound) number point is = ap (λ (p : Bool). Some (made bound p number)) is

pub none_of : (o : Option Split) (point : Bool) → is_some o ≡ not point → point ≡ is_none o
none_of None true e = refl
none_of None false e = absurd (true≢false (sym e))
none_of (Some split) true e = absurd (true≢false e)
none_of (Some split) false e = refl
