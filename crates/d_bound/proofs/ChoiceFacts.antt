-- The first cheapest way as a value: it is among all lists of moves, which stand in their order.
use Rattle.std.proofs.Common.{◌≡◌, ◌≢◌, ◌⊎◌, inl, inr, ℕ, zero, suc, ℤ, ◌+◌, ◌≤◌, ◌<◌, Bool, true, false, List, [], ◌∷◌, ◌++◌, Option, Some, None, length, map, MatchOption, refl, sym, ap, ◌∙◌, subst, arith, int_le, if◌then◌else◌}
use Rattle.std.specs.List.{range_with_len, flat_map}
use Rattle.std.proofs.lemmas.Int.{ints}
use Rattle.d_list.specs.Order.{IsNotAfter}
use Rattle.d_num.specs.declared.pot.Pot.{Pot}
use Rattle.d_num.specs.declared.pot.Pot.TheVariants.{To, NoWay}
use Rattle.d_num.specs.Pot.{AtMost}
use Rattle.d_path.specs.Arcs.{Arcs, arc_cost, level_after, intervals_of, way_cost}
use Rattle.d_path.specs.Cheapest.{IsFirstCheapest}
use Rattle.d_path.proofs.CostLemmas.{AtMost-refl, AtMost-trans, AtMost-NoWay, along_there, NoWay?}
use Rattle.d_path.proofs.WayLemmas.{level_after_past, way_length, first_cheapest_same}
use Rattle.d_bound.specs.Choice.{lists_below, is_way, is_at_most, better, first_least_of, cheapest_of}

-- the list is one of these
abbrev pub IsOf : List ℕ → List (List ℕ) → Type 0
IsOf s [] = ⊥
IsOf s (z ∷ rest) = (s ≡ z) ⊎ IsOf s rest

-- each list stands before all later ones in the order of lists
abbrev AreOrdered : List (List ℕ) → Type 0
AreOrdered [] = Unit {0}
AreOrdered (s ∷ rest) = ((z : List ℕ) → IsOf z rest → IsNotAfter s z) × AreOrdered rest

-- each number of the list is below m
abbrev AreBelow : ℕ → List ℕ → Type 0
AreBelow m [] = Unit {0}
AreBelow m (k ∷ rest) = (k < m) × AreBelow m rest

not_after_itself : (s : List ℕ) → IsNotAfter s s
not_after_itself [] = tt
not_after_itself (k ∷ rest) = inr (refl, not_after_itself rest)

-- what is of one of two lists is of both together
in_front : (s : List ℕ) (xs ys : List (List ℕ)) → IsOf s xs → IsOf s (xs ++ ys)
in_front s [] ys there = absurd there
in_front s (x ∷ xs) ys (inl same) = inl same
in_front s (x ∷ xs) ys (inr later) = inr (in_front s xs ys later)

behind : (s : List ℕ) (xs ys : List (List ℕ)) → IsOf s ys → IsOf s (xs ++ ys)
behind s [] ys there = there
behind s (x ∷ xs) ys there = inr (behind s xs ys there)

-- and the other way round
in_either : (s : List ℕ) (xs ys : List (List ℕ)) → IsOf s (xs ++ ys) → IsOf s xs ⊎ IsOf s ys
in_either s [] ys there = inr there
in_either s (x ∷ xs) ys (inl same) = inl (inl same)
in_either s (x ∷ xs) ys (inr later) = elim (in_either s xs ys later) [ inl front ↦ inl (inr front) | inr back ↦ inr back ]

-- lists that begin with k
abbrev with_first : List (List ℕ) → ℕ → List (List ℕ)
with_first lists k = map (λ rest. k ∷ rest) lists

in_with_first : (k : ℕ) (rest : List ℕ) (lists : List (List ℕ)) → IsOf rest lists → IsOf (k ∷ rest) (with_first lists k)
in_with_first k rest [] there = absurd there
in_with_first k rest (z ∷ lists) (inl same) = inl (ap (λ (l : List ℕ). k ∷ l) same)
in_with_first k rest (z ∷ lists) (inr later) = inr (in_with_first k rest lists later)

-- the list begins with a number from a up, and what is behind it is of these
record Begins (lists : List (List ℕ)) (a : ℕ) (s : List ℕ) : Type 0 where
  first : ℕ
  rest : List ℕ
  from : a ≤ first
  is : s ≡ first ∷ rest

from_with_first : (k : ℕ) (s : List ℕ) (lists : List (List ℕ)) → IsOf s (with_first lists k) → (rest : List ℕ) × (s ≡ k ∷ rest) × IsOf rest lists
from_with_first k s [] there = absurd there
from_with_first k s (z ∷ lists) (inl same) = (z, same, inl refl)
from_with_first k s (z ∷ lists) (inr later) = let found = from_with_first k s lists later in (found.0, found.1, inr found.2)

next_or : (a k : ℕ) → a ≤ k → (a ≡ k) ⊎ (a + 1 ≤ k)
next_or a k from = grind arith

in_flat : (lists : List (List ℕ)) (a n k : ℕ) (s : List ℕ) → a ≤ k → k < a + n → IsOf s (with_first lists k) → IsOf s (flat_map (with_first lists) (range_with_len a n))
in_flat lists a zero k s from below there = absurd (omega arith)
in_flat lists a (suc n) k s from below there = elim (next_or a k from) [
  | inl same ↦ in_front s (with_first lists a) (flat_map (with_first lists) (range_with_len (a + 1) n)) (subst (λ (j : ℕ). IsOf s (with_first lists j)) (sym same) there)
  | inr later ↦ behind s (with_first lists a) (flat_map (with_first lists) (range_with_len (a + 1) n)) (in_flat lists (a + 1) n k s later (omega arith) there)
]

from_flat : (lists : List (List ℕ)) (a n : ℕ) (s : List ℕ) → IsOf s (flat_map (with_first lists) (range_with_len a n)) → Begins lists a s
from_flat lists a zero s there = absurd there
from_flat lists a (suc n) s there = elim (in_either s (with_first lists a) (flat_map (with_first lists) (range_with_len (a + 1) n)) there) [
  | inl front ↦ let found = from_with_first a s lists front in record { first = a; rest = found.0; from = omega arith; is = found.1 }
  | inr back ↦ let found = from_flat lists (a + 1) n s back in record { first = found.first; rest = found.rest; from = omega (arith, found.from); is = found.is }
]

-- two ordered lists, the second behind the first
ordered_both : (xs ys : List (List ℕ)) → AreOrdered xs → AreOrdered ys → ((x y : List ℕ) → IsOf x xs → IsOf y ys → IsNotAfter x y) → AreOrdered (xs ++ ys)
ordered_both [] ys front back between = back
ordered_both (x ∷ xs) ys front back between = (
  λ z there. elim (in_either z xs ys there) [ inl early ↦ front.0 z early | inr late ↦ between x z (inl refl) late ],
  ordered_both xs ys front.1 back (λ v w early late. between v w (inr early) late),
)

ordered_first : (k : ℕ) (lists : List (List ℕ)) → AreOrdered lists → AreOrdered (with_first lists k)
ordered_first k [] ordered = tt
ordered_first k (z ∷ lists) ordered = (λ s there. by_rest s (from_with_first k s lists there), ordered_first k lists ordered.1)
  where
    by_rest : (s : List ℕ) → (rest : List ℕ) × (s ≡ k ∷ rest) × IsOf rest lists → IsNotAfter (k ∷ z) s
    by_rest s found = subst (λ (l : List ℕ). IsNotAfter (k ∷ z) l) (sym found.1) (inr (refl, ordered.0 found.0 found.2))

ordered_flat : (lists : List (List ℕ)) (a n : ℕ) → AreOrdered lists → AreOrdered (flat_map (with_first lists) (range_with_len a n))
ordered_flat lists a zero ordered = tt
ordered_flat lists a (suc n) ordered =
    ordered_both (with_first lists a) (flat_map (with_first lists) (range_with_len (a + 1) n)) (ordered_first a lists ordered) (ordered_flat lists (a + 1) n ordered)
    (λ x y early late. between x y (from_with_first a x lists early) (from_flat lists (a + 1) n y late))
  where
    between : (x y : List ℕ) → (rest : List ℕ) × (x ≡ a ∷ rest) × IsOf rest lists → Begins lists (a + 1) y → IsNotAfter x y
    between x y front back =
        let below : a < back.first = omega (arith, back.from) in
        subst (λ (l : List ℕ). IsNotAfter l y) (sym front.1) (subst (λ (l : List ℕ). IsNotAfter (a ∷ front.0) l) (sym back.is) (inl below))

-- all lists of numbers below m stand in their order
lists_ordered : (m n : ℕ) → AreOrdered (lists_below m n)
unfolding lists_below
lists_ordered m zero = (λ z there. absurd there, tt)
lists_ordered m (suc n) = ordered_flat (lists_below m n) 0 m (lists_ordered m n)

-- and each of them is there
lists_all : (m n : ℕ) (s : List ℕ) → length s ≡ n → AreBelow m s → IsOf s (lists_below m n)
unfolding lists_below
lists_all m zero [] long below = inl refl
lists_all m zero (k ∷ rest) long below = absurd (omega (arith, long))
lists_all m (suc n) [] long below = absurd (omega (arith, long))
lists_all m (suc n) (k ∷ rest) long below =
    let shorter : length rest ≡ n = omega (arith, long) in
    in_flat (lists_below m n) 0 m k (k ∷ rest) (omega arith) (omega (arith, below.0)) (in_with_first k rest (lists_below m n) (lists_all m n rest shorter below.1))

-- the first of those that cost least among these lists
record IsFirstOf (cost : List ℕ → Pot) (lists : List (List ℕ)) (s : List ℕ) : Type 0 where
  there : IsOf s lists
  way : cost s ≢ NoWay
  least : (z : List ℕ) → IsOf z lists → AtMost (cost s) (cost z)
  first : (z : List ℕ) → IsOf z lists → cost z ≡ cost s → IsNotAfter s z

-- none where none of the lists is a way, or the first that costs least
abbrev IsChosen : (List ℕ → Pot) → List (List ℕ) → Option (List ℕ) → Type 0
IsChosen cost lists found = MatchOption found ((s : List ℕ) → IsOf s lists → cost s ≡ NoWay) (IsFirstOf cost lists)

module _ (cost : List ℕ → Pot) (s : List ℕ) (rest : List (List ℕ)) (before : (z : List ℕ) → IsOf z rest → IsNotAfter s z) where
  -- the first of all is no dearer than what is found behind it
  stays : cost s ≢ NoWay → ((z : List ℕ) → IsOf z rest → AtMost (cost s) (cost z)) → IsFirstOf cost (s ∷ rest) s
  stays way least = record { there = inl refl; way = way; least = all_least; first = all_first }
    where
      all_least : (z : List ℕ) → IsOf z (s ∷ rest) → AtMost (cost s) (cost z)
      all_least z (inl same) = subst (λ (l : List ℕ). AtMost (cost s) (cost l)) (sym same) (AtMost-refl (cost s))
      all_least z (inr later) = least z later

      all_first : (z : List ℕ) → IsOf z (s ∷ rest) → cost z ≡ cost s → IsNotAfter s z
      all_first z (inl same) e = subst (λ (l : List ℕ). IsNotAfter s l) (sym same) (not_after_itself s)
      all_first z (inr later) e = before z later

  -- or it is dearer
  passed : (other : List ℕ) → IsFirstOf cost rest other → AtMost (cost other) (cost s) → cost s ≢ cost other → IsFirstOf cost (s ∷ rest) other
  passed other found dearer apart = record { there = inr found.there; way = found.way; least = all_least; first = all_first }
    where
      all_least : (z : List ℕ) → IsOf z (s ∷ rest) → AtMost (cost other) (cost z)
      all_least z (inl same) = subst (λ (l : List ℕ). AtMost (cost other) (cost l)) (sym same) dearer
      all_least z (inr later) = found.least z later

      all_first : (z : List ℕ) → IsOf z (s ∷ rest) → cost z ≡ cost other → IsNotAfter other z
      all_first z (inl same) e = absurd (apart (sym (ap cost same) ∙ e))
      all_first z (inr later) e = found.first z later e

  better_none : ((z : List ℕ) → IsOf z rest → cost z ≡ NoWay) → IsChosen cost (s ∷ rest) (better cost s None)
  better_none none = by_cost (cost s) refl
    where
      all_none : cost s ≡ NoWay → (z : List ℕ) → IsOf z (s ∷ rest) → cost z ≡ NoWay
      all_none here z (inl same) = ap cost same ∙ here
      all_none here z (inr later) = none z later

      by_cost : (p : Pot) → cost s ≡ p → IsChosen cost (s ∷ rest) (if is_way p then Some s else None)
      by_cost NoWay here = all_none here
      by_cost (To amount) here = stays (λ no_way. apart amount (sym here ∙ no_way)) (λ z later. subst (λ (p : Pot). AtMost (cost s) p) (sym (none z later)) (AtMost-NoWay (cost s)))
        where
          apart : (amount : ℤ) → To amount ≡ NoWay → ⊥
          apart amount e = cc

  better_some : (other : List ℕ) → IsFirstOf cost rest other → IsChosen cost (s ∷ rest) (better cost s (Some other))
  better_some other found = by_test (is_at_most (cost s) (cost other)) (at_most (cost s) (cost other) found.way) (dearer (cost s) (cost other) found.way)
    where
      at_most : (p q : Pot) → q ≢ NoWay → is_at_most p q ≡ true → (p ≢ NoWay) × AtMost p q
      at_most (To x) (To y) way test = (λ e. cc, grind (arith, ints))
      at_most (To x) NoWay way test = absurd (way refl)
      at_most NoWay q way test = absurd (cc)

      dearer : (p q : Pot) → q ≢ NoWay → is_at_most p q ≡ false → (p ≢ q) × AtMost q p
      dearer (To x) (To y) way test = (λ e. apart x y test e, grind (arith, ints))
        where
          apart : (x y : ℤ) → int_le x y ≡ false → To x ≡ To y → ⊥
          apart x y test e = let same : x ≡ y = cc in grind (arith, ints)
      dearer (To x) NoWay way test = absurd (way refl)
      dearer NoWay (To y) way test = (λ e. cc, tt)
      dearer NoWay NoWay way test = absurd (way refl)

      by_test : (test : Bool) → (test ≡ true → (cost s ≢ NoWay) × AtMost (cost s) (cost other)) → (test ≡ false → (cost s ≢ cost other) × AtMost (cost other) (cost s))
          → IsChosen cost (s ∷ rest) (if test then Some s else Some other)
      by_test true here else_ = let fact = here refl in stays fact.0 (λ z later. AtMost-trans (cost s) (cost other) (cost z) fact.1 (found.least z later))
      by_test false here else_ = let fact = else_ refl in passed other found fact.1 fact.0

  better_is : (found : Option (List ℕ)) → IsChosen cost rest found → IsChosen cost (s ∷ rest) (better cost s found)
  better_is None none = better_none none
  better_is (Some other) found = better_some other found

-- of ordered lists the first that costs least is chosen
chosen_is : (cost : List ℕ → Pot) (lists : List (List ℕ)) → AreOrdered lists → IsChosen cost lists (first_least_of cost lists)
unfolding first_least_of
chosen_is cost [] ordered = λ s there. absurd there
chosen_is cost (s ∷ rest) ordered = better_is cost s rest ordered.0 (first_least_of cost rest) (chosen_is cost rest ordered.1)

-- the moves of a way are there
way_below : (a : Arcs) (t level : ℕ) (s : List ℕ) → way_cost a t level s ≢ NoWay → AreBelow (length a.moves) s
way_below a t level [] way = tt
way_below a t level (m ∷ rest) way =
    let step = along_there (arc_cost a t m) (level_after a level m) (λ after. way_cost a (t + 1) after rest) way in
    (by_order (order m (length a.moves)) step.0 step.1, way_below a (t + 1) step.0 rest step.3)
  where
    order : (m n : ℕ) → (m < n) ⊎ (n ≤ m)
    order m n = grind arith

    by_order : (m < length a.moves) ⊎ (length a.moves ≤ m) → (after : ℕ) → level_after a level m ≡ Some after → m < length a.moves
    by_order (inl below) after leads = below
    by_order (inr past) after leads = let none = level_after_past a level m past in absurd (cc)

-- each way is among the lists
way_is_of : (a : Arcs) (s : List ℕ) → way_cost a 0 a.start s ≢ NoWay → IsOf s (lists_below (length a.moves) (intervals_of a))
way_is_of a s way = lists_all (length a.moves) (intervals_of a) s (omega (arith, way_length a 0 a.start s way)) (way_below a 0 a.start s way)

-- none where no list is a way, or the first of the cheapest ways
abbrev pub IsCheapestFound : Arcs → Option (List ℕ) → Type 0
IsCheapestFound a found = MatchOption found ((s : List ℕ) → way_cost a 0 a.start s ≡ NoWay) (IsFirstCheapest a 0 a.start)

-- what is chosen of all lists is cheapest
chosen_cheapest : (a : Arcs) (found : Option (List ℕ)) → IsChosen (way_cost a 0 a.start) (lists_below (length a.moves) (intervals_of a)) found → IsCheapestFound a found
chosen_cheapest a None none = λ s. elim (NoWay? (way_cost a 0 a.start s)) [ inl no_way ↦ no_way | inr way ↦ none s (way_is_of a s way) ]
chosen_cheapest a (Some s) found = record {
  way = found.way;
  least = λ z. elim (NoWay? (way_cost a 0 a.start z)) [
    | inl no_way ↦ subst (λ (p : Pot). AtMost (way_cost a 0 a.start s) p) (sym no_way) (AtMost-NoWay (way_cost a 0 a.start s))
    | inr way ↦ found.least z (way_is_of a z way)
  ];
  first = λ z same. found.first z (way_is_of a z (λ no_way. found.way (sym same ∙ no_way))) same;
}

-- the cheapest way as a value is the first of the cheapest, and none where there is no way
pub cheapest_is : (a : Arcs) → IsCheapestFound a (cheapest_of a)
cheapest_is a =
    chosen_cheapest a (cheapest_of a) (chosen_is (way_cost a 0 a.start) (lists_below (length a.moves) (intervals_of a)) (lists_ordered (length a.moves) (intervals_of a)))

-- the first of the cheapest ways is that value
pub cheapest_found : (a : Arcs) (s : List ℕ) → IsFirstCheapest a 0 a.start s → cheapest_of a ≡ Some s
cheapest_found a s first = by_found (cheapest_of a) (cheapest_is a)
  where
    by_found : (found : Option (List ℕ)) → IsCheapestFound a found → found ≡ Some s
    by_found None none = absurd (first.way (none s))
    by_found (Some z) other = ap Some (first_cheapest_same a 0 a.start z s other first)

-- where no list is a way there is none
pub cheapest_none : (a : Arcs) → ((s : List ℕ) → way_cost a 0 a.start s ≡ NoWay) → cheapest_of a ≡ None
cheapest_none a no_way = by_found (cheapest_of a) (cheapest_is a)
  where
    by_found : (found : Option (List ℕ)) → IsCheapestFound a found → found ≡ None
    by_found None none = refl
    by_found (Some z) other = absurd (other.way (no_way z))
