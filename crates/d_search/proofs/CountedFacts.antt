-- The rules of a problem in which no period is tiered count the choices of candidates.
use Rattle.std.proofs.Common.{◌≡◌, ℕ, ◌+◌, ◌*◌, ◌≤◌, ℤ, List, [], ◌∷◌, Some, None, arith}
use Rattle.d_box.specs.declared.space.Range.{Range}
use Rattle.d_box.specs.declared.space.Space.{Space}
use Rattle.d_box.specs.declared.space.Split.{Split}
use Rattle.d_box.specs.declared.space.Split.TheVariants.{Total, Peak}
use Rattle.d_box.specs.Halves.{left_of, right_of, weight, combinations}
use Rattle.d_box.specs.SplitPlaces.{split_place}
use Rattle.d_box.proofs.CombinationFacts.{shared}
use Rattle.d_bill.specs.Inputs.{Inputs}
use Rattle.d_bound.specs.Roots.{AreCandidates, IsProblemBox}
use Rattle.d_bound.specs.Nodes.{tiered_tables}
use Rattle.d_bound.specs.BoxLaws.{IsUntiered}
use Rattle.d_bound.proofs.NodeFacts.{points_meets}
use Rattle.d_search.specs.Rules.{IsCounted}
use Rattle.d_search.specs.Problems.{rules_of, meaning_of, choices}
use Rattle.d_search.proofs.LawfulFacts.{no_tables, place_is, cut_is}

product_some : (a b : ℕ) → 1 ≤ a → 1 ≤ b → 1 ≤ a * b
product_some a b some more = grind arith

-- there is a choice
some_choice : (lists : List (List ℤ)) (ranges : List Range) → 1 ≤ combinations lists ranges
unfolding combinations
some_choice [] ranges = omega arith
some_choice (list ∷ lists) [] = omega arith
some_choice (list ∷ lists) (range ∷ ranges) = product_some (weight list range) (combinations lists ranges) (omega arith) (some_choice lists ranges)

-- where no period is tiered a peak is split, and both halves share the choices
shared_is : (i : Inputs) (lists : List (List ℤ)) → IsUntiered i → AreCandidates i lists → (space : Space) (split : Split) → IsProblemBox lists space
    → split_place space (tiered_tables i) i.peaks lists ≡ Some split
    → choices lists space ≡ choices lists (left_of space split) + choices lists (right_of lists space split)
shared_is i lists untiered candidates space (Total index at) box is =
    let inside = (place_is i lists untiered candidates space (Some (Total index at)) box is).inside in
    absurd (omega (arith, no_tables i lists untiered candidates))
shared_is i lists untiered candidates space (Peak group at) box is =
    shared lists space group at (cut_is i lists untiered candidates space (Peak group at) box is)

pub rules_counted : (i : Inputs) (lists : List (List ℤ)) → IsUntiered i → AreCandidates i lists → IsCounted (rules_of i lists) (meaning_of i lists) (choices lists)
unfolding rules_of
rules_counted i lists untiered candidates = record {
  some = λ space box. some_choice lists space.peaks;
  shared = shared_is i lists untiered candidates;
  met = λ space parent box is. points_meets i lists space parent untiered box (place_is i lists untiered candidates space None box is);
}
