-- What the rules of a problem are, one by one; everything else is said of them closed.
use Rattle.std.proofs.Common.{◌≡◌, ℕ, ℤ, List, [], Option, Some, None, IfSome, length, map, option_map, unwrap_or, sym, subst, ap, refl, arith, ◌∙◌}
use Rattle.d_box.specs.declared.space.Space.{Space}
use Rattle.d_box.specs.declared.space.Split.{Split}
use Rattle.d_box.specs.declared.space.Split.TheVariants.{Total, Peak}
use Rattle.d_box.specs.declared.slopes.Slopes.{Slopes}
use Rattle.d_box.specs.Boxes.{IsSplitThere, IsBox}
use Rattle.d_box.specs.Halves.{SplitsAreCuts, IsCut, left_of, right_of}
use Rattle.d_box.specs.Splits.{IsSplitOf}
use Rattle.d_box.specs.SplitPlaces.{split_place}
use Rattle.d_box.proofs.PlaceOfSplit.{split_is}
use Rattle.d_bill.specs.Inputs.{Inputs, IsInRange}
use Rattle.d_bill.specs.Bills.{bill_of}
use Rattle.d_bill.specs.Slopes.{tiered}
use Rattle.d_bound.specs.declared.node.Node.{Node}
use Rattle.d_bound.specs.Bounders.{IsWritten}
use Rattle.d_bound.specs.BoxLaws.{HalvesAreBoxes, BoundsComeWithBills}
use Rattle.d_bound.specs.Nodes.{tiered_tables, box_schedule, node_of}
use Rattle.d_bound.specs.Roots.{root_box, IsProblemBox}
use Rattle.d_search.specs.Rules.{ComeTogether}
use Rattle.d_search.specs.Laws.{BoundsHaveBills}
use Rattle.d_search.specs.Problems.{rules_of}
use Rattle.d_search.specs.Growths.{IsGroupThere, IsHalved}

module _ (i : Inputs) (lists : List (List ℤ)) where
  pub root_is : (rules_of i lists).root ≡ root_box i lists
  unfolding rules_of
  root_is = refl

  pub node_is : (space : Space) (parent : Option Slopes) → (rules_of i lists).node_of space parent ≡ node_of i space parent
  unfolding rules_of
  node_is space parent = refl

  schedule_is : (space : Space) (slopes : Slopes) → (rules_of i lists).schedule_of space slopes ≡ unwrap_or (box_schedule i space slopes) []
  unfolding rules_of
  schedule_is space slopes = refl

  place_is : (space : Space) → (rules_of i lists).split_of space ≡ split_place space (tiered_tables i) i.peaks lists
  unfolding rules_of
  place_is space = refl

  left_is : (space : Space) (split : Split) → (rules_of i lists).left_half space split ≡ left_of space split
  unfolding rules_of
  left_is space split = refl

  right_is : (space : Space) (split : Split) → (rules_of i lists).right_half space split ≡ right_of lists space split
  unfolding rules_of
  right_is space split = refl

  written_by : (o : Option (List ℕ)) (before after : List ℕ) → IsWritten o before after → IfSome (option_map (bill_of i) o) (λ bill. after ≡ unwrap_or o [])
  written_by None before after written = tt
  written_by (Some s) before after written = written

  -- the schedule that a node's bill is of is written
  pub schedule_written : (space : Space) (parent : Option Slopes) (node : Node) (before after : List ℕ) → node ≡ node_of i space parent
      → IsWritten (box_schedule i space node.slopes) before after
      → IfSome node.bill (λ bill. after ≡ (rules_of i lists).schedule_of space node.slopes)
  schedule_written space parent node before after is written =
      let billed : node.bill ≡ option_map (bill_of i) (box_schedule i space node.slopes) =
      ap (λ (n : Node). n.bill) is ∙ sym (ap (λ (n : Node). option_map (bill_of i) (box_schedule i space n.slopes)) is) in
      subst (λ (o : Option ℤ). IfSome o (λ bill. after ≡ (rules_of i lists).schedule_of space node.slopes)) (sym billed)
      (subst (λ (s : List ℕ). IfSome (option_map (bill_of i) (box_schedule i space node.slopes)) (λ bill. after ≡ s)) (sym (schedule_is space node.slopes))
      (written_by (box_schedule i space node.slopes) before after written))

  no_tables : tiered i ≡ [] → tiered_tables i ≡ []
  no_tables none = ap (map _) none

  -- where no period is tiered the split of a box is found with no tables
  pub place_found : tiered i ≡ [] → (space : Space) (found : Option Split) → IsSplitOf space [] i.peaks lists found → found ≡ (rules_of i lists).split_of space
  place_found none space found split =
      split_is space (tiered_tables i) i.peaks lists found (subst (λ tables. IsSplitOf space tables i.peaks lists found) (sym (no_tables none)) split)
      ∙ sym (place_is space)

  -- and the halves of a split are those of the rules
  pub halves_made : (space : Space) (split : Split) (left right : Space) → (rules_of i lists).split_of space ≡ Some split → left ≡ left_of space split
      → right ≡ right_of lists space split → IsHalved (rules_of i lists) space split left right
  halves_made space split left right some is_left is_right = record {
    some = some;
    left_is = is_left ∙ sym (left_is space split);
    right_is = is_right ∙ sym (right_is space split);
  }

-- a place where a box may be split names a range that is there
pub cut_group : (lists : List (List ℤ)) (space : Space) (split : Split) → IsCut lists space split → IsGroupThere (length lists) split
cut_group lists space (Total index at) cut = tt
cut_group lists space (Peak group at) cut = cut.1

pub cut_there : (lists : List (List ℤ)) (space : Space) (split : Split) → IsBox space → IsCut lists space split → IsSplitThere split
cut_there lists space (Total index at) box_is cut = let long = box_is.totals_long in let inside = cut.0 in omega arith
cut_there lists space (Peak group at) box_is cut = let long = box_is.peaks_long in let inside = cut.0 in omega arith

pub cut_found : SplitsAreCuts → (i : Inputs) → IsInRange i → (lists : List (List ℤ)) → length lists ≡ length i.peaks → (space : Space) → IsBox space
    → (found : Option Split) → IsSplitOf space [] i.peaks lists found → IfSome found (IsCut lists space)
cut_found cuts i range lists long space box_is None split = tt
cut_found cuts i range lists long space box_is (Some found) split =
    cuts space [] i.peaks lists found box_is (omega arith) (omega (arith, range.flat_group, range.few_demand_groups)) long split

-- the halves of a box go from candidate to candidate, as it does
pub half_boxes : (lists : List (List ℤ)) (space : Space) (split : Split) (left right : Space) → HalvesAreBoxes → IsCut lists space split
    → IsProblemBox lists space → left ≡ left_of space split → right ≡ right_of lists space split → IsProblemBox lists left × IsProblemBox lists right
half_boxes lists space split left right boxes cut boxed is_left is_right =
    let both = boxes lists space split cut boxed in (subst (IsProblemBox lists) (sym is_left) both.0, subst (IsProblemBox lists) (sym is_right) both.1)

-- the rules of a problem give a bound exactly where they give a bill
pub bounds_billed : BoundsComeWithBills → (i : Inputs) (lists : List (List ℤ)) → BoundsHaveBills (rules_of i lists)
bounds_billed together i lists space parent = subst ComeTogether (sym (node_is i lists space parent)) (together i space parent)
