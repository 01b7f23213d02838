-- The rules of a problem in which no period is tiered are lawful.
use Rattle.std.proofs.Common.{◌≡◌, ℕ, ℤ, ◌≤◌, List, [], Option, Some, None, length, option_map, unwrap_or, arith, sym, ap, refl, subst, ◌∙◌}
use Rattle.std.proofs.lemmas.List.{length-map}
use Rattle.std.proofs.lemmas.Option.{none-some}
use Rattle.d_box.specs.declared.space.Space.{Space}
use Rattle.d_box.specs.declared.space.Split.{Split}
use Rattle.d_box.specs.declared.slopes.Slopes.{Slopes}
use Rattle.d_box.specs.Halves.{IsCut, left_of, right_of}
use Rattle.d_box.specs.Splits.{IsSplitOf}
use Rattle.d_box.specs.SplitPlaces.{split_place}
use Rattle.d_box.proofs.HalfFacts.{cuts, parts}
use Rattle.d_box.proofs.PlaceOfSplit.{split_place_is}
use Rattle.d_bill.specs.Inputs.{Inputs}
use Rattle.d_bill.specs.Slopes.{tiered}
use Rattle.d_bill.specs.Bills.{raised, bill_of}
use Rattle.d_tariff.specs.Terms.{period_at}
use Rattle.d_bound.specs.Roots.{AreCandidates, IsProblemBox}
use Rattle.d_bound.specs.Nodes.{tiers_in, tiered_tables, box_schedule, relaxed_by, slopes_of, node_of}
use Rattle.d_bound.specs.BoxLaws.{IsUntiered}
use Rattle.d_bound.proofs.RootFacts.{roots_boxes, roots_holds, halves_boxes, halves_holds}
use Rattle.d_bound.proofs.BoxFacts.{bounds_below, bills_reached}
use Rattle.d_bound.proofs.NodeFacts.{bounds_rises}
use Rattle.d_search.specs.Rules.{IsBillOf, IsLawful}
use Rattle.d_search.specs.Laws.{BoundsHaveBills}
use Rattle.d_search.specs.Problems.{schedule_in, rules_of, meaning_of}

-- what is found of a schedule is none exactly where the schedule is none
come_together : (relaxed bill : List ℕ → ℤ) (raise : ℤ → ℤ) (found : Option (List ℕ))
    → (option_map raise (option_map relaxed found) ≡ None → option_map bill found ≡ None)
    × (option_map bill found ≡ None → option_map raise (option_map relaxed found) ≡ None)
come_together relaxed bill raise None = (λ e. refl, λ e. refl)
come_together relaxed bill raise (Some s) = (λ e. absurd (none-some (raise (relaxed s)) (sym e)), λ e. absurd (none-some (bill s) (sym e)))

-- the rules of each problem give a box a bound exactly where they give it a bill
pub bounds_have_bills : (i : Inputs) (lists : List (List ℤ)) → BoundsHaveBills (rules_of i lists)
unfolding rules_of
bounds_have_bills i lists space parent =
    let slopes = slopes_of i space parent in
    come_together (relaxed_by i space slopes) (bill_of i) (raised i.minimum) (box_schedule i space slopes)

few_peaks : (i : Inputs) → IsUntiered i → length i.peaks ≤ 37
few_peaks i untiered = let a = untiered.range.few_demand_groups in let b = untiered.range.flat_group in omega arith

module _ (i : Inputs) (lists : List (List ℤ)) (untiered : IsUntiered i) (candidates : AreCandidates i lists) where
  pub no_tables : length (tiered_tables i) ≡ 0
  no_tables = length-map (tiered i) (λ number. tiers_in (period_at i.energy number)) ∙ ap (λ (l : List ℕ). length l) untiered.none

  -- where a box is split is its split
  pub place_is : (space : Space) (found : Option Split) → IsProblemBox lists space → split_place space (tiered_tables i) i.peaks lists ≡ found
      → IsSplitOf space (tiered_tables i) i.peaks lists found
  place_is space found box is =
      subst (IsSplitOf space (tiered_tables i) i.peaks lists) is
      (split_place_is space (tiered_tables i) i.peaks lists candidates.long box.ends candidates.rising)

  pub cut_is : (space : Space) (split : Split) → IsProblemBox lists space → split_place space (tiered_tables i) i.peaks lists ≡ Some split → IsCut lists space split
  cut_is space split box is =
      cuts space (tiered_tables i) i.peaks lists split box.box (omega (arith, no_tables)) (few_peaks i untiered) candidates.long
      (place_is space (Some split) box is)

  -- the bill of a node is that of its schedule
  reached_is : (space : Space) (parent : Option Slopes) (bill : ℤ) → (node_of i space parent).bill ≡ Some bill
      → IsBillOf (meaning_of i lists) bill (schedule_in i space (node_of i space parent).slopes)
  reached_is space parent bill is =
      let found = bills_reached i space parent bill untiered is in
      subst (IsBillOf (meaning_of i lists) bill) (sym (ap (λ (o : Option (List ℕ)). unwrap_or o []) found.1.found))
      (record { feasible = found.1.feasible; billed = found.1.bill })

pub rules_lawful : (i : Inputs) (lists : List (List ℤ)) → IsUntiered i → AreCandidates i lists → IsLawful (rules_of i lists) (meaning_of i lists)
unfolding rules_of
rules_lawful i lists untiered candidates = record {
  root_box = roots_boxes i lists untiered candidates;
  root_holds = λ z feasible. roots_holds i lists z untiered candidates feasible;
  nodes = λ space parent box. record {
    below = λ z feasible holds. bounds_below i space parent z untiered feasible holds;
    together = bounds_have_bills i lists space parent;
    reached = reached_is i lists untiered candidates space parent;
  };
  splits = λ space split box is.
      let cut = cut_is i lists untiered candidates space split box is in
      let both = halves_boxes lists space split cut box in
      record { left_box = both.0; right_box = both.1; held = λ z feasible holds. halves_holds i lists space split z untiered candidates cut feasible holds };
  left_rises = λ space parent split box is.
      bounds_rises i (left_of space split) space parent untiered (parts lists space split (cut_is i lists untiered candidates space split box is)).0;
  right_rises = λ space parent split box is.
      bounds_rises i (right_of lists space split) space parent untiered (parts lists space split (cut_is i lists untiered candidates space split box is)).1;
}
