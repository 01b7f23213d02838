-- The halves of a problem's box that is split at a peak are such boxes.
use Rattle.std.proofs.Common.{◌≡◌, ◌∙◌, ℕ, ℤ, List, [], Some, length, sym, ap, subst, arith}
use Rattle.d_tier.specs.declared.peak.Peak.{Peak as Group}
use Rattle.d_box.specs.declared.space.Space.{Space}
use Rattle.d_box.specs.declared.space.Split.TheVariants.{Peak}
use Rattle.d_box.specs.Boxes.{left_half, right_half}
use Rattle.d_box.specs.Candidates.{list_at, next_above}
use Rattle.d_box.specs.Halves.{SplitsAreCuts}
use Rattle.d_box.specs.Splits.{IsSplitOf}
use Rattle.d_bill.specs.Inputs.{Inputs, IsInRange}
use Rattle.d_bound.specs.BoxLaws.{HalvesAreBoxes}
use Rattle.d_bound.specs.Roots.{AreCandidates, IsProblemBox}

pub halves_boxed : SplitsAreCuts → HalvesAreBoxes → (i : Inputs) (lists seen : List (List ℤ)) (groups : List Group) (space left right : Space) (group : ℕ) (at above : ℤ)
    → IsInRange i → AreCandidates i lists → IsProblemBox lists space → seen ≡ lists → groups ≡ i.peaks → IsSplitOf space [] groups seen (Some (Peak group at))
    → above ≡ next_above (list_at seen group) at → left ≡ left_half space (Peak group at) at → right ≡ right_half space (Peak group at) above
    → IsProblemBox lists left × IsProblemBox lists right
halves_boxed cuts boxes i lists seen groups space left right group at above fine candidates box seen_is groups_is split above_is left_is right_is =
    let count : length groups ≡ length i.peaks = ap (λ (l : List Group). length l) groups_is in
    let found : IsSplitOf space [] groups lists (Some (Peak group at)) = subst (λ (l : List (List ℤ)). IsSplitOf space [] groups l (Some (Peak group at))) seen_is split in
    let cut = cuts space [] groups lists (Peak group at) box.box (omega arith) (omega (arith, count, fine.flat_group, fine.few_demand_groups)) (candidates.long ∙ sym count) found in
    let both = boxes lists space (Peak group at) cut box in
    let next : above ≡ next_above (list_at lists group) at = above_is ∙ ap (λ (l : List (List ℤ)). next_above (list_at l group) at) seen_is in (
      subst (λ (s : Space). IsProblemBox lists s) (sym left_is) both.0,
      subst (λ (s : Space). IsProblemBox lists s) (sym (right_is ∙ ap (λ (x : ℤ). right_half space (Peak group at) x) next)) both.1,
    )
