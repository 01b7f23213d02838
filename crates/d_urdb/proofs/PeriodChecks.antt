-- The rules of a period, one after the other.
use Rattle.std.proofs.Common.{◌≡◌, ℕ, List, [], ◌∷◌, ◌++◌, Option, None, Some, Err, true, false, not, ◌&&◌, Bool, suc, ◌<◌, option_map, refl, ap, sym, ◌∙◌}
use Rattle.d_urdb.specs.declared.fault.Refused.{Refused}
use Rattle.d_urdb.specs.declared.fault.RecordFault.{RecordFault}
use Rattle.d_urdb.specs.declared.fault.RecordFault.TheVariants as fault
use Rattle.d_columns.specs.declared.names.Structure.{Structure}
use Rattle.d_urdb.specs.declared.tier_rule.TierRule.{TierRule}
use Rattle.d_urdb.specs.declared.tier_rule.TierRule.TheVariants.{Numbers, Units, Order, Sells, Falls}
use Rattle.d_urdb.specs.Numbers.{CellReader, IsCellReader}
use Rattle.d_columns.specs.Tiers.{Row, IsLeastHole, first_filled, has_tier}
use Rattle.d_urdb.specs.Refusals.{first_of, each, refusal, when}
use Rattle.d_urdb.specs.Periods.{period_refusals, hole_refusal, is_last, is_above, begin_of, end_of, breaks_order, has_negative_price}
use Rattle.d_urdb.specs.Values.{HasRisingEnds}
use Rattle.d_urdb.specs.Checks.{Passes, Refuses, ChecksOrNot, IsHoleCheck, tier_refusals}
use Rattle.d_columns.proofs.HoleLaws.{hole_once}
use Rattle.d_urdb.proofs.OneReader.{one_reader}
use Rattle.d_urdb.proofs.RefusalOrder.{both_pass, first_refuses, then_refuses, front_none, each_none}
use Rattle.d_urdb.specs.declared.cause.Cause.TheVariants as cause

-- the refusals of a period by one of the rules
abbrev pub by_rule : Row → Structure → ℕ → TierRule → CellReader → List (Option Refused)
by_rule row structure period rule reader = each 16 (tier_refusals rule reader row structure period)

-- the refusal of its holes
abbrev pub by_hole : Row → Structure → ℕ → CellReader → List (Option Refused)
by_hole row structure period reader = hole_refusal reader row structure period ∷ []

-- the refusals by the last two of the rules
abbrev lasts : Row → Structure → ℕ → CellReader → List (Option Refused)
lasts row structure period reader = by_rule row structure period Sells reader ++ by_rule row structure period Falls reader

-- a period has no other refusals
all_rules : Row → Structure → ℕ → CellReader → List (Option Refused)
all_rules row structure period reader =
    by_hole row structure period reader
    ++ (by_rule row structure period Numbers reader
    ++ (by_rule row structure period Units reader ++ (by_rule row structure period Order reader ++ lasts row structure period reader)))

are_all : (row : Row) (structure : Structure) (period : ℕ) (reader : CellReader) → all_rules row structure period reader ≡ period_refusals reader row structure period
unfolding all_rules period_refusals each
are_all row structure period reader = refl

-- holes that are looked for
pub holes_pass : (row : Row) (structure : Structure) (period : ℕ) → IsLeastHole row structure period None → Passes (by_hole row structure period)
unfolding first_of
holes_pass row structure period none reader are =
    let found : reader.hole row structure period ≡ None = hole_once row structure period (reader.hole row structure period) None (are.hole_is row structure period) none in
    rw found refl

pub hole_refuses : (row : Row) (structure : Structure) (period tier : ℕ) (refused : Refused) → IsLeastHole row structure period (Some tier)
    → refused ≡ refusal row.header cause.TierHole (first_filled row structure period tier) 0 → Refuses (by_hole row structure period) refused
unfolding first_of
hole_refuses row structure period tier refused least is reader are =
    let found : reader.hole row structure period ≡ Some tier = hole_once row structure period (reader.hole row structure period) (Some tier) (are.hole_is row structure period) least in
    rw (found, is) refl

-- the period, by its parts
known : (row : Row) (structure : Structure) (period : ℕ) (refused : Refused) → Refuses (all_rules row structure period) refused
    → Refuses (λ reader. period_refusals reader row structure period) refused
known row structure period refused parts reader are = ap first_of (sym (are_all row structure period reader)) ∙ parts reader are

pub period_holes : (row : Row) (structure : Structure) (period : ℕ) (found : RecordFault) → IsHoleCheck row structure period (Err found)
    → ChecksOrNot {A = Unit {0}} (λ reader. period_refusals reader row structure period) (Err found)
unfolding all_rules
period_holes row structure period (fault.Refused refused) (tier, least, is) =
    known row structure period refused
    (first_refuses (by_hole row structure period) (λ reader. by_rule row structure period Numbers reader
    ++ (by_rule row structure period Units reader ++ (by_rule row structure period Order reader ++ lasts row structure period reader))) refused
    (hole_refuses row structure period tier refused least is))
period_holes row structure period fault.Memory is = tt

pub period_numbers : (row : Row) (structure : Structure) (period : ℕ) (refused : Refused) → IsLeastHole row structure period None
    → Refuses (by_rule row structure period Numbers) refused → Refuses (λ reader. period_refusals reader row structure period) refused
unfolding all_rules
period_numbers row structure period refused none here =
    let last : CellReader → List (Option Refused) = λ reader. by_rule row structure period Units reader ++ (by_rule row structure period Order reader ++ lasts row structure period reader) in
    known row structure period refused
    (then_refuses (by_hole row structure period) (λ reader. by_rule row structure period Numbers reader ++ last reader) refused (holes_pass row structure period none)
    (first_refuses (by_rule row structure period Numbers) last refused here))

pub period_units : (row : Row) (structure : Structure) (period : ℕ) (refused : Refused) → IsLeastHole row structure period None
    → Passes (by_rule row structure period Numbers) → Refuses (by_rule row structure period Units) refused
    → Refuses (λ reader. period_refusals reader row structure period) refused
unfolding all_rules
period_units row structure period refused none numbers here =
    let last : CellReader → List (Option Refused) = λ reader. by_rule row structure period Order reader ++ lasts row structure period reader in
    known row structure period refused
    (then_refuses (by_hole row structure period) (λ reader. by_rule row structure period Numbers reader ++ (by_rule row structure period Units reader ++ last reader)) refused
    (holes_pass row structure period none)
    (then_refuses (by_rule row structure period Numbers) (λ reader. by_rule row structure period Units reader ++ last reader) refused numbers
    (first_refuses (by_rule row structure period Units) last refused here)))

pub period_order : (row : Row) (structure : Structure) (period : ℕ) (refused : Refused) → IsLeastHole row structure period None
    → Passes (by_rule row structure period Numbers) → Passes (by_rule row structure period Units) → Refuses (by_rule row structure period Order) refused
    → Refuses (λ reader. period_refusals reader row structure period) refused
unfolding all_rules
period_order row structure period refused none numbers units here =
    let last : CellReader → List (Option Refused) = lasts row structure period in
    known row structure period refused
    (then_refuses (by_hole row structure period) (λ reader. by_rule row structure period Numbers reader ++ (by_rule row structure period Units reader ++ (by_rule row structure period Order reader ++ last reader))) refused
    (holes_pass row structure period none)
    (then_refuses (by_rule row structure period Numbers) (λ reader. by_rule row structure period Units reader ++ (by_rule row structure period Order reader ++ last reader)) refused numbers
    (then_refuses (by_rule row structure period Units) (λ reader. by_rule row structure period Order reader ++ last reader) refused units
    (first_refuses (by_rule row structure period Order) last refused here))))

period_lasts : (row : Row) (structure : Structure) (period : ℕ) (refused : Refused) → IsLeastHole row structure period None
    → Passes (by_rule row structure period Numbers) → Passes (by_rule row structure period Units) → Passes (by_rule row structure period Order)
    → Refuses (lasts row structure period) refused → Refuses (λ reader. period_refusals reader row structure period) refused
unfolding all_rules
period_lasts row structure period refused none numbers units order here =
    let last : CellReader → List (Option Refused) = lasts row structure period in
    known row structure period refused
    (then_refuses (by_hole row structure period) (λ reader. by_rule row structure period Numbers reader ++ (by_rule row structure period Units reader ++ (by_rule row structure period Order reader ++ last reader))) refused
    (holes_pass row structure period none)
    (then_refuses (by_rule row structure period Numbers) (λ reader. by_rule row structure period Units reader ++ (by_rule row structure period Order reader ++ last reader)) refused numbers
    (then_refuses (by_rule row structure period Units) (λ reader. by_rule row structure period Order reader ++ last reader) refused units
    (then_refuses (by_rule row structure period Order) last refused order here))))

pub period_sells : (row : Row) (structure : Structure) (period : ℕ) (refused : Refused) → IsLeastHole row structure period None
    → Passes (by_rule row structure period Numbers) → Passes (by_rule row structure period Units) → Passes (by_rule row structure period Order)
    → Refuses (by_rule row structure period Sells) refused → Refuses (λ reader. period_refusals reader row structure period) refused
period_sells row structure period refused none numbers units order here =
    period_lasts row structure period refused none numbers units order (first_refuses (by_rule row structure period Sells) (by_rule row structure period Falls) refused here)

pub period_falls : (row : Row) (structure : Structure) (period : ℕ) (refused : Refused) → IsLeastHole row structure period None
    → Passes (by_rule row structure period Numbers) → Passes (by_rule row structure period Units) → Passes (by_rule row structure period Order)
    → Passes (by_rule row structure period Sells) → Refuses (by_rule row structure period Falls) refused
    → Refuses (λ reader. period_refusals reader row structure period) refused
period_falls row structure period refused none numbers units order sells here =
    period_lasts row structure period refused none numbers units order
    (then_refuses (by_rule row structure period Sells) (by_rule row structure period Falls) refused sells here)

pub period_passes : (row : Row) (structure : Structure) (period : ℕ) → IsLeastHole row structure period None
    → Passes (by_rule row structure period Numbers) → Passes (by_rule row structure period Units) → Passes (by_rule row structure period Order)
    → Passes (by_rule row structure period Sells) → Passes (by_rule row structure period Falls)
    → Passes (λ reader. period_refusals reader row structure period)
unfolding all_rules
period_passes row structure period none numbers units order sells falls reader are =
    let all : Passes (all_rules row structure period) =
    both_pass (by_hole row structure period) (λ reader. by_rule row structure period Numbers reader ++ (by_rule row structure period Units reader ++ (by_rule row structure period Order reader ++ lasts row structure period reader)))
    (holes_pass row structure period none)
    (both_pass (by_rule row structure period Numbers) (λ reader. by_rule row structure period Units reader ++ (by_rule row structure period Order reader ++ lasts row structure period reader)) numbers
    (both_pass (by_rule row structure period Units) (λ reader. by_rule row structure period Order reader ++ lasts row structure period reader) units
    (both_pass (by_rule row structure period Order) (lasts row structure period) order
    (both_pass (by_rule row structure period Sells) (by_rule row structure period Falls) sells falls)))) in
    ap first_of (sym (are_all row structure period reader)) ∙ all reader are

-- a period of which nothing is refused has rising ends
order_told : (a b : Bool) → a ≡ false → (not a && not b) ≡ false → b ≡ true
order_told a true last none = refl
order_told a false last none = absurd (let e : true ≡ false = rw last at none in cc)

pub when_none : (test : Bool) (refused : Refused) → first_of (when test refused ∷ []) ≡ None → test ≡ false
unfolding first_of
when_none true refused none = absurd (let e : Some refused ≡ None = none in cc)
when_none false refused none = refl

last_told : (row : Row) (structure : Structure) (period tier : ℕ) → has_tier row structure period (suc tier) ≡ true → is_last row structure period tier ≡ false
last_told row structure period tier there = rw there refl

hole_none : (row : Row) (structure : Structure) (period : ℕ) (hole : Option ℕ) → IsLeastHole row structure period hole
    → first_of (option_map (λ tier. refusal row.header cause.TierHole (first_filled row structure period tier) 0) hole ∷ []) ≡ None → IsLeastHole row structure period None
unfolding first_of
hole_none row structure period None is none = is
hole_none row structure period (Some tier) is none =
    absurd (let e : Some (refusal row.header cause.TierHole (first_filled row structure period tier) 0) ≡ None = none in cc)

pub period_rises : (row : Row) (structure : Structure) (period : ℕ) → Passes (λ reader. period_refusals reader row structure period)
    → HasRisingEnds row structure period
unfolding all_rules
period_rises row structure period passes = record { no_hole = no_hole; rising = rising }
  where
    all : (reader : CellReader) → IsCellReader reader → first_of (all_rules row structure period reader) ≡ None
    all reader are = ap first_of (are_all row structure period reader) ∙ passes reader are

    no_hole : IsLeastHole row structure period None
    no_hole =
        let reader = one_reader.reader in
        let parts = front_none (by_hole row structure period reader) (by_rule row structure period Numbers reader
        ++ (by_rule row structure period Units reader ++ (by_rule row structure period Order reader ++ lasts row structure period reader))) (all reader one_reader.is_reader) in
        hole_none row structure period (reader.hole row structure period) (one_reader.is_reader.hole_is row structure period) parts.0

    order : (reader : CellReader) → IsCellReader reader → first_of (by_rule row structure period Order reader) ≡ None
    order reader are =
        let holes = front_none (by_hole row structure period reader) (by_rule row structure period Numbers reader
        ++ (by_rule row structure period Units reader ++ (by_rule row structure period Order reader ++ lasts row structure period reader))) (all reader are) in
        let numbers = front_none (by_rule row structure period Numbers reader)
        (by_rule row structure period Units reader ++ (by_rule row structure period Order reader ++ lasts row structure period reader)) holes.1 in
        let units = front_none (by_rule row structure period Units reader) (by_rule row structure period Order reader ++ lasts row structure period reader) numbers.1 in
        (front_none (by_rule row structure period Order reader) (lasts row structure period reader) units.1).0

    rising : (reader : CellReader) → IsCellReader reader → (tier : ℕ) → tier < 16 → has_tier row structure period (suc tier) ≡ true
        → is_above (begin_of reader row structure period tier) (end_of reader row structure period tier) ≡ true
    rising reader are tier below there =
        let none = each_none 16 tier (tier_refusals Order reader row structure period) below (order reader are) in
        order_told (is_last row structure period tier) (is_above (begin_of reader row structure period tier) (end_of reader row structure period tier))
        (last_told row structure period tier there) (when_none (breaks_order reader row structure period tier) _ none)

-- and no price of demand below 0
pub period_not_falling : (row : Row) (structure : Structure) (period : ℕ) → Passes (λ reader. period_refusals reader row structure period)
    → (reader : CellReader) → IsCellReader reader → (tier : ℕ) → tier < 16 → has_negative_price reader row structure period tier ≡ false
unfolding all_rules
period_not_falling row structure period passes reader are tier below =
    let all : first_of (all_rules row structure period reader) ≡ None = ap first_of (are_all row structure period reader) ∙ passes reader are in
    let holes = front_none (by_hole row structure period reader) (by_rule row structure period Numbers reader
    ++ (by_rule row structure period Units reader ++ (by_rule row structure period Order reader ++ lasts row structure period reader))) all in
    let numbers = front_none (by_rule row structure period Numbers reader)
    (by_rule row structure period Units reader ++ (by_rule row structure period Order reader ++ lasts row structure period reader)) holes.1 in
    let units = front_none (by_rule row structure period Units reader) (by_rule row structure period Order reader ++ lasts row structure period reader) numbers.1 in
    let order = front_none (by_rule row structure period Order reader) (lasts row structure period reader) units.1 in
    let falls = (front_none (by_rule row structure period Sells reader) (by_rule row structure period Falls reader) order.1).1 in
    when_none (has_negative_price reader row structure period tier) _ (each_none 16 tier (tier_refusals Falls reader row structure period) below falls)
