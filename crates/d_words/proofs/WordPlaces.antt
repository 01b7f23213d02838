-- Words by their places.
use Rattle.std.proofs.Common.{◌≡◌, ℕ, zero, suc, ◌+◌, ◌-◌, ◌≤◌, Bool, true, false, ℤ, List, [], ◌∷◌, ◌++◌, length, map, take, drop, slice_index, slice_index_or, bytes_eq, codes, arith, refl, sym, ap, subst, ◌∙◌, Option, Some, None}
use Rattle.std.proofs.Math.Seq.{take-append_seam}
use Rattle.std.proofs.lemmas.List.{append-nil, get_or-append-add, length-append, length-map, take-append-drop, take_rest, take-map, drop-map}
use Rattle.std.proofs.lemmas.Slice.Eq.{bytes_eq-Decides}
use Rattle.d_words.specs.Words.{Asked, Wanted, plan_with, metered_bill, schedule_bill, billing_words, peak_words, budget_words, GivesPeak, GivesBudget, IsPeak, IsBudget}
use Rattle.d_words.specs.Places.{BeginsWithRule, EndsInSchedule, EndsInBudget, IsPriorPeak, IsBilling, IsPlanEnd, IsJob, IsNamed, FindsPeak, FindsJob}
use Rattle.d_words.specs.declared.job.Job.{Job}

-- what is behind the first words, and what is in front of the last
pub behind : {X Y : Type 0} (f : X → Y) (n : ℕ) (xs : List X) → map f (take (length xs - n) (drop n xs)) ≡ drop n (map f xs)
behind f n xs = ap (map f) (take_rest xs n) ∙ sym (drop-map f n xs)

pub in_front : {X Y : Type 0} (f : X → Y) (n : ℕ) (xs : List X) → map f (take (length xs - n) xs) ≡ take (length (map f xs) - n) (map f xs)
in_front f n xs = sym (take-map f (length xs - n) xs) ∙ ap (λ (m : ℕ). take (m - n) (map f xs)) (sym (length-map xs f))

-- a list is its items and what is behind them
pub items : (n : ℕ) (words : List (List ℕ)) → suc n ≤ length words → drop n words ≡ slice_index_or words n [] ∷ drop (suc n) words
items n [] long = absurd (omega arith)
items zero (w ∷ words) long = refl
items (suc n) (w ∷ words) long = items n words (omega arith)

-- and no more at its end
pub no_items : (n : ℕ) (words : List (List ℕ)) → length words ≡ n → drop n words ≡ []
no_items zero [] long = refl
no_items zero (w ∷ words) long = absurd (omega (arith, long))
no_items (suc n) [] long = absurd (omega (arith, long))
no_items (suc n) (w ∷ words) long = no_items n words (omega (arith, long))

-- two words that give a prior peak give that of the second
pub given_peak : (words : List (List ℕ)) (text : List ℕ) (found : Option ℤ) → length words ≡ 2 → slice_index_or words 0 [] ≡ codes "--prior-peak"
    → text ≡ slice_index_or words 1 [] → FindsPeak (IsPeak text) found → FindsPeak (IsPriorPeak words) found
given_peak words text found long option at finds = by_found found finds
  where
    words_are : words ≡ codes "--prior-peak" ∷ text ∷ []
    words_are =
        let first = items 0 words (omega (arith, long)) in
        let second = items 1 words (omega (arith, long)) in
        let none = no_items 2 words long in
        cc

    peak_of : (t : Option (List ℕ)) (peak : ℤ) → words ≡ peak_words t → GivesPeak t peak → IsPeak text peak
    peak_of None peak same is = absurd (omega (arith, long, ap length same))
    peak_of (Some other) peak same is =
        let given : other ≡ text = sym (ap (λ (ws : List (List ℕ)). slice_index_or ws 1 []) same) ∙ sym at in
        subst (λ (t : List ℕ). IsPeak t peak) given is

    by_found : (o : Option ℤ) → FindsPeak (IsPeak text) o → FindsPeak (IsPriorPeak words) o
    by_found None none = λ peak is. none peak (peak_of is.text peak is.words_are is.peak_is)
    by_found (Some peak) is = record { text = Some text; words_are = words_are; peak_is = is }

-- words of billing that begin with a rule choose it, and a prior peak is what is behind
pub no_billing_ruled : (words rest : List (List ℕ)) → rest ≡ drop 2 words → BeginsWithRule words → ((peak : ℤ) → IsPriorPeak rest peak → ⊥)
    → (net_billing : Bool) (peak : ℤ) → IsBilling words net_billing peak → ⊥
no_billing_ruled words rest behind ruled none true peak is =
    none peak (record { text = is.text; words_are = behind ∙ ap (λ (ws : List (List ℕ)). drop 2 ws) is.words_are; peak_is = is.peak_is })
no_billing_ruled words rest behind ruled none false peak is = by_text is.text (subst BeginsWithRule is.words_are ruled)
  where
    by_text : (text : Option (List ℕ)) → BeginsWithRule (peak_words text) → ⊥
    by_text None r = absurd (omega (arith, r.long))
    by_text (Some t) r = absurd (omega (arith, ap length r.option))

-- those that don't choose none
pub no_billing_unruled : (words : List (List ℕ)) → (BeginsWithRule words → ⊥) → ((peak : ℤ) → IsPriorPeak words peak → ⊥)
    → (net_billing : Bool) (peak : ℤ) → IsBilling words net_billing peak → ⊥
no_billing_unruled words other none false peak is = none peak (record { text = is.text; words_are = is.words_are; peak_is = is.peak_is })
no_billing_unruled words other none true peak is =
    other (subst BeginsWithRule (sym is.words_are) (record { long = by_text is.text; option = refl; value = refl }))
  where
    by_text : (text : Option (List ℕ)) → 2 ≤ length (billing_words true text)
    by_text None = omega arith
    by_text (Some t) = omega arith

-- what a plan's words say is said behind its battery
pub no_plan : (words rest : List (List ℕ)) → rest ≡ drop 2 words
    → ((budget : Option ℕ) (net_billing : Bool) (peak : ℤ) → IsPlanEnd rest budget net_billing peak → ⊥)
    → (wanted : Wanted) (net_billing : Bool) (peak : ℤ) → IsJob (codes "plan") words wanted net_billing peak → ⊥
no_plan words rest behind none (plan_with battery budget) net_billing peak is =
    none budget net_billing peak (record {
      text = is.text;
      limit = is.limit;
      words_are = behind ∙ ap (λ (ws : List (List ℕ)). drop 2 ws) is.words_are;
      peak_is = is.peak_is;
      budget_is = is.budget_is;
    })
no_plan words rest behind none metered_bill net_billing peak is = absurd (omega (arith, ap (λ (w : List ℕ). slice_index w 0) is.command_is))
no_plan words rest behind none (schedule_bill battery schedule) net_billing peak is = absurd (omega (arith, ap (λ (w : List ℕ). slice_index w 0) is.command_is))

-- the two words of a budget end a list
budget_ends : (front : List (List ℕ)) (text : List ℕ) → EndsInBudget (front ++ budget_words (Some text))
budget_ends front text =
    let last = budget_words (Some text) in
    let long : length (front ++ last) ≡ length front + 2 = length-append front last in
    let first : length (front ++ last) - 2 ≡ length front + 0 = omega (arith, long) in
    record { long = omega (arith, long); option = ap (λ (n : ℕ). slice_index_or (front ++ last) n []) first ∙ get_or-append-add front last 0 [] }

budget_left : (front : List (List ℕ)) (text : List ℕ) → take (length (front ++ budget_words (Some text)) - 2) (front ++ budget_words (Some text)) ≡ front
budget_left front text =
    let last = budget_words (Some text) in
    let long : length (front ++ last) ≡ length front + 2 = length-append front last in
    let first : length (front ++ last) - 2 ≡ length front = omega (arith, long) in
    ap (λ (n : ℕ). take n (front ++ last)) first ∙ take-append_seam front last

budget_last : (front : List (List ℕ)) (text : List ℕ)
    → slice_index_or (front ++ budget_words (Some text)) (length (front ++ budget_words (Some text)) - 2 + 1) [] ≡ text
budget_last front text =
    let last = budget_words (Some text) in
    let long : length (front ++ last) ≡ length front + 2 = length-append front last in
    let second : length (front ++ last) - 2 + 1 ≡ length front + 1 = omega (arith, long) in
    ap (λ (n : ℕ). slice_index_or (front ++ last) n []) second ∙ get_or-append-add front last 1 []

-- words of billing alone don't end in a budget
billing_unlimited : (net_billing : Bool) (text : Option (List ℕ)) → EndsInBudget (billing_words net_billing text ++ []) → ⊥
billing_unlimited false None ends = absurd (omega (arith, ends.long))
billing_unlimited false (Some t) ends = absurd (omega (arith, ap length ends.option))
billing_unlimited true None ends = absurd (omega (arith, ap length ends.option))
billing_unlimited true (Some t) ends = absurd (omega (arith, ap length ends.option))

-- of the words behind a battery that end in a budget, those of billing are in front of the last two
pub no_limited : (words front : List (List ℕ)) → front ≡ take (length words - 2) words → EndsInBudget words
    → ((net_billing : Bool) (peak : ℤ) → IsBilling front net_billing peak → ⊥)
    → (budget : Option ℕ) (net_billing : Bool) (peak : ℤ) → IsPlanEnd words budget net_billing peak → ⊥
no_limited words front left ends none budget net_billing peak is = by_limit is.limit is.words_are
  where
    by_limit : (limit : Option (List ℕ)) → words ≡ billing_words net_billing is.text ++ budget_words limit → ⊥
    by_limit None same = billing_unlimited net_billing is.text (subst EndsInBudget same ends)
    by_limit (Some t) same = none net_billing peak (record {
      text = is.text;
      words_are = left ∙ ap (λ (ws : List (List ℕ)). take (length ws - 2) ws) same ∙ budget_left (billing_words net_billing is.text) t;
      peak_is = is.peak_is;
    })

-- and the last of them is the budget
pub no_budget : (words : List (List ℕ)) (text : List ℕ) → text ≡ slice_index_or words (length words - 2 + 1) [] → EndsInBudget words
    → ((budget : ℕ) → IsBudget text budget → ⊥)
    → (budget : Option ℕ) (net_billing : Bool) (peak : ℤ) → IsPlanEnd words budget net_billing peak → ⊥
no_budget words text at ends none budget net_billing peak is = by_limit is.limit budget is.words_are is.budget_is
  where
    by_limit : (limit : Option (List ℕ)) (boxes : Option ℕ) → words ≡ billing_words net_billing is.text ++ budget_words limit → GivesBudget limit boxes → ⊥
    by_limit None boxes same gives = billing_unlimited net_billing is.text (subst EndsInBudget same ends)
    by_limit (Some t) None same gives = gives
    by_limit (Some t) (Some boxes) same gives =
        let given : t ≡ text = sym (ap (λ (ws : List (List ℕ)). slice_index_or ws (length ws - 2 + 1) []) same ∙ budget_last (billing_words net_billing is.text) t) ∙ sym at in
        none boxes (subst (λ (w : List ℕ). IsBudget w boxes) given gives)

-- words that end in a budget are their front and these two
budget_are : (words : List (List ℕ)) (text : List ℕ) → EndsInBudget words → text ≡ slice_index_or words (length words - 2 + 1) []
    → words ≡ take (length words - 2) words ++ budget_words (Some text)
budget_are words text ends at = at_place (length words - 2) (omega (arith, ends.long)) ends.option at
  where
    at_place : (n : ℕ) → length words ≡ suc (suc n) → slice_index_or words n [] ≡ codes "--budget" → text ≡ slice_index_or words (n + 1) []
        → words ≡ take n words ++ budget_words (Some text)
    at_place n long first second =
        let one : n + 1 ≡ suc n = omega arith in
        let i0 = items n words (omega (arith, long)) in
        let i1 = items (suc n) words (omega (arith, long)) in
        let none = no_items (suc (suc n)) words long in
        let last : drop n words ≡ budget_words (Some text) = cc in
        sym (take-append-drop n words) ∙ ap (λ (ws : List (List ℕ)). take n words ++ ws) last

-- so they say it
pub limited : (words front : List (List ℕ)) (text : List ℕ) (budget : ℕ) (net_billing : Bool) (peak : ℤ) → front ≡ take (length words - 2) words
    → EndsInBudget words → text ≡ slice_index_or words (length words - 2 + 1) [] → IsBilling front net_billing peak → IsBudget text budget
    → IsPlanEnd words (Some budget) net_billing peak
limited words front text budget net_billing peak left ends at is gives = record {
  text = is.text;
  limit = Some text;
  words_are = budget_are words text ends at ∙ ap (λ (ws : List (List ℕ)). ws ++ budget_words (Some text)) (sym left ∙ is.words_are);
  peak_is = is.peak_is;
  budget_is = gives;
}

-- those that don't end in a budget are those of billing
pub no_unlimited : (words : List (List ℕ)) → (EndsInBudget words → ⊥) → ((net_billing : Bool) (peak : ℤ) → IsBilling words net_billing peak → ⊥)
    → (budget : Option ℕ) (net_billing : Bool) (peak : ℤ) → IsPlanEnd words budget net_billing peak → ⊥
no_unlimited words other none budget net_billing peak is = by_limit is.limit is.words_are
  where
    by_limit : (limit : Option (List ℕ)) → words ≡ billing_words net_billing is.text ++ budget_words limit → ⊥
    by_limit None same = none net_billing peak (record { text = is.text; words_are = same ∙ append-nil (billing_words net_billing is.text); peak_is = is.peak_is })
    by_limit (Some t) same = other (subst EndsInBudget (sym same) (budget_ends (billing_words net_billing is.text) t))

pub unlimited : (words : List (List ℕ)) (net_billing : Bool) (peak : ℤ) → IsBilling words net_billing peak → IsPlanEnd words None net_billing peak
unlimited words net_billing peak is = record {
  text = is.text;
  limit = None;
  words_are = is.words_are ∙ sym (append-nil (billing_words net_billing is.text));
  peak_is = is.peak_is;
  budget_is = tt;
}

-- the words of a schedule's files behind those of billing
two_files : List ℕ → List ℕ → List (List ℕ)
two_files battery schedule = codes "--battery" ∷ battery ∷ codes "--schedule" ∷ schedule ∷ []

files_behind : (front : List (List ℕ)) (battery schedule : List ℕ) → EndsInSchedule (front ++ two_files battery schedule)
unfolding two_files
files_behind front battery schedule =
    let files = two_files battery schedule in
    let long : length (front ++ files) ≡ length front + 4 = length-append front files in
    let first : length (front ++ files) - 4 ≡ length front + 0 = omega (arith, long) in
    let third : length (front ++ files) - 2 ≡ length front + 2 = omega (arith, long) in
    record {
      long = omega (arith, long);
      battery = ap (λ (n : ℕ). slice_index_or (front ++ files) n []) first ∙ get_or-append-add front files 0 [];
      schedule = ap (λ (n : ℕ). slice_index_or (front ++ files) n []) third ∙ get_or-append-add front files 2 [];
    }

front_left : (front : List (List ℕ)) (battery schedule : List ℕ) → take (length (front ++ two_files battery schedule) - 4) (front ++ two_files battery schedule) ≡ front
unfolding two_files
front_left front battery schedule =
    let files = two_files battery schedule in
    let long : length (front ++ files) ≡ length front + 4 = length-append front files in
    let first : length (front ++ files) - 4 ≡ length front = omega (arith, long) in
    ap (λ (n : ℕ). take n (front ++ files)) first ∙ take-append_seam front files

-- words of billing alone don't end in a schedule
billing_alone : (net_billing : Bool) (text : Option (List ℕ)) → EndsInSchedule (billing_words net_billing text) → ⊥
billing_alone false None ends = absurd (omega (arith, ends.long))
billing_alone false (Some t) ends = absurd (omega (arith, ends.long))
billing_alone true None ends = absurd (omega (arith, ends.long))
billing_alone true (Some t) ends = absurd (omega (arith, ap length ends.battery))

-- the words of a bill that don't end in a schedule are those of billing
pub no_metered : (words : List (List ℕ)) → (EndsInSchedule words → ⊥) → ((net_billing : Bool) (peak : ℤ) → IsBilling words net_billing peak → ⊥)
    → (wanted : Wanted) (net_billing : Bool) (peak : ℤ) → IsJob (codes "bill") words wanted net_billing peak → ⊥
unfolding two_files
no_metered words other none (plan_with battery budget) net_billing peak is = absurd (omega (arith, ap (λ (w : List ℕ). slice_index w 0) is.command_is))
no_metered words other none metered_bill net_billing peak is = none net_billing peak (record { text = is.text; words_are = is.words_are; peak_is = is.peak_is })
no_metered words other none (schedule_bill battery schedule) net_billing peak is =
    other (subst EndsInSchedule (sym is.words_are) (files_behind (billing_words net_billing is.text) battery schedule))

-- of those that do, the words of billing are in front of the last four
pub no_schedule : (words front : List (List ℕ)) → front ≡ take (length words - 4) words → EndsInSchedule words
    → ((net_billing : Bool) (peak : ℤ) → IsBilling front net_billing peak → ⊥)
    → (wanted : Wanted) (net_billing : Bool) (peak : ℤ) → IsJob (codes "bill") words wanted net_billing peak → ⊥
unfolding two_files
no_schedule words front left ends none (plan_with battery budget) net_billing peak is = absurd (omega (arith, ap (λ (w : List ℕ). slice_index w 0) is.command_is))
no_schedule words front left ends none metered_bill net_billing peak is = billing_alone net_billing is.text (subst EndsInSchedule is.words_are ends)
no_schedule words front left ends none (schedule_bill battery schedule) net_billing peak is =
    none net_billing peak (record {
      text = is.text;
      words_are = left ∙ ap (λ (ws : List (List ℕ)). take (length ws - 4) ws) is.words_are ∙ front_left (billing_words net_billing is.text) battery schedule;
      peak_is = is.peak_is;
    })

-- words that end in a schedule are their front and its files
files_are : (words : List (List ℕ)) (battery schedule : List ℕ) → EndsInSchedule words → battery ≡ slice_index_or words (length words - 4 + 1) []
    → schedule ≡ slice_index_or words (length words - 4 + 3) [] → words ≡ take (length words - 4) words ++ two_files battery schedule
unfolding two_files
files_are words battery schedule ends at_battery at_schedule =
    at_place (length words - 4) (omega (arith, ends.long)) ends.battery at_battery
    (ap (λ (n : ℕ). slice_index_or words n []) (third (length words) ends.long) ∙ ends.schedule) at_schedule
  where
    third : (n : ℕ) → 4 ≤ n → n - 4 + 2 ≡ n - 2
    third n long = omega (arith, long)

    at_place : (n : ℕ) → length words ≡ suc (suc (suc (suc n))) → slice_index_or words n [] ≡ codes "--battery" → battery ≡ slice_index_or words (n + 1) []
        → slice_index_or words (n + 2) [] ≡ codes "--schedule" → schedule ≡ slice_index_or words (n + 3) []
        → words ≡ take n words ++ two_files battery schedule
    at_place n long first second third fourth =
        let one : n + 1 ≡ suc n = omega arith in
        let two : n + 2 ≡ suc (suc n) = omega arith in
        let three : n + 3 ≡ suc (suc (suc n)) = omega arith in
        let i0 = items n words (omega (arith, long)) in
        let i1 = items (suc n) words (omega (arith, long)) in
        let i2 = items (suc (suc n)) words (omega (arith, long)) in
        let i3 = items (suc (suc (suc n))) words (omega (arith, long)) in
        let none = no_items (suc (suc (suc (suc n)))) words long in
        let files : drop n words ≡ two_files battery schedule = cc in
        sym (take-append-drop n words) ∙ ap (λ (ws : List (List ℕ)). take n words ++ ws) files

-- so they want its bill
pub schedule_job : (words front : List (List ℕ)) (battery schedule : List ℕ) (net_billing : Bool) (peak : ℤ) → front ≡ take (length words - 4) words → EndsInSchedule words
    → battery ≡ slice_index_or words (length words - 4 + 1) [] → schedule ≡ slice_index_or words (length words - 4 + 3) []
    → IsBilling front net_billing peak → IsJob (codes "bill") words (schedule_bill battery schedule) net_billing peak
unfolding two_files
schedule_job words front battery schedule net_billing peak left ends at_battery at_schedule is = record {
  text = is.text;
  limit = None;
  command_is = refl;
  words_are = files_are words battery schedule ends at_battery at_schedule
      ∙ ap (λ (ws : List (List ℕ)). ws ++ two_files battery schedule) (sym left ∙ is.words_are);
  peak_is = is.peak_is;
  budget_is = tt;
}

-- a command that is this name is told by it
pub same_command : (command name : List ℕ) (words : List (List ℕ)) (found : Option Job) → true ≡ bytes_eq command name → FindsJob name words found → FindsJob command words found
same_command command name words found same finds =
    let command_is : command ≡ name = (bytes_eq-Decides command name).0 (sym same) in
    subst (λ (n : List ℕ). FindsJob n words found) (sym command_is) finds

-- words that name something want a job behind the first seven
pub no_named : (words rest : List (List ℕ)) (command : List ℕ) → command ≡ slice_index_or words 0 [] → rest ≡ drop 7 words
    → ((wanted : Wanted) (net_billing : Bool) (peak : ℤ) → IsJob command rest wanted net_billing peak → ⊥) → (asked : Asked) → IsNamed words asked → ⊥
no_named words rest command at behind none asked is = none asked.wanted asked.net_billing asked.prior_peak (record {
  text = is.text;
  limit = is.limit;
  command_is = at ∙ ap (λ (ws : List (List ℕ)). slice_index_or ws 0 []) is.words_are;
  words_are = behind ∙ ap (λ (ws : List (List ℕ)). drop 7 ws) is.words_are;
  peak_is = is.peak_is;
  budget_is = is.budget_is;
})
