-- To every list of words and all files there is exactly one answer.
use Rattle.std.proofs.Common.{◌≡◌, ◌⊎◌, inl, inr, ℕ, ◌^◌, ◌<◌, ◌≤◌, Option, None, Some, List, [], ◌∷◌, codes, length, refl, sym, ap, subst, ◌∙◌, arith}
use Rattle.d_desk.specs.Scene.{Files, bytes_in}
use Rattle.d_bill.specs.Inputs.{Inputs, IsInRange}
use Rattle.d_bill.specs.Schedules.{IsFeasible, IsFirstBreak}
use Rattle.d_bill.specs.Join.{IsSettled}
use Rattle.d_bill.specs.Slopes.{tiered}
use Rattle.d_bill.specs.Totals.{tally_of}
use Rattle.d_bill.proofs.Laws.{break_excludes, first_break_same}
use Rattle.d_bound.specs.BoxLaws.{IsUntiered}
use Rattle.d_search.specs.declared.outcome.Outcome.{Outcome}
use Rattle.d_search.specs.declared.outcome.Verdict.{Verdict as Ending}
use Rattle.d_search.specs.declared.outcome.Verdict.TheVariants as ending
use Rattle.d_search.specs.Problems.{IsSearched, IsPromised}
use Rattle.d_report.specs.declared.finding.Found.{Found}
use Rattle.d_report.specs.declared.finding.Found.TheVariants as found
use Rattle.d_words.specs.Words.{Asked, Wanted, IsRequest, budget_of, plan_with, metered_bill as wants_metered_bill, schedule_bill}
use Rattle.d_report.specs.Charges.{bill_text}
use Rattle.d_report.specs.Plans.{plan_text}
use Rattle.d_run.specs.Text.{break_text}
use Rattle.d_run.specs.Record.{IsRecord}
use Rattle.d_batt.specs.Storage.{Storage, IsStorage}
use Rattle.d_report.specs.Lines.{line}
use Rattle.d_meter.specs.Meters.{Metered}
use Rattle.d_tariff.specs.Terms.{Terms}
use Rattle.d_words.specs.Shows.{Seen, IsShow}
use Rattle.d_words.proofs.ShowFound.{one_show, show_or_none, show_alone}
use Rattle.d_run.specs.RecordText.{hourly_text}
use Rattle.d_run.specs.Answer.{Answer, Reads, is_too_long, is_refused, goes_on, says, after_opening, refused, IsPlanned, no_schedule, least, gap, gap_of, finding, IsPlanFor, IsWithinSizes, is_too_large, is_within, product_for, IsBilled, billed, broken, IsFor, IsPlannable, has_tiers, is_untiered, no_storage, joined, Settles, unsettled, settled, IsWithTerms, IsAnswerTo, IsTariffOf, IsShownTo, labelled_in, IsAnswer, rule_of, no_request, request, show, rows_in, ReadsBattery, ReadsSchedule, RefusesRecord, RefusesReadings, MeansReadings, RefusesBattery, MeansBattery, RefusesSchedule, MeansSchedule, longest_file, longest_record}
use Rattle.d_run.specs.Law.{HasAnswer}
use Rattle.d_run.specs.declared.verdict.Verdict.TheVariants as verdict
use Rattle.d_run.specs.declared.fault.Refusal.{Refusal}
use Rattle.d_run.specs.declared.fault.Refusal.TheVariants.{Words, LongRecord, LongReadings, TiersNotYet, LongBattery, Product, LongSchedule}
use Rattle.d_run.proofs.StageFacts.{IsKnown, known_refused, known_value}
use Rattle.d_bill.proofs.Deciding.{Decided, holds, fails, at_most}
use Rattle.d_words.proofs.RequestFound.{request_or_none, one_request}
use Rattle.d_run.proofs.RecordFound.{record_known}
use Rattle.d_run.proofs.FilesKnown.{month_known, battery_known, battery_is, schedule_known, joined_in_range}
use Rattle.d_run.proofs.PlanStages.{untiered_follows}
use Rattle.d_run.proofs.PlanFacts.{none_feasible, is_least, is_between}
use Rattle.d_run.proofs.BudgetFacts.{IsOnlyBudget, budget_one, given_some}
use Rattle.d_search.specs.ProblemLaws.{IsOnlySearch}
use Rattle.d_search.proofs.SearchFacts.{searched_once, search_promise}
use Rattle.d_run.proofs.SettleStages.{settled_decided, settled_follows}
use Rattle.d_run.proofs.ScheduleBreaks.{break_or_feasible}

-- an answer of which this holds, and of no other
pub record HasOne (Is : Answer → Type 0) : Type 0 where
  pub answer : Answer
  pub is : Is answer
  pub only : (other : Answer) → Is other → other ≡ answer

-- one file's part
module _ {V : Type 0} (files : Files) (name : List ℕ) (limit : ℕ) (too_long : Refusal) (Refuses : Answer → Type 0) (Means : V → Type 0) (Next : V → Answer → Type 0) where
  pub reads_one : IsKnown Refuses Means → ((value : V) → Means value → HasOne (Next value)) → HasOne (Reads files name limit too_long Refuses Means Next)
  reads_one known next = by_size (at_most (length (bytes_in files name)) limit)
    where
      long_only : limit < length (bytes_in files name) → (other : Answer) → Reads files name limit too_long Refuses Means Next other → other ≡ after_opening name (refused too_long)
      long_only above other (is_too_long more is) = is
      long_only above other (is_refused within end refuses is) = absurd (omega arith)
      long_only above other (goes_on within value means rest follows is) = absurd (omega arith)

      refused_only : length (bytes_in files name) ≤ limit → (end : Answer) → ((other : Answer) → Refuses other → other ≡ end) → ((value : V) → Means value → ⊥)
          → (other : Answer) → Reads files name limit too_long Refuses Means Next other → other ≡ after_opening name end
      refused_only within end only none other (is_too_long above is) = absurd (omega arith)
      refused_only within end only none other (is_refused fits stop refuses is) = is ∙ ap (after_opening name) (only stop refuses)
      refused_only within end only none other (goes_on fits value means rest follows is) = absurd (none value means)

      value_only : length (bytes_in files name) ≤ limit → (value : V) → ((other : V) → Means other → other ≡ value) → ((end : Answer) → Refuses end → ⊥)
          → (one : HasOne (Next value)) → (other : Answer) → Reads files name limit too_long Refuses Means Next other → other ≡ after_opening name one.answer
      value_only within value only none one other (is_too_long above is) = absurd (omega arith)
      value_only within value only none one other (is_refused fits stop refuses is) = absurd (none stop refuses)
      value_only within value only none one other (goes_on fits v means rest follows is) =
          let P : V → Type 0 = λ w. Next w rest in
          is ∙ ap (after_opening name) (one.only rest (subst P (only v means) follows))

      by_known : length (bytes_in files name) ≤ limit → IsKnown Refuses Means → HasOne (Reads files name limit too_long Refuses Means Next)
      by_known within (known_refused end refuses only none) = record { answer = after_opening name end; is = is_refused within end refuses refl; only = refused_only within end only none }
      by_known within (known_value value means only none) =
          let one = next value means in
          record { answer = after_opening name one.answer; is = goes_on within value means one.answer one.is refl; only = value_only within value only none one }

      by_size : Decided (length (bytes_in files name) ≤ limit) → HasOne (Reads files name limit too_long Refuses Means Next)
      by_size (holds within) = by_known within known
      by_size (fails more) =
          let above : limit < length (bytes_in files name) = omega arith in
          record { answer = after_opening name (refused too_long); is = is_too_long above refl; only = long_only above }

-- a search that found the least bill, or that nothing is feasible, left no gap
least_closed : (ended : Ending) (f : Found) → ended ≡ ending.Least → gap_of ended ≡ Some f → ⊥
least_closed ended f is open_by = let e : None ≡ Some f = sym (ap gap_of is) ∙ open_by in absurd cc

none_closed : (ended : Ending) (f : Found) → ended ≡ ending.Infeasible → gap_of ended ≡ Some f → ⊥
none_closed ended f is open_by = let e : None ≡ Some f = sym (ap gap_of is) ∙ open_by in absurd cc

-- a search that has one outcome has one answer
module _ (i : Inputs) (budget : ℕ) (label : List ℕ) (o : Outcome) (only : IsOnlySearch i budget o) (promised : IsPromised i budget o) where
  -- the answer by an outcome with its gap
  gap_answer : Found → Outcome → Answer
  gap_answer f p = says verdict.Gap (plan_text i label p.schedule (finding f p))

  -- the answer by an outcome with the least bill
  least_answer : Outcome → Answer
  least_answer p = says verdict.Done (plan_text i label p.schedule (finding found.Least p))

  -- the verdicts of all outcomes are one
  same_verdict : (p : Outcome) → IsSearched i budget p → p.verdict ≡ o.verdict
  same_verdict p is = ap (λ (q : Outcome). q.verdict) (only.only p is)

  none_only : o.verdict ≡ ending.Infeasible → (other : Answer) → IsPlanned i budget label other → other ≡ says verdict.NoSchedule (line (codes "no schedule"))
  none_only is other (no_schedule p search ended none same) = same
  none_only is other (least p search ended best same) = let e = same_verdict p search in absurd cc
  none_only is other (gap p search f ended between same) = absurd (none_closed p.verdict f (same_verdict p search ∙ is) ended)

  least_only : o.verdict ≡ ending.Least → (other : Answer) → IsPlanned i budget label other → other ≡ least_answer o
  unfolding least_answer
  least_only is other (no_schedule p search ended none same) = let e = same_verdict p search in absurd cc
  least_only is other (least p search ended best same) = same ∙ ap least_answer (only.only p search)
  least_only is other (gap p search f ended between same) = absurd (least_closed p.verdict f (same_verdict p search ∙ is) ended)

  gap_only : (f : Found) → gap_of o.verdict ≡ Some f → (other : Answer) → IsPlanned i budget label other → other ≡ gap_answer f o
  unfolding gap_answer
  gap_only f is other (no_schedule p search ended none same) = absurd (none_closed o.verdict f (sym (same_verdict p search) ∙ ended) is)
  gap_only f is other (least p search ended best same) = absurd (least_closed o.verdict f (sym (same_verdict p search) ∙ ended) is)
  gap_only f is other (gap p search g ended between same) =
      let both : Some g ≡ Some f = sym ended ∙ ap gap_of (same_verdict p search) ∙ is in
      let one : g ≡ f = cc in
      same ∙ ap (gap_answer g) (only.only p search) ∙ ap (λ (h : Found). gap_answer h o) one

  pub outcome_one : HasOne (IsPlanned i budget label)
  unfolding least_answer gap_answer
  outcome_one = by_verdict o.verdict refl
    where
      by_gap : (f : Found) → gap_of o.verdict ≡ Some f → HasOne (IsPlanned i budget label)
      by_gap f is = record { answer = gap_answer f o; is = gap o only.is f is (is_between i budget o promised f is) refl; only = gap_only f is }

      by_verdict : (ended : Ending) → o.verdict ≡ ended → HasOne (IsPlanned i budget label)
      by_verdict ending.Infeasible is =
          record { answer = _; is = no_schedule o only.is is (none_feasible i budget o promised is) refl; only = none_only is }
      by_verdict ending.Least is = record { answer = least_answer o; is = least o only.is is (is_least i budget o promised is) refl; only = least_only is }
      by_verdict ending.GapBudget is = by_gap found.GapBudget (ap gap_of is)
      by_verdict ending.GapDuality is = by_gap found.GapDuality (ap gap_of is)

-- a problem without tiered periods has one answer for each budget
planned_one : (i : Inputs) (budget : ℕ) (label : List ℕ) → IsUntiered i → 1 ≤ budget → HasOne (IsPlanned i budget label)
planned_one i budget label untiered some =
    let one = searched_once i budget some in
    outcome_one i budget label one.0 one.1 (search_promise i budget one.0 untiered one.1.is)

-- a search is within the limit of its sizes, or it isn't
sizes_one : (i : Inputs) (budget : ℕ) (Next : Answer → Type 0) → HasOne Next → HasOne (IsWithinSizes i budget Next)
sizes_one i budget Next one = by_size (at_most (product_for i budget) (2 ^ 24))
  where
    large_only : 2 ^ 24 < product_for i budget → (other : Answer) → IsWithinSizes i budget Next other → other ≡ refused (Product (product_for i budget))
    large_only large other (is_too_large also is) = is
    large_only large other (is_within within next) = absurd (omega (arith, large, within))

    within_only : product_for i budget ≤ 2 ^ 24 → (other : Answer) → IsWithinSizes i budget Next other → other ≡ one.answer
    within_only within other (is_too_large large is) = absurd (omega (arith, large, within))
    within_only within other (is_within also next) = one.only other next

    by_size : Decided (product_for i budget ≤ 2 ^ 24) → HasOne (IsWithinSizes i budget Next)
    by_size (holds within) = record { answer = one.answer; is = is_within within one.is; only = within_only within }
    by_size (fails more) =
        let large : 2 ^ 24 < product_for i budget = omega (arith, more) in
        record { answer = _; is = is_too_large large refl; only = large_only large }

-- and it has one budget
plan_one : (i : Inputs) (given : Option ℕ) (label : List ℕ) → IsUntiered i → ((budget : ℕ) → given ≡ Some budget → 1 ≤ budget) → HasOne (IsPlanFor i given label)
plan_one i given label untiered some = by_budget (budget_one i given untiered.range some)
  where
    by_budget : (budget : ℕ) × IsOnlyBudget i given budget → HasOne (IsPlanFor i given label)
    by_budget (budget, one) =
        let planned = sizes_one i budget (IsPlanned i budget label) (planned_one i budget label untiered one.some) in
        record {
          answer = planned.answer;
          is = record { budget = budget; budget_is = one.is; planned = planned.is };
          only = λ other is.
              let P : ℕ → Type 0 = λ b. IsWithinSizes i b (IsPlanned i b label) other in
              planned.only other (subst P (one.only is.budget is.budget_is) is.planned);
        }

-- a list is empty or not
empty_or_not : {X : Type 0} (list : List X) → (list ≡ []) ⊎ (list ≡ [] → ⊥)
empty_or_not {X} [] = inl refl
empty_or_not {X} (x ∷ xs) = inr (λ same. cc)

-- a month is planned in one way, or refused for one cause
plannable_one : (i : Inputs) (Next : Answer → Type 0) → (tiered i ≡ [] → HasOne Next) → HasOne (IsPlannable i Next)
plannable_one i Next next = by_tiers (empty_or_not (tiered i))
  where
    tiers_only : (tiered i ≡ [] → ⊥) → (other : Answer) → IsPlannable i Next other → other ≡ refused TiersNotYet
    tiers_only some other (has_tiers more is) = is
    tiers_only some other (is_untiered none follows) = absurd (some none)

    untiered_one : tiered i ≡ [] → HasOne Next → HasOne (IsPlannable i Next)
    untiered_one none one = record { answer = one.answer; is = is_untiered none one.is; only = λ other is. one.only other (untiered_follows i Next none other is) }

    by_tiers : (tiered i ≡ []) ⊎ (tiered i ≡ [] → ⊥) → HasOne (IsPlannable i Next)
    by_tiers (inr some) = record { answer = _; is = has_tiers some refl; only = tiers_only some }
    by_tiers (inl none) = untiered_one none (next none)

-- a schedule has one bill, or one first break
billed_one : (i : Inputs) (label schedule : List ℕ) → length schedule ≡ length i.net → HasOne (IsBilled i label schedule)
billed_one i label schedule long = by_break (break_or_feasible i schedule long)
  where
    bill_only : IsFeasible i schedule → (a : Answer) → IsBilled i label schedule a → a ≡ says verdict.Done (bill_text i label (tally_of i schedule))
    bill_only feasible a (billed also is) = is
    bill_only feasible a (broken t first is) = absurd (break_excludes i schedule t first feasible)

    break_only : (t : ℕ) → IsFirstBreak i schedule t → (a : Answer) → IsBilled i label schedule a → a ≡ says verdict.NoSchedule (break_text t)
    break_only t first a (billed feasible is) = absurd (break_excludes i schedule t first feasible)
    break_only t first a (broken k other is) = is ∙ ap (λ (n : ℕ). says verdict.NoSchedule (break_text n)) (first_break_same i schedule k t other first)

    by_break : IsFeasible i schedule ⊎ ((t : ℕ) × IsFirstBreak i schedule t) → HasOne (IsBilled i label schedule)
    by_break (inl feasible) = record { answer = _; is = billed feasible refl; only = bill_only feasible }
    by_break (inr first) = record { answer = _; is = broken first.0 first.1 refl; only = break_only first.0 first.1 }

-- a known answer is one
said_one : (answer : Answer) → HasOne (λ a. a ≡ answer)
said_one answer = record { answer = answer; is = refl; only = λ other is. is }

-- a record is settled and the answer goes on in one way, or it is refused
settles_one : (text : List ℕ) (terms : Terms) (metered : Metered) (Next : Answer → Type 0) → HasOne Next → HasOne (Settles text terms metered Next)
settles_one text terms metered Next one = by_pace (settled_decided terms metered)
  where
    refused_only : (IsSettled terms metered → ⊥) → (other : Answer) → Settles text terms metered Next other → other ≡ says verdict.Record text
    refused_only none other (unsettled also is) = is
    refused_only none other (settled is follows) = absurd (none is)

    by_pace : Decided (IsSettled terms metered) → HasOne (Settles text terms metered Next)
    by_pace (holds is) =
        record { answer = one.answer; is = settled is one.is; only = λ other settles. one.only other (settled_follows text terms metered Next is other settles) }
    by_pace (fails none) = record { answer = says verdict.Record text; is = unsettled none refl; only = refused_only none }

-- the answer to a request is one
module _ (files : Files) (asked : Asked) where
  task_one : (problem : Storage → Inputs) (wanted : Wanted) → ((storage : Storage) → IsStorage storage → IsInRange (problem storage))
      → ((storage : Storage) → tiered (problem no_storage) ≡ [] → tiered (problem storage) ≡ [])
      → ((budget : ℕ) → budget_of wanted ≡ Some budget → 1 ≤ budget)
      → HasOne (IsFor files asked.label problem wanted)
  task_one problem (plan_with battery given) fine none some =
      plannable_one (problem no_storage) (ReadsBattery files battery (λ storage. IsPlanFor (problem storage) given asked.label))
      (λ flat. reads_one files battery longest_file LongBattery (RefusesBattery (rows_in files battery)) (MeansBattery (rows_in files battery))
      (λ storage. IsPlanFor (problem storage) given asked.label) (battery_known (rows_in files battery))
      (λ storage means. plan_one (problem storage) given asked.label
      (record { range = fine storage (battery_is (rows_in files battery) storage means); none = none storage flat }) some))
  task_one problem wants_metered_bill fine none some = said_one _
  task_one problem (schedule_bill battery schedule) fine none some =
      reads_one files battery longest_file LongBattery (RefusesBattery (rows_in files battery)) (MeansBattery (rows_in files battery))
      (λ storage. ReadsSchedule files schedule (problem storage) (IsBilled (problem storage) asked.label))
      (battery_known (rows_in files battery))
      (λ storage means. reads_one files schedule longest_file LongSchedule (RefusesSchedule (problem storage) (rows_in files schedule))
      (MeansSchedule (problem storage) (rows_in files schedule)) (IsBilled (problem storage) asked.label)
      (schedule_known (problem storage) (rows_in files schedule) (fine storage (battery_is (rows_in files battery) storage means)).storage)
      (λ modes is. billed_one (problem storage) asked.label modes is.1.long))

  request_one : ((budget : ℕ) → budget_of asked.wanted ≡ Some budget → 1 ≤ budget) → HasOne (IsAnswerTo files asked)
  request_one some =
      let records = rows_in files asked.records in
      let readings = rows_in files asked.readings in
      let rule = rule_of asked.net_billing in
      let text = hourly_text (labelled_in files asked.records asked.label) in
      reads_one files asked.records longest_record LongRecord (RefusesRecord records asked.label rule) (IsRecord records asked.label rule)
      (IsWithTerms files asked text) (record_known records asked.label rule)
      (λ terms record_is. reads_one files asked.readings longest_file LongReadings (RefusesReadings readings) (MeansReadings readings)
      (λ metered. Settles text terms metered (IsFor files asked.label (joined terms metered asked.prior_peak) asked.wanted)) (month_known readings)
      (λ metered month_is. settles_one text terms metered (IsFor files asked.label (joined terms metered asked.prior_peak) asked.wanted)
      (task_one (joined terms metered asked.prior_peak) asked.wanted
      (λ storage is. joined_in_range records readings asked.label rule terms metered asked.prior_peak storage record_is month_is is)
      (λ storage flat. flat) some)))

-- the answer to words that ask to see a tariff is one
seen_one : (files : Files) (seen : Seen) → HasOne (IsShownTo files seen)
seen_one files seen =
    let records = rows_in files seen.records in
    let rule = rule_of seen.net_billing in
    reads_one files seen.records longest_record LongRecord (RefusesRecord records seen.label rule) (IsRecord records seen.label rule)
    (IsTariffOf (labelled_in files seen.records seen.label) seen.label) (record_known records seen.label rule) (λ terms record_is. said_one _)

-- to words and files there is one answer
pub one_answer : (words : List (List ℕ)) (files : Files) → HasAnswer words files
one_answer words files = by_words (request_or_none words) (show_or_none words)
  where
    none_only : ((asked : Asked) → IsRequest words asked → ⊥) → ((seen : Seen) → IsShow words seen → ⊥) → (other : Answer) → IsAnswer words files other
        → other ≡ refused Words
    none_only none unseen other (no_request also still is) = is
    none_only none unseen other (request asked is to) = absurd (none asked is)
    none_only none unseen other (show seen is to) = absurd (unseen seen is)

    asked_only : (asked : Asked) → IsRequest words asked → (one : HasOne (IsAnswerTo files asked)) → (other : Answer) → IsAnswer words files other → other ≡ one.answer
    asked_only asked is one other (no_request none unseen also) = absurd (none asked is)
    asked_only asked is one other (request a also to) =
        let P : Asked → Type 0 = λ r. IsAnswerTo files r other in
        one.only other (subst P (one_request words a asked also is) to)
    asked_only asked is one other (show seen also to) = absurd (show_alone words seen asked also is)

    seen_only : (seen : Seen) → IsShow words seen → (one : HasOne (IsShownTo files seen)) → (other : Answer) → IsAnswer words files other → other ≡ one.answer
    seen_only seen is one other (no_request none unseen also) = absurd (unseen seen is)
    seen_only seen is one other (request asked also to) = absurd (show_alone words seen asked is also)
    seen_only seen is one other (show s also to) =
        let P : Seen → Type 0 = λ r. IsShownTo files r other in
        one.only other (subst P (one_show words s seen also is) to)

    by_words : ((asked : Asked) × IsRequest words asked) ⊎ ((asked : Asked) → IsRequest words asked → ⊥)
        → ((seen : Seen) × IsShow words seen) ⊎ ((seen : Seen) → IsShow words seen → ⊥) → HasAnswer words files
    by_words (inl (asked, is)) seen =
        let one = request_one files asked (given_some is.budget (budget_of asked.wanted) is.budget_is) in
        record { answer = one.answer; is = request asked is one.is; only = asked_only asked is one }
    by_words (inr none) (inl (seen, is)) =
        let one = seen_one files seen in
        record { answer = one.answer; is = show seen is one.is; only = seen_only seen is one }
    by_words (inr none) (inr unseen) = record { answer = refused Words; is = no_request none unseen refl; only = none_only none unseen }

-- two answers to the same words and files are one
pub answer_same : (words : List (List ℕ)) (files : Files) (one other : Answer) → IsAnswer words files one → IsAnswer words files other → one ≡ other
answer_same words files one other is is_other =
    let law = one_answer words files in
    law.only one is ∙ sym (law.only other is_other)
