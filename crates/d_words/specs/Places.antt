-- Where the words of a request stand.
use Rattle.std.specs.Prelude.{◌≡◌, ℕ, ◌-◌, ◌≤◌, Bool, ℤ, List, [], ◌++◌, Option, MatchOption, length, slice_index_or, codes}
use Rattle.d_words.specs.Words.{Asked, Wanted, command_of, peak_words, billing_words, budget_words, words_behind, words_of, GivesPeak, GivesBudget, budget_of}
use Rattle.d_words.specs.Asking.{wanted_of}
use Rattle.d_words.specs.declared.billing.Billing.{Billing}
use Rattle.d_words.specs.declared.plan_end.PlanEnd.{PlanEnd}
use Rattle.d_words.specs.declared.job.Job.{Job}

-- the options that each request has stand at their places
pub record HasOptions (words : List (List ℕ)) : Type 0 where
  pub records : slice_index_or words 1 [] ≡ codes "--records"
  pub label : slice_index_or words 3 [] ≡ codes "--label"
  pub readings : slice_index_or words 5 [] ≡ codes "--readings"

-- the command that shows a tariff and its two options stand at their places
pub record NamesRecord (words : List (List ℕ)) : Type 0 where
  pub command : slice_index_or words 0 [] ≡ codes "show"
  pub records : slice_index_or words 1 [] ≡ codes "--records"
  pub label : slice_index_or words 3 [] ≡ codes "--label"

-- the first two words choose net billing
pub record BeginsWithRule (words : List (List ℕ)) : Type 0 where
  pub long : 2 ≤ length words
  pub option : slice_index_or words 0 [] ≡ codes "--rule"
  pub value : slice_index_or words 1 [] ≡ codes "net-billing"

-- the last four words name a battery and a schedule
pub record EndsInSchedule (words : List (List ℕ)) : Type 0 where
  pub long : 4 ≤ length words
  pub battery : slice_index_or words (length words - 4) [] ≡ codes "--battery"
  pub schedule : slice_index_or words (length words - 2) [] ≡ codes "--schedule"

-- the last two words give a budget
pub record EndsInBudget (words : List (List ℕ)) : Type 0 where
  pub long : 2 ≤ length words
  pub option : slice_index_or words (length words - 2) [] ≡ codes "--budget"

-- the words give this prior peak, and nothing else
pub record IsPriorPeak (words : List (List ℕ)) (peak : ℤ) : Type 0 where
  pub text : Option (List ℕ)
  pub words_are : words ≡ peak_words text
  pub peak_is : GivesPeak text peak

-- the words say this rule and this prior peak, and nothing else
pub record IsBilling (words : List (List ℕ)) (net_billing : Bool) (peak : ℤ) : Type 0 where
  pub text : Option (List ℕ)
  pub words_are : words ≡ billing_words net_billing text
  pub peak_is : GivesPeak text peak

-- the words behind a plan's battery give this budget or none, with this rule and this prior peak
pub record IsPlanEnd (words : List (List ℕ)) (budget : Option ℕ) (net_billing : Bool) (peak : ℤ) : Type 0 where
  pub text : Option (List ℕ)
  pub limit : Option (List ℕ)
  pub words_are : words ≡ billing_words net_billing text ++ budget_words limit
  pub peak_is : GivesPeak text peak
  pub budget_is : GivesBudget limit budget

-- the words behind the readings file want this of the command, with this rule and this prior peak
pub record IsJob (command : List ℕ) (words : List (List ℕ)) (wanted : Wanted) (net_billing : Bool) (peak : ℤ) : Type 0 where
  pub text : Option (List ℕ)
  pub limit : Option (List ℕ)
  pub command_is : command ≡ command_of wanted
  pub words_are : words ≡ words_behind wanted (billing_words net_billing text) limit
  pub peak_is : GivesPeak text peak
  pub budget_is : GivesBudget limit (budget_of wanted)

-- the words name this, whatever its label and the names of its files
pub record IsNamed (words : List (List ℕ)) (asked : Asked) : Type 0 where
  pub text : Option (List ℕ)
  pub limit : Option (List ℕ)
  pub words_are : words ≡ words_of asked text limit
  pub peak_is : GivesPeak text asked.prior_peak
  pub budget_is : GivesBudget limit (budget_of asked.wanted)

-- the power that is found is so, or none is
abbrev pub FindsPeak : (ℤ → Type 0) → Option ℤ → Type 0
FindsPeak Is found = MatchOption found ((peak : ℤ) → Is peak → ⊥) Is

-- the budget that is found is so, or none is
abbrev pub FindsBudget : (ℕ → Type 0) → Option ℕ → Type 0
FindsBudget Is found = MatchOption found ((budget : ℕ) → Is budget → ⊥) Is

-- the rule and the prior peak that are found are so, or none are
abbrev pub FindsBilling : (Bool → ℤ → Type 0) → Option Billing → Type 0
FindsBilling Is found =
    MatchOption found ((net_billing : Bool) (peak : ℤ) → Is net_billing peak → ⊥) (λ billing. Is billing.net_billing billing.prior_peak)

-- what is found is what the words behind a plan's battery say, or they say nothing
abbrev pub FindsPlanEnd : (Option ℕ → Bool → ℤ → Type 0) → Option PlanEnd → Type 0
FindsPlanEnd Is found =
    MatchOption found ((budget : Option ℕ) (net_billing : Bool) (peak : ℤ) → Is budget net_billing peak → ⊥)
    (λ ending. Is ending.budget ending.billing.net_billing ending.billing.prior_peak)

-- what is found is what the words want of the command, or they want nothing of it
abbrev pub FindsJob : List ℕ → List (List ℕ) → Option Job → Type 0
FindsJob command words found =
    MatchOption found ((wanted : Wanted) (net_billing : Bool) (peak : ℤ) → IsJob command words wanted net_billing peak → ⊥)
    (λ job. IsJob command words (wanted_of job.task) job.billing.net_billing job.billing.prior_peak)
