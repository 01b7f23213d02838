-- The words of a request: to plan, or for a bill. The options stand in one order. All of this is our own.
use Rattle.std.specs.Prelude.{◌≡◌, ◌≢◌, ⊤, ℕ, ◌<◌, ◌≤◌, Bool, true, false, ℤ, pos, Option, None, Some, List, [], ◌∷◌, ◌++◌, length, slice_index, All, codes}
use Rattle.std.specs.Str.Parse.{IsNumeral, digits_value}
use Rattle.d_num.specs.Amount.{IsWatt}

-- what is wanted: a plan with the battery of this file, and with this budget of boxes where one is given; the bill of the readings alone; or
-- the bill of the schedule of the second file with the battery of the first
pub data Wanted : Type 0 where
  plan_with : List ℕ → Option ℕ → Wanted
  metered_bill : Wanted
  schedule_bill : List ℕ → List ℕ → Wanted

-- what the words name: the file of tariff records, the label of the record, the file of readings, what is wanted, whether the month is
-- billed by net billing whatever the record says, and the highest flat demand of earlier months in W
pub record Asked : Type 0 where
  pub records : List ℕ
  pub label : List ℕ
  pub readings : List ℕ
  pub wanted : Wanted
  pub net_billing : Bool
  pub prior_peak : ℤ

-- the command's name
abbrev pub command_of : Wanted → List ℕ
command_of (plan_with battery budget) = codes "plan"
command_of metered_bill = codes "bill"
command_of (schedule_bill battery schedule) = codes "bill"

-- the words that choose net billing; none where the record's own rule holds
abbrev pub rule_words : Bool → List (List ℕ)
rule_words false = []
rule_words true = codes "--rule" ∷ codes "net-billing" ∷ []

-- the words that give a prior peak by this text; none where none is given
abbrev pub peak_words : Option (List ℕ) → List (List ℕ)
peak_words None = []
peak_words (Some text) = codes "--prior-peak" ∷ text ∷ []

-- the words of how the month is billed
abbrev pub billing_words : Bool → Option (List ℕ) → List (List ℕ)
billing_words net_billing peak = rule_words net_billing ++ peak_words peak

-- the words that give a budget of boxes by this text; none where none is given
abbrev pub budget_words : Option (List ℕ) → List (List ℕ)
budget_words None = []
budget_words (Some text) = codes "--budget" ∷ text ∷ []

-- the words behind the readings file: those of billing stand behind a plan's battery, and those of the budget behind them; a bill has no
-- budget, and its words of billing stand before a schedule's files
abbrev pub words_behind : Wanted → List (List ℕ) → Option (List ℕ) → List (List ℕ)
words_behind (plan_with battery budget) billing text = codes "--battery" ∷ battery ∷ (billing ++ budget_words text)
words_behind metered_bill billing text = billing
words_behind (schedule_bill battery schedule) billing text = billing ++ codes "--battery" ∷ battery ∷ codes "--schedule" ∷ schedule ∷ []

-- the words of a request, where its prior peak is given by the one text and its budget by the other
abbrev pub words_of : Asked → Option (List ℕ) → Option (List ℕ) → List (List ℕ)
words_of a peak budget =
    command_of a.wanted ∷ codes "--records" ∷ a.records ∷ codes "--label" ∷ a.label ∷ codes "--readings" ∷ a.readings
    ∷ words_behind a.wanted (billing_words a.net_billing peak) budget

-- a value isn't empty and doesn't begin with a minus
abbrev pub IsValue : List ℕ → Type 0
IsValue word = (0 < length word) × (slice_index word 0 ≢ 45)

-- a label is 1 to 64 bytes of printable ASCII without spaces
abbrev pub IsLabel : List ℕ → Type 0
IsLabel word = (length word ≤ 64) × All (λ byte. (33 ≤ byte) × (byte ≤ 126)) word

-- 1 to 14 digits, which may begin with zeros, write this many whole watts, at most 10^13
pub record IsPeak (text : List ℕ) (peak : ℤ) : Type 0 where
  pub digits : IsNumeral 10 text
  pub few : length text ≤ 14
  pub value : peak ≡ pos (digits_value 10 text)
  pub range : IsWatt peak

-- the prior peak that this text gives; 0 where there is none
abbrev pub GivesPeak : Option (List ℕ) → ℤ → Type 0
GivesPeak None peak = peak ≡ pos 0
GivesPeak (Some text) peak = IsPeak text peak

-- a search may make so many boxes: from 1 to 65535
abbrev pub IsBoxCount : ℕ → Type 0
IsBoxCount boxes = (1 ≤ boxes) × (boxes ≤ 65535)

-- 1 to 14 digits, which may begin with zeros, write this many boxes
pub record IsBudget (text : List ℕ) (budget : ℕ) : Type 0 where
  pub digits : IsNumeral 10 text
  pub few : length text ≤ 14
  pub value : budget ≡ digits_value 10 text
  pub range : IsBoxCount budget

-- the budget that this text gives; none where there is no text
abbrev pub GivesBudget : Option (List ℕ) → Option ℕ → Type 0
GivesBudget None None = ⊤
GivesBudget None (Some budget) = ⊥
GivesBudget (Some text) None = ⊥
GivesBudget (Some text) (Some budget) = IsBudget text budget

-- the budget of what is wanted; a bill has none
abbrev pub budget_of : Wanted → Option ℕ
budget_of (plan_with battery budget) = budget
budget_of metered_bill = None
budget_of (schedule_bill battery schedule) = None

-- the names of the files may be values
abbrev pub HasNames : Wanted → Type 0
HasNames (plan_with battery budget) = IsValue battery
HasNames metered_bill = ⊤
HasNames (schedule_bill battery schedule) = IsValue battery × IsValue schedule

-- each name of a file may be a value, and the label is one
pub record HasValues (asked : Asked) : Type 0 where
  pub records : IsValue asked.records
  pub label : IsValue asked.label
  pub label_form : IsLabel asked.label
  pub readings : IsValue asked.readings
  pub names : HasNames asked.wanted

-- the words ask for this
pub record IsRequest (words : List (List ℕ)) (asked : Asked) : Type 0 where
  pub peak : Option (List ℕ)
  pub budget : Option (List ℕ)
  pub words_are : words ≡ words_of asked peak budget
  pub peak_is : GivesPeak peak asked.prior_peak
  pub budget_is : GivesBudget budget (budget_of asked.wanted)
  pub values : HasValues asked
