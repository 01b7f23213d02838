-- Words are one request, or none.
use Rattle.std.proofs.Common.{◌≡◌, ◌⊎◌, inl, inr, ℕ, ◌^◌, ◌≤◌, ltb, Bool, true, false, cond, ℤ, pos, Option, None, Some, List, [], ◌∷◌, length, drop, slice_index, slice_index_or, bytes_eq, codes, refl, sym, ap, subst, ◌∙◌, arith}
use Rattle.std.specs.Char.{digit_value}
use Rattle.std.specs.Str.Parse.{AllDigits, digits_value}
use Rattle.std.proofs.lemmas.Int.{ints}
use Rattle.d_num.specs.Amount.{IsWatt}
use Rattle.d_words.specs.Words.{Asked, Wanted, plan_with, metered_bill, schedule_bill, IsRequest, HasValues, HasNames, IsValue, IsLabel, GivesPeak, GivesBudget, budget_of, words_of}
use Rattle.d_words.specs.Places.{IsNamed}
use Rattle.d_words.proofs.Deciding.{Decided, holds, fails, both, opposite, restated, is_below, at_most, same_number, same_words, each_item}

-- the words from those of billing on
from_billing : List (List ℕ) → List (List ℕ)
from_billing words = cond (bytes_eq (slice_index_or words 0 []) (codes "plan")) (drop 9 words) (drop 7 words)

-- whether they begin so
begins : List ℕ → List (List ℕ) → Bool
begins option words = bytes_eq (slice_index_or words 0 []) option

-- the words behind a rule, and behind a prior peak
behind_rule : List (List ℕ) → List (List ℕ)
behind_rule words = cond (begins (codes "--rule") words) (drop 2 words) words

behind_peak : List (List ℕ) → List (List ℕ)
behind_peak words = cond (begins (codes "--prior-peak") words) (drop 2 words) words

-- the text of the prior peak
text_in : List (List ℕ) → Option (List ℕ)
text_in words = cond (begins (codes "--prior-peak") (behind_rule (from_billing words))) (Some (slice_index_or (behind_rule (from_billing words)) 1 [])) None

-- and its value
peak_of : Option (List ℕ) → ℤ
peak_of None = pos 0
peak_of (Some text) = pos (digits_value 10 text)

-- the text of the budget, where these are the last words
limit_by : List (List ℕ) → Option (List ℕ)
limit_by rest = cond (begins (codes "--budget") rest) (Some (slice_index_or rest 1 [])) None

-- the text of a plan's budget
limit_in : List (List ℕ) → Option (List ℕ)
limit_in words = cond (bytes_eq (slice_index_or words 0 []) (codes "plan")) (limit_by (behind_peak (behind_rule (from_billing words)))) None

-- and its value
boxes_of : Option (List ℕ) → Option ℕ
boxes_of None = None
boxes_of (Some text) = Some (digits_value 10 text)

-- what is wanted, where the last words are these
wanted_by : List (List ℕ) → List (List ℕ) → Wanted
wanted_by words rest = cond (bytes_eq (slice_index_or words 0 []) (codes "plan")) (plan_with (slice_index_or words 8 []) (boxes_of (limit_by rest)))
    (cond (ltb (length rest) 1) metered_bill (schedule_bill (slice_index_or rest 1 []) (slice_index_or rest 3 [])))

-- what the words at their places name
asked_in : List (List ℕ) → Asked
asked_in words = record {
  records = slice_index_or words 2 [];
  label = slice_index_or words 4 [];
  readings = slice_index_or words 6 [];
  wanted = wanted_by words (behind_peak (behind_rule (from_billing words)));
  net_billing = begins (codes "--rule") (from_billing words);
  prior_peak = peak_of (text_in words);
}

made : List ℕ → List ℕ → List ℕ → Wanted → Bool → ℤ → Asked
made r l d w n p = record { records = r; label = l; readings = d; wanted = w; net_billing = n; prior_peak = p }

-- a prior peak is that of its text
peak_known : (text : Option (List ℕ)) (peak : ℤ) → GivesPeak text peak → peak ≡ peak_of text
unfolding peak_of
peak_known None peak gives = gives
peak_known (Some text) peak gives = gives.value

-- a budget is that of its text
budget_known : (limit : Option (List ℕ)) (budget : Option ℕ) → GivesBudget limit budget → budget ≡ boxes_of limit
unfolding boxes_of
budget_known None None gives = refl
budget_known None (Some budget) gives = absurd gives
budget_known (Some text) None gives = absurd gives
budget_known (Some text) (Some budget) gives = ap Some gives.value

-- what is wanted, with the budget of this text
within : Wanted → Option (List ℕ) → Wanted
within (plan_with battery budget) limit = plan_with battery (boxes_of limit)
within metered_bill limit = metered_bill
within (schedule_bill battery schedule) limit = schedule_bill battery schedule

wanted_known : (wanted : Wanted) (limit : Option (List ℕ)) → GivesBudget limit (budget_of wanted) → wanted ≡ within wanted limit
unfolding within
wanted_known (plan_with battery budget) limit gives = ap (plan_with battery) (budget_known limit budget gives)
wanted_known metered_bill limit gives = refl
wanted_known (schedule_bill battery schedule) limit gives = refl

-- the words that name this name nothing else
asked_of_words : (asked : Asked) (text limit : Option (List ℕ)) → GivesPeak text asked.prior_peak → GivesBudget limit (budget_of asked.wanted)
    → asked ≡ asked_in (words_of asked text limit)
unfolding asked_in wanted_by limit_by text_in behind_peak behind_rule begins from_billing made peak_of boxes_of within
asked_of_words asked text limit gives limits =
    ap (made asked.records asked.label asked.readings asked.wanted asked.net_billing) (peak_known text asked.prior_peak gives)
    ∙ ap (λ (w : Wanted). made asked.records asked.label asked.readings w asked.net_billing (peak_of text)) (wanted_known asked.wanted limit limits)
    ∙ by_words asked.records asked.label asked.readings asked.wanted asked.net_billing asked.prior_peak text limit
  where
    by_words : (r l d : List ℕ) (w : Wanted) (n : Bool) (p : ℤ) (t b : Option (List ℕ))
        → made r l d (within w b) n (peak_of t) ≡ asked_in (words_of (made r l d w n p) t b)
    by_words r l d (plan_with battery budget) false p None None = refl
    by_words r l d (plan_with battery budget) false p None (Some b) = refl
    by_words r l d (plan_with battery budget) false p (Some t) None = refl
    by_words r l d (plan_with battery budget) false p (Some t) (Some b) = refl
    by_words r l d (plan_with battery budget) true p None None = refl
    by_words r l d (plan_with battery budget) true p None (Some b) = refl
    by_words r l d (plan_with battery budget) true p (Some t) None = refl
    by_words r l d (plan_with battery budget) true p (Some t) (Some b) = refl
    by_words r l d metered_bill false p None b = refl
    by_words r l d metered_bill false p (Some t) b = refl
    by_words r l d metered_bill true p None b = refl
    by_words r l d metered_bill true p (Some t) b = refl
    by_words r l d (schedule_bill battery schedule) false p None b = refl
    by_words r l d (schedule_bill battery schedule) false p (Some t) b = refl
    by_words r l d (schedule_bill battery schedule) true p None b = refl
    by_words r l d (schedule_bill battery schedule) true p (Some t) b = refl

-- nor do they give another text
text_of_words : (asked : Asked) (text limit : Option (List ℕ)) → text ≡ text_in (words_of asked text limit)
unfolding text_in behind_rule begins from_billing
text_of_words asked text limit = by_words asked.wanted asked.net_billing text limit
  where
    by_words : (w : Wanted) (n : Bool) (t b : Option (List ℕ)) → t ≡ text_in (words_of (record asked { wanted = w; net_billing = n }) t b)
    by_words (plan_with battery budget) false None None = refl
    by_words (plan_with battery budget) false None (Some b) = refl
    by_words (plan_with battery budget) false (Some t) None = refl
    by_words (plan_with battery budget) false (Some t) (Some b) = refl
    by_words (plan_with battery budget) true None None = refl
    by_words (plan_with battery budget) true None (Some b) = refl
    by_words (plan_with battery budget) true (Some t) None = refl
    by_words (plan_with battery budget) true (Some t) (Some b) = refl
    by_words metered_bill false None b = refl
    by_words metered_bill false (Some t) b = refl
    by_words metered_bill true None b = refl
    by_words metered_bill true (Some t) b = refl
    by_words (schedule_bill battery schedule) false None b = refl
    by_words (schedule_bill battery schedule) false (Some t) b = refl
    by_words (schedule_bill battery schedule) true None b = refl
    by_words (schedule_bill battery schedule) true (Some t) b = refl

-- nor another text of a budget
limit_of_words : (asked : Asked) (text limit : Option (List ℕ)) → GivesBudget limit (budget_of asked.wanted) → limit ≡ limit_in (words_of asked text limit)
unfolding limit_in limit_by behind_peak behind_rule begins from_billing
limit_of_words asked text limit gives = by_words asked.wanted asked.net_billing text limit gives
  where
    by_words : (w : Wanted) (n : Bool) (t b : Option (List ℕ)) → GivesBudget b (budget_of w)
        → b ≡ limit_in (words_of (record asked { wanted = w; net_billing = n }) t b)
    by_words (plan_with battery budget) false None None g = refl
    by_words (plan_with battery budget) false None (Some b) g = refl
    by_words (plan_with battery budget) false (Some t) None g = refl
    by_words (plan_with battery budget) false (Some t) (Some b) g = refl
    by_words (plan_with battery budget) true None None g = refl
    by_words (plan_with battery budget) true None (Some b) g = refl
    by_words (plan_with battery budget) true (Some t) None g = refl
    by_words (plan_with battery budget) true (Some t) (Some b) g = refl
    by_words metered_bill n t None g = refl
    by_words metered_bill n t (Some b) g = absurd g
    by_words (schedule_bill battery schedule) n t None g = refl
    by_words (schedule_bill battery schedule) n t (Some b) g = absurd g

-- words name one thing at most, whatever its values are
named_in : {words : List (List ℕ)} {asked : Asked} → IsNamed words asked → asked ≡ asked_in words
named_in {words} {asked} is = asked_of_words asked is.text is.limit is.peak_is is.budget_is ∙ ap asked_in (sym is.words_are)

pub one_named : {words : List (List ℕ)} {a b : Asked} → IsNamed words a → IsNamed words b → a ≡ b
one_named one other = named_in one ∙ sym (named_in other)

-- a request names something
pub request_named : {words : List (List ℕ)} {asked : Asked} → IsRequest words asked → IsNamed words asked
request_named is = record { text = is.peak; limit = is.budget; words_are = is.words_are; peak_is = is.peak_is; budget_is = is.budget_is }

-- words are one request at most
pub one_request : (words : List (List ℕ)) (asked other : Asked) → IsRequest words asked → IsRequest words other → asked ≡ other
one_request words asked other one also = one_named (request_named one) (request_named also)

-- a word may be a value
pub value_decided : (word : List ℕ) → Decided (IsValue word)
value_decided word = both (is_below 0 (length word)) (opposite (same_number (slice_index word 0) 45))

-- a word may be a label
pub label_decided : (word : List ℕ) → Decided (IsLabel word)
label_decided word = both (at_most (length word) 64) (each_item (λ byte. (33 ≤ byte) × (byte ≤ 126)) (λ byte. both (at_most 33 byte) (at_most byte 126)) word)

-- the names of the files may be ones
names_decided : (wanted : Wanted) → Decided (HasNames wanted)
names_decided (plan_with battery budget) = value_decided battery
names_decided metered_bill = holds tt
names_decided (schedule_bill battery schedule) = both (value_decided battery) (value_decided schedule)

-- all values may be ones
values_decided : (asked : Asked) → Decided (HasValues asked)
values_decided asked = restated
    (λ h. record { records = h.0; label = h.1.0; label_form = h.1.1.0; readings = h.1.1.1.0; names = h.1.1.1.1 })
    (λ v. (v.records, (v.label, (v.label_form, (v.readings, v.names)))))
    (both (value_decided asked.records) (both (value_decided asked.label) (both (label_decided asked.label)
    (both (value_decided asked.readings) (names_decided asked.wanted)))))

-- a word is digits
digits_decided : (word : List ℕ) → Decided (AllDigits 10 word)
digits_decided [] = holds tt
digits_decided (c ∷ word) = both (is_below (digit_value c) 10) (digits_decided word)

-- a number of watts is in range
watt_decided : (n : ℕ) → Decided (IsWatt (pos n))
watt_decided n = restated (λ le. (omega (arith, ints), omega (arith, ints))) (λ is. omega (arith, ints, is.1)) (at_most n (10 ^ 13))

-- a text gives its prior peak
peak_decided : (text : Option (List ℕ)) → Decided (GivesPeak text (peak_of text))
unfolding peak_of
peak_decided None = holds refl
peak_decided (Some text) = restated
    (λ h. record { digits = (h.0, h.1.0); few = h.1.1.0; value = refl; range = h.1.1.1 })
    (λ is. (is.digits.0, (is.digits.1, (is.few, is.range))))
    (both (is_below 0 (length text)) (both (digits_decided text) (both (at_most (length text) 14) (watt_decided (digits_value 10 text)))))

-- and its budget
budget_decided : (limit : Option (List ℕ)) (budget : Option ℕ) → Decided (GivesBudget limit budget)
budget_decided None None = holds tt
budget_decided None (Some budget) = fails (λ gives. gives)
budget_decided (Some text) None = fails (λ gives. gives)
budget_decided (Some text) (Some budget) = restated
    (λ h. record { digits = (h.0, h.1.0); few = h.1.1.0; value = h.1.1.1.0; range = h.1.1.1.1 })
    (λ is. (is.digits.0, (is.digits.1, (is.few, (is.value, is.range)))))
    (both (is_below 0 (length text)) (both (digits_decided text) (both (at_most (length text) 14)
    (both (same_number budget (digits_value 10 text)) (both (at_most 1 budget) (at_most budget 65535))))))

-- what a request with these texts is
Holds : List (List ℕ) → Asked → Option (List ℕ) → Option (List ℕ) → Type 0
Holds words asked text limit =
    (words ≡ words_of asked text limit) × (GivesPeak text asked.prior_peak × (GivesBudget limit (budget_of asked.wanted) × HasValues asked))

-- the words are this request
holds_decided : (words : List (List ℕ)) → Decided (Holds words (asked_in words) (text_in words) (limit_in words))
unfolding Holds asked_in
holds_decided words = both (same_words words _) (both (peak_decided (text_in words))
    (both (budget_decided (limit_in words) (budget_of (asked_in words).wanted)) (values_decided (asked_in words))))

-- and they are a request or none
pub request_or_none : (words : List (List ℕ)) → ((asked : Asked) × IsRequest words asked) ⊎ ((asked : Asked) → IsRequest words asked → ⊥)
unfolding Holds
request_or_none words = by_decided (holds_decided words)
  where
    held : (asked : Asked) → IsRequest words asked → Holds words (asked_in words) (text_in words) (limit_in words)
    held asked is =
        let same = named_in (request_named is) in
        let text : is.peak ≡ text_in words = text_of_words asked is.peak is.budget ∙ ap text_in (sym is.words_are) in
        let limit : is.budget ≡ limit_in words = limit_of_words asked is.peak is.budget is.budget_is ∙ ap limit_in (sym is.words_are) in
        subst (λ (b : Option (List ℕ)). Holds words (asked_in words) (text_in words) b) limit
        (subst (λ (t : Option (List ℕ)). Holds words (asked_in words) t is.budget) text
        (subst (λ (a : Asked). Holds words a is.peak is.budget) same (is.words_are, (is.peak_is, (is.budget_is, is.values)))))

    by_decided : Decided (Holds words (asked_in words) (text_in words) (limit_in words))
        → ((asked : Asked) × IsRequest words asked) ⊎ ((asked : Asked) → IsRequest words asked → ⊥)
    by_decided (holds h) = inl (
      asked_in words,
      record { peak = text_in words; budget = limit_in words; words_are = h.0; peak_is = h.1.0; budget_is = h.1.1.0; values = h.1.1.1 },
    )
    by_decided (fails none) = inr (λ asked is. none (held asked is))
