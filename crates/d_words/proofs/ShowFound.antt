-- Words ask to see one tariff, or none.
use Rattle.std.proofs.Common.{◌≡◌, ◌⊎◌, inl, inr, ℕ, Bool, true, false, List, [], slice_index, slice_index_or, bytes_eq, codes, refl, sym, ap, subst, ◌∙◌, arith}
use Rattle.d_words.specs.Words.{Asked, Wanted, plan_with, metered_bill, schedule_bill, command_of, IsRequest, IsValue, IsLabel}
use Rattle.d_words.specs.Shows.{Seen, IsShow, show_words}
use Rattle.d_words.proofs.Deciding.{Decided, holds, fails, both, same_words}
use Rattle.d_words.proofs.RequestFound.{value_decided, label_decided}

-- what the words at their places name
seen_in : List (List ℕ) → Seen
seen_in words = record {
  records = slice_index_or words 2 [];
  label = slice_index_or words 4 [];
  net_billing = bytes_eq (slice_index_or words 5 []) (codes "--rule");
}

-- the words that name this name nothing else
seen_of_words : (seen : Seen) → seen ≡ seen_in (show_words seen)
unfolding seen_in
seen_of_words seen = by_rule seen.records seen.label seen.net_billing
  where
    by_rule : (r l : List ℕ) (n : Bool) → record { records = r; label = l; net_billing = n } ≡ seen_in (show_words (record { records = r; label = l; net_billing = n }))
    by_rule r l false = refl
    by_rule r l true = refl

pub one_seen : {words : List (List ℕ)} {a b : Seen} → words ≡ show_words a → words ≡ show_words b → a ≡ b
one_seen {words} {a} {b} one other = seen_of_words a ∙ ap seen_in (sym one ∙ other) ∙ sym (seen_of_words b)

-- words ask to see one tariff at most
pub one_show : (words : List (List ℕ)) (seen other : Seen) → IsShow words seen → IsShow words other → seen ≡ other
one_show words seen other one also = one_seen one.words_are also.words_are

-- what it is to see this
Holds : List (List ℕ) → Seen → Type 0
Holds words seen = (words ≡ show_words seen) × (IsValue seen.records × (IsValue seen.label × IsLabel seen.label))

-- they ask to see one, or none
pub show_or_none : (words : List (List ℕ)) → ((seen : Seen) × IsShow words seen) ⊎ ((seen : Seen) → IsShow words seen → ⊥)
unfolding Holds
show_or_none words =
    by_decided (both (same_words words _) (both (value_decided (seen_in words).records) (both (value_decided (seen_in words).label) (label_decided (seen_in words).label))))
  where
    held : (seen : Seen) → IsShow words seen → Holds words (seen_in words)
    held seen is =
        subst (λ (s : Seen). Holds words s) (seen_of_words seen ∙ ap seen_in (sym is.words_are)) (is.words_are, (is.records, (is.label, is.label_form)))

    by_decided : Decided (Holds words (seen_in words)) → ((seen : Seen) × IsShow words seen) ⊎ ((seen : Seen) → IsShow words seen → ⊥)
    by_decided (holds h) = inl (seen_in words, record { words_are = h.0; records = h.1.0; label = h.1.1.0; label_form = h.1.1.1 })
    by_decided (fails none) = inr (λ seen is. none (held seen is))

-- the first word of a request is another
pub show_alone : (words : List (List ℕ)) (seen : Seen) (asked : Asked) → IsShow words seen → IsRequest words asked → ⊥
show_alone words seen asked show is = by_task asked.wanted (sym (ap first show.words_are) ∙ ap first is.words_are)
  where
    first : List (List ℕ) → List ℕ
    first words = slice_index_or words 0 []

    by_task : (wanted : Wanted) → codes "show" ≡ command_of wanted → ⊥
    by_task (plan_with battery budget) same = absurd (omega (arith, ap (λ (w : List ℕ). slice_index w 0) same))
    by_task metered_bill same = absurd (omega (arith, ap (λ (w : List ℕ). slice_index w 0) same))
    by_task (schedule_bill battery schedule) same = absurd (omega (arith, ap (λ (w : List ℕ). slice_index w 0) same))
