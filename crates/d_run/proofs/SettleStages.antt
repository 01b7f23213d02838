-- Which records are settled at the pace of the readings.
use Rattle.std.proofs.Common.{◌≡◌, ℕ, List, Bool, true, false, Result, Err, refl, sym, ◌∙◌}
use Rattle.d_desk.specs.Scene.{Scene}
use Rattle.d_tariff.specs.Terms.{Terms}
use Rattle.d_meter.specs.Meters.{Metered}
use Rattle.d_bill.specs.Join.{IsSettled}
use Rattle.d_bill.proofs.Deciding.{Decided, holds, fails, same_number}
use Rattle.d_run.specs.Answer.{Answer, Settles, unsettled, settled, says}
use Rattle.d_run.specs.Replies.{EndsBy, PreparesOne}
use Rattle.d_run.specs.declared.verdict.Verdict.TheVariants.{Record}
use Rattle.d_run.specs.declared.reply.Reply.{Reply}
use Rattle.d_run.specs.declared.fault.Fault.{Fault}
use Rattle.d_run.proofs.StageFacts.{ends_here, ends_weaker, prepares_as}

module _ (text : List ℕ) (terms : Terms) (metered : Metered) (Next : Answer → Type 0) where
  -- what goes on where energy is settled
  pub settled_follows : IsSettled terms metered → (answer : Answer) → Settles text terms metered Next answer → Next answer
  settled_follows is answer (unsettled none same) = absurd (none is)
  settled_follows is answer (settled also follows) = follows

  -- what is prepared there
  pub settled_prepares : (x y : Scene) (result : Result Reply Fault) → IsSettled terms metered → PreparesOne Next x y result
      → PreparesOne (Settles text terms metered Next) x y result
  settled_prepares x y result is prepares =
      prepares_as Next (Settles text terms metered Next) x y result (λ answer follows. settled is follows) (settled_follows is) prepares

  -- what is refused is refused whatever follows
  refused_anyway : (answer : Answer) → Settles text terms metered (λ _. ⊥) answer → Settles text terms metered Next answer
  refused_anyway answer (unsettled none same) = unsettled none same
  refused_anyway answer (settled is follows) = absurd follows

  -- what is prepared where it isn't
  pub unsettled_prepares : (x : Scene) (fault : Fault) → EndsBy (Settles text terms metered (λ _. ⊥)) fault
      → PreparesOne (Settles text terms metered Next) x x (Err fault)
  unsettled_prepares x fault ends =
      ends_here (Settles text terms metered Next) x fault (ends_weaker (Settles text terms metered (λ _. ⊥)) (Settles text terms metered Next) fault refused_anyway ends)

-- energy is settled or it isn't
pub settled_decided : (terms : Terms) (metered : Metered) → Decided (IsSettled terms metered)
settled_decided terms metered = by_rule terms.hourly refl (same_number metered.minutes 60)
  where
    by_rule : (hourly : Bool) → terms.hourly ≡ hourly → Decided (metered.minutes ≡ 60) → Decided (IsSettled terms metered)
    by_rule true is (holds sixty) = holds (λ _. sixty)
    by_rule true is (fails other) = fails (λ settles. other (settles is))
    by_rule false is pace = holds (λ hourly. let e : false ≡ true = sym is ∙ hourly in absurd cc)

-- where a rule by the hour meets another pace, nothing is settled
pub not_settled : (text : List ℕ) (terms : Terms) (metered : Metered) (fault : Fault) → terms.hourly ≡ true → (metered.minutes ≡ 60 → ⊥)
    → EndsBy (λ end. end ≡ says Record text) fault → EndsBy (Settles text terms metered (λ _. ⊥)) fault
not_settled text terms metered fault hourly other ends =
    ends_weaker (λ end. end ≡ says Record text) (Settles text terms metered (λ _. ⊥)) fault (λ end is. unsettled (λ settles. other (settles hourly)) is) ends
