-- Which months are planned.
use Rattle.std.proofs.Common.{◌≡◌, ◌∙◌, sym, [], Bool, false, IsTrue, true≢false, Result, Err}
use Rattle.d_desk.specs.Scene.{Scene}
use Rattle.d_bill.specs.Inputs.{Inputs}
use Rattle.d_bill.specs.Slopes.{tiered}
use Rattle.d_run.specs.Answer.{Answer, IsPlannable, has_tiers, is_untiered, refused}
use Rattle.d_run.specs.Replies.{EndsBy, PreparesOne}
use Rattle.d_run.specs.declared.reply.Reply.{Reply}
use Rattle.d_run.specs.declared.fault.Fault.{Fault}
use Rattle.d_run.specs.declared.fault.Refusal.TheVariants.{TiersNotYet}
use Rattle.d_run.proofs.StageFacts.{ends_here, ends_weaker, prepares_as}

module _ (i : Inputs) (Next : Answer → Type 0) where
  -- what goes on where nothing is refused
  pub untiered_follows : tiered i ≡ [] → (answer : Answer) → IsPlannable i Next answer → Next answer
  untiered_follows none answer (has_tiers some is) = absurd (some none)
  untiered_follows none answer (is_untiered also follows) = follows

  -- what is prepared there
  pub untiered_prepares : (x y : Scene) (result : Result Reply Fault) → tiered i ≡ [] → PreparesOne Next x y result → PreparesOne (IsPlannable i Next) x y result
  untiered_prepares x y result none prepares =
      prepares_as Next (IsPlannable i Next) x y result (λ answer follows. is_untiered none follows) (untiered_follows none) prepares

  -- what is refused is refused whatever follows
  refused_anyway : (answer : Answer) → IsPlannable i (λ _. ⊥) answer → IsPlannable i Next answer
  refused_anyway answer (has_tiers some is) = has_tiers some is
  refused_anyway answer (is_untiered none follows) = absurd follows

  -- what is prepared where the month isn't planned yet
  pub not_yet_prepares : (x : Scene) (fault : Fault) → EndsBy (IsPlannable i (λ _. ⊥)) fault → PreparesOne (IsPlannable i Next) x x (Err fault)
  not_yet_prepares x fault ends = ends_here (IsPlannable i Next) x fault (ends_weaker (IsPlannable i (λ _. ⊥)) (IsPlannable i Next) fault refused_anyway ends)

-- some period is tiered
pub tiers_not_yet : (i : Inputs) (answer : Bool) (fault : Fault) → (tiered i ≡ [] → IsTrue answer) → answer ≡ false
    → EndsBy (λ end. end ≡ refused TiersNotYet) fault → EndsBy (IsPlannable i (λ _. ⊥)) fault
tiers_not_yet i answer fault untiered other ends =
    ends_weaker (λ end. end ≡ refused TiersNotYet) (IsPlannable i (λ _. ⊥)) fault (λ end is. has_tiers (λ none. true≢false (sym (untiered none) ∙ other)) is) ends
