-- What the rows of a file end in where their table or their reader refuses them.
use Rattle.std.proofs.Common.{◌≡◌, inl, inr, ℕ, List, Result, Err, subst}
use Rattle.d_table.specs.Table.{IsRectangular}
use Rattle.d_run.specs.Answer.{refused, RefusesRows}
use Rattle.d_run.specs.Replies.{EndsBy}
use Rattle.d_run.specs.declared.fault.Fault.{Fault}
use Rattle.d_run.specs.declared.fault.Refusal.{Refusal}
use Rattle.d_run.proofs.StageFacts.{ends_weaker}

module _ {V F : Type 0} (IsOutcome : List (List (List ℕ)) → Result V F → Type 0) (shape : F) (by : F → Refusal) (rows : List (List (List ℕ))) where
  -- rows of different lengths
  pub shape_ends : (fault : Fault) → EndsBy (λ end. (IsRectangular rows → ⊥) × (end ≡ refused (by shape))) fault
      → EndsBy (RefusesRows IsOutcome shape by rows) fault
  shape_ends fault ends = ends_weaker _ (RefusesRows IsOutcome shape by rows) fault (λ end odd. inl odd) ends

  -- rows that their reader refuses
  pub outcome_ends : (table : List (List (List ℕ))) (why : F) (fault : Fault) → table ≡ rows → IsRectangular rows → IsOutcome table (Err why)
      → EndsBy (λ end. end ≡ refused (by why)) fault → EndsBy (RefusesRows IsOutcome shape by rows) fault
  outcome_ends table why fault same even is ends =
      let P : List (List (List ℕ)) → Type 0 = λ t. IsOutcome t (Err why) in
      ends_weaker (λ end. end ≡ refused (by why)) (RefusesRows IsOutcome shape by rows) fault (λ end told. inr (why, even, subst P same is, told)) ends
