use Rattle.std.proofs.Common.{◌≡◌, ℕ, List, [], ◌∷◌, Option, None, arith, refl, sym, subst}
use Rattle.d_urdb.specs.Shown.{row_of}
use Rattle.d_urdb.specs.declared.fault.Refused.{Refused}
use Rattle.d_urdb.specs.Numbers.{CellReader}
use Rattle.d_urdb.specs.Refusals.{each}
use Rattle.d_urdb.specs.Checks.{Passes}
use Rattle.d_urdb.specs.Hours.{missing_refusal, missing_refusals}
use Rattle.d_urdb.proofs.CheckFacts.{refusal_same, when_passes, when_refuses}
use Rattle.d_urdb.proofs.RefusalOrder.{none_yet, one_more, refused_here}
use Rattle.d_urdb.proofs.row.Record.check_missing.Goals as goal
use Rattle.d_urdb.specs.declared.cause.Cause.TheVariants as cause

pub loop-period-init : goal.loop-period-init
loop-period-init c = none_yet (λ reader period. missing_refusal (row_of c.args.self.now) c.args.weekday.now c.args.weekend.now period ∷ [])

pub returns-then-is_missing : goal.returns-then-is_missing
unfolding missing_refusals
returns-then-is_missing c =
    let list : CellReader → ℕ → List (Option Refused) = λ reader period. missing_refusal (row_of c.args.self.now) c.args.weekday.now c.args.weekend.now period ∷ [] in
    refused_here 36 c.loop-period.period list c.refusal.result (omega arith) c.loop-period.invariant
    (λ reader are. when_refuses _ _ c.refusal.result (sym c.if-is_missing.ensures)
    (refusal_same _ cause.EnergyMissing None None c.from.result c.loop-period.period c.refusal.result c.refusal.ensures refl c.from.ensures))

pub loop-period-preserved : goal.loop-period-preserved
loop-period-preserved c =
    let list : CellReader → ℕ → List (Option Refused) = λ reader period. missing_refusal (row_of c.args.self.now) c.args.weekday.now c.args.weekend.now period ∷ [] in
    one_more c.loop-period.period list c.loop-period.invariant (λ reader are. when_passes _ _ (sym c.if-is_missing.ensures))

pub returns : goal.returns
unfolding missing_refusals
returns c =
    let list : CellReader → ℕ → List (Option Refused) = λ reader period. missing_refusal (row_of c.args.self.now) c.args.weekday.now c.args.weekend.now period ∷ [] in
    let all : c.loop-period.period ≡ 36 = omega arith in
    subst (λ n. Passes (λ reader. each n (list reader))) all c.loop-period.invariant
