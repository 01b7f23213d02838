use Rattle.std.proofs.Common.{List, ℕ, subst}
use Rattle.std.proofs.lemmas.Result.{err_from_is_err_and}
use Rattle.d_desk.specs.Stages.{PrintsFront}
use Rattle.d_run.specs.declared.fault.Fault.TheVariants.{Failed, Memory}
use Rattle.d_run.proofs.RunLaws.{cut_in_print, cut_by_fault, refusal_known}
use Rattle.d_run.proofs.top.reply.Goals as goal

pub returns-in_err-print_all-in-Ok-clause-told : goal.returns-in_err-print_all-in-Ok-clause-told
returns-in_err-print_all-in-Ok-clause-told g c t =
    let p = err_from_is_err_and c.from_residual.result c.from_residual.ensures.1 in
    let y = g.D.Desk.scene c.prepare.new.desk in
    let z = g.D.Desk.scene c.print_all.new.desk in
    let P : List ℕ → Type 0 = λ text. PrintsFront text y z in
    rw p.1 (cut_in_print _ _ y z c.in-Ok.reply (c.in-Ok.ensures.told t) (subst P c.as_slice.ensures.value (c.in_err-print_all-in-Ok.ensures.cut_short t)))

pub returns-in_err-print_all-in-Err-Refused-clause-told : goal.returns-in_err-print_all-in-Err-Refused-clause-told
returns-in_err-print_all-in-Err-Refused-clause-told g c t =
    let p = err_from_is_err_and c.from_residual-in_err-print_all-in-Err-Refused.result c.from_residual-in_err-print_all-in-Err-Refused.ensures.1 in
    let y = g.D.Desk.scene c.prepare.new.desk in
    let z = g.D.Desk.scene c.print_all-in-Err-Refused.new.desk in
    let P : List ℕ → Type 0 = λ text. PrintsFront text y z in
    rw p.1 (cut_in_print _ _ y z c.in-Err-Refused.reply (refusal_known _ _ y c.in-Err-Refused.field-0 c.in-Err-Refused.reply c.in-Err-Refused.field-0-is (c.in-Err-Refused.ensures.told t))
    (subst P c.as_slice-in-Err-Refused.ensures.value (c.in_err-print_all-in-Err-Refused.ensures.cut_short t)))

pub returns-in-Err-Failed-clause-told : goal.returns-in-Err-Failed-clause-told
returns-in-Err-Failed-clause-told g c t = cut_by_fault _ _ _ c.in-Err-Failed.field-0 Failed c.in-Err-Failed.field-0-is (c.in-Err-Failed.ensures.told t) (λ stops. stops)

pub returns-in-Err-Memory-clause-told : goal.returns-in-Err-Memory-clause-told
returns-in-Err-Memory-clause-told g c t = cut_by_fault _ _ _ c.in-Err-Memory.field-0 Memory c.in-Err-Memory.field-0-is (c.in-Err-Memory.ensures.told t) (λ stops. stops)
