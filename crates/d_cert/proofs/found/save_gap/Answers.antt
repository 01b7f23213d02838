use Rattle.std.specs.Int.{w128}
use Rattle.std.proofs.lemmas.Int.{to_z-of_z}
use Rattle.std.proofs.lemmas.Result.{err_from_is_err_and}
use Rattle.std.proofs.Common.{rules, [], ◌∷◌, sym, refl, ap, ◌∙◌}
use Rattle.d_num.specs.declared.pot.Pot.TheVariants.{To}
use Rattle.d_certline.specs.Lines as line
use Rattle.d_cert.specs.Written.{month_days}
use Rattle.d_cert.proofs.FoundFacts.{gap_front, gap_end}
use Rattle.d_cert.proofs.found.save_gap.Goals as goal

pub returns-in_err-save_plan-clause-told : goal.returns-in_err-save_plan-clause-told
returns-in_err-save_plan-clause-told g c = λ t.
    let p = err_from_is_err_and c.from_residual.result c.from_residual.ensures.1 in
    rw p.1 (gap_front (month_days c.args.problem.now c.args.modes.now) c.args.bill c.args.bound _ _ (c.in_err-save_plan.ensures.told t))

pub returns-clause-told : goal.returns-clause-told
unfolding line.word line.parts
returns-clause-told g c = λ t.
    gap_end (month_days c.args.problem.now c.args.modes.now) c.args.bill c.args.bound _ _ _ c.save_numbers.result (c.in_ok-save_plan.ensures.told t)
    (c.save_numbers.ensures.told (line.lower c.args.bound) refl (ap (λ z. To z ∷ []) (sym (to_z-of_z w128 c.units_of.result (search rules) ∙ c.units_of.ensures.value))) t)
