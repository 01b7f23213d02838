use Rattle.std.proofs.Common.{pos, [], ap}
use Rattle.d_search.specs.declared.outcome.Verdict.TheVariants.{Least, GapBudget, GapDuality, Infeasible}
use Rattle.d_certline.specs.Certificates.{kind_of}
use Rattle.d_certline.specs.Lines as line
use Rattle.d_cert.specs.Written.{found_by}
use Rattle.d_cert.proofs.HeadFacts.{verdict_is}
use Rattle.d_cert.proofs.head.save_verdict.Goals.{in-Least, in-GapBudget, in-GapDuality, in-Infeasible}
use Rattle.d_cert.proofs.head.save_verdict.Goals as goal

pub returns-clause-told : goal.returns-clause-told
unfolding line.kind_text kind_of found_by
returns-clause-told g c = λ t.
    c.save_text.ensures.told (line.verdict (kind_of (found_by c.args.verdict [] (pos 0) (pos 0)))) (elim c.match-verdict.branch [
      | in-Least w ↦ verdict_is c.args.verdict Least _ w.in-Least.is (ap (λ b. b.now) w.claim-is)
      | in-GapBudget w ↦ verdict_is c.args.verdict GapBudget _ w.in-GapBudget.is (ap (λ b. b.now) w.claim-is)
      | in-GapDuality w ↦ verdict_is c.args.verdict GapDuality _ w.in-GapDuality.is (ap (λ b. b.now) w.claim-is)
      | in-Infeasible w ↦ verdict_is c.args.verdict Infeasible _ w.in-Infeasible.is (ap (λ b. b.now) w.claim-is)
    ]) t
