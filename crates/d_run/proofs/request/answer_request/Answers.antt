use Rattle.std.proofs.Common.{◌≡◌, ◌∙◌, ℕ, List, ap, Err, subst}
use Rattle.std.proofs.lemmas.Result.{err_from_is_err_and}
use Rattle.d_desk.specs.Scene.{Files}
use Rattle.d_run.specs.declared.record.Recorded.{Recorded}
use Rattle.d_tariff.specs.Shown.{terms_of}
use Rattle.d_words.specs.Asking.{asked_of}
use Rattle.d_run.specs.Record.{IsRecord, rows_with_label}
use Rattle.d_run.specs.RecordText.{hourly_text}
use Rattle.d_run.proofs.RecordKept.{hourly_kept}
use Rattle.d_run.specs.Answer.{IsWithTerms, rule_of, RefusesRecord, rows_in, longest_record}
use Rattle.d_run.specs.Replies.{HasValue, PreparesOne, RecordStage, IsRecorded}
use Rattle.d_urdb.specs.declared.rule.RuleChoice.{RuleChoice}
use Rattle.d_run.specs.declared.fault.Refusal.TheVariants.{LongRecord}
use Rattle.d_run.proofs.StageFacts.{stage_ends, stage_goes_on}
use Rattle.d_run.proofs.RecordFound.{record_known}
use Rattle.d_run.proofs.request.answer_request.Goals as goal

pub returns-in_err-recorded-clause-told : goal.returns-in_err-recorded-clause-told
returns-in_err-recorded-clause-told g c t =
    let p = err_from_is_err_and c.from_residual.result c.from_residual.ensures.1 in
    let x = g.D.Desk.scene c.args.desk.now in
    let asked = asked_of c.args.request.now in
    let rows = rows_in x.files asked.records in
    let rule = rule_of asked.net_billing in
    let text = hourly_text (rows_with_label asked.label rows) in
    let loaded = subst (λ (r : RuleChoice). RecordStage asked.records asked.label r x (g.D.Desk.scene c.load_record.new.desk) (Err c.in_err-recorded.field-0.0))
    c.rule_of-rule.ensures (c.in_err-recorded.ensures.told t) in
    rw (p.1, p.2) (stage_ends asked.records longest_record LongRecord (RefusesRecord rows asked.label rule) (IsRecord rows asked.label rule) (IsWithTerms x.files asked text)
    {T = Recorded} (HasValue {T = Recorded} x.files asked.records longest_record (IsRecorded rows asked.label rule)) x _ _ loaded)

pub returns-clause-told : goal.returns-clause-told
returns-clause-told g c t =
    let x = g.D.Desk.scene c.args.desk.now in
    let asked = asked_of c.args.request.now in
    let rows = rows_in x.files asked.records in
    let rule = rule_of asked.net_billing in
    let text = hourly_text (rows_with_label asked.label rows) in
    let y = g.D.Desk.scene c.load_record.new.desk in
    let z = g.D.Desk.scene c.answer_with_record.new.desk in
    let loaded = rw c.rule_of-rule.ensures at (c.in_ok-recorded.ensures.told t) in
    stage_goes_on asked.records longest_record LongRecord (RefusesRecord rows asked.label rule) (IsRecord rows asked.label rule) (IsWithTerms x.files asked text)
    x y z (terms_of c.in_ok-recorded.recorded.tariff) c.answer_with_record.result (record_known rows asked.label rule) loaded.0 loaded.1.0 loaded.1.1.terms
    (let terms = terms_of c.in_ok-recorded.recorded.tariff in
    let kept : hourly_text c.in_ok-recorded.recorded.table ≡ text = ap hourly_text loaded.1.1.table ∙ hourly_kept rows asked.label in
    let P : Files → Type 0 = λ files. PreparesOne (IsWithTerms files asked text terms) y z c.answer_with_record.result in
    let Q : List ℕ → Type 0 = λ told. PreparesOne (IsWithTerms y.files asked told terms) y z c.answer_with_record.result in
    subst P loaded.0.files (subst Q kept (c.answer_with_record.ensures.told t)))
