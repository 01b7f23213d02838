use Rattle.std.proofs.Common.{◌≡◌, ◌∙◌, ℕ, List, ap, Ok, Err, subst}
use Rattle.std.proofs.lemmas.Result.{err_from_is_err_and}
use Rattle.d_run.specs.declared.record.Recorded.{Recorded}
use Rattle.d_tariff.specs.Shown.{terms_of}
use Rattle.d_words.specs.Shows.{seen_of}
use Rattle.d_report.specs.Tariffs.{tariff_text}
use Rattle.d_run.specs.Record.{IsRecord, rows_with_label}
use Rattle.d_run.specs.Answer.{Answer, IsTariffOf, says, rule_of, RefusesRecord, rows_in, longest_record}
use Rattle.d_run.specs.Replies.{HasValue, RecordStage, IsRecorded, IsReply}
use Rattle.d_urdb.specs.declared.rule.RuleChoice.{RuleChoice}
use Rattle.d_run.specs.declared.verdict.Verdict.TheVariants.{Done}
use Rattle.d_run.specs.declared.fault.Refusal.TheVariants.{LongRecord}
use Rattle.d_run.specs.declared.fault.Fault.TheVariants.{Memory}
use Rattle.d_run.proofs.StageFacts.{stage_ends, stage_goes_on, stops_here, reply_prepared}
use Rattle.d_run.proofs.RecordFound.{record_known}
use Rattle.d_run.proofs.RecordKept.{tariff_kept}
use Rattle.d_run.proofs.show.answer_show.Goals as goal

pub returns-in_err-recorded-clause-told : goal.returns-in_err-recorded-clause-told
returns-in_err-recorded-clause-told g c t =
    let p = err_from_is_err_and c.from_residual.result c.from_residual.ensures.1 in
    let x = g.D.Desk.scene c.args.desk.now in
    let seen = seen_of c.args.show.now in
    let rows = rows_in x.files seen.records in
    let rule = rule_of seen.net_billing in
    let loaded = subst (λ (r : RuleChoice). RecordStage seen.records seen.label r x (g.D.Desk.scene c.load_record.new.desk) (Err c.in_err-recorded.field-0.0))
    c.rule_of-rule.ensures (c.in_err-recorded.ensures.told t) in
    rw (p.1, p.2) (stage_ends seen.records longest_record LongRecord (RefusesRecord rows seen.label rule) (IsRecord rows seen.label rule)
    (IsTariffOf (rows_with_label seen.label rows) seen.label)
    {T = Recorded} (HasValue {T = Recorded} x.files seen.records longest_record (IsRecorded rows seen.label rule)) x _ _ loaded)

pub returns-in_err-tariff_reply-clause-told : goal.returns-in_err-tariff_reply-clause-told
returns-in_err-tariff_reply-clause-told g c t =
    let p = err_from_is_err_and c.from_residual-in_err-tariff_reply.result c.from_residual-in_err-tariff_reply.ensures.1 in
    let x = g.D.Desk.scene c.args.desk.now in
    let y = g.D.Desk.scene c.load_record.new.desk in
    let seen = seen_of c.args.show.now in
    let rows = rows_in x.files seen.records in
    let rule = rule_of seen.net_billing in
    let loaded = rw c.rule_of-rule.ensures at (c.in_ok-recorded.ensures.told t) in
    let terms = terms_of c.in_ok-recorded.recorded.tariff in
    rw (p.1, p.2) (stage_goes_on seen.records longest_record LongRecord (RefusesRecord rows seen.label rule) (IsRecord rows seen.label rule)
    (IsTariffOf (rows_with_label seen.label rows) seen.label) x y _ terms (Err Memory) (record_known rows seen.label rule) loaded.0 loaded.1.0 loaded.1.1.terms
    (stops_here (IsTariffOf (rows_with_label seen.label rows) seen.label terms) y))

pub returns-clause-told : goal.returns-clause-told
returns-clause-told g c t =
    let x = g.D.Desk.scene c.args.desk.now in
    let y = g.D.Desk.scene c.load_record.new.desk in
    let seen = seen_of c.args.show.now in
    let rows = rows_in x.files seen.records in
    let rule = rule_of seen.net_billing in
    let loaded = rw c.rule_of-rule.ensures at (c.in_ok-recorded.ensures.told t) in
    let recorded = c.in_ok-recorded.recorded in
    let terms = terms_of recorded.tariff in
    let kept : tariff_text recorded.table seen.label terms ≡ tariff_text (rows_with_label seen.label rows) seen.label terms =
    ap (λ (table : List (List (List ℕ))). tariff_text table seen.label terms) loaded.1.1.table ∙ tariff_kept rows seen.label terms in
    let P : List ℕ → Type 0 = λ text. IsReply (λ (answer : Answer). answer ≡ says Done text) c.in_ok-tariff_reply.field-0 in
    stage_goes_on seen.records longest_record LongRecord (RefusesRecord rows seen.label rule) (IsRecord rows seen.label rule)
    (IsTariffOf (rows_with_label seen.label rows) seen.label) x y _ terms (Ok c.in_ok-tariff_reply.field-0) (record_known rows seen.label rule)
    loaded.0 loaded.1.0 loaded.1.1.terms
    (reply_prepared (IsTariffOf (rows_with_label seen.label rows) seen.label terms) y c.in_ok-tariff_reply.field-0 (subst P kept c.in_ok-tariff_reply.ensures))
