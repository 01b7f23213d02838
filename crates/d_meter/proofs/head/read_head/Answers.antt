use Rattle.std.proofs.Common.{sym}
use Rattle.d_meter.specs.Readings.{head_refusals, month_refusals}
use Rattle.d_meter.proofs.Tests.{decided}
use Rattle.d_meter.proofs.HeadFacts.{other_header, few_rows, no_first, no_second, both_starts}
use Rattle.d_meter.proofs.head.read_head.Goals as goal

pub returns-then-not-has_names-clause-refusals : goal.returns-then-not-has_names-clause-refusals
returns-then-not-has_names-clause-refusals c = λ reader are. other_header reader c.args.table.now (sym c.if-not-has_names.ensures.value)

pub returns-then-count-lt2-clause-refusals : goal.returns-then-count-lt2-clause-refusals
returns-then-count-lt2-clause-refusals c =
    λ reader are. few_rows reader c.args.table.now c.rows-count.result (sym c.if-not-has_names.ensures.value) c.rows-count.ensures.count c.if-count-lt2.true

pub returns-in_default-clause-refusals : goal.returns-in_default-clause-refusals
returns-in_default-clause-refusals c =
    λ reader are. no_first reader c.args.table.now c.rows-count.result (sym c.if-not-has_names.ensures.value) c.rows-count.ensures.count c.if-count-lt2.false
    (c.in_default.ensures.value reader are)

pub returns-in_default-start_at-clause-refusals : goal.returns-in_default-start_at-clause-refusals
returns-in_default-start_at-clause-refusals c =
    λ reader are. no_second reader c.args.table.now c.rows-count.result (sym c.if-not-has_names.ensures.value) c.rows-count.ensures.count c.if-count-lt2.false
    c.in-Some.first (c.in-Some.ensures.value reader are) (c.in_default-start_at.ensures.value reader are)

pub returns-clause-refusals : goal.returns-clause-refusals
returns-clause-refusals c =
    decided (λ reader. head_refusals reader c.args.table.now) (month_refusals c.in-Some.first c.in-Some-start_at.second c.rows-count.result) c.head_of.result
    (λ reader are. both_starts reader c.args.table.now c.rows-count.result (sym c.if-not-has_names.ensures.value) c.rows-count.ensures.count c.if-count-lt2.false
    c.in-Some.first c.in-Some-start_at.second (c.in-Some.ensures.value reader are) (c.in-Some-start_at.ensures.value reader are))
    c.head_of.ensures.refusals
