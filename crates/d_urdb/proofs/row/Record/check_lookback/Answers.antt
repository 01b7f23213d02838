use Rattle.std.proofs.Common.{pos, int_lt, refl, sym, ap, ◌∙◌, arith}
use Rattle.d_urdb.specs.Shown.{row_of}
use Rattle.d_urdb.proofs.CheckFacts.{refusal_same}
use Rattle.d_urdb.proofs.NamedFacts.{kept_units}
use Rattle.d_urdb.proofs.RatchetFacts.{lookback_passes, lookback_refuses}
use Rattle.d_urdb.proofs.row.Record.check_lookback.Goals as goal
use Rattle.d_urdb.specs.declared.cause.Cause.TheVariants as cause

pub returns-then-lookback-lt0 : goal.returns-then-lookback-lt0
returns-then-lookback-lt0 c reader are =
    let kept = kept_units 100 c.args.lookback (omega arith) c.requires.limit in
    lookback_refuses reader (row_of c.args.self.now) c.args.lookback c.refusal.result (c.requires.number reader are)
    (ap (λ n. int_lt n (pos 0)) (sym kept) ∙ c.if-lookback-lt0.true)
    (refusal_same _ cause.Fraction _ _ 0 0 c.refusal.result c.refusal.ensures c.position-column.ensures.value refl)

pub returns : goal.returns
returns c reader are =
    let kept = kept_units 100 c.args.lookback (omega arith) c.requires.limit in
    lookback_passes reader (row_of c.args.self.now) c.args.lookback (c.requires.number reader are)
    (ap (λ n. int_lt n (pos 0)) (sym kept) ∙ c.if-lookback-lt0.false)
