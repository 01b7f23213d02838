use Rattle.std.proofs.Common.{ℕ, ◌≤◌, ◌^◌, arith, refl, ◌∙◌}
use Rattle.std.proofs.lemmas.List.{length-set}
use Rattle.std.proofs.lemmas.List.Elements.{All-replicate, All-set}
use Rattle.d_urdb.specs.Ratchets.{ratchet_of}
use Rattle.d_urdb.specs.Shown.{row_of}
use Rattle.d_urdb.proofs.MonthLoops.{first_more}
use Rattle.d_urdb.proofs.RatchetFacts.{ratchets_all}
use Rattle.d_urdb.proofs.row.Record.fractions.Goals as goal

pub loop-month-init : goal.loop-month-init
loop-month-init c = (
  λ reader are month below. absurd (omega (arith, below)),
  All-replicate (λ (fraction : ℕ). fraction ≤ 10 ^ 20) 12 0 (omega arith),
  refl,
)

pub loop-month-preserved : goal.loop-month-preserved
loop-month-preserved c =
    let month = c.loop-month.month in
    rw c.from-in-loop-month.ensures (
      λ reader are.
          first_more (ratchet_of reader (row_of c.args.self.now)) 0 c.fraction.result month c.loop-month.fractions
          (omega (arith, c.loop-month.invariant.2, c.loop-month-test.true)) (c.loop-month.invariant.0 reader are)
          (c.fraction.ensures.value reader are),
      All-set (λ (fraction : ℕ). fraction ≤ 10 ^ 20) c.loop-month.fractions month c.fraction.result c.fraction.ensures.range c.loop-month.invariant.1,
      length-set c.loop-month.fractions month c.fraction.result ∙ c.loop-month.invariant.2,
    )

pub returns-clause-value : goal.returns-clause-value
returns-clause-value c reader are =
    ratchets_all reader (row_of c.args.self.now) c.loop-month.month c.loop-month.fractions (omega arith) c.loop-month.invariant.2
    (c.loop-month.invariant.0 reader are)

pub returns-clause-range : goal.returns-clause-range
returns-clause-range c = c.loop-month.invariant.1
