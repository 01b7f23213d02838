use Rattle.std.proofs.Common.{ℕ, Bool, sym, arith}
use Rattle.d_columns.specs.declared.names.Part.TheVariants.{Sell}
use Rattle.d_urdb.specs.Shown.{row_of}
use Rattle.d_columns.specs.Tiers.{part_cell, is_filled}
use Rattle.d_urdb.proofs.FirstFound.{first_at, first_nowhere, none_further}
use Rattle.d_urdb.proofs.row.Record.first_sell.Goals as goal

pub returns-then-is_filled-clause-value : goal.returns-then-is_filled-clause-value
returns-then-is_filled-clause-value c =
    let test : ℕ → Bool = λ tier. is_filled (part_cell (row_of c.args.self.now) c.args.structure c.args.period tier Sell) in
    sym (first_at test 0 16 c.loop-tier.tier (omega arith) (omega arith) (λ k low high. c.loop-tier.invariant k high) (sym c.if-is_filled.ensures))

pub returns-clause-value : goal.returns-clause-value
returns-clause-value c =
    let test : ℕ → Bool = λ tier. is_filled (part_cell (row_of c.args.self.now) c.args.structure c.args.period tier Sell) in
    sym (first_nowhere test 0 16 (λ k low high. c.loop-tier.invariant k (omega (arith, high))))

pub loop-tier-preserved : goal.loop-tier-preserved
loop-tier-preserved c =
    let test : ℕ → Bool = λ tier. is_filled (part_cell (row_of c.args.self.now) c.args.structure c.args.period tier Sell) in
    none_further test c.loop-tier.tier c.loop-tier.invariant (sym c.if-is_filled.ensures)
