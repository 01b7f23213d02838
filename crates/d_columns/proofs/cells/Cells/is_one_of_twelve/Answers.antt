use Rattle.std.proofs.Common.{ℕ, Bool, ◌≡◌, false, true, sym, arith, ap, ◌∙◌}
use Rattle.d_columns.specs.Ignored.{has_name}
use Rattle.d_columns.specs.MonthLists.{month_name}
use Rattle.d_columns.specs.Shown.{row_of}
use Rattle.d_columns.proofs.IgnoredFacts.{none_further}
use Rattle.d_columns.proofs.IgnoredFacts.{number_passes, no_number_passes}
use Rattle.d_columns.proofs.cells.Cells.is_one_of_twelve.Goals as goal

pub returns-then-has_name : goal.returns-then-has_name
returns-then-has_name c =
    let test : ℕ → Bool = λ month. has_name (row_of c.args.self.now) c.args.column (month_name c.args.list month) in
    let here : test c.loop-month.month ≡ true = ap (has_name (row_of c.args.self.now) c.args.column) (sym c.month_name.ensures) ∙ sym c.has_name.ensures ∙ c.if-has_name.true in
    sym (number_passes test 0 12 c.loop-month.month (omega arith) (omega arith) here)

pub loop-month-preserved : goal.loop-month-preserved
loop-month-preserved c =
    let test : ℕ → Bool = λ month. has_name (row_of c.args.self.now) c.args.column (month_name c.args.list month) in
    let here : test c.loop-month.month ≡ false = ap (has_name (row_of c.args.self.now) c.args.column) (sym c.month_name.ensures) ∙ sym c.has_name.ensures ∙ c.if-has_name.false in
    none_further test c.loop-month.month c.loop-month.invariant here

pub returns : goal.returns
returns c =
    let test : ℕ → Bool = λ month. has_name (row_of c.args.self.now) c.args.column (month_name c.args.list month) in
    sym (no_number_passes test 0 12 (λ k low high. c.loop-month.invariant k (omega (arith, high))))
