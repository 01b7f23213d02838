use Rattle.std.proofs.Common.{ℕ, Option, sym, ap, ◌∙◌}
use Rattle.d_text.specs.Brackets.{Level, row_reader}
use Rattle.d_text.proofs.grid.GridScan.enter.Goals as goal

pub returns-clause-goes : goal.returns-clause-goes
returns-clause-goes c = λ place e. ap (λ (l : Level (Option ℕ) ℕ). row_reader.next place l c.args.byte) (sym c.start-self.ensures.unread) ∙ c.step.ensures.goes place e

pub returns-clause-stops : goal.returns-clause-stops
returns-clause-stops c = λ place e. ap (λ (l : Level (Option ℕ) ℕ). row_reader.next place l c.args.byte) (sym c.start-self.ensures.unread) ∙ c.step.ensures.stops place e
