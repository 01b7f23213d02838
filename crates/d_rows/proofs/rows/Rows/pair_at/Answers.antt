use Rattle.std.proofs.Common.{◌∙◌, refl, arith}
use Rattle.d_rows.proofs.RowLemmas.{row_ends, rows_apart, row_part, row_lent}
use Rattle.d_rows.proofs.rows.Rows.pair_at.Goals as goal

pub overflow_mul-start : goal.overflow_mul-start
overflow_mul-start c = let h = row_ends _ _ c.args.write _ _ c.self.view_is c.self.invariant c.requires.write in record { fits = omega arith }

pub overflow_add-end : goal.overflow_add-end
overflow_add-end c = let h = row_ends _ _ c.args.write _ _ c.self.view_is c.self.invariant c.requires.write in record { fits = omega arith }

pub overflow_mul-from : goal.overflow_mul-from
overflow_mul-from c = let h = row_ends _ _ c.args.read _ _ c.self.view_is c.self.invariant c.requires.read in record { fits = omega arith }

pub overflow_add-to : goal.overflow_add-to
overflow_add-to c = let h = row_ends _ _ c.args.read _ _ c.self.view_is c.self.invariant c.requires.read in record { fits = omega arith }

pub cut_apart-requires-clause-end_in_bounds : goal.cut_apart-requires-clause-end_in_bounds
cut_apart-requires-clause-end_in_bounds c = let h = row_ends _ _ c.args.write _ _ c.self.view_is c.self.invariant c.requires.write in omega arith

pub cut_apart-requires-clause-to_in_bounds : goal.cut_apart-requires-clause-to_in_bounds
cut_apart-requires-clause-to_in_bounds c = let h = row_ends _ _ c.args.read _ _ c.self.view_is c.self.invariant c.requires.read in omega arith

pub cut_apart-requires-clause-apart : goal.cut_apart-requires-clause-apart
cut_apart-requires-clause-apart c = rows_apart c.self.inside.levels c.args.write c.args.read c.requires.apart

pub returns : goal.returns
returns c =
    let i = c.self.inside in
    let count = i.block.ok.0 in (
      (refl, λ ws. row_lent i.levels i.count c.args.write _ _ _ i.block.items _ ws c.self.view_is c.self.invariant count c.requires.write refl refl),
      record {
        writes_back = tt;
        row = c.cut_apart.ensures.written ∙ row_part i.levels i.count c.args.write _ _ i.block.items _ c.self.view_is c.requires.write refl refl;
        other = c.cut_apart.ensures.read ∙ row_part i.levels i.count c.args.read _ _ i.block.items _ c.self.view_is c.requires.read refl refl;
      },
    )
