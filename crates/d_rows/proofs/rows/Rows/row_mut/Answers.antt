use Rattle.std.proofs.Common.{◌∙◌, refl, arith}
use Rattle.d_rows.proofs.RowLemmas.{row_ends, row_part, row_lent}
use Rattle.d_rows.proofs.rows.Rows.row_mut.Goals as goal

pub overflow_mul-start : goal.overflow_mul-start
overflow_mul-start c = let h = row_ends _ _ c.args.t _ _ c.self.view_is c.self.invariant c.requires in record { fits = omega arith }

pub overflow_add-end : goal.overflow_add-end
overflow_add-end c = let h = row_ends _ _ c.args.t _ _ c.self.view_is c.self.invariant c.requires in record { fits = omega arith }

pub cut_apart-row-requires-clause-end_in_bounds : goal.cut_apart-row-requires-clause-end_in_bounds
cut_apart-row-requires-clause-end_in_bounds c = let h = row_ends _ _ c.args.t _ _ c.self.view_is c.self.invariant c.requires in omega arith

pub cut_apart-row-requires-clause-to_in_bounds : goal.cut_apart-row-requires-clause-to_in_bounds
cut_apart-row-requires-clause-to_in_bounds c = let h = row_ends _ _ c.args.t _ _ c.self.view_is c.self.invariant c.requires in omega arith

pub returns : goal.returns
returns c =
    let i = c.self.inside in
    let count = i.block.ok.0 in (
      (refl, λ ws. row_lent i.levels i.count c.args.t _ _ _ i.block.items _ ws c.self.view_is c.self.invariant count c.requires refl refl),
      record {
        writes_back = tt;
        row = c.cut_apart-row.ensures.written ∙ row_part i.levels i.count c.args.t _ _ i.block.items _ c.self.view_is c.requires refl refl;
      },
    )
