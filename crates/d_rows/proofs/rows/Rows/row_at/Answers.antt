use Rattle.std.proofs.Common.{refl, arith}
use Rattle.d_rows.proofs.RowLemmas.{row_ends, row_part}
use Rattle.d_rows.proofs.rows.Rows.row_at.Goals as goal

pub overflow_mul-start : goal.overflow_mul-start
overflow_mul-start c = let h = row_ends _ _ c.args.t _ _ c.self.view_is c.self.invariant c.requires in record { fits = omega arith }

pub overflow_add-result : goal.overflow_add-result
overflow_add-result c = let h = row_ends _ _ c.args.t _ _ c.self.view_is c.self.invariant c.requires in record { fits = omega arith }

pub offset_bounds-deref-start : goal.offset_bounds-deref-start
offset_bounds-deref-start c = let h = row_ends _ _ c.args.t _ _ c.self.view_is c.self.invariant c.requires in let k = c.deref.ensures.len in let n = c.self.inside.block.ok.0 in let r = c.deref.type_inv in record { fits = omega arith }

pub slice_bounds-result-end : goal.slice_bounds-result-end
slice_bounds-result-end c = let h = row_ends _ _ c.args.t _ _ c.self.view_is c.self.invariant c.requires in let k = c.deref.ensures.len in let v = c.deref.ensures.value in omega arith

pub returns : goal.returns
returns c = rw c.deref.ensures.value (row_part _ _ c.args.t _ _ _ _ c.self.view_is c.requires refl refl)
