use Rattle.std.proofs.Common.{◌≡◌, ◌∙◌, ◌+◌, ◌*◌, ◌<◌, length, get_or, ap, sym, arith}
use Rattle.csv.specs.Records.{prev}
use Rattle.csv.proofs.RecordFacts.{cut-length}
use Rattle.d_table.proofs.BlockFacts.{cell_bounds, cell_bytes}
use Rattle.d_table.proofs.block.Block.at.Goals as goal

pub overflow_mul-place : goal.overflow_mul-place
overflow_mul-place c =
    let i = c.self.inside in
    record { fits = omega (arith, ap length c.self.view_is, cut-length 0 i.ends.items i.bytes.items, ap length c.as_slice-ends.ensures.value) }

pub overflow_add-place : goal.overflow_add-place
overflow_add-place c =
    let i = c.self.inside in
    record { fits = omega (arith, ap length c.self.view_is, cut-length 0 i.ends.items i.bytes.items, ap length c.as_slice-ends.ensures.value) }

pub start_of-requires : goal.start_of-requires
start_of-requires c =
    let i = c.self.inside in
    omega (arith, ap length c.self.view_is, cut-length 0 i.ends.items i.bytes.items, ap length c.as_slice-ends.ensures.value)

pub offset_bounds-ends-place : goal.offset_bounds-ends-place
offset_bounds-ends-place c =
    let i = c.self.inside in
    record { fits = omega (arith, ap length c.self.view_is, cut-length 0 i.ends.items i.bytes.items, ap length c.as_slice-ends.ensures.value) }

pub bounds-ends-place : goal.bounds-ends-place
bounds-ends-place c =
    let i = c.self.inside in
    omega (arith, ap length c.self.view_is, cut-length 0 i.ends.items i.bytes.items, ap length c.as_slice-ends.ensures.value)

pub slice_bounds-result-start : goal.slice_bounds-result-start
slice_bounds-result-start c =
    let i = c.self.inside in
    let within : c.args.row * c.args.width + c.args.column < length i.ends.items = omega (arith, ap length c.self.view_is, cut-length 0 i.ends.items i.bytes.items) in
    let bounds = cell_bounds i.ends.items i.bytes.items (c.args.row * c.args.width + c.args.column) c.self.invariant within in
    let start : c.start_of.result ≡ prev 0 i.ends.items (c.args.row * c.args.width + c.args.column) =
    c.start_of.ensures ∙ ap (λ ends. prev 0 ends (c.args.row * c.args.width + c.args.column)) c.as_slice-ends.ensures.value in
    let end = ap (λ ends. get_or ends (c.args.row * c.args.width + c.args.column) 0) c.as_slice-ends.ensures.value in
    omega (arith, start, end, ap length c.deref.ensures.value, bounds.0, bounds.1)

pub slice_bounds-result-count : goal.slice_bounds-result-count
slice_bounds-result-count c =
    let i = c.self.inside in
    let within : c.args.row * c.args.width + c.args.column < length i.ends.items = omega (arith, ap length c.self.view_is, cut-length 0 i.ends.items i.bytes.items) in
    rw (c.start_of.ensures, c.as_slice-ends.ensures.value) (cell_bounds i.ends.items i.bytes.items (c.args.row * c.args.width + c.args.column) c.self.invariant within).0

pub slice_bounds-result-end : goal.slice_bounds-result-end
slice_bounds-result-end c =
    let i = c.self.inside in
    let within : c.args.row * c.args.width + c.args.column < length i.ends.items = omega (arith, ap length c.self.view_is, cut-length 0 i.ends.items i.bytes.items) in
    rw (c.deref.ensures.value, c.as_slice-ends.ensures.value) (cell_bounds i.ends.items i.bytes.items (c.args.row * c.args.width + c.args.column) c.self.invariant within).1

pub returns : goal.returns
returns c =
    let i = c.self.inside in
    let within : c.args.row * c.args.width + c.args.column < length i.ends.items = omega (arith, ap length c.self.view_is, cut-length 0 i.ends.items i.bytes.items) in
    rw (c.deref.ensures.value, c.start_of.ensures, c.as_slice-ends.ensures.value, ← c.self.view_is)
    (sym (cell_bytes i.ends.items i.bytes.items (c.args.row * c.args.width + c.args.column) within))
