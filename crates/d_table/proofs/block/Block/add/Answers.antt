use Rattle.std.proofs.Common.{◌≡◌, ◌+◌, length, rules}
use Rattle.d_table.proofs.BlockFacts.{cut_more, cells_more}
use Rattle.d_table.proofs.block.Block.add.Goals as goal

pub invariant_of-self-2 : goal.invariant_of-self-2
invariant_of-self-2 c =
    let size : c.in-Ok.end ≡ length c.self.inside.bytes.items + length c.args.cell.now = search rules in
    rw (c.in_ok-push.ensures.items, c.in_ok-reserve.ensures.items, c.in_ok-extend_from_slice.ensures.items)
    (cut_more c.self.inside.ends.items c.self.inside.bytes.items c.args.cell.now c.in-Ok.end c.self.invariant size)

pub returns-clause-value : goal.returns-clause-value
returns-clause-value c =
    let size : c.in-Ok.end ≡ length c.self.inside.bytes.items + length c.args.cell.now = search rules in
    rw (c.in_ok-push.ensures.items, c.in_ok-reserve.ensures.items, c.in_ok-extend_from_slice.ensures.items, ← c.self.view_is)
    (cells_more c.self.inside.ends.items c.self.inside.bytes.items c.args.cell.now c.in-Ok.end c.self.invariant size)
