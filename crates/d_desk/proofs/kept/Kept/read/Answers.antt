use Rattle.std.proofs.Common.{◌≡◌, ◌+◌, ◌-◌, ◌≤◌, length, take, drop, min, refl, arith}
use Rattle.d_desk.proofs.Storing.{piece_and_rest, nothing_left}
use Rattle.d_desk.proofs.kept.Kept.read.Goals as goal

pub returns-clause-told : goal.returns-clause-told
returns-clause-told c =
    let k = c.args.self.now in
    let n = c.min-count.result in
    let fits : k.at + n ≤ length k.input.items = omega (arith, k.within) in
    let piece : c.copy_from_slice.new.self ≡ take ((k.at + n) - k.at) (drop k.at k.input.items) = rw (← c.deref.ensures.value) c.copy_from_slice.ensures.after in
    let count : n ≡ min (min (length c.args.room.now) (length k.input.items - k.at)) k.greatest = omega arith in
    record {
      left = piece_and_rest k.input.items c.args.room.now c.copy_from_slice.new.self k.at n fits piece;
      ended = nothing_left k.input.items c.args.room.now c.copy_from_slice.new.self k.at n k.greatest fits piece k.moves count;
      files = refl;
      saved = refl;
      printed = refl;
      opened = refl;
    }
