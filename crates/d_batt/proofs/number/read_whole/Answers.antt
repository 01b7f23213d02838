use Rattle.std.proofs.Common.{◌≡◌, ◌^◌, Ok, Err, arith}
use Rattle.std.specs.Int.{w64, w128}
use Rattle.std.proofs.Common.{to_z, of_z}
use Rattle.std.proofs.lemmas.Int.{ints}
use Rattle.d_num.specs.Amount.{IsWithin}
use Rattle.d_batt.proofs.Readers.{as_read}
use Rattle.d_batt.proofs.number.read_whole.Goals as goal

pub returns-in-Ok : goal.returns-in-Ok
returns-in-Ok c =
    let within : IsWithin (10 ^ 10) c.in-Ok.number = c.in-Ok.ensures.range in
    let kept : to_z w64 (of_z w64 (to_z w128 (of_z w128 c.in-Ok.number))) ≡ c.in-Ok.number = omega (arith, ints, within) in
    rw kept (as_read c.args.cell.now (Ok c.in-Ok.number) c.in-Ok.ensures.value)

pub returns-in-Err : goal.returns-in-Err
returns-in-Err c = as_read c.args.cell.now (Err c.in-Err.fault) c.in-Err.ensures.fault
