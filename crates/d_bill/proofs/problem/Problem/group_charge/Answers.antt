use Rattle.std.proofs.Common.{◌≡◌, ◌*◌, ◌^◌, Some, length, refl}
use Rattle.std.specs.Prelude.{slice_get}
use Rattle.std.proofs.lemmas.Option.{slice_get_read}
use Rattle.d_num.specs.Amount.{IsUpTo, IsWatt}
use Rattle.d_bill.proofs.SizeFacts.{month_peak}
use Rattle.d_bill.proofs.ChargeFacts.{group_small, few_groups}
use Rattle.d_bill.proofs.problem.Problem.group_charge.Goals as goal

pub returns-clause-small : goal.returns-clause-small
returns-clause-small c =
    let i = c.args.self.now in
    let peak = c.index-groups-group.result in
    let fine = c.groups.ensures.range in
    let stands : slice_get i.peaks c.args.group ≡ Some peak = rw c.groups.ensures.value at (slice_get_read c.groups.result.now (length c.groups.result.now) c.args.group peak refl (rw c.groups.ensures.value c.requires.group) c.index-groups-group.is) in
    let power : IsUpTo (8 * 10 ^ 9) c.peak_of.result = rw c.peak_of.ensures (month_peak i c.args.group c.args.tally.now fine (few_groups i c.args.group fine c.requires.group) c.requires.tally) in
    let floor : IsWatt peak.floor = rw c.value-floor.ensures.value at c.value-floor.ensures.range in
    group_small i c.args.group peak c.peak_of.result c.charge.result fine c.requires.group stands power floor c.charge.ensures.size
