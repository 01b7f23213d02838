use Rattle.std.proofs.Common.{◌≡◌, ◌^◌, ℕ, List, length, Option, arith, sym, ap, subst, inr}
use Rattle.std.proofs.lemmas.Result.{err_from_is_err_and}
use Rattle.d_list.specs.Firsts.{each}
use Rattle.d_meter.specs.declared.fault.MeterFault.{MeterFault}
use Rattle.d_meter.specs.Readings.{MeterReader, row_refusals, row_count}
use Rattle.d_meter.specs.Checks.{Passes}
use Rattle.d_meter.proofs.RowLoop.{none_yet, one_more, refused_here, net_more, all_net, long_more, small_more, small_yet}
use Rattle.d_meter.proofs.read.read_rows.Goals as goal

pub loop-row-init : goal.loop-row-init
loop-row-init c = record {
  passes = none_yet (λ reader. row_refusals reader c.args.table.now c.args.head.month.year c.args.head.month.number c.args.head.minutes);
  read = λ reader are. sym c.new-net.ensures;
  long = ap length c.new-net.ensures;
  small = small_yet (10 ^ 9) c.new-net.result c.new-net.ensures;
}

pub returns-in_err-read_row-clause-refusals : goal.returns-in_err-read_row-clause-refusals
returns-in_err-read_row-clause-refusals c =
    let p = err_from_is_err_and c.from_residual.result c.from_residual.ensures.1 in
    let list : MeterReader → ℕ → List (Option MeterFault) =
    λ reader. row_refusals reader c.args.table.now c.args.head.month.year c.args.head.month.number c.args.head.minutes in
    rw (p.1, p.2) (inr (refused_here (row_count c.args.table.now) c.loop-row.row list c.in_err-read_row.field-0.0 (omega (arith, c.loop-row-test.true, c.rows-row-end.ensures.count)) c.loop-row.invariant.passes c.in_err-read_row.ensures.refusals))

pub loop-row-preserved : goal.loop-row-preserved
loop-row-preserved c =
    let list : MeterReader → ℕ → List (Option MeterFault) =
    λ reader. row_refusals reader c.args.table.now c.args.head.month.year c.args.head.month.number c.args.head.minutes in
    record {
      passes = one_more c.loop-row.row list c.loop-row.invariant.passes c.in_ok-read_row.ensures.refusals;
      read = λ reader are. rw (c.in_ok-add.ensures.ok) (net_more reader c.args.table.now c.loop-row.row c.loop-row.net c.in_ok-read_row.field-0
          (omega (arith, c.loop-row-test.true, c.rows-row-end.ensures.count)) (c.loop-row.invariant.read reader are) (c.in_ok-read_row.ensures.net reader are));
      long = long_more c.loop-row.net c.add.new.self c.in_ok-read_row.field-0 c.loop-row.row c.in_ok-add.ensures.ok c.loop-row.invariant.long;
      small = small_more (10 ^ 9) c.loop-row.net c.add.new.self c.in_ok-read_row.field-0 c.in_ok-add.ensures.ok c.loop-row.invariant.small c.in_ok-read_row.ensures.small;
    }

pub returns-clause-refusals : goal.returns-clause-refusals
returns-clause-refusals c =
    let list : MeterReader → ℕ → List (Option MeterFault) =
    λ reader. row_refusals reader c.args.table.now c.args.head.month.year c.args.head.month.number c.args.head.minutes in
    let all : c.loop-row.row ≡ row_count c.args.table.now = omega (arith, c.rows-row-end.ensures.count) in
    subst (λ n. Passes (λ reader. each n (list reader))) all c.loop-row.invariant.passes

pub returns-clause-net : goal.returns-clause-net
returns-clause-net c = λ reader are.
    all_net reader c.args.table.now c.loop-row.row c.loop-row.net (omega (arith, c.rows-row-end.ensures.count)) (c.loop-row.invariant.read reader are)
