use Rattle.std.proofs.Common.{◌≡◌, ◌+◌, ◌<◌, length, arith, rules, FitsSigned, ◌∙◌, ◌+ℤ◌, ℤ, pos, ap, slice_index_or}
use Rattle.std.specs.Int.{w128, int_min}
use Rattle.std.proofs.lemmas.List.{get_or_default}
use Rattle.d_num.specs.declared.pot.Pot.TheVariants.{NoWay}
use Rattle.d_rows.specs.Packed.{shown}
use Rattle.std.proofs.lemmas.Int.{to_z-of_z}
use Rattle.d_path.specs.Arcs.{arcs_of}
use Rattle.d_path.proofs.LowerLemmas.{lands}
use Rattle.d_path.proofs.SumLemmas.{sums_more, sums_all}
use Rattle.d_path.proofs.least.lower_sums.Goals as goal

pub overflow_add-span : goal.overflow_add-span
overflow_add-span c = omega (arith, lands (arcs_of c.args.ways.now) c.args.step.now c.span_of-span.result.from c.span_of-span.result.to c.span_of-span.result.count c.loop-i.i (length c.args.next.now) c.span_of-span.ensures c.loop-i-test.true c.requires.next_wide)

pub offset_bounds-next-span : goal.offset_bounds-next-span
offset_bounds-next-span c = omega (arith, lands (arcs_of c.args.ways.now) c.args.step.now c.span_of-span.result.from c.span_of-span.result.to c.span_of-span.result.count c.loop-i.i (length c.args.next.now) c.span_of-span.ensures c.loop-i-test.true c.requires.next_wide)

pub bounds-next-span : goal.bounds-next-span
bounds-next-span c = lands (arcs_of c.args.ways.now) c.args.step.now c.span_of-span.result.from c.span_of-span.result.to c.span_of-span.result.count c.loop-i.i (length c.args.next.now) c.span_of-span.ensures c.loop-i-test.true c.requires.next_wide

pub loop-i-preserved : goal.loop-i-preserved
loop-i-preserved c =
    let a = arcs_of c.args.ways.now in
    let span = c.span_of-span.result in
    let i = c.loop-i.i in
    let place = lands a c.args.step.now span.from span.to span.count i (length c.args.next.now) c.span_of-span.ensures c.loop-i-test.true c.requires.next_wide in
    let inside : span.from + i < length c.args.sums.now = omega (arith, c.span_of-span.ensures.inside i c.loop-i-test.true) in
    let sum : ℤ = slice_index_or c.loop-i.sums (span.from + i) (pos 0) in
    let by_move : ℤ = c.units.result +ℤ c.units-by.result in
    let fits : FitsSigned w128 c.min.result = search rules in
    let sum_fits : FitsSigned w128 sum = search rules in
    let units_fit : FitsSigned w128 c.units.result = search rules in
    let cost_fits : FitsSigned w128 c.units-by.result = search rules in
    let by_move_fits : FitsSigned w128 by_move = search rules in
    let shows : shown c.units.result ≡ slice_index_or c.args.next.now (span.to + i) NoWay =
    c.units.ensures.shown ∙ c.index-next-span.is ∙ get_or_default c.args.next.now (span.to + i) c.index-next-span.result NoWay place in
    let least : c.min.result ≡ int_min sum by_move = simp to_z-of_z at c.min.ensures.value in
    simp to_z-of_z
    (sums_more a c.args.step.now c.args.cost c.args.next.now c.args.sums.now c.loop-i.sums span.from span.to span.count i c.units.result c.min.result c.span_of-span.ensures c.loop-i.invariant c.loop-i-test.true inside place
    c.units.ensures.packed shows (c.requires.next_within (span.to + i) NoWay place) c.requires.cost (least ∙ ap (λ (u : ℤ). int_min sum (c.units.result +ℤ u)) c.units-by.ensures.value))

pub returns-clause-lowered : goal.returns-clause-lowered
returns-clause-lowered c =
    let span = c.span_of-span.result in
    sums_all (arcs_of c.args.ways.now) c.args.step.now c.args.cost c.args.next.now c.args.sums.now c.loop-i.sums span.from span.to span.count c.loop-i.i c.span_of-span.ensures c.requires.wide (omega arith) c.loop-i.invariant
