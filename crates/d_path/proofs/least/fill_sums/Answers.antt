use Rattle.std.proofs.Common.{◌+◌, ◌≡◌, arith, rules, length, pos, List, subst, sym, ◌∙◌, ℤ, replicate, FitsSigned}
use Rattle.std.specs.Int.{w128}
use Rattle.std.proofs.lemmas.Int.{to_z-of_z}
use Rattle.d_num.specs.declared.pot.Pot.TheVariants.{To}
use Rattle.d_path.specs.declared.ways.Move.{Move}
use Rattle.d_path.specs.Arcs.{arcs_of}
use Rattle.d_path.proofs.RowLemmas.{row_within}
use Rattle.d_path.proofs.SumLemmas.{AreLeastSums, least_begun, sums_lowered, sums_skipped, sums_least}
use Rattle.d_path.proofs.least.fill_sums.Goals as goal
use Rattle.d_path.proofs.least.fill_sums.Goals.{in-To, in_default}

pub lower_sums-requires-clause-next_within : goal.lower_sums-requires-clause-next_within
lower_sums-requires-clause-next_within c = row_within (arcs_of c.args.ways.now) (c.args.t + 1) c.args.next.now c.requires.sound c.requires.next_wide c.requires.next_cheapest

pub loop-number-init : goal.loop-number-init
loop-number-init c =
    let a = arcs_of c.args.ways.now in
    let n = length c.args.sums.now in
    let fits : FitsSigned w128 c.units.result = search rules in
    let filled : c.fill.new.self ≡ replicate n c.units.result = simp to_z-of_z at (c.fill.ensures.after (λ y e. e)) in
    subst (λ (sums : List ℤ). AreLeastSums a c.costs_at-costs.result.now c.args.next.now sums 0) (sym filled)
    (least_begun a c.costs_at-costs.result.now c.args.next.now n c.units.result c.units.ensures.packed (c.units.ensures.shown ∙ c.no_way.ensures))

pub loop-number-preserved : goal.loop-number-preserved
loop-number-preserved c =
    let a = arcs_of c.args.ways.now in
    let costs = c.costs_at-costs in
    elim c.match-get.branch [
      | in-To w ↦
          rw (w.sums-is)
          (sums_lowered a costs.result.now c.args.next.now c.loop-number.sums w.lower_sums.new.sums c.loop-number.number (To w.in-To.cost) c.index-costs-number.result _ c.loop-number.invariant c.loop-number-test.true costs.ensures.costs.long c.index-costs-number.is (sym c.get.ensures ∙ w.in-To.is) w.lower_sums.auto.sums w.lower_sums.ensures.sums w.lower_sums.ensures.lowered)
      | in_default w ↦
          rw (w.sums-is)
          (sums_skipped a costs.result.now c.args.next.now c.loop-number.sums c.loop-number.number c.index-costs-number.result stay c.loop-number.invariant c.loop-number-test.true costs.ensures.costs.long c.index-costs-number.is (sym c.get.ensures ∙ w.in_default.is))
    ]
  where
    stay : Move
    stay = record { change = pos 0; low = 0; high = 0 }

pub returns-clause-cheapest : goal.returns-clause-cheapest
returns-clause-cheapest c =
    sums_least (arcs_of c.args.ways.now) c.args.t c.costs_at-costs.result.now c.args.next.now c.loop-number.sums c.loop-number.number c.loop-number.invariant (omega arith) c.costs_at-costs.ensures.costs c.requires.next_cheapest c.requires.inside (omega arith)
