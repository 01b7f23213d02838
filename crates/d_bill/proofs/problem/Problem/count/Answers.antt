use Rattle.std.proofs.Common.{◌≡◌, ◌*◌, ◌^◌, ℤ, pos, ◌*ℤ◌, ◌+ℤ◌, to_z, of_z, w64, sym, ap, subst, ◌∙◌, arith, slice_index_or}
use Rattle.std.proofs.lemmas.Int.{ints}
use Rattle.d_num.specs.Amount.{IsWithin}
use Rattle.d_bill.specs.declared.arc.Arc.{Arc}
use Rattle.d_bill.specs.Inputs.{sell_of}
use Rattle.d_bill.specs.Totals.{Tallied}
use Rattle.d_bill.proofs.CountFacts.{tally_more}
use Rattle.d_bill.proofs.SizeFacts.{total_fits, credit_fits}
use Rattle.d_bill.proofs.problem.Problem.count.Goals as goal
use Rattle.d_bill.proofs.problem.Problem.count.Goals.{After-times-worth}

pub add_import-requires-clause-range : goal.add_import-requires-clause-range
add_import-requires-clause-range c =
    let here = c.interval-interval.ensures in
    subst (λ (x : Tallied). IsWithin (2 * 10 ^ 13) (slice_index_or x.totals c.interval-interval.result.period (pos 0) +ℤ c.args.arc.import)) (sym c.tally.view_is)
    (total_fits c.args.self.now c.args.t c.interval-interval.result.period c.args.tally.now c.args.arc.import here.range c.requires.interval here.below c.requires.before c.requires.import)

-- the worth, as the words hold the export
worth_is : (c : After-times-worth) → c.times-worth.result ≡ c.interval-interval.result.sell *ℤ c.args.arc.export
worth_is c =
    let range = c.value.ensures.range in
    let same : to_z w64 (of_z w64 c.value.result) ≡ c.value.result = omega (arith, ints, range.0, range.1) in
    c.times-worth.ensures ∙ ap (λ (z : ℤ). c.interval-interval.result.sell *ℤ z) (same ∙ c.value.ensures.value)

pub plus-tally-inside-requires : goal.plus-tally-inside-requires
plus-tally-inside-requires c =
    let here = c.interval-interval.ensures in
    let pays = here.sell ∙ ap (sell_of c.args.self.now.energy) (sym here.period) in
    let fits = credit_fits c.args.self.now c.args.t c.interval-interval.result.period c.args.tally.now c.interval-interval.result.sell c.args.arc.export here.range c.requires.interval here.below c.requires.before pays c.requires.export in
    rw (worth_is (goal.at.plus-tally-inside-requires c).After-times-worth) (subst (λ (x : Tallied). IsWithin (10 ^ 37) (x.credit +ℤ c.interval-interval.result.sell *ℤ c.args.arc.export)) (sym c.tally.view_is) fits)

pub returns : goal.returns
returns c flow arc_is is =
    let here = c.interval-interval.ensures in
    tally_more c.args.self.now flow c.args.t c.interval-interval.result.period _ _ _ _ _ _ c.args.arc.import c.interval-interval.result.sell c.args.arc.export c.args.arc.power
    (c.tally.view_is ∙ is) here.period here.below (ap (λ (a : Arc). a.import) arc_is) c.add_import.ensures
    here.sell (ap (λ (a : Arc). a.export) arc_is) (c.plus-tally-inside.ensures ∙ ap (λ (z : ℤ). c.tally.inside.credit +ℤ z) (worth_is (goal.at.returns c).After-times-worth))
    (ap (λ (a : Arc). a.power) arc_is) c.raise_peaks.ensures
