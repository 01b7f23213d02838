use Rattle.std.proofs.Common.{◌≡◌, ◌≢◌, ◌<◌, ◌∙◌, ℤ, pos, rules, arith, subst, FitsSigned, to_z, of_z, w64, length, below_more, slice_index_or, get_or-set_other, get_or-set_same}
use Rattle.std.proofs.lemmas.Int.{to_z-of_z}
use Rattle.std.proofs.lemmas.List.{get_or_default}
use Rattle.d_num.specs.declared.pot.Pot.TheVariants.{NoWay}
use Rattle.d_bound.specs.CapSteps.{within_cap, mode_within}
use Rattle.d_bound.proofs.CapSums.{cost_stands, cost_falls}
use Rattle.d_bound.proofs.caps.cap_interval.Goals as goal
use Rattle.d_bound.proofs.caps.cap_interval.Goals.{then-powers-mode, else-powers-mode}

pub loop-mode-preserved : goal.loop-mode-preserved
loop-mode-preserved c =
    let mode = c.loop-mode.mode in
    let cap = to_z w64 (of_z w64 c.args.cap) in
    let power = slice_index_or c.args.powers.now mode (pos 0) in
    let cost = slice_index_or c.args.costs.now mode NoWay in
    let fits : FitsSigned w64 power = search rules in
    let there : mode < length c.loop-mode.capped = omega arith in
    let written : c.if-powers-mode.capped ≡ within_cap cap power cost =
    elim c.if-powers-mode.branch [
      | then-powers-mode w ↦
          w.capped-is ∙ w.index-costs-mode.is ∙ get_or_default c.args.costs.now mode w.index-costs-mode.result NoWay (omega arith)
          ∙ cost_stands cap power cost (rw (to_z-of_z w64 power fits) at w.if-powers-mode.true)
      | else-powers-mode w ↦ w.capped-is ∙ w.no_way.ensures ∙ cost_falls cap power cost (rw (to_z-of_z w64 power fits) at w.if-powers-mode.false)
    ] in
    below_more _ _ (λ m below. let apart : m ≢ mode = omega arith in rw get_or-set_other (c.loop-mode.invariant m below)) (rw get_or-set_same written)

pub returns : goal.returns
returns c =
    let fits : to_z w64 (of_z w64 c.args.cap) ≡ c.args.cap = to_z-of_z w64 c.args.cap c.ranges.cap in
    record {
      long = c.loop-mode.auto.capped ∙ c.requires.room;
      each = λ m below. subst (λ (cap : ℤ). slice_index_or c.loop-mode.capped m NoWay ≡ mode_within cap c.args.costs.now c.args.powers.now m) fits (c.loop-mode.invariant m (omega (arith, c.requires.room)));
    }
