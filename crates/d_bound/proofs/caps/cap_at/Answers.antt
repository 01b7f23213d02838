use Rattle.std.proofs.Common.{◌≡◌, ◌∙◌, ◌+◌, ℕ, ℤ, rules, arith, subst, sym, ap, List, length, true, false, FitsSigned, to_z, w64}
use Rattle.std.proofs.lemmas.Int.{to_z-of_z}
use Rattle.d_tier.specs.declared.peak.Peak.{Peak}
use Rattle.d_bill.specs.Inputs.{is_in_group}
use Rattle.d_bound.specs.CapSteps.{IsCapTo}
use Rattle.d_bound.proofs.CapSums.{cap_begins, cap_passes, cap_lowers}
use Rattle.d_bound.proofs.caps.cap_at.Goals as goal
use Rattle.d_bound.proofs.caps.cap_at.Goals.{then-in_group, else-in_group}

pub loop-group-init : goal.loop-group-init
loop-group-init c = cap_begins c.args.problem.now c.args.space.now c.args.interval

pub loop-group-preserved : goal.loop-group-preserved
loop-group-preserved c =
    let i = c.args.problem.now in
    let space = c.args.space.now in
    let t = c.args.interval in
    let group = c.loop-group.group in
    let cap = to_z w64 c.loop-group.cap-bits in
    let is_cap = λ (z : ℤ). IsCapTo i space t (group + 1) z in
    elim c.if-in_group.branch [
      | then-in_group w ↦
          let fits : FitsSigned w64 w.lower_cap-cap.result = search rules in
          let held : is_in_group i t group ≡ true = sym c.in_group.ensures ∙ w.if-in_group.true in
          subst is_cap (sym (w.cap-is ∙ to_z-of_z w64 w.lower_cap-cap.result fits ∙ w.lower_cap-cap.ensures)) (cap_lowers i space t group cap held c.loop-group.invariant)
      | else-in_group w ↦
          let out : is_in_group i t group ≡ false = sym c.in_group.ensures ∙ w.if-in_group.false in
          subst is_cap (sym w.cap-is) (cap_passes i space t group cap out c.loop-group.invariant)
    ]

pub returns : goal.returns
returns c =
    let all : c.loop-group.group ≡ length c.args.problem.now.peaks = omega (arith, ap (λ (l : List Peak). length l) c.groups-group-end.ensures.value) in
    subst (λ (n : ℕ). IsCapTo c.args.problem.now c.args.space.now c.args.interval n (to_z w64 c.loop-group.cap-bits)) all c.loop-group.invariant
