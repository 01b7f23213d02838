use Rattle.std.proofs.Common.{rules, ◌≡◌, ◌<◌, ◌+◌, ◌*◌, ◌-◌, length, ℕ, ℤ, List, [], FitsSigned, w64, take, arith, ap, refl, ◌∙◌, sym}
use Rattle.std.proofs.Math.Path.{ap₂}
use Rattle.std.proofs.Math.Nat.{suc-mul}
use Rattle.std.proofs.Math.Seq.{take-length}
use Rattle.std.proofs.lemmas.Int.{to_z-of_z}
use Rattle.d_num.specs.declared.pot.Pot.{Pot}
use Rattle.d_batt.specs.Storage.{Storage}
use Rattle.d_bill.specs.Slopes.{rates_of}
use Rattle.d_bound.specs.PlanWays.{all_powers}
use Rattle.d_bound.specs.Caps.{is_capped}
use Rattle.d_bound.specs.Bounders.{capped_costs}
use Rattle.d_bound.proofs.PlanArcs.{costs_long}
use Rattle.d_bound.proofs.PowerFacts.{powers_long}
use Rattle.d_bound.proofs.CapSums.{row_within, rows_more}
use Rattle.d_bound.proofs.caps.cap_costs.Goals as goal

pub loop-interval-init : goal.loop-interval-init
loop-interval-init c = let none : 0 * c.len-modes.result ≡ 0 = omega arith in rw none refl

pub slice_bounds-cap_interval-end : goal.slice_bounds-cap_interval-end
slice_bounds-cap_interval-end c =
    let i = c.args.problem.now in
    let inside : c.loop-interval.interval < length i.net = omega (arith, c.intervals-interval-end.ensures.value) in
    let counted : c.len-modes.result ≡ length i.storage.modes = c.len-modes.ensures ∙ ap (λ (s : Storage). length s.modes) c.battery.ensures in
    let long : length c.args.costs.now ≡ length i.net * length i.storage.modes = ap (λ (l : List Pot). length l) c.requires.costs ∙ costs_long i all_powers (rates_of i []) in
    let within = row_within inside counted long in
    omega arith

pub slice_bounds-cap_interval-end-in-loop-interval : goal.slice_bounds-cap_interval-end-in-loop-interval
slice_bounds-cap_interval-end-in-loop-interval c =
    let i = c.args.problem.now in
    let inside : c.loop-interval.interval < length i.net = omega (arith, c.intervals-interval-end.ensures.value) in
    let counted : c.len-modes.result ≡ length i.storage.modes = c.len-modes.ensures ∙ ap (λ (s : Storage). length s.modes) c.battery.ensures in
    let long : length c.args.powers.now ≡ length i.net * length i.storage.modes = ap (λ (l : List ℤ). length l) c.requires.powers ∙ powers_long i in
    let within = row_within inside counted long in
    omega arith

pub loop-interval-preserved : goal.loop-interval-preserved
loop-interval-preserved c =
    let i = c.args.problem.now in
    let t = c.loop-interval.interval in
    let modes = c.len-modes.result in
    let inside : t < length i.net = omega (arith, c.intervals-interval-end.ensures.value) in
    let counted : modes ≡ length i.storage.modes = c.len-modes.ensures ∙ ap (λ (s : Storage). length s.modes) c.battery.ensures in
    let count : t * modes + modes - t * modes ≡ length i.storage.modes = omega (arith, counted) in
    let ends : t * modes + (t * modes + modes - t * modes) ≡ (t + 1) * modes = omega (arith, suc-mul t modes) in
    let fits : FitsSigned w64 c.cap_at-cap.result = search rules in
    let capped = rw (to_z-of_z w64 c.cap_at-cap.result fits) at c.cap_interval.ensures in
    rw (← ends) (rows_more i t (t * modes) (t * modes + modes - t * modes) inside (ap (λ (k : ℕ). t * k) counted) count c.args.space.now c.cap_at-cap.result
    c.args.costs.now c.args.powers.now c.loop-interval.capped c.cap_interval.new.capped
    c.intervals-interval-end.ensures.range c.cap_at-cap.ensures c.requires.costs c.requires.powers capped (c.loop-interval.auto.capped ∙ c.requires.room) c.loop-interval.invariant)

pub returns : goal.returns
returns c =
    let i = c.args.problem.now in
    let whole = capped_costs i c.args.space.now in
    let counted : c.len-modes.result ≡ length i.storage.modes = c.len-modes.ensures ∙ ap (λ (s : Storage). length s.modes) c.battery.ensures in
    let all : c.loop-interval.interval ≡ length i.net = omega (arith, c.intervals-interval-end.ensures.value) in
    let end : c.loop-interval.interval * c.len-modes.result ≡ length i.net * length i.storage.modes = ap₂ ◌*◌ all counted in
    let one : c.loop-interval.interval * c.len-modes.result ≡ length c.loop-interval.capped = end ∙ sym (c.loop-interval.auto.capped ∙ c.requires.room) in
    let other : c.loop-interval.interval * c.len-modes.result ≡ length whole = end ∙ sym (costs_long i (is_capped i c.args.space.now) (rates_of i [])) in
    sym (ap (λ (n : ℕ). take n c.loop-interval.capped) one ∙ take-length c.loop-interval.capped) ∙ c.loop-interval.invariant
    ∙ ap (λ (n : ℕ). take n whole) other ∙ take-length whole
