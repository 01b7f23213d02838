use Rattle.std.proofs.Common.{rules, w64, ◌≡◌, ℤ, [], ◌∷◌, ◌++◌, length, ◌*◌, arith, ap, ◌∙◌}
use Rattle.std.proofs.Math.Path.{ap₂}
use Rattle.std.proofs.lemmas.Int.{to_z-of_z}
use Rattle.d_batt.specs.Storage.{Storage}
use Rattle.d_bound.proofs.PowerFacts.{powers_more, powers_all}
use Rattle.d_bound.proofs.costs.powers_of.Goals as goal

pub loop-place-preserved : goal.loop-place-preserved
loop-place-preserved c =
    let count = c.len-modes.ensures ∙ ap (λ (s : Storage). length s.modes) c.battery.ensures in
    let number = to_z-of_z w64 c.power_of.result (search rules) in
    let pushed : c.push.new.self.items ≡ c.loop-place.powers.items ++ c.power_of.result ∷ [] = c.in_ok-push.ensures.items ∙ ap (λ (x : ℤ). c.loop-place.powers.items ++ x ∷ []) number in
    powers_more c.args.problem.now c.loop-place.place c.len-modes.result c.loop-place.powers.items c.push.new.self.items c.power_of.result
    count c.loop-place.invariant c.power_of.ensures pushed

pub returns : goal.returns
returns c =
    let i = c.args.problem.now in
    let count = c.len-modes.ensures ∙ ap (λ (s : Storage). length s.modes) c.battery.ensures in
    let whole : c.intervals.result * c.len-modes.result ≡ length i.net * length i.storage.modes = ap₂ ◌*◌ c.intervals.ensures.value count in
    c.loop-place.invariant ∙ powers_all i c.loop-place.place (omega (arith, c.loop-place.auto.place-end))
