use Rattle.std.proofs.Common.{◌≡◌, ◌*◌, [], length, map, ap, ◌∙◌, arith}
use Rattle.d_batt.specs.Storage.{Storage}
use Rattle.d_bill.specs.Slopes.{rates_of}
use Rattle.d_bound.specs.PlanWays.{all_powers, mode_costs, move_of}
use Rattle.d_bound.specs.Bounders.{free_costs}
use Rattle.d_bound.proofs.PlanArcs.{costs_long}
use Rattle.d_bound.proofs.bounder.Bounder.make.Goals as goal

pub returns : goal.returns
returns c =
    let i = c.args.problem.now in
    let rates = c.as_slice.ensures.value ∙ c.in_ok-rates.ensures.value in
    let costs : c.in_ok-costs.costs.items ≡ free_costs i = c.in_ok-costs.ensures ∙ ap (mode_costs i all_powers) rates in
    let moves = c.in_ok-moves.ensures ∙ ap (map move_of) (c.as_slice-2.ensures ∙ ap (λ (s : Storage). s.modes) c.battery.ensures) in
    let long : length c.in_ok-costs.costs.items ≡ length i.net * length i.storage.modes = ap length costs ∙ costs_long i all_powers (rates_of i []) in
    let count = c.in_ok-capped.ensures.len in
    let capped = c.in_ok-capped.capped.ok.0 in
    let all = c.in_ok-costs.costs.ok.0 in
    let same = c.len.ensures in
    record {
      range = c.intervals-count.ensures.range;
      costs = costs;
      powers = c.in_ok-powers.ensures;
      room = omega (arith, long);
      moves = moves;
      levels = c.levels_of.ensures;
      candidates = c.in_ok-candidates.ensures;
      layers = c.in_ok-layers.ensures;
    }
