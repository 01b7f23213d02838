use Rattle.std.proofs.Common.{◌≡◌, ◌∙◌, ◌+◌, ◌-◌, ap, take, drop, replicate, arith, rules}
use Rattle.std.proofs.lemmas.List.{take-replicate, drop-replicate}
use Rattle.d_num.specs.declared.pot.Pot.TheVariants.{NoWay}
use Rattle.d_rows.proofs.days.DayLayers.make.Goals as goal

pub returns : goal.returns
returns c =
    let row = replicate c.args.levels NoWay in
    let is : c.in_ok-rows.rows ≡ replicate (c.args.days + c.args.per_day) row = search rules in
    let left : c.args.days + c.args.per_day - (c.args.days + 1) ≡ c.args.per_day - 1 = omega arith in (
      ap (take (c.args.days + 1)) is ∙ take-replicate (c.args.days + 1) (c.args.days + c.args.per_day) row (omega arith),
      ap (drop (c.args.days + 1)) is ∙ drop-replicate (c.args.days + 1) (c.args.days + c.args.per_day) row ∙ ap (λ n. replicate n row) left,
    )
