use Rattle.std.proofs.Common.{◌≡◌, ◌++◌, ◌∷◌, List, ℕ, ap, ◌∙◌, true, false}
use Rattle.d_cal.proofs.Moments.{moment_clock, moment_seconds}
use Rattle.d_cal.proofs.start.is_moment.Goals as goal
use Rattle.d_cal.proofs.start.is_moment.Goals.{In-Some-split_first, In-Some-behind}

split : (c : In-Some-split_first) → c.args.cell.now ≡ c.args.date.now ++ c.in-Some-split_first.between.now ∷ c.in-Some-split_first.clock.now
split c = c.in-Some.ensures.some ∙ ap (λ (t : List ℕ). c.args.date.now ++ t) c.in-Some-split_first.ensures.cases.0

whole : (c : In-Some-behind) → c.args.cell.now ≡ c.args.date.now ++ c.in-Some-split_first.between.now ∷ (c.args.time.now ++ c.in-Some-behind.seconds.now)
whole c =
    split (goal.at.In-Some-behind c).In-Some-split_first
    ∙ ap (λ (t : List ℕ). c.args.date.now ++ c.in-Some-split_first.between.now ∷ t) c.in-Some-behind.ensures.some

pub returns-in_default-behind : goal.returns-in_default-behind
returns-in_default-behind c = (
  λ (e : false ≡ true). cc,
  λ m.
      let at = split (goal.at.returns-in_default-behind c).In-Some-split_first in
      let clock = moment_clock c.args.cell.now c.args.date.now c.args.time.now c.in-Some-split_first.clock.now c.in-Some-split_first.between.now at m in
      absurd (c.in_default-behind.ensures.none m.seconds clock.1),
)

pub returns-then-is_between : goal.returns-then-is_between
returns-then-is_between c =
    let at = whole (goal.at.returns-then-is_between c).In-Some-behind in (
      λ e. record {
        between = c.in-Some-split_first.between.now;
        seconds = c.in-Some-behind.seconds.now;
        form = at;
        between_is = c.is_between.ensures.0 c.if-is_between.true;
        seconds_are = c.are_seconds.ensures.0 e;
      },
      λ m.
          let same = moment_seconds c.args.cell.now c.args.date.now c.args.time.now c.in-Some-behind.seconds.now c.in-Some-split_first.between.now at m in
          c.are_seconds.ensures.1 (rw same m.seconds_are),
    )

pub returns-else-is_between : goal.returns-else-is_between
returns-else-is_between c = (
  λ e. let other = c.if-is_between.false in cc,
  λ m.
      let at = split (goal.at.returns-else-is_between c).In-Some-split_first in
      let clock = moment_clock c.args.cell.now c.args.date.now c.args.time.now c.in-Some-split_first.clock.now c.in-Some-split_first.between.now at m in
      c.is_between.ensures.1 (rw clock.0 m.between_is),
)
