use Rattle.std.proofs.Common.{rules, ◌∙◌, FitsSigned}
use Rattle.std.specs.Int.{w128}
use Rattle.std.proofs.lemmas.Int.{to_z-of_z}
use Rattle.d_text.specs.Decimal.{Written, size_over, size_under}
use Rattle.d_text.specs.Size.{Says}
use Rattle.d_text.proofs.SizeFacts.{says, is-said, under-positive}
use Rattle.d_text.proofs.DecimalLaws.{floor_within}
use Rattle.d_text.proofs.decimal.read_floor.Goals as goal
use Rattle.d_text.proofs.decimal.read_floor.Goals.{In-Ok}

abbrev said : (c : In-Ok) → Written
said c = record { minus = c.in-Ok.scan.minus; digits = c.in-Ok.ensures.read.digits; behind = c.in-Ok.scan.behind; down = c.in-Ok.scan.down; power = c.in-Ok.ensures.read.power }

pub returns-in-Some-clause-value : goal.returns-in-Some-clause-value
returns-in-Some-clause-value c =
    let w : Written = said (goal.at.returns-in-Some-clause-value c).In-Ok in
    let s : Says c.in-Ok.scan w = says c.args.cell.now c.in-Ok.scan c.in-Ok.ensures.read in
    let fits : FitsSigned w128 c.signed.result = search rules in
    record {
      written = w;
      form = is-said c.args.cell.now c.in-Ok.scan c.in-Ok.ensures.read c.in-Ok.ensures.done;
      within = c.in-Some.ensures.limit w s;
      value = (c.rounded.result, to_z-of_z w128 c.signed.result fits ∙ c.signed.ensures, c.rounded.ensures.near (size_over w c.args.places) (size_under w) (under-positive w) (c.in-Some.ensures.size w s));
    }

pub returns-in-Some-clause-range : goal.returns-in-Some-clause-range
returns-in-Some-clause-range c = floor_within c.args.cell.now c.args.places c.args.limit _ (returns-in-Some-clause-value c)

pub returns-in-None-clause-fault : goal.returns-in-None-clause-fault
returns-in-None-clause-fault c =
    let w : Written = said (goal.at.returns-in-None-clause-fault c).In-Ok in
    let s : Says c.in-Ok.scan w = says c.args.cell.now c.in-Ok.scan c.in-Ok.ensures.read in
    (w, is-said c.args.cell.now c.in-Ok.scan c.in-Ok.ensures.read c.in-Ok.ensures.done, c.in-None.ensures.none w s)
