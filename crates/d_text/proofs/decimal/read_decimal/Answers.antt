use Rattle.std.proofs.Common.{rules, ◌∙◌, FitsSigned}
use Rattle.std.specs.Int.{w128}
use Rattle.std.proofs.lemmas.Int.{to_z-of_z}
use Rattle.d_text.specs.Decimal.{Written}
use Rattle.d_text.specs.Size.{Says}
use Rattle.d_text.proofs.SizeFacts.{says, is-said, no-units}
use Rattle.d_text.proofs.DecimalLaws.{decimal_within}
use Rattle.d_text.proofs.decimal.read_decimal.Goals as goal
use Rattle.d_text.proofs.decimal.read_decimal.Goals.{In-Ok}

abbrev said : (c : In-Ok) → Written
said c = record { minus = c.in-Ok.scan.minus; digits = c.in-Ok.ensures.read.digits; behind = c.in-Ok.scan.behind; down = c.in-Ok.scan.down; power = c.in-Ok.ensures.read.power }

pub returns-then-size-clause-value : goal.returns-then-size-clause-value
returns-then-size-clause-value c =
    let s = says c.args.cell.now c.in-Ok.scan c.in-Ok.ensures.read in
    let fits : FitsSigned w128 c.signed.result = search rules in
    record {
      written = said (goal.at.returns-then-size-clause-value c).In-Ok;
      form = is-said c.args.cell.now c.in-Ok.scan c.in-Ok.ensures.read c.in-Ok.ensures.done;
      within = c.in-Some.ensures.limit _ s;
      value = (c.in-Some.size.floor, to_z-of_z w128 c.signed.result fits ∙ c.signed.ensures, (c.in-Some.ensures.size _ s).exact c.if-size.true);
    }

pub returns-then-size-clause-range : goal.returns-then-size-clause-range
returns-then-size-clause-range c = decimal_within c.args.cell.now c.args.places c.args.limit _ (returns-then-size-clause-value c)

pub returns-else-size-clause-fault : goal.returns-else-size-clause-fault
returns-else-size-clause-fault c =
    let w : Written = said (goal.at.returns-else-size-clause-fault c).In-Ok in
    let s : Says c.in-Ok.scan w = says c.args.cell.now c.in-Ok.scan c.in-Ok.ensures.read in (
      w,
      is-said c.args.cell.now c.in-Ok.scan c.in-Ok.ensures.read c.in-Ok.ensures.done,
      c.in-Some.ensures.limit w s,
      λ units. no-units w c.args.places c.in-Some.size units (c.in-Some.ensures.size w s) c.if-size.false,
    )

pub returns-in-None-clause-fault : goal.returns-in-None-clause-fault
returns-in-None-clause-fault c =
    let w : Written = said (goal.at.returns-in-None-clause-fault c).In-Ok in
    let s : Says c.in-Ok.scan w = says c.args.cell.now c.in-Ok.scan c.in-Ok.ensures.read in
    (w, is-said c.args.cell.now c.in-Ok.scan c.in-Ok.ensures.read c.in-Ok.ensures.done, c.in-None.ensures.none w s)
