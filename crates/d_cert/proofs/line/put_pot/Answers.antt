use Rattle.std.proofs.lemmas.Int.{to_z-of_z}
use Rattle.std.specs.Int.{w128}
use Rattle.std.proofs.Common.{rules, sym, ap, ◌++◌, ◌∙◌}
use Rattle.d_num.specs.declared.pot.Pot.TheVariants.{To}
use Rattle.d_cert.proofs.LineFacts.{pot_put, none_put}
use Rattle.d_cert.proofs.line.put_pot.Goals as goal

pub returns-in-To : goal.returns-in-To
returns-in-To c = pot_put c.units.result _ c.args.pot c.args.line.now.items c.put_number.new.line.items c.put_number.result
    (sym c.get.ensures ∙ (c.in-To.is ∙ ap To (sym c.units.ensures.value)))
    (to_z-of_z w128 c.units.result (search rules)) c.put_number.ensures

pub returns-in_ok-extend_from_slice-in-NoWay : goal.returns-in_ok-extend_from_slice-in-NoWay
returns-in_ok-extend_from_slice-in-NoWay c = none_put c.args.pot c.args.line.now.items c.extend_from_slice.new.self.items (sym c.get.ensures ∙ c.in-NoWay.is)
    (c.in_ok-extend_from_slice-in-NoWay.ensures.items ∙ ap (λ l. c.args.line.now.items ++ l) c.as_slice.ensures)
