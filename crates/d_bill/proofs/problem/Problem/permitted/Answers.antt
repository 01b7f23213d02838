use Rattle.std.proofs.Common.{◌≡◌, ap, ◌∙◌}
use Rattle.std.proofs.lemmas.Int.{to_z-of_z}
use Rattle.d_bill.specs.Inputs.{Inputs}
use Rattle.d_bill.specs.Flows.{arc_of_flow}
use Rattle.d_bill.proofs.RuleFacts.{not_imported, not_exported, is_over}
use Rattle.d_bill.proofs.problem.Problem.permitted.Goals as goal
use Rattle.d_bill.proofs.problem.Problem.permitted.Goals.{then-gt-via-then-gt, then-gt-via-else-gt+then-gt-2}

pub returns-then-gt : goal.returns-then-gt
returns-then-gt c =
    let i = c.args.self.now in
    let arc = c.arc_of_flow-arc.result in
    let is : arc ≡ arc_of_flow i.minutes c.args.flow = c.arc_of_flow-arc.ensures.value ∙ ap (arc_of_flow i.minutes) (to_z-of_z _ c.args.flow c.ranges.flow) in
    elim c.then-gt.branch [
      | then-gt-via-then-gt w ↦ not_imported i c.args.flow arc is (is_over arc.import _ _ (ap (λ (x : Inputs). x.storage.max_import) c.self.view_is) w.if-gt.ensures)
      | then-gt-via-else-gt+then-gt-2 w ↦ not_exported i c.args.flow arc is (is_over arc.export _ _ (ap (λ (x : Inputs). x.storage.max_export) c.self.view_is) w.if-gt-2.ensures)
    ]
