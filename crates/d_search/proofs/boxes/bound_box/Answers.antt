use Rattle.std.proofs.Common.{sym, ◌∙◌, ◌≡◌, option_map, length, arith}
use Rattle.std.proofs.lemmas.List.{with_items_is}
use Rattle.d_search.specs.Problems.{rules_of}
use Rattle.d_search.proofs.RuleFacts.{node_is, schedule_written}
use Rattle.d_search.proofs.boxes.bound_box.Goals as goal

pub returns-clause-node : goal.returns-clause-node
returns-clause-node c =
    c.node.ensures.node ∙ sym (node_is c.args.problem.now c.args.bounder.now.candidates c.args.space.now (option_map (λ s. s.now) c.args.parent))

pub returns-clause-schedule : goal.returns-clause-schedule
returns-clause-schedule c =
    let long : length c.node.new.schedule ≡ c.args.trial.now.len = omega (arith, c.args.trial.now.ok.0) in
    let same = with_items_is c.args.trial.now c.node.new.schedule long in
    let r = rules_of c.args.problem.now c.args.bounder.now.candidates in
    rw same (schedule_written c.args.problem.now c.args.bounder.now.candidates c.args.space.now (option_map (λ s. s.now) c.args.parent) c.node.result c.as_mut_slice.result.now
    c.node.new.schedule c.node.ensures.node c.node.ensures.schedule)
