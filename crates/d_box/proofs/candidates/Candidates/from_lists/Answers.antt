use Rattle.std.proofs.Common.{◌∙◌, arith}
use Rattle.d_box.proofs.SplitFacts.{lists_more, all_rise}
use Rattle.std.proofs.lemmas.List.{length-map}
use Rattle.d_box.proofs.candidates.Candidates.from_lists.Goals as goal

pub loop-group-preserved : goal.loop-group-preserved
loop-group-preserved c = lists_more c.args.lists.items c.loop-group.lists.items c.loop-group.group _ c.index_mut.result.now c.rise.new.list c.loop-group.invariant c.loop-group-test.true (c.len-group-end.ensures ∙ c.args.lists.ok.0) c.index_mut.ensures.value c.rise.ensures.rises c.rise.ensures.members

pub invariant_of-result : goal.invariant_of-result
invariant_of-result c =
    let l = c.len-group-end.ensures ∙ c.args.lists.ok.0 in
    let a = length-map c.args.lists.items (λ r. r.items) in
    let long = c.loop-group.invariant.lists.long in
    let over = c.loop-group-test.false in
    all_rise _ _ c.loop-group.group c.loop-group.invariant (omega arith)

pub returns-clause-rises : goal.returns-clause-rises
returns-clause-rises c =
    let l = c.len-group-end.ensures ∙ c.args.lists.ok.0 in
    let a = length-map c.args.lists.items (λ r. r.items) in
    let long = c.loop-group.invariant.lists.long in
    let over = c.loop-group-test.false in
    all_rise _ _ c.loop-group.group c.loop-group.invariant (omega arith)
