use Rattle.std.proofs.Common.{◌≡◌, ◌∙◌, None, ℕ, arith, ap, is_none, length, List, ℤ}
use Rattle.d_search.specs.Trees.{key_from}
use Rattle.d_search.specs.Problems.{rules_of}
use Rattle.d_search.specs.Growths.{key_with}
use Rattle.d_search.proofs.FrontFacts.{front_few, leaf_key, none_of}
use Rattle.d_search.proofs.GrowthFacts.{held_added}
use Rattle.d_search.proofs.leaves.add_leaf.Goals as goal

pub put_key-requires : goal.put_key-requires
put_key-requires c =
    omega (arith, front_few (rules_of c.args.problem.now c.args.bounder.now.candidates) c.args.growth.now.front.keys c.args.growth.now.nodes.items c.requires.held.front)

pub returns-clause-held : goal.returns-clause-held
returns-clause-held c =
    let i = c.args.problem.now in
    let lists = c.args.bounder.now.candidates in
    let number : c.len-number.result ≡ length c.args.growth.now.nodes.items = omega (arith, c.args.growth.now.nodes.ok.0) in
    let place = c.place_of.ensures.place ∙ ap (λ (l : List (List ℤ)). (rules_of i l).split_of c.args.space.now) (c.candidates.ensures ∙ c.bound_box-node.ensures.candidates) in
    let point = none_of c.place_of.result c.is_none-point.result c.is_none-point.ensures ∙ ap is_none place in
    held_added i lists c.args.growth.now _ (record { space = c.args.space.now; node = c.bound_box-node.result; split = None; left = 0; right = 0 }) c.requires.held c.requires.room (record {
      trial = c.bound_box-node.new.trial.items;
      long = c.bound_box-node.ensures.trial;
      written = c.bound_box-node.ensures.schedule;
      exchange = c.keep_less.ensures;
      key = key_with c.bound_box-node.result.bound c.is_none-point.result c.len-number.result;
      put = c.put_key.ensures.keys;
      key_is = leaf_key (rules_of i lists) c.args.space.now c.bound_box-node.result.bound c.len-number.result c.is_none-point.result point ∙ ap (λ (k : ℕ). key_from (rules_of i lists) k c.args.space.now None c.bound_box-node.result.bound) number;
      nodes = c.push_leaf.ensures.nodes;
      space = c.push_leaf.ensures.space;
      places = c.put_key.ensures.room;
      boxed = c.requires.boxed;
    })
