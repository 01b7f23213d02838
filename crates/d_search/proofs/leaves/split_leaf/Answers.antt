use Rattle.std.proofs.Common.{◌≡◌, ◌∙◌, ◌++◌, ◌∷◌, [], List, ℤ, Some, arith, refl, ap, sym, subst, length, length-set, length-append, slice_get, slice_set}
use Rattle.d_bound.specs.Roots.{IsProblemBox}
use Rattle.d_search.specs.Problems.{rules_of}
use Rattle.d_search.specs.Trees.{leaf_of, split_node}
use Rattle.d_search.proofs.GrowthFacts.{held_marked}
use Rattle.d_search.proofs.StepFacts.{parent_at, parent_inside, parent_key, parent_splits, split_made}
use Rattle.d_search.proofs.leaves.split_leaf.Goals as goal
use Rattle.d_search.proofs.leaves.split_leaf.Goals.{After-index-parent, After-halve, After-mark_split}

-- the node of the key
node_at : (c : After-index-parent) → slice_get c.args.growth.now.nodes.items c.args.key.now.node ≡ Some c.index-parent.result.now
node_at c =
    parent_at (rules_of c.args.problem.now c.args.bounder.now.candidates) c.args.growth.now.nodes.items c.args.key.now c.index-parent.result.now c.requires.first.here
    c.index-parent.ensures

pub halve-requires-clause-boxed : goal.halve-requires-clause-boxed
halve-requires-clause-boxed c =
    subst (λ (l : List (List ℤ)). IsProblemBox l c.index-parent.result.now.space) (sym c.candidates.ensures)
    (c.requires.held.boxed c.args.key.now.node c.index-parent.result.now (node_at (goal.at.halve-requires-clause-boxed c).After-index-parent))

pub unwrap-split-requires : goal.unwrap-split-requires
unwrap-split-requires c =
    parent_splits (rules_of c.args.problem.now c.args.bounder.now.candidates) c.args.growth.now.nodes.items c.args.key.now c.index-parent.result.now c.requires.first.here
    c.index-parent.ensures c.halve.result c.halve.new.left c.halve.new.right c.requires.apart
    (rw c.candidates.ensures at c.halve.ensures.split)

pub mark_split-requires-clause-inside : goal.mark_split-requires-clause-inside
mark_split-requires-clause-inside c =
    parent_inside (rules_of c.args.problem.now c.args.bounder.now.candidates) c.args.growth.now.nodes.items c.args.key.now c.index-parent.result.now c.requires.first.here
    c.index-parent.ensures

-- the nodes after the node was marked
marked_is : (c : After-mark_split) → c.mark_split.new.nodes.items ≡ slice_set c.args.growth.now.nodes.items c.args.key.now.node (split_node c.index-parent.result.now c.unwrap-split.result (length c.args.growth.now.nodes.items))
marked_is c = c.mark_split.ensures.nodes c.index-parent.result.now
    (parent_at (rules_of c.args.problem.now c.args.bounder.now.candidates) c.args.growth.now.nodes.items c.args.key.now c.index-parent.result.now c.requires.first.here
    c.index-parent.ensures)

pub add_leaf-requires-clause-held : goal.add_leaf-requires-clause-held
add_leaf-requires-clause-held c =
    let at = (goal.at.add_leaf-requires-clause-held c) in
    held_marked c.args.problem.now c.args.bounder.now.candidates c.args.growth.now _ c.args.key.now c.index-parent.result.now c.unwrap-split.result c.requires.held
    (record {
      at = node_at at.After-index-parent;
      nodes = marked_is at.After-mark_split;
      space = omega (arith, c.mark_split.ensures.space);
      front = refl;
      kept = refl;
      trial = refl;
      bill = refl;
    })
    (parent_key (rules_of c.args.problem.now c.args.bounder.now.candidates) c.args.growth.now.nodes.items c.args.key.now c.index-parent.result.now c.requires.first.here
    c.index-parent.ensures)

marked_long : (c : After-mark_split) → length c.mark_split.new.nodes.items ≡ length c.args.growth.now.nodes.items
marked_long c =
    let nodes = c.args.growth.now.nodes.items in
    ap length (marked_is c) ∙ length-set nodes c.args.key.now.node (split_node c.index-parent.result.now c.unwrap-split.result (length nodes))

pub add_leaf-requires-clause-room : goal.add_leaf-requires-clause-room
add_leaf-requires-clause-room c = omega (arith, marked_long (goal.at.add_leaf-requires-clause-room c).After-mark_split)

pub add_leaf-requires-2-clause-room : goal.add_leaf-requires-2-clause-room
add_leaf-requires-2-clause-room c =
    let leaf = leaf_of (rules_of c.args.problem.now c.args.bounder.now.candidates) c.halve.new.left (Some c.index-parent.result.now.node.slopes) in
    omega (
      arith,
      ap length c.add_leaf.ensures.nodes,
      length-append c.mark_split.new.nodes.items (leaf ∷ []),
      marked_long (goal.at.add_leaf-requires-2-clause-room c).After-mark_split,
      c.add_leaf.ensures.places,
    )

pub returns-clause-split : goal.returns-clause-split
returns-clause-split c =
    let i = c.args.problem.now in
    let lists = c.args.bounder.now.candidates in
    let at = goal.at.returns-clause-split c in
    let leaf_in = λ (l : List (List ℤ)). leaf_of (rules_of i l) c.halve.new.right (Some c.index-parent.result.now.node.slopes) in
    let right_is = c.add_leaf-2.ensures.nodes ∙ ap (λ (l : List (List ℤ)). c.add_leaf.new.growth.nodes.items ++ leaf_in l ∷ []) c.add_leaf.ensures.candidates in
    let halved = rw (c.unwrap-split.ensures, c.candidates.ensures) at c.halve.ensures.split in
    split_made (rules_of i lists) c.args.growth.now.nodes.items c.mark_split.new.nodes.items c.add_leaf.new.growth.nodes.items c.add_leaf-2.new.growth.nodes.items
    c.args.key.now c.index-parent.result.now c.unwrap-split.result c.halve.new.left c.halve.new.right c.requires.first c.requires.below
    (node_at at.After-index-parent) halved (marked_is at.After-mark_split) c.add_leaf.ensures.nodes right_is
