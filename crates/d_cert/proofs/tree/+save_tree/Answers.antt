use Rattle.std.proofs.lemmas.Result.{err_from_is_err_and}
use Rattle.std.proofs.Common.{ℤ, List, IsTrue, arith, sym, subst, ◌∙◌}
use Rattle.d_search.specs.Shapes.{FormTree}
use Rattle.d_cert.proofs.TreeFacts.{leaf_tree, leaf_saved, split_tree, split_front, split_stop, split_end, box_of, left_there, right_there, left_falls, right_falls}
use Rattle.d_cert.proofs.tree.+save_tree.Goals as goal

pub save_leaf-requires-clause-boxed : goal.save_leaf-requires-clause-boxed
save_leaf-requires-clause-boxed g t c = box_of c.args.bounder.now.candidates c.args.tree.now c.args.number c.node-node.result.now c.requires.tree c.node-node.ensures

pub returns-in_err-save_split-in-Some-clause-told :
    goal.returns-in_err-save_split-in-Some-clause-told
returns-in_err-save_split-in-Some-clause-told g t c = λ branch is told.
    let s = (split_tree c.args.problem.now c.args.tree.now c.args.number c.node-node.result.now c.in-Some.split branch c.node-node.ensures c.in-Some.is is) in
    let p = err_from_is_err_and c.from_residual.result c.from_residual.ensures.1 in
    rw p.1 (split_front branch c.in-Some.split s.left s.right _ _ s.is (c.in_err-save_split-in-Some.ensures.told told))

pub save_tree-requires : goal.save_tree-requires
save_tree-requires g t c κs within = (
  omega (arith, left_falls c.args.bounder.now.candidates c.args.tree.now c.args.number c.node-node.result.now c.in-Some.split c.requires.tree c.node-node.ensures c.in-Some.is),
  (
    within,
    (
      c.requires.untiered,
      (
        c.requires.bounder,
        (
          c.requires.tree,
          (
            left_there c.args.bounder.now.candidates c.args.tree.now c.args.number c.node-node.result.now c.in-Some.split c.requires.tree c.node-node.ensures c.in-Some.is,
            (
              subst (λ b. IsTrue b) (sym c.in_ok-save_split-in-Some.ensures.output) c.requires.output,
              c.in_ok-save_split-in-Some.ensures.empty,
            ),
          ),
        ),
      ),
    ),
  ),
)

pub returns-in_err-save_tree-in-Some-clause-told :
    goal.returns-in_err-save_tree-in-Some-clause-told
returns-in_err-save_tree-in-Some-clause-told g t c = λ branch is told.
    let s = (split_tree c.args.problem.now c.args.tree.now c.args.number c.node-node.result.now c.in-Some.split branch c.node-node.ensures c.in-Some.is is) in
    let p = err_from_is_err_and c.from_residual-in_err-save_tree-in-Some.result c.from_residual-in_err-save_tree-in-Some.ensures.1 in
    rw p.1 (split_stop branch c.in-Some.split s.left s.right _ _ _ s.is (c.in_ok-save_split-in-Some.ensures.told told)
    (c.in_err-save_tree-in-Some.ensures.told s.left s.left_is told))

pub save_tree-requires-in-Some : goal.save_tree-requires-in-Some
save_tree-requires-in-Some g t c κs within = (
  omega (arith, right_falls c.args.bounder.now.candidates c.args.tree.now c.args.number c.node-node.result.now c.in-Some.split c.requires.tree c.node-node.ensures c.in-Some.is),
  (
    within,
    (
      c.requires.untiered,
      (
        c.save_tree.ensures.bounder,
        (
          subst (λ (l : List (List ℤ)). FormTree l c.args.tree.now) (sym c.save_tree.ensures.candidates) c.requires.tree,
          (
            right_there c.args.bounder.now.candidates c.args.tree.now c.args.number c.node-node.result.now c.in-Some.split c.requires.tree c.node-node.ensures c.in-Some.is,
            (
              subst (λ b. IsTrue b) (sym (c.save_tree.ensures.output ∙ c.in_ok-save_split-in-Some.ensures.output)) c.requires.output,
              c.in_ok-save_tree-in-Some.ensures.empty,
            ),
          ),
        ),
      ),
    ),
  ),
)

pub returns-in-None-clause-told : goal.returns-in-None-clause-told
returns-in-None-clause-told g t c = λ branch is told.
    let l = leaf_tree c.args.problem.now c.args.tree.now c.args.number c.node-node.result.now branch c.requires.untiered c.node-node.ensures c.in-None.is is in
    leaf_saved branch l.layers _ _ c.save_leaf.result l.is (c.save_leaf.ensures.told l.layers l.rows l.count told)

pub returns-in_ok-save_tree-in-Some-clause-told :
    goal.returns-in_ok-save_tree-in-Some-clause-told
returns-in_ok-save_tree-in-Some-clause-told g t c = λ branch is told.
    let s = (split_tree c.args.problem.now c.args.tree.now c.args.number c.node-node.result.now c.in-Some.split branch c.node-node.ensures c.in-Some.is is) in
    split_end branch c.in-Some.split s.left s.right _ _ _ _ c.save_tree-in-Some.result s.is (c.in_ok-save_split-in-Some.ensures.told told)
    (c.in_ok-save_tree-in-Some.ensures.told s.left s.left_is told) (c.save_tree-in-Some.ensures.told s.right s.right_is told)
