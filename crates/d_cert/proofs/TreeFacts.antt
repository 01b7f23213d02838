-- The lines of a tree.
use Rattle.std.proofs.Common.{◌≡◌, ℕ, ◌+◌, ◌-◌, ◌<◌, arith, ℤ, List, [], ◌∷◌, ◌++◌, Result, Some, None, length, take, slice_get, sym, ap, subst, ◌∙◌}
use Rattle.std.proofs.lemmas.List.{append_assoc}
use Rattle.d_cert.proofs.ChainFacts.{lines_then, lines_end, lines_cut, lines_stop}
use Rattle.std.proofs.lemmas.Option.{same_Some, none-some}
use Rattle.d_num.specs.declared.pot.Pot.{Pot}
use Rattle.d_box.specs.declared.space.Split.{Split}
use Rattle.d_box.specs.declared.space.Split.TheVariants as split
use Rattle.d_desk.specs.declared.fault.DeskFault.{DeskFault}
use Rattle.d_desk.specs.Scene.{Scene}
use Rattle.d_desk.specs.Stages.{SavesOnly, SavesFront}
use Rattle.d_certline.specs.Lines.{Line, text_of}
use Rattle.d_certline.specs.Lines as line
use Rattle.d_cert.specs.Saved.{SavesText}
use Rattle.d_certline.specs.Certificates.{Tree as Branch, leaf_of, total_at, peak_at, tree_lines}
use Rattle.d_num.specs.declared.pot.Pot.TheVariants.{To}
use Rattle.d_bill.specs.Inputs.{Inputs}
use Rattle.d_bill.specs.Slopes.{tiered}
use Rattle.d_bound.specs.Nodes.{box_arcs}
use Rattle.d_search.specs.declared.tree.TreeNode.{TreeNode}
use Rattle.d_cert.specs.Written.{AreRows, IsTreeOf}
use Rattle.d_search.specs.Shapes.{FormTree}
use Rattle.d_bound.specs.Roots.{IsProblemBox}
use Rattle.d_cert.specs.Cuts.{cut_line}

-- the line of the split that was handed on
pub cut_text : (s known : Split) (x y : Scene) (r : Result (Unit {0}) DeskFault) → s ≡ known → SavesText (text_of (cut_line known)) x y r → SavesText (text_of (cut_line s)) x y r
cut_text s known x y r is saved = subst (λ (k : Split). SavesText (text_of (cut_line k)) x y r) (sym is) saved

pub two_parts : (a b y z : ℤ) → a ≡ y → b ≡ z → ◌≡◌ {A = List Pot} (To y ∷ To z ∷ []) (To a ∷ To b ∷ [])
two_parts a b y z one other = ap (λ (x : ℤ). To x ∷ To z ∷ []) (sym one) ∙ ap (λ (x : ℤ). To a ∷ To x ∷ []) (sym other)

-- the tree of a node that wasn't split is its leaf
pub record IsLeafTree (i : Inputs) (node : TreeNode) (branch : Branch) : Type 0 where
  pub layers : List (List Pot)
  pub is : branch ≡ leaf_of [] layers
  pub count : length layers ≡ length i.net + 1
  pub rows : AreRows (box_arcs i node.space node.node.slopes) layers

pub leaf_tree : (i : Inputs) (nodes : List TreeNode) (n : ℕ) (node : TreeNode) (branch : Branch) → tiered i ≡ [] → slice_get nodes n ≡ Some node → node.split ≡ None
    → IsTreeOf i nodes n branch → IsLeafTree i node branch
unfolding IsTreeOf
leaf_tree i nodes n node (leaf_of rates layers) none at whole is =
    let same : is.node ≡ node = same_Some is.node node (sym is.at ∙ at) in
    record {
      layers = layers;
      is = ap (λ (r : List ℤ). leaf_of r layers) (is.slopes ∙ ap (λ (l : List ℕ). take (length l) is.node.node.slopes.rates) none);
      count = is.count;
      rows = subst (λ (x : TreeNode). AreRows (box_arcs i x.space x.node.slopes) layers) same is.rows;
    }
leaf_tree i nodes n node (total_at k at left right) none here whole is =
    let cut = is.2.cut in
    let same : cut.node ≡ node = same_Some cut.node node (sym cut.at ∙ here) in
    absurd (none-some (split.Total is.2.index at) (sym (ap (λ (x : TreeNode). x.split) same ∙ whole) ∙ cut.cut_is))
leaf_tree i nodes n node (peak_at k at left right) none here whole is =
    let cut = is.2.cut in
    let same : cut.node ≡ node = same_Some cut.node node (sym cut.at ∙ here) in
    absurd (none-some (split.Peak is.2.group at) (sym (ap (λ (x : TreeNode). x.split) same ∙ whole) ∙ cut.cut_is))

-- the tree of a node that was split is the split's line and the trees of its halves
pub record IsSplitTree (i : Inputs) (nodes : List TreeNode) (node : TreeNode) (s : Split) (branch : Branch) : Type 0 where
  pub left : Branch
  pub right : Branch
  pub is : tree_lines branch ≡ cut_line s ++ (tree_lines left ++ tree_lines right)
  pub left_is : IsTreeOf i nodes node.left left
  pub right_is : IsTreeOf i nodes node.right right

pub split_tree : (i : Inputs) (nodes : List TreeNode) (n : ℕ) (node : TreeNode) (s : Split) (branch : Branch) → slice_get nodes n ≡ Some node → node.split ≡ Some s
    → IsTreeOf i nodes n branch → IsSplitTree i nodes node s branch
unfolding IsTreeOf tree_lines
split_tree i nodes n node s (leaf_of rates layers) here cut is =
    let same : is.node ≡ node = same_Some is.node node (sym is.at ∙ here) in
    absurd (none-some s (sym (sym (ap (λ (x : TreeNode). x.split) same) ∙ is.whole) ∙ cut))
split_tree i nodes n node s (total_at k at left right) here cut is =
    let made = is.2.cut in
    let same : made.node ≡ node = same_Some made.node node (sym made.at ∙ here) in
    let split_is : split.Total is.2.index at ≡ s = same_Some (split.Total is.2.index at) s (sym made.cut_is ∙ (ap (λ (x : TreeNode). x.split) same ∙ cut)) in
    record {
      left = left;
      right = right;
      is = ap (λ (z : ℤ). line.total z at ∷ (tree_lines left ++ tree_lines right)) is.2.is_index ∙ ap (λ (x : Split). cut_line x ++ (tree_lines left ++ tree_lines right)) split_is;
      left_is = subst (λ (x : ℕ). IsTreeOf i nodes x left) (sym made.left_is ∙ ap (λ (x : TreeNode). x.left) same) is.3;
      right_is = subst (λ (x : ℕ). IsTreeOf i nodes x right) (sym made.right_is ∙ ap (λ (x : TreeNode). x.right) same) is.4;
    }
split_tree i nodes n node s (peak_at k at left right) here cut is =
    let made = is.2.cut in
    let same : made.node ≡ node = same_Some made.node node (sym made.at ∙ here) in
    let split_is : split.Peak is.2.group at ≡ s = same_Some (split.Peak is.2.group at) s (sym made.cut_is ∙ (ap (λ (x : TreeNode). x.split) same ∙ cut)) in
    record {
      left = left;
      right = right;
      is = ap (λ (z : ℤ). line.peak z at ∷ (tree_lines left ++ tree_lines right)) is.2.is_group ∙ ap (λ (x : Split). cut_line x ++ (tree_lines left ++ tree_lines right)) split_is;
      left_is = subst (λ (x : ℕ). IsTreeOf i nodes x left) (sym made.left_is ∙ ap (λ (x : TreeNode). x.left) same) is.3;
      right_is = subst (λ (x : ℕ). IsTreeOf i nodes x right) (sym made.right_is ∙ ap (λ (x : TreeNode). x.right) same) is.4;
    }

pub box_of : (lists : List (List ℤ)) (nodes : List TreeNode) (n : ℕ) (node : TreeNode) → FormTree lists nodes → slice_get nodes n ≡ Some node → IsProblemBox lists node.space
box_of lists nodes n node form at = (form.each n node at).box

pub left_there : (lists : List (List ℤ)) (nodes : List TreeNode) (n : ℕ) (node : TreeNode) (s : Split) → FormTree lists nodes → slice_get nodes n ≡ Some node → node.split ≡ Some s
    → node.left < length nodes
left_there lists nodes n node s form at cut = ((form.each n node at).halves s cut).left_there

pub right_there : (lists : List (List ℤ)) (nodes : List TreeNode) (n : ℕ) (node : TreeNode) (s : Split) → FormTree lists nodes → slice_get nodes n ≡ Some node → node.split ≡ Some s
    → node.right < length nodes
right_there lists nodes n node s form at cut = ((form.each n node at).halves s cut).right_there

pub left_falls : (lists : List (List ℤ)) (nodes : List TreeNode) (n : ℕ) (node : TreeNode) (s : Split) → FormTree lists nodes → slice_get nodes n ≡ Some node → node.split ≡ Some s
    → length nodes - node.left < length nodes - n
left_falls lists nodes n node s form at cut = let h = (form.each n node at).halves s cut in omega (arith, h.left, h.left_there)

pub right_falls : (lists : List (List ℤ)) (nodes : List TreeNode) (n : ℕ) (node : TreeNode) (s : Split) → FormTree lists nodes → slice_get nodes n ≡ Some node → node.split ≡ Some s
    → length nodes - node.right < length nodes - n
right_falls lists nodes n node s form at cut = let h = (form.each n node at).halves s cut in omega (arith, h.right, h.right_there)

pub leaf_saved : (branch : Branch) (layers : List (List Pot)) (x y : Scene) (r : Result (Unit {0}) DeskFault) → branch ≡ leaf_of [] layers
    → SavesText (text_of (tree_lines (leaf_of [] layers))) x y r → SavesText (text_of (tree_lines branch)) x y r
leaf_saved branch layers x y r is saved = subst (λ (b : Branch). SavesText (text_of (tree_lines b)) x y r) (sym is) saved

pub split_front : (branch : Branch) (s : Split) (left right : Branch) (x y : Scene) → tree_lines branch ≡ cut_line s ++ (tree_lines left ++ tree_lines right)
    → SavesFront (text_of (cut_line s)) x y → SavesFront (text_of (tree_lines branch)) x y
split_front branch s left right x y is saved =
    subst (λ (l : List Line). SavesFront (text_of l) x y) (sym is) (lines_cut (cut_line s) (tree_lines left ++ tree_lines right) x y saved)

pub split_stop : (branch : Branch) (s : Split) (left right : Branch) (x y z : Scene) → tree_lines branch ≡ cut_line s ++ (tree_lines left ++ tree_lines right)
    → SavesOnly (text_of (cut_line s)) x y → SavesFront (text_of (tree_lines left)) y z → SavesFront (text_of (tree_lines branch)) x z
split_stop branch s left right x y z is one other =
    subst (λ (l : List Line). SavesFront (text_of l) x z) (sym is) (lines_stop (cut_line s) (tree_lines left) (tree_lines right) x y z one other)

pub split_end : (branch : Branch) (s : Split) (left right : Branch) (x y z w : Scene) (r : Result (Unit {0}) DeskFault) → tree_lines branch ≡ cut_line s ++ (tree_lines left ++ tree_lines right)
    → SavesOnly (text_of (cut_line s)) x y → SavesOnly (text_of (tree_lines left)) y z → SavesText (text_of (tree_lines right)) z w r → SavesText (text_of (tree_lines branch)) x w r
split_end branch s left right x y z w r is one two three =
    subst (λ (l : List Line). SavesText (text_of l) x w r) (append_assoc (cut_line s) (tree_lines left) (tree_lines right) ∙ sym is)
    (lines_end (cut_line s ++ tree_lines left) (tree_lines right) x z w r (lines_then (cut_line s) (tree_lines left) x y z one two) three)
