-- Lines that stand behind the bill are those of trees that are owed.
use Rattle.std.proofs.Common.{◌≡◌, ◌∙◌, ◌<◌, ◌≤◌, ◌+◌, ◌-◌, ◌==◌, ◌&&◌, ◌||◌, ℕ, zero, suc, ℤ, Bool, true, false, List, [], ◌∷◌, ◌++◌, length, arith, refl, sym, ap, ap₂, subst, append_assoc, nat_lt}
use Rattle.std.specs.List.{list_all, All, AllByRecursion, flat_map}
use Rattle.std.proofs.lemmas.Bool.{eqb-true, eqb-false, ltb-false, and_parts}
use Rattle.std.proofs.lemmas.List.{append-nil}
use Rattle.d_num.specs.declared.pot.Pot.{Pot}
use Rattle.d_certline.specs.declared.place.Place.{Place}
use Rattle.d_certline.specs.declared.place.Stage.{Stage}
use Rattle.d_certline.specs.declared.place.Stage.TheVariants as stage
use Rattle.d_certline.specs.Lines.{Line, total, peak, leaf, slopes, layer, finish}
use Rattle.d_certline.specs.Ranges.{is_index, is_slope, is_potential, is_cut, width, most_nodes, most_potentials, potentials}
use Rattle.d_certline.specs.Places.{stands, in_range, after, after_at, Stand, at_tree, at_split, at_leaf, at_slopes, at_layer, below}
use Rattle.d_certline.specs.Certificates.{Tree, leaf_of, total_at, peak_at, tree_lines, layer_lines, nodes_of, leaves_of, IsLayer, IsLeaf, IsTree}
use Rattle.d_certline.proofs.LineFacts.{stood, stand_none, stand_more}
use Rattle.d_certline.proofs.RangeFacts.{ranged, if_so, if_not}

-- how many nodes and leaves trees have together
unfoldable pub all_nodes : List Tree → ℕ
all_nodes [] = 0
all_nodes (t ∷ ts) = nodes_of t + all_nodes ts

unfoldable pub all_leaves : List Tree → ℕ
all_leaves [] = 0
all_leaves (t ∷ ts) = leaves_of t + all_leaves ts

-- the lines are those of so many trees, and the last line
pub record IsForest (tiered groups intervals levels owed need leaves : ℕ) (ls : List Line) : Type 0 where
  pub trees : List Tree
  pub lines_are : ls ≡ flat_map tree_lines trees ++ finish ∷ []
  pub count : length trees ≡ owed
  pub fitting : AllByRecursion (IsTree tiered groups intervals levels) trees
  pub nodes : need + all_nodes trees ≤ 65535 + owed
  pub few : potentials (leaves + all_leaves trees) intervals levels ≤ most_potentials

-- the same behind a place
abbrev pub ForestAt : Place → List Line → Type 0
ForestAt p ls = IsForest p.tiered p.groups p.intervals (width p.floor p.capacity) p.owed p.need p.leaves ls

-- what comes behind the slopes: layers, and then trees
abbrev LayersAt : Place → ℕ → List Line → Type 0
LayersAt p t ls = (layers : List (List Pot)) × (rest : List Line) × (ls ≡ layer_lines layers ++ rest) × (length layers ≡ t + 1)
    × All (IsLayer (width p.floor p.capacity)) layers × ForestAt p rest

abbrev SlopesAt : Place → List Line → Type 0
SlopesAt p ls = (rates : List ℤ) × (layers : List (List Pot)) × (rest : List Line) × (ls ≡ slopes rates ∷ (layer_lines layers ++ rest))
    × IsLeaf p.tiered p.intervals (width p.floor p.capacity) rates layers × ForestAt p rest

abbrev ShapeAt : Stage → Place → List Line → Type 0
ShapeAt stage.Tree p ls = ForestAt p ls
ShapeAt stage.Slopes p ls = SlopesAt p ls
ShapeAt (stage.Layer t) p ls = LayersAt p t ls
ShapeAt stage.Done p ls = ls ≡ []
ShapeAt s p ls = Unit {0}

-- the limits that a place keeps
abbrev pub IsRoomy : Place → Type 0
IsRoomy p = (p.need ≤ 65535) × (potentials p.leaves p.intervals (width p.floor p.capacity) ≤ most_potentials)

all_cons : (P : List Pot → Type 0) (x : List Pot) (xs : List (List Pot)) → P x → All P xs → All P (x ∷ xs)
all_cons P x xs h t zero d within = h
all_cons P x xs h t (suc k) d within = t k d (omega arith)

or_parts : (a b : Bool) → (a || b) ≡ false → (a ≡ false) × (b ≡ false)
or_parts true b e = absurd cc
or_parts false b e = (refl, e)

-- lists in one order, however they are joined
joined : (a b c d : List Line) → (a ++ (b ++ c)) ++ d ≡ ((a ++ b) ++ c) ++ d
joined a b c d = ap (λ (k : List Line). k ++ d) (sym (append_assoc a b c))

-- a split joins the first two trees behind it
join_total : (p : Place) (n at : ℤ) (ls : List Line) → 0 < p.owed → (is_index p.tiered n && is_cut at) ≡ true
    → ForestAt (record p { owed = p.owed + 1; need = p.need + 2 }) ls → ForestAt p (total n at ∷ ls)
unfolding all_nodes all_leaves nodes_of leaves_of tree_lines IsTree
join_total p n at ls some is f = join f.trees f.lines_are f.count f.fitting f.nodes f.few
  where
    join : (ts : List Tree) → ls ≡ flat_map tree_lines ts ++ finish ∷ [] → length ts ≡ p.owed + 1
        → AllByRecursion (IsTree p.tiered p.groups p.intervals (width p.floor p.capacity)) ts → p.need + 2 + all_nodes ts ≤ 65535 + (p.owed + 1)
        → potentials (p.leaves + all_leaves ts) p.intervals (width p.floor p.capacity) ≤ most_potentials → ForestAt p (total n at ∷ ls)
    join [] e count fits nodes few = absurd (omega arith)
    join (l ∷ []) e count fits nodes few = absurd (omega arith)
    join (l ∷ r ∷ ts) e count fits nodes few = record {
      trees = total_at n at l r ∷ ts;
      lines_are = ap (λ (k : List Line). total n at ∷ k) (e ∙ joined (tree_lines l) (tree_lines r) (flat_map tree_lines ts) (finish ∷ []));
      count = omega arith;
      fitting = ((is, fits.0, fits.1.0), fits.1.1);
      nodes = omega arith;
      few = subst (λ (k : ℕ). potentials k p.intervals (width p.floor p.capacity) ≤ most_potentials)
          (let e : p.leaves + (leaves_of l + (leaves_of r + all_leaves ts)) ≡ p.leaves + (leaves_of l + leaves_of r + all_leaves ts) = omega arith in e) few;
    }

join_peak : (p : Place) (n at : ℤ) (ls : List Line) → 0 < p.owed → (is_index p.groups n && is_cut at) ≡ true
    → ForestAt (record p { owed = p.owed + 1; need = p.need + 2 }) ls → ForestAt p (peak n at ∷ ls)
unfolding all_nodes all_leaves nodes_of leaves_of tree_lines IsTree
join_peak p n at ls some is f = join f.trees f.lines_are f.count f.fitting f.nodes f.few
  where
    join : (ts : List Tree) → ls ≡ flat_map tree_lines ts ++ finish ∷ [] → length ts ≡ p.owed + 1
        → AllByRecursion (IsTree p.tiered p.groups p.intervals (width p.floor p.capacity)) ts → p.need + 2 + all_nodes ts ≤ 65535 + (p.owed + 1)
        → potentials (p.leaves + all_leaves ts) p.intervals (width p.floor p.capacity) ≤ most_potentials → ForestAt p (peak n at ∷ ls)
    join [] e count fits nodes few = absurd (omega arith)
    join (l ∷ []) e count fits nodes few = absurd (omega arith)
    join (l ∷ r ∷ ts) e count fits nodes few = record {
      trees = peak_at n at l r ∷ ts;
      lines_are = ap (λ (k : List Line). peak n at ∷ k) (e ∙ joined (tree_lines l) (tree_lines r) (flat_map tree_lines ts) (finish ∷ []));
      count = omega arith;
      fitting = ((is, fits.0, fits.1.0), fits.1.1);
      nodes = omega arith;
      few = subst (λ (k : ℕ). potentials k p.intervals (width p.floor p.capacity) ≤ most_potentials)
          (let e : p.leaves + (leaves_of l + (leaves_of r + all_leaves ts)) ≡ p.leaves + (leaves_of l + leaves_of r + all_leaves ts) = omega arith in e) few;
    }

-- a leaf takes its slopes and layers
join_leaf : (p : Place) (ls : List Line) → 0 < p.owed → SlopesAt (record p { stage = stage.Slopes; owed = p.owed - 1; leaves = p.leaves + 1 }) ls → ForestAt p (leaf ∷ ls)
unfolding all_nodes all_leaves nodes_of leaves_of tree_lines IsTree
join_leaf p ls some f = record {
  trees = leaf_of f.0 f.1 ∷ f.5.trees;
  lines_are = ap (λ (k : List Line). leaf ∷ k) (f.3 ∙ ap (λ (k : List Line). slopes f.0 ∷ (layer_lines f.1 ++ k)) f.5.lines_are
      ∙ ap (λ (k : List Line). slopes f.0 ∷ k) (sym (append_assoc (layer_lines f.1) (flat_map tree_lines f.5.trees) (finish ∷ []))));
  count = omega (arith, f.5.count);
  fitting = (f.4, f.5.fitting);
  nodes = omega (arith, f.5.nodes);
  few = subst (λ (k : ℕ). potentials k p.intervals (width p.floor p.capacity) ≤ most_potentials)
      (let e : p.leaves + 1 + all_leaves f.5.trees ≡ p.leaves + (1 + all_leaves f.5.trees) = omega arith in e) f.5.few;
}

-- the last line ends no tree
join_finish : (p : Place) → p.owed ≡ 0 → IsRoomy p → ForestAt p (finish ∷ [])
unfolding all_nodes all_leaves
join_finish p none room = record {
  trees = [];
  lines_are = refl;
  count = sym none;
  fitting = tt;
  nodes = omega (arith, room.0);
  few = subst (λ (k : ℕ). potentials k p.intervals (width p.floor p.capacity) ≤ most_potentials) (let e : p.leaves ≡ p.leaves + 0 = omega arith in e) room.1;
}

-- what is behind one more line, if what is behind the next place is known
abbrev Onward : List Line → Place → Type 0
Onward ls q = (m : Place) → IsRoomy m → Stand m ls q → ShapeAt m.stage m ls

split_room : (count : ℕ) (p m : Place) (n at : ℤ) → at_split count p n at ≡ stands m
    → (0 < p.owed) × (p.need + 2 ≤ 65535) × ((is_index count n && is_cut at) ≡ true) × (record p { owed = p.owed + 1; need = p.need + 2 } ≡ m)
unfolding at_split
split_room count p m n at e =
    let r : Place = record p { owed = p.owed + 1; need = p.need + 2 } in
    let t = if_not ((p.owed == 0) || nat_lt most_nodes (p.need + 2)) (in_range (is_index count n && is_cut at) r) m e in
    let both = or_parts (p.owed == 0) (nat_lt most_nodes (p.need + 2)) t.0 in
    let s = ranged (is_index count n && is_cut at) r m t.1 in
    let some : 0 < p.owed = above p.owed (eqb-false p.owed 0 both.0) in
    (some, ltb-false most_nodes (p.need + 2) both.1, s.0, s.1)
  where
    above : (n : ℕ) → (n ≡ 0 → ⊥) → 0 < n
    above zero h = absurd (h refl)
    above (suc n) h = omega arith

leaf_room : (p m : Place) → at_leaf p ≡ stands m
    → (0 < p.owed) × (potentials (p.leaves + 1) p.intervals (width p.floor p.capacity) ≤ most_potentials)
    × (record p { stage = stage.Slopes; owed = p.owed - 1; leaves = p.leaves + 1 } ≡ m)
unfolding at_leaf
leaf_room p m e =
    let r : Place = record p { stage = stage.Slopes; owed = p.owed - 1; leaves = p.leaves + 1 } in
    let much : ℕ = potentials (p.leaves + 1) p.intervals (width p.floor p.capacity) in
    let t = if_not ((p.owed == 0) || nat_lt most_potentials much) (stands r) m e in
    let both = or_parts (p.owed == 0) (nat_lt most_potentials much) t.0 in
    (above p.owed (eqb-false p.owed 0 both.0), ltb-false most_potentials much both.1, stood r m t.1)
  where
    above : (n : ℕ) → (n ≡ 0 → ⊥) → 0 < n
    above zero h = absurd (h refl)
    above (suc n) h = omega arith

tree_shape : (p m q : Place) (l : Line) (ls : List Line) → p.stage ≡ stage.Tree → IsRoomy p → at_tree p l ≡ stands m → Stand m ls q → Onward ls q → ForestAt p (l ∷ ls)
unfolding at_tree
tree_shape p m q (total n at) ls here room e s onward =
    let t = split_room p.tiered p m n at e in
    let r : Place = record p { owed = p.owed + 1; need = p.need + 2 } in
    let f : ShapeAt r.stage r ls = onward r (t.1, room.1) (subst (λ (c : Place). Stand c ls q) (sym t.3) s) in
    join_total p n at ls t.0 t.2 (subst (λ (k : Stage). ShapeAt k r ls) here f)
tree_shape p m q (peak n at) ls here room e s onward =
    let t = split_room p.groups p m n at e in
    let r : Place = record p { owed = p.owed + 1; need = p.need + 2 } in
    let f : ShapeAt r.stage r ls = onward r (t.1, room.1) (subst (λ (c : Place). Stand c ls q) (sym t.3) s) in
    join_peak p n at ls t.0 t.2 (subst (λ (k : Stage). ShapeAt k r ls) here f)
tree_shape p m q leaf ls here room e s onward =
    let t = leaf_room p m e in
    let r : Place = record p { stage = stage.Slopes; owed = p.owed - 1; leaves = p.leaves + 1 } in
    join_leaf p ls t.0 (onward r (room.0, t.1) (subst (λ (c : Place). Stand c ls q) (sym t.2) s))
tree_shape p m q finish ls here room e s onward =
    let t = if_so (p.owed == 0) (stands (record p { stage = stage.Done })) m e in
    let r : Place = record p { stage = stage.Done } in
    let f : ls ≡ [] = onward r room (subst (λ (c : Place). Stand c ls q) (sym (stood r m t.1)) s) in
    subst (λ (k : List Line). ForestAt p (finish ∷ k)) (sym f) (join_finish p (eqb-true p.owed 0 t.0) room)
tree_shape p m q l ls here room e s onward = absurd cc

slopes_shape : (p m q : Place) (l : Line) (ls : List Line) → IsRoomy p → at_slopes p l ≡ stands m → Stand m ls q → Onward ls q → SlopesAt p (l ∷ ls)
unfolding at_slopes
slopes_shape p m q (slopes zs) ls room e s onward =
    let r : Place = record p { stage = stage.Layer p.intervals } in
    let t = if_so (length zs == p.tiered) (in_range (list_all is_slope zs) r) m e in
    let u = ranged (list_all is_slope zs) r m t.1 in
    let f : LayersAt r p.intervals ls = onward r room (subst (λ (c : Place). Stand c ls q) (sym u.1) s) in (
      zs,
      f.0,
      f.1,
      ap (λ (k : List Line). slopes zs ∷ k) f.2,
      record { slopes = eqb-true (length zs) p.tiered t.0; ranged = u.0; count = f.3; layers_are = f.4 },
      f.5,
    )
slopes_shape p m q l ls room e s onward = absurd cc

layer_shape : (t : ℕ) (p m q : Place) (l : Line) (ls : List Line) → IsRoomy p → at_layer t p l ≡ stands m → Stand m ls q → Onward ls q → LayersAt p t (l ∷ ls)
unfolding at_layer layer_lines below
layer_shape t p m q (layer n ps) ls room e s onward =
    let r : Place = record p { stage = below t } in
    let u = if_so ((n == t) && (length ps == width p.floor p.capacity)) (in_range (list_all is_potential ps) r) m e in
    let both = and_parts (n == t) (length ps == width p.floor p.capacity) u.0 in
    let v = ranged (list_all is_potential ps) r m u.1 in
    let is : IsLayer (width p.floor p.capacity) ps = record { count = eqb-true (length ps) (width p.floor p.capacity) both.1; ranged = v.0 } in
    lower t (eqb-true n t both.0) is (onward r room (subst (λ (c : Place). Stand c ls q) (sym v.1) s))
  where
    lower : (t : ℕ) → n ≡ t → IsLayer (width p.floor p.capacity) ps → ShapeAt (below t) (record p { stage = below t }) ls → LayersAt p t (layer n ps ∷ ls)
    lower zero e is f =
        (ps ∷ [], ls, ap (λ (k : ℕ). layer k ps ∷ ls) e, omega arith, all_cons (IsLayer (width p.floor p.capacity)) ps [] is (λ k d within. absurd (omega arith)), f)
    lower (suc t) e is f =
        let long : length f.0 ≡ suc t = f.3 ∙ (let same : t + 1 ≡ suc t = omega arith in same) in
        (ps ∷ f.0, f.1, ap₂ (λ (k : ℕ) (more : List Line). layer k ps ∷ more) (e ∙ sym long) f.2, omega (arith, long), all_cons (IsLayer (width p.floor p.capacity)) ps f.0 is f.4, f.5)
layer_shape t p m q l ls room e s onward = absurd cc

stage_shape : (s : Stage) (p m q : Place) (l : Line) (ls : List Line) → p.stage ≡ s → IsRoomy p → after_at s p l ≡ stands m → Stand m ls q → Onward ls q → ShapeAt s p (l ∷ ls)
unfolding after_at
stage_shape stage.Tree p m q l ls here room e s onward = tree_shape p m q l ls here room e s onward
stage_shape stage.Slopes p m q l ls here room e s onward = slopes_shape p m q l ls room e s onward
stage_shape (stage.Layer t) p m q l ls here room e s onward = layer_shape t p m q l ls room e s onward
stage_shape stage.Done p m q l ls here room e s onward = absurd cc
stage_shape k p m q l ls here room e s onward = tt

-- no lines stand at the end alone
none_shape : (s : Stage) (p : Place) → s ≡ stage.Done → ShapeAt s p []
none_shape stage.Done p e = refl
none_shape stage.Tree p e = absurd cc
none_shape stage.Slopes p e = absurd cc
none_shape (stage.Layer t) p e = absurd cc
none_shape k p e = tt

shape : (ls : List Line) (p q : Place) → q.stage ≡ stage.Done → IsRoomy p → Stand p ls q → ShapeAt p.stage p ls
unfolding after
shape [] p q done room s = none_shape p.stage p (ap (λ (c : Place). c.stage) (stand_none p q s) ∙ done)
shape (l ∷ ls) p q done room s =
    let t = stand_more p q l ls s in
    stage_shape p.stage p t.0 q l ls refl room t.1 t.2 (λ m fits there. shape ls m q done fits there)

-- lines that stand from a tree on to the end are those of the trees that are owed
pub forest : (ls : List Line) (p q : Place) → p.stage ≡ stage.Tree → q.stage ≡ stage.Done → IsRoomy p → Stand p ls q → ForestAt p ls
forest ls p q here done room s = subst (λ (k : Stage). ShapeAt k p ls) here (shape ls p q done room s)

-- where one is owed there is one
pub one_tree : (tiered groups intervals levels : ℕ) (ls : List Line) → IsForest tiered groups intervals levels 1 1 0 ls
    → (t : Tree) × (ls ≡ tree_lines t ++ finish ∷ []) × IsTree tiered groups intervals levels t × (nodes_of t ≤ most_nodes) × (potentials (leaves_of t) intervals levels ≤ most_potentials)
unfolding all_nodes all_leaves
one_tree tiered groups intervals levels ls f = single f.trees f.lines_are f.count f.fitting f.nodes f.few
  where
    single : (ts : List Tree) → ls ≡ flat_map tree_lines ts ++ finish ∷ [] → length ts ≡ 1 → AllByRecursion (IsTree tiered groups intervals levels) ts
        → 1 + all_nodes ts ≤ 65535 + 1 → potentials (0 + all_leaves ts) intervals levels ≤ most_potentials
        → (t : Tree) × (ls ≡ tree_lines t ++ finish ∷ []) × IsTree tiered groups intervals levels t × (nodes_of t ≤ most_nodes) × (potentials (leaves_of t) intervals levels ≤ most_potentials)
    single [] e count fits nodes few = absurd (omega arith)
    single (t ∷ []) e count fits nodes few = (
      t,
      e ∙ ap (λ (k : List Line). k ++ finish ∷ []) (append-nil (tree_lines t)),
      fits.0,
      omega arith,
      subst (λ (k : ℕ). potentials k intervals levels ≤ most_potentials) (let same : 0 + (leaves_of t + 0) ≡ leaves_of t = omega arith in same) few,
    )
    single (t ∷ u ∷ ts) e count fits nodes few = absurd (omega arith)
