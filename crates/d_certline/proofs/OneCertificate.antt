-- Certificates in range that differ have different texts.
use Rattle.std.proofs.Common.{◌≡◌, ◌∙◌, ℕ, suc, ℤ, List, [], ◌∷◌, ◌++◌, length, arith, refl, sym, ap, ap₂, subst, append_assoc}
use Rattle.std.specs.Prelude.{unsigned_abs}
use Rattle.std.proofs.lemmas.List.{append-nil}
use Rattle.d_num.specs.declared.pot.Pot.{Pot}
use Rattle.d_certline.specs.Lines.{Line, text_of}
use Rattle.d_certline.specs.Lines as line
use Rattle.d_certline.specs.Places.{first}
use Rattle.d_certline.specs.Certificates.{Tree, leaf_of, total_at, peak_at, Found, least, gap, nothing, Certificate, certificate_lines, certificate_text, head_lines, found_lines, tree_lines, layer_lines, day_lines, kind_of, IsTree, IsInRange, levels_of}
use Rattle.d_certline.proofs.FaultFacts.{meet, done_stuck}
use Rattle.d_certline.proofs.MadeFacts.{lines_stand, end_place}
use Rattle.d_certline.proofs.SoundFacts.{sound_first}

-- lists with the same front have the same rest
cons_one : (a b : Line) (s t : List Line) → a ∷ s ≡ b ∷ t → (a ≡ b) × (s ≡ t)
cons_one a b s t e = (cc, cc)

layer_one : (m n : ℕ) (a b : List Pot) → line.layer m a ≡ line.layer n b → a ≡ b
layer_one m n a b e = cc

day_one : (m n : ℕ) (a b : List ℤ) → line.day m a ≡ line.day n b → a ≡ b
day_one m n a b e = cc

bill_one : (a b : ℤ) → line.bill a ≡ line.bill b → a ≡ b
bill_one a b e = cc

lower_one : (a b : ℤ) → line.lower a ≡ line.lower b → a ≡ b
lower_one a b e = cc

slopes_one : (a b : List ℤ) → line.slopes a ≡ line.slopes b → a ≡ b
slopes_one a b e = cc

total_one : (m n a b : ℤ) → line.total m a ≡ line.total n b → (m ≡ n) × (a ≡ b)
total_one m n a b e = (cc, cc)

peak_one : (m n a b : ℤ) → line.peak m a ≡ line.peak n b → (m ≡ n) × (a ≡ b)
peak_one m n a b e = (cc, cc)

-- as many layers
layers_one : (xs ys : List (List Pot)) (r s : List Line) → length xs ≡ length ys → layer_lines xs ++ r ≡ layer_lines ys ++ s → (xs ≡ ys) × (r ≡ s)
unfolding layer_lines
layers_one [] [] r s long e = (refl, e)
layers_one [] (y ∷ ys) r s long e = absurd (omega arith)
layers_one (x ∷ xs) [] r s long e = absurd (omega arith)
layers_one (x ∷ xs) (y ∷ ys) r s long e =
    let both = cons_one (line.layer (length xs) x) (line.layer (length ys) y) (layer_lines xs ++ r) (layer_lines ys ++ s) e in
    let rest = layers_one xs ys r s (omega arith) both.1 in
    (ap₂ (λ (h : List Pot) (l : List (List Pot)). h ∷ l) (layer_one (length xs) (length ys) x y both.0) rest.0, rest.1)

-- days end at a bill
days_one : (d : ℕ) (xs ys : List (List ℤ)) (a b : ℤ) (r s : List Line) → day_lines d xs ++ line.bill a ∷ r ≡ day_lines d ys ++ line.bill b ∷ s → (xs ≡ ys) × (a ≡ b) × (r ≡ s)
unfolding day_lines
days_one d [] [] a b r s e = let both = cons_one (line.bill a) (line.bill b) r s e in (refl, bill_one a b both.0, both.1)
days_one d [] (y ∷ ys) a b r s e = absurd cc
days_one d (x ∷ xs) [] a b r s e = absurd cc
days_one d (x ∷ xs) (y ∷ ys) a b r s e =
    let both = cons_one (line.day d x) (line.day d y) (day_lines (suc d) xs ++ line.bill a ∷ r) (day_lines (suc d) ys ++ line.bill b ∷ s) e in
    let rest = days_one (suc d) xs ys a b r s both.1 in
    (ap₂ (λ (h : List ℤ) (l : List (List ℤ)). h ∷ l) (day_one d d x y both.0) rest.0, rest.1, rest.2)

found_one : (f g : Found) (r s : List Line) → kind_of f ≡ kind_of g → found_lines f ++ r ≡ found_lines g ++ s → (f ≡ g) × (r ≡ s)
unfolding kind_of found_lines
found_one (least days bill) (least others other) r s k e =
    let all = days_one 1 days others bill other r s (sym (append_assoc (day_lines 1 days) (line.bill bill ∷ []) r) ∙ e ∙ append_assoc (day_lines 1 others) (line.bill other ∷ []) s) in
    (ap₂ (λ (x : List (List ℤ)) (z : ℤ). least x z) all.0 all.1, all.2)
found_one (least days bill) g r s k e = absurd cc
found_one (gap days bill bound) (gap others other limit) r s k e =
    let all = days_one 1 days others bill other (line.lower bound ∷ r) (line.lower limit ∷ s)
    (sym (append_assoc (day_lines 1 days) (line.bill bill ∷ line.lower bound ∷ []) r) ∙ e ∙ append_assoc (day_lines 1 others) (line.bill other ∷ line.lower limit ∷ []) s) in
    let last = cons_one (line.lower bound) (line.lower limit) r s all.2 in
    (ap₂ (λ (x : List (List ℤ)) (z : ℤ). gap x z bound) all.0 all.1 ∙ ap (λ z. gap others other z) (lower_one bound limit last.0), last.1)
found_one (gap days bill bound) g r s k e = absurd cc
found_one nothing nothing r s k e = (refl, e)
found_one nothing g r s k e = absurd cc

tree_one : (t u : Tree) (a b w c d x i : ℕ) (r s : List Line) → IsTree a b i w t → IsTree c d i x u → tree_lines t ++ r ≡ tree_lines u ++ s → (t ≡ u) × (r ≡ s)
unfolding tree_lines IsTree
tree_one (leaf_of rates layers) (leaf_of slopes others) a b w c d x i r s it iu e =
    let after_leaf = cons_one line.leaf line.leaf (line.slopes rates ∷ (layer_lines layers ++ r)) (line.slopes slopes ∷ (layer_lines others ++ s)) e in
    let after_slopes = cons_one (line.slopes rates) (line.slopes slopes) (layer_lines layers ++ r) (layer_lines others ++ s) after_leaf.1 in
    let rest = layers_one layers others r s (it.count ∙ sym iu.count) after_slopes.1 in
    (ap₂ (λ (zs : List ℤ) (ls : List (List Pot)). leaf_of zs ls) (slopes_one rates slopes after_slopes.0) rest.0, rest.1)
tree_one (leaf_of rates layers) u a b w c d x i r s it iu e = absurd cc
tree_one (total_at n at left right) (total_at m place front back) a b w c d x i r s it iu e =
    let head = cons_one (line.total n at) (line.total m place) ((tree_lines left ++ tree_lines right) ++ r) ((tree_lines front ++ tree_lines back) ++ s) e in
    let one = total_one n m at place head.0 in
    let fronts = tree_one left front a b w c d x i (tree_lines right ++ r) (tree_lines back ++ s) it.1 iu.1
    (sym (append_assoc (tree_lines left) (tree_lines right) r) ∙ head.1 ∙ append_assoc (tree_lines front) (tree_lines back) s) in
    let backs = tree_one right back a b w c d x i r s it.2 iu.2 fronts.1 in
    (ap₂ (λ (y z : ℤ). total_at y z left right) one.0 one.1 ∙ ap₂ (λ (y z : Tree). total_at m place y z) fronts.0 backs.0, backs.1)
tree_one (total_at n at left right) u a b w c d x i r s it iu e = absurd cc
tree_one (peak_at n at left right) (peak_at m place front back) a b w c d x i r s it iu e =
    let head = cons_one (line.peak n at) (line.peak m place) ((tree_lines left ++ tree_lines right) ++ r) ((tree_lines front ++ tree_lines back) ++ s) e in
    let one = peak_one n m at place head.0 in
    let fronts = tree_one left front a b w c d x i (tree_lines right ++ r) (tree_lines back ++ s) it.1 iu.1
    (sym (append_assoc (tree_lines left) (tree_lines right) r) ∙ head.1 ∙ append_assoc (tree_lines front) (tree_lines back) s) in
    let backs = tree_one right back a b w c d x i r s it.2 iu.2 fronts.1 in
    (ap₂ (λ (y z : ℤ). peak_at y z left right) one.0 one.1 ∙ ap₂ (λ (y z : Tree). peak_at m place y z) fronts.0 backs.0, backs.1)
tree_one (peak_at n at left right) u a b w c d x i r s it iu e = absurd cc

-- the heads of two certificates that have the same lines
record HasSameHead (c d : Certificate) : Type 0 where
  label : c.label ≡ d.label
  year : c.year ≡ d.year
  month : c.month ≡ d.month
  minutes : c.minutes ≡ d.minutes
  intervals : c.intervals ≡ d.intervals
  floor : c.floor ≡ d.floor
  capacity : c.capacity ≡ d.capacity
  start : c.start ≡ d.start
  least_end : c.least_end ≡ d.least_end
  modes : c.modes ≡ d.modes
  groups : c.groups ≡ d.groups
  tiered : c.tiered ≡ d.tiered
  kind : kind_of c.found ≡ kind_of d.found
  rest : found_lines c.found ++ (tree_lines c.tree ++ line.finish ∷ []) ≡ found_lines d.found ++ (tree_lines d.tree ++ line.finish ∷ [])

heads : (c d : Certificate) → certificate_lines c ≡ certificate_lines d → HasSameHead c d
unfolding certificate_lines head_lines
heads c d e = record {
  label = cc;
  year = cc;
  month = cc;
  minutes = cc;
  intervals = cc;
  floor = cc;
  capacity = cc;
  start = cc;
  least_end = cc;
  modes = cc;
  groups = cc;
  tiered = cc;
  kind = cc;
  rest = cc;
}

make : List ℕ → ℕ → ℕ → ℤ → ℤ → ℤ → ℤ → ℤ → ℤ → ℤ → ℤ → ℤ → Found → Tree → Certificate
make a b x e f g h i j k l m n o = record {
  label = a;
  year = b;
  month = x;
  minutes = e;
  intervals = f;
  floor = g;
  capacity = h;
  start = i;
  least_end = j;
  modes = k;
  groups = l;
  tiered = m;
  found = n;
  tree = o;
}

same : (c d : Certificate) → HasSameHead c d → c.found ≡ d.found → c.tree ≡ d.tree → c ≡ d
unfolding make
same c d h f t =
    let all : make c.label c.year c.month c.minutes c.intervals c.floor c.capacity c.start c.least_end c.modes c.groups c.tiered c.found c.tree
    ≡ make d.label d.year d.month d.minutes d.intervals d.floor d.capacity d.start d.least_end d.modes d.groups d.tiered d.found d.tree = cc (h.label, h.year, h.month, h.minutes, h.intervals, h.floor, h.capacity, h.start, h.least_end, h.modes, h.groups, h.tiered) in
    all

-- the lines of a certificate say it
pub lines_one : (c d : Certificate) → IsInRange c → IsInRange d → certificate_lines c ≡ certificate_lines d → c ≡ d
lines_one c d x y e =
    let head = heads c d e in
    let found = found_one c.found d.found (tree_lines c.tree ++ line.finish ∷ []) (tree_lines d.tree ++ line.finish ∷ []) head.kind head.rest in
    let other : IsTree (unsigned_abs d.tiered) (unsigned_abs d.groups) (unsigned_abs c.intervals) (levels_of d) d.tree =
    subst (λ (n : ℤ). IsTree (unsigned_abs d.tiered) (unsigned_abs d.groups) (unsigned_abs n) (levels_of d) d.tree) (sym head.intervals) y.tree in
    let tree = tree_one c.tree d.tree (unsigned_abs c.tiered) (unsigned_abs c.groups) (levels_of c) (unsigned_abs d.tiered) (unsigned_abs d.groups) (levels_of d) (unsigned_abs c.intervals)
    (line.finish ∷ []) (line.finish ∷ []) x.tree other found.1 in
    same c d head found.0 tree.0

pub certificate_one : (c d : Certificate) → IsInRange c → IsInRange d → certificate_text c ≡ certificate_text d → c ≡ d
unfolding certificate_text end_place
certificate_one c d x y e =
    let both = meet (certificate_lines c) (certificate_lines d) first (end_place c) (end_place d) [] [] sound_first (lines_stand c x) (lines_stand d y)
    (append-nil (text_of (certificate_lines c)) ∙ e ∙ sym (append-nil (text_of (certificate_lines d))))
    (λ l more q f g. done_stuck (end_place c) q l refl g) (λ l more q f g. done_stuck (end_place d) q l refl g) in
    lines_one c d x y both.0
