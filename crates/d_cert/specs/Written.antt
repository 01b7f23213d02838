-- The certificate of what a search found. All of it is our own rule.
use Rattle.std.specs.Prelude.{◌≡◌, ℕ, zero, suc, ◌+◌, ◌/◌, ⊤, ℤ, pos, List, [], ◌∷◌, Some, None, length, map, take, drop, unwrap_or, unsigned_abs, slice_get}
use Rattle.d_num.specs.declared.pot.Pot.{Pot}
use Rattle.d_path.specs.Arcs.{Arcs}
use Rattle.d_path.specs.Cheapest.{HasCheapest}
use Rattle.d_box.specs.declared.space.Split.{Split}
use Rattle.d_box.specs.declared.space.Split.TheVariants as split
use Rattle.d_bill.specs.Inputs.{Inputs}
use Rattle.d_bill.specs.Slopes.{tiered}
use Rattle.d_bound.specs.Nodes.{box_arcs}
use Rattle.d_search.specs.declared.tree.TreeNode.{TreeNode}
use Rattle.d_search.specs.declared.outcome.Outcome.{Outcome}
use Rattle.d_search.specs.declared.outcome.Verdict.{Verdict}
use Rattle.d_search.specs.declared.outcome.Verdict.TheVariants.{Least, GapBudget, GapDuality, Infeasible}
use Rattle.d_certline.specs.Ranges.{per_day}
use Rattle.d_certline.specs.Certificates.{Certificate, Found, least, gap, nothing, Tree, leaf_of, total_at, peak_at}

-- the modes of so many days, each of which has so many intervals
unfoldable pub days_of : ℕ → ℕ → List ℕ → List (List ℤ)
days_of per zero modes = []
days_of per (suc n) modes = map (λ m. pos m) (take per modes) ∷ days_of per n (drop per modes)

-- the modes of a schedule, day by day
unfoldable pub month_days : Inputs → List ℕ → List (List ℤ)
month_days i modes = days_of (per_day i.minutes) (length i.net / per_day i.minutes) modes

-- what was found, by how the search ended
unfoldable pub found_by : Verdict → List (List ℤ) → ℤ → ℤ → Found
found_by Least days bill bound = least days bill
found_by GapBudget days bill bound = gap days bill bound
found_by GapDuality days bill bound = gap days bill bound
found_by Infeasible days bill bound = nothing

-- what an outcome found
unfoldable pub found_of : Inputs → Outcome → Found
found_of i o = found_by o.verdict (month_days i o.schedule) (unwrap_or o.bill (pos 0)) (unwrap_or o.lower (pos 0))

-- the certificate of an outcome with this tree
unfoldable pub certificate_with : Inputs → List ℕ → Outcome → Tree → Certificate
certificate_with i label o tree = record {
  label = label;
  year = unsigned_abs i.year;
  month = i.number;
  minutes = pos i.minutes;
  intervals = pos (length i.net);
  floor = pos i.storage.floor;
  capacity = pos i.storage.capacity;
  start = pos i.storage.start;
  least_end = pos i.storage.end;
  modes = pos (length i.storage.modes);
  groups = pos (length i.peaks);
  tiered = pos (length (tiered i));
  found = found_of i o;
  tree = tree;
}

-- the row has the least cost at each level, and no others
pub record IsRow (a : Arcs) (t : ℕ) (row : List Pot) : Type 0 where
  pub cheapest : HasCheapest a t row
  pub wide : a.floor + length row ≡ a.capacity + 1

-- each row is that of the interval that has the number of the rows behind it
unfoldable pub AreRows : Arcs → List (List Pot) → Type 0
AreRows a [] = ⊤
AreRows a (row ∷ rest) = IsRow a (length rest) row × AreRows a rest

-- the leaf of a node that wasn't split: its slopes, and the least costs within the caps of its box at these slopes, from the month's end back
pub record IsLeafOf (i : Inputs) (nodes : List TreeNode) (n : ℕ) (rates : List ℤ) (layers : List (List Pot)) : Type 0 where
  pub node : TreeNode
  pub at : slice_get nodes n ≡ Some node
  pub whole : node.split ≡ None
  pub slopes : rates ≡ take (length (tiered i)) node.node.slopes.rates
  pub count : length layers ≡ length i.net + 1
  pub rows : AreRows (box_arcs i node.space node.node.slopes) layers

-- the node was split there, and its halves have these numbers
pub record IsCutAt (nodes : List TreeNode) (n : ℕ) (cut : Split) (left right : ℕ) : Type 0 where
  pub node : TreeNode
  pub at : slice_get nodes n ≡ Some node
  pub cut_is : node.split ≡ Some cut
  pub left_is : node.left ≡ left
  pub right_is : node.right ≡ right

-- a split of a total has the number of its period, and its halves are those of the node
pub record IsTotalOf (nodes : List TreeNode) (n : ℕ) (k at : ℤ) (left right : ℕ) : Type 0 where
  pub index : ℕ
  pub is_index : k ≡ pos index
  pub cut : IsCutAt nodes n (split.Total index at) left right

-- a split of a peak has the number of its group, and its halves are those of the node
pub record IsPeakOf (nodes : List TreeNode) (n : ℕ) (k at : ℤ) (left right : ℕ) : Type 0 where
  pub group : ℕ
  pub is_group : k ≡ pos group
  pub cut : IsCutAt nodes n (split.Peak group at) left right

-- the tree is that of the nodes from this one on
unfoldable pub IsTreeOf : Inputs → List TreeNode → ℕ → Tree → Type 0
IsTreeOf i nodes n (leaf_of rates layers) = IsLeafOf i nodes n rates layers
IsTreeOf i nodes n (total_at k at left right) =
    (l : ℕ) × (r : ℕ) × IsTotalOf nodes n k at l r × IsTreeOf i nodes l left × IsTreeOf i nodes r right
IsTreeOf i nodes n (peak_at k at left right) =
    (l : ℕ) × (r : ℕ) × IsPeakOf nodes n k at l r × IsTreeOf i nodes l left × IsTreeOf i nodes r right

-- the certificate of what was found for the problem and the record's label
pub record IsCertificateOf (i : Inputs) (label : List ℕ) (o : Outcome) (c : Certificate) : Type 0 where
  pub same : c ≡ certificate_with i label o c.tree
  pub tree : IsTreeOf i o.tree 0 c.tree
