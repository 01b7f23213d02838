use Rattle.std.proofs.Common.{◌≡◌, ◌-◌, ◌≤◌, min, length, take, drop}
use Rattle.d_text.specs.Text.{without_back}
use Rattle.d_text.proofs.Decimals.{is_zero}
use Rattle.d_text.proofs.text.kept_decimals.Given as goal

abbrev pub invariant-loop-end : goal.invariant-loop-end
invariant-loop-end l = record {
  within : l.end ≤ length l.decimals;
  two : min 2 (length l.decimals) ≤ l.end;
  passed : without_back is_zero (take (l.end - 2) (drop 2 l.decimals)) ≡ without_back is_zero (drop 2 l.decimals);
}

abbrev pub decreases-loop-end : goal.decreases-loop-end
decreases-loop-end l = l.end
