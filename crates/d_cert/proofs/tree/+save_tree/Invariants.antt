use Rattle.std.proofs.Common.{length, ◌-◌}
use Rattle.d_cert.proofs.tree.+save_tree.Given as goal

abbrev pub decreases-save_tree : goal.decreases-save_tree
decreases-save_tree g l = length l.tree.now - l.number
