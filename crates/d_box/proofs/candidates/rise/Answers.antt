use Rattle.std.proofs.lemmas.List.Filters.{dedup_is}
use Rattle.d_box.proofs.ListFacts.{sorted_rises, same_members}
use Rattle.d_box.proofs.candidates.rise.Goals as goal

pub returns-clause-rises : goal.returns-clause-rises
returns-clause-rises c = rw (dedup_is _ _ _ c.dedup.ensures.filtered) (sorted_rises _ c.sort_unstable.ensures.sorted)

pub returns-clause-members : goal.returns-clause-members
returns-clause-members c = rw (dedup_is _ _ _ c.dedup.ensures.filtered) (same_members _ _ c.sort_unstable.ensures.permutation)
