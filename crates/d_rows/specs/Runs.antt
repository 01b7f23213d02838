-- What a Vec ends as when a run of its elements is lent.
use Rattle.std.specs.Prelude.{ℕ, ◌-◌, List, ◌++◌, take, drop, slice_range}
use Rattle.std.specs.Borrow.{Array, Fml, MutBor, RattleType, follows}
use Rattle.std.specs.List.{refill}
use Rattle.std.specs.Vec.{with_items}
use Rattle.std.specs.contracts.vec.Vec.{the_row as vec_row}
use Rattle.std.specs.declared.alloc.Allocator.{Ghosts}
use Rattle.std.specs.declared.vec.Vec.{Vec}

-- xs with ws in the place of xs[start..end]. A list of another length is cut, or filled up with what was there, so that the length stays
abbrev pub with_run : {X : Type 0} → List X → ℕ → ℕ → List X → List X
with_run xs start end ws = take start xs ++ (refill (end - start) (slice_range xs start end) ws ++ drop end xs)

-- v ends with what was written through r in the place of v[start..end]
module _ (T A : RattleType) (heap : Ghosts A.Denot) (v : MutBor (Vec T.Denot A.Denot)) where
  abbrev pub VecLendsRun : ℕ → ℕ → MutBor (List T.Denot) → Fml
  VecLendsRun start end r =
      follows (vec_row T A heap) (Array T 0) v.ghost_name r.ghost_name (λ ws. with_items v.now (with_run v.now.items start end ws))
