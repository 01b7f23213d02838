-- The room of a search: its memory, before a box was looked at. Our own words; only calls of this crate cite the parts.
use Rattle.std.specs.Prelude.{◌≡◌, ℕ, ◌≤◌, [], None, length}
use Rattle.std.specs.Vec.{vec_capacity}
use Rattle.d_bill.specs.Inputs.{Inputs}
use Rattle.d_bound.specs.Bounders.{IsBounderOf}
use Rattle.d_search.specs.declared.growth.Growth.{Growth}
use Rattle.d_search.specs.declared.room.Room.{Room}

-- no box was looked at; there is room for so many nodes and keys, and for two schedules of so many intervals
pub record IsEmpty (intervals budget : ℕ) (g : Growth) : Type 0 where
  pub nodes : g.nodes.items ≡ []
  pub space : budget ≤ vec_capacity g.nodes
  pub keys : g.front.keys ≡ []
  pub places : g.front.room ≡ budget
  pub kept : length g.kept.items ≡ intervals
  pub trial : length g.trial.items ≡ intervals
  pub bill : g.bill ≡ None

-- room for a search of the problem that may look at as many boxes as its budget says
pub record IsRoomOf (i : Inputs) (room : Room) : Type 0 where
  pub bounder : IsBounderOf i room.bounder
  pub growth : IsEmpty (length i.net) room.budget room.growth
  pub some : 1 ≤ room.budget
  pub few : room.budget ≤ 65535
