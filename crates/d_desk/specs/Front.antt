-- Fronts of a list: how far a call came that was cut short.
use Rattle.std.specs.Prelude.{◌≡◌, List, ◌++◌}

-- the whole begins with the front
pub record IsFront {X : Type 0} (front whole : List X) : Type 0 where
  pub rest : List X
  pub whole_is : whole ≡ front ++ rest

-- a list has gained a front of the whole at its end
pub record GainsFront {X : Type 0} (before now whole : List X) : Type 0 where
  pub part : List X
  pub gained : now ≡ before ++ part
  pub front : IsFront part whole
