-- The place of each kind of call among the counts.
use Rattle.std.specs.Prelude.{ℕ}
use Rattle.d_desk.specs.declared.plan.DeskCall.{DeskCall}
use Rattle.d_desk.specs.declared.plan.DeskCall.TheVariants as call

-- the place of a kind of call among the counts
abbrev pub number_of : DeskCall → ℕ
number_of call.OpenIn = 0
number_of call.Read = 1
number_of call.OpenOut = 2
number_of call.Save = 3
number_of call.CloseOut = 4
number_of call.Print = 5
