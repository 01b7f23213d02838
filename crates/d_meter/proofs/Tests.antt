-- Refusals behind a test, and checks one after the other.
use Rattle.std.proofs.Common.{◌≡◌, ◌∙◌, Bool, true, false, List, ◌∷◌, Option, None, Some, Result, Ok, Err, refl}
use Rattle.d_list.specs.Firsts.{first_of, when}
use Rattle.d_meter.specs.declared.fault.MeterFault.{MeterFault}
use Rattle.d_meter.specs.Readings.{MeterReader, IsMeterReader}
use Rattle.d_meter.specs.Checks.{Checks, Decides}

-- a test that holds refuses, and one that doesn't leaves it to the others
pub comes : (test : Bool) (refused : MeterFault) (rest : List (Option MeterFault)) → test ≡ true → first_of (when test refused ∷ rest) ≡ Some refused
unfolding first_of
comes test refused rest holds = rw holds refl

pub goes_on : (test : Bool) (refused : MeterFault) (rest : List (Option MeterFault)) → test ≡ false → first_of (when test refused ∷ rest) ≡ first_of rest
unfolding first_of
goes_on test refused rest fails = rw fails refl

-- a check of refusals is that of others of which the same one comes first
pub decided : {A : Type 0} (refusals : MeterReader → List (Option MeterFault)) (others : List (Option MeterFault)) (result : Result A MeterFault)
    → ((reader : MeterReader) → IsMeterReader reader → first_of (refusals reader) ≡ first_of others) → Decides others result → Checks refusals result
decided refusals others (Ok value) same decides = λ reader are. same reader are ∙ decides
decided refusals others (Err refused) same decides = λ reader are. same reader are ∙ decides

pub checked : {A : Type 0} (refusals others : MeterReader → List (Option MeterFault)) (result : Result A MeterFault)
    → ((reader : MeterReader) → IsMeterReader reader → first_of (refusals reader) ≡ first_of (others reader)) → Checks others result → Checks refusals result
checked refusals others (Ok value) same checks = λ reader are. same reader are ∙ checks reader are
checked refusals others (Err refused) same checks = λ reader are. same reader are ∙ checks reader are

-- where no refusal comes, the first test doesn't hold, and none of the others comes
pub none_here : (test : Bool) (refused : MeterFault) (rest : List (Option MeterFault)) → first_of (when test refused ∷ rest) ≡ None
    → (test ≡ false) × (first_of rest ≡ None)
unfolding first_of
none_here true refused rest none = absurd (let e : Some refused ≡ None = none in cc)
none_here false refused rest none = (refl, none)
