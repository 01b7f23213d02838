use Rattle.d_certline.proofs.EventFacts.{event_one, event_none}
use Rattle.d_certline.proofs.law.one_event.Goals as goal

pub returns-clause-one : goal.returns-clause-one
returns-clause-one c = event_one

pub returns-clause-last : goal.returns-clause-last
returns-clause-last c = event_none
