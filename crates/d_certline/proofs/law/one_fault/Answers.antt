use Rattle.d_certline.proofs.FaultFacts.{fault_one, fault_stays}
use Rattle.d_certline.proofs.law.one_fault.Goals as goal

pub returns-clause-one : goal.returns-clause-one
returns-clause-one c = fault_one

pub returns-clause-stays : goal.returns-clause-stays
returns-clause-stays c = fault_stays
