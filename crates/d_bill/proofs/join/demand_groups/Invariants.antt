use Rattle.d_tariff.specs.Shown.{terms_of}
use Rattle.d_bill.proofs.JoinFacts.{AreGroupsTo}
use Rattle.d_bill.proofs.join.demand_groups.Given as goal

abbrev pub invariant-loop-number : goal.invariant-loop-number
invariant-loop-number l = AreGroupsTo (terms_of l.tariff) l.demands l.number l.groups.numbers l.groups.peaks
