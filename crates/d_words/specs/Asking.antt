-- What a request names, as lists of bytes.
use Rattle.std.specs.Prelude.{Option, MatchOption}
use Rattle.d_words.specs.Words.{Asked, Wanted, plan_with, metered_bill, schedule_bill}
use Rattle.d_words.specs.declared.request.Request.{Request}
use Rattle.d_words.specs.declared.request.Task.{Task}
use Rattle.d_words.specs.declared.request.Task.TheVariants.{Plan, MeteredBill, ScheduleBill}

-- what a task wants, with the bytes of its files' names
abbrev pub wanted_of : Task → Wanted
wanted_of (Plan battery budget) = plan_with battery.now budget
wanted_of MeteredBill = metered_bill
wanted_of (ScheduleBill battery schedule) = schedule_bill battery.now schedule.now

-- the bytes of what a request names
abbrev pub asked_of : Request → Asked
asked_of r = record {
  records = r.records.now;
  label = r.label.now;
  readings = r.readings.now;
  wanted = wanted_of r.task;
  net_billing = r.net_billing;
  prior_peak = r.prior_peak;
}

-- the request that is found is so, or none is
abbrev pub FindsRequest : (Asked → Type 0) → Option Request → Type 0
FindsRequest Is found = MatchOption found ((asked : Asked) → Is asked → ⊥) (λ request. Is (asked_of request))
