use Rattle.d_path.proofs.DayLaws.{kept_stay}
use Rattle.path_tests.proofs.path.takes_the_first_of_two_cheapest_ways_over_two_days.Goals as goal

pub first_cheapest_days-requires-clause-cheapest :
    goal.first_cheapest_days-requires-clause-cheapest
first_cheapest_days-requires-clause-cheapest g c = kept_stay _ _ _ c.backward_days.ensures.cheapest c.fill_day.ensures.kept c.fill_day.ensures.long
