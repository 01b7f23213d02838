-- What a joined problem keeps.
use Rattle.std.proofs.Common.{◌≡◌, ◌⊎◌, inl, inr, ℕ, zero, suc, ℤ, pos, ◌+◌, ◌*◌, ◌^◌, ◌/◌, ◌%◌, ◌<◌, ◌≤◌, ◌==◌, ◌||◌, Bool, true, false, if◌then◌else◌, List, [], ◌∷◌, ◌++◌, Option, None, Some, IsSome, IfSome, map, length, All, get_or, slice_get, arith, refl, sym, ap, subst, ◌∙◌}
use Rattle.std.specs.Option.{ForSome, option_to_list}
use Rattle.std.specs.List.{Contains, range_with_len}
use Rattle.std.proofs.lemmas.Bool.Decides.{nat_tests}
use Rattle.std.proofs.lemmas.Int.{ints}
use Rattle.std.proofs.lemmas.List.{length-map, length-append}
use Rattle.std.proofs.Math.ListN.{get_or-eq_default}
use Rattle.std.proofs.lemmas.List.Folds.{list_any_at}
use Rattle.std.proofs.lemmas.List.FromFn.{length-range_with_len, length-map-range_with_len, get_or-map-range_with_len}
use Rattle.std.proofs.lemmas.List.Sums.{length-filter, count_by-le-length}
use Rattle.jiff_core.proofs.CalendarLemmas.{days_in_month_bounds}
use Rattle.d_num.specs.Amount.{IsWithin, IsReadingLength}
use Rattle.d_tier.specs.declared.peak.Peak.{Peak}
use Rattle.d_tariff.specs.declared.period.Period.{Period}
use Rattle.d_tariff.specs.Terms.{Terms, IsTariff, period_at}
use Rattle.d_tariff.proofs.HourFacts.{hour_there}
use Rattle.d_cal.specs.Calendar.{IsMonth}
use Rattle.d_meter.specs.Meters.{IsReadings}
use Rattle.d_cal.specs.Starts.{start_day, start_minute}
use Rattle.d_batt.specs.Storage.{Storage, IsStorage}
use Rattle.d_bill.specs.Inputs.{IsInRange, HasPrices, HasPeakPrices}
use Rattle.d_meter.specs.Meters.{Metered}
use Rattle.d_bill.specs.Join.{interval_period, interval_periods, occurs, occurring, occurring_periods, has_group, demand_groups, demand_peak, flat_peak, joined_peaks}

-- a month has from 1 to 2976 intervals
few_intervals : (count minutes days : ℕ) → IsReadingLength minutes → count * minutes ≡ days * 1440 → 28 ≤ days → days ≤ 31 → (1 ≤ count) × (count ≤ 8928)
few_intervals count minutes days pace whole low high = by_pace (paces pace)
  where
    paces : IsReadingLength minutes → (minutes ≡ 15) ⊎ ((minutes ≡ 30) ⊎ (minutes ≡ 60))
    paces h = grind (arith, nat_tests)

    by_pace : (minutes ≡ 15) ⊎ ((minutes ≡ 30) ⊎ (minutes ≡ 60)) → (1 ≤ count) × (count ≤ 8928)
    by_pace (inl e) = let g : count * 15 ≡ days * 1440 = rw e at whole in (omega arith, omega arith)
    by_pace (inr (inl e)) = let g : count * 30 ≡ days * 1440 = rw e at whole in (omega arith, omega arith)
    by_pace (inr (inr e)) = let g : count * 60 ≡ days * 1440 = rw e at whole in (omega arith, omega arith)

-- a number that is found is in the list
found_in : (periods : List ℕ) (number : ℕ) → occurs periods number ≡ true → Contains periods number
found_in [] number found = absurd (cc)
found_in (other ∷ rest) number found = by_test (other == number) refl found (λ later. found_in rest number later)
  where
    same_number : (other == number) ≡ true → other ≡ number
    same_number test = grind (arith, nat_tests)

    by_test : (b : Bool) → (other == number) ≡ b → (b || occurs rest number) ≡ true → (occurs rest number ≡ true → Contains rest number) → Contains (other ∷ rest) number
    by_test true test found later = (0, omega arith, same_number test)
    by_test false test found later = let there = later found in (suc there.0, omega (arith, there.1), there.2)

-- an energy period of a joined problem
occurring_read : (terms : Terms) (periods : List ℕ) (number : ℕ) → number < 36 → period_at (occurring_periods terms periods) number ≡ occurring terms periods number
unfolding occurring_periods
occurring_read terms periods number below = get_or-map-range_with_len (occurring terms periods) 0 36 number number None below (omega arith)

occurring_long : (terms : Terms) (periods : List ℕ) → length (occurring_periods terms periods) ≡ 36
unfolding occurring_periods
occurring_long terms periods = length-map-range_with_len (occurring terms periods) 0 36

-- one that is there occurs
there_occurs : (terms : Terms) (periods : List ℕ) (number : ℕ) → IsSome (period_at (occurring_periods terms periods) number) → Contains periods number
there_occurs terms periods number there = by_number (below_or_past number)
  where
    below_or_past : (n : ℕ) → (n < 36) ⊎ (36 ≤ n)
    below_or_past n = grind arith

    by_test : (b : Bool) → occurs periods number ≡ b → IsSome (if b then period_at terms.energy number else None) → Contains periods number
    by_test true found here = found_in periods number found
    by_test false found here = absurd (cc)

    by_number : (number < 36) ⊎ (36 ≤ number) → Contains periods number
    by_number (inl below) = by_test (occurs periods number) refl (subst (λ (p : Option Period). IsSome p) (occurring_read terms periods number below) there)
    by_number (inr past) =
        let none : period_at (occurring_periods terms periods) number ≡ None = get_or-eq_default (occurring_periods terms periods) None (omega (arith, occurring_long terms periods)) in
        let here = subst (λ (p : Option Period). IsSome p) none there in
        absurd (cc)

-- one that occurs is there
occurs_there : (terms : Terms) (m : Metered) (periods : List ℕ) → IsTariff terms → IsMonth m.year m.number → periods ≡ interval_periods terms.energy_weekday terms.energy_weekend m
    → All (λ number. number < 36) periods → All (λ number. IsSome (period_at (occurring_periods terms periods) number)) periods
occurs_there terms m periods valid month are below k d inside =
    subst (λ (p : Option Period). IsSome p) (sym (occurring_read terms periods (get_or periods k d) (below k d inside) ∙ rw found refl))
    (subst (λ (number : ℕ). IsSome (period_at terms.energy number)) (sym is)
    (hour_there valid m.year m.number (start_day m.minutes k) (start_minute m.minutes k / 60) month.from_january month.to_december (hour (k * m.minutes))))
  where
    same : (n : ℕ) → (n == n) ≡ true
    same n = grind (arith, nat_tests)

    hour : (n : ℕ) → n % 1440 / 60 < 24
    hour n = omega arith

    found : occurs periods (get_or periods k d) ≡ true
    found = list_any_at (λ (other : ℕ). other == get_or periods k d) periods k d inside (same (get_or periods k d))

    short : k < length m.net
    short = omega (arith, inside, ap length are, length-map-range_with_len (interval_period terms.energy_weekday terms.energy_weekend m) 0 (length m.net))

    is : get_or periods k d ≡ interval_period terms.energy_weekday terms.energy_weekend m k
    is = ap (λ (l : List ℕ). get_or l k d) are ∙ get_or-map-range_with_len (interval_period terms.energy_weekday terms.energy_weekend m) 0 (length m.net) k k d short (omega arith)

few_groups : (terms : Terms) (demands : List ℕ) → length (demand_groups terms demands) ≤ 36
unfolding demand_groups
few_groups terms demands =
    omega (arith, length-filter (has_group terms demands) (range_with_len 0 36), count_by-le-length (has_group terms demands) (range_with_len 0 36), length-range_with_len 0 36)

-- groups of demand periods have no floor
no_floors : (terms : Terms) (groups : List ℕ) (others : List Peak) (k : ℕ) → k < length groups
    → ForSome (slice_get (map (demand_peak terms) groups ++ others) k) (λ peak. peak.floor ≡ pos 0)
no_floors terms [] others k below = absurd (omega arith)
no_floors terms (group ∷ groups) others zero below = λ peak is. let here : demand_peak terms group ≡ peak = cc in ap (λ (p : Peak). p.floor) (sym here)
no_floors terms (group ∷ groups) others (suc k) below = no_floors terms groups others k (omega arith)

-- the flat group is one more or none
flat_more : (terms : Terms) (groups : List ℕ) (flat : Option Peak)
    → (length groups ≤ length (map (demand_peak terms) groups ++ option_to_list flat)) × (length (map (demand_peak terms) groups ++ option_to_list flat) ≤ length groups + 1)
flat_more terms groups None =
    let long = length-append (map (demand_peak terms) groups) [] in
    let same = length-map groups (demand_peak terms) in
    (omega (arith, long, same), omega (arith, long, same))
flat_more terms groups (Some peak) =
    let long = length-append (map (demand_peak terms) groups) (peak ∷ []) in
    let same = length-map groups (demand_peak terms) in
    (omega (arith, long, same), omega (arith, long, same))

charge_fits : (z : ℤ) → IsWithin (31 * 10 ^ 30) z → IsWithin (10 ^ 32) z
charge_fits z h = (omega (arith, ints, h.0), omega (arith, ints, h.1))

minimum_fits : (minimum : Option ℤ) → IfSome minimum (IsWithin (31 * 10 ^ 30)) → ForSome minimum (IsWithin (10 ^ 32))
minimum_fits None h = λ z is. absurd (cc)
minimum_fits (Some least) h = λ z is. let same : least ≡ z = cc in subst (IsWithin (10 ^ 32)) same (charge_fits least h)

pub joined_fits : (terms : Terms) (m : Metered) (prior fixed : ℤ) (minimum : Option ℤ) (net : List ℤ) (periods demands groups : List ℕ) (energy : List (Option Period)) (peaks : List Peak) (storage : Storage)
    → IsTariff terms → IsMonth m.year m.number → IsReadings m.year m.number m.minutes m.net → net ≡ m.net
    → periods ≡ interval_periods terms.energy_weekday terms.energy_weekend m → All (λ number. number < 36) periods
    → demands ≡ interval_periods terms.demand_weekday terms.demand_weekend m → All (λ number. number < 36) demands
    → energy ≡ occurring_periods terms periods → All (λ period. ForSome period HasPrices) energy
    → groups ≡ demand_groups terms demands → peaks ≡ joined_peaks terms m.number groups prior → All HasPeakPrices peaks
    → IsWithin (31 * 10 ^ 30) fixed → IfSome minimum (IsWithin (31 * 10 ^ 30)) → IsStorage storage
    → IsInRange (record {
      year = m.year;
      number = m.number;
      minutes = m.minutes;
      net = net;
      periods = periods;
      demands = demands;
      energy = energy;
      demand_groups = groups;
      peaks = peaks;
      fixed = fixed;
      minimum = minimum;
      storage = storage;
    })
joined_fits terms m prior fixed minimum net periods demands groups energy peaks storage valid month readings net_is periods_are below demands_are low energy_is fair groups_are peaks_are dear small least battery =
    let days = days_in_month_bounds m.year m.number in
    let few = few_intervals (length m.net) m.minutes _ readings.pace readings.whole days.1 days.0 in
    let long = ap length net_is in
    let flat = flat_more terms groups (flat_peak terms m.number prior) in
    let many = ap length peaks_are in
    record {
      month = month;
      minutes = readings.pace;
      whole = rw net_is readings.whole;
      some_interval = omega (arith, few.0, long);
      few_intervals = omega (arith, few.1, long);
      net = rw net_is readings.small;
      periods_long = omega (arith, long, ap length periods_are, length-map-range_with_len (interval_period terms.energy_weekday terms.energy_weekend m) 0 (length m.net));
      periods = below;
      demands_long = omega (arith, long, ap length demands_are, length-map-range_with_len (interval_period terms.demand_weekday terms.demand_weekend m) 0 (length m.net));
      demands = low;
      entries = ap length energy_is ∙ occurring_long terms periods;
      there = rw energy_is (occurs_there terms m periods valid month periods_are below);
      occurs = rw energy_is (there_occurs terms periods);
      energy = fair;
      few_demand_groups = rw groups_are (few_groups terms demands);
      demand_groups = omega (arith, flat.0, many);
      flat_group = omega (arith, flat.1, many);
      groups = dear;
      floors = rw peaks_are (no_floors terms groups (option_to_list (flat_peak terms m.number prior)));
      fixed = charge_fits fixed small;
      minimum = minimum_fits minimum least;
      storage = battery;
    }
