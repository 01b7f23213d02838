-- The lists of a joined problem, as they grow.
use Rattle.std.proofs.Common.{◌≡◌, ℕ, ◌+◌, ◌*◌, ◌/◌, ◌%◌, List, [], ◌∷◌, ◌++◌, Option, None, Some, Bool, true, false, if◌then◌else◌, map, All, refl, sym, ap, subst, arith, ◌∙◌}
use Rattle.std.specs.List.{filter, range_with_len}
use Rattle.std.proofs.lemmas.List.{map-id, map-append, append-nil}
use Rattle.std.proofs.lemmas.List.Elements.{All-append, All-cons}
use Rattle.std.proofs.lemmas.List.FromFn.{map-range_with_len_more, filter_of_map_range_with_len_more}
use Rattle.d_cal.specs.Schedules.{period_of}
use Rattle.d_tier.specs.declared.peak.Peak.{Peak}
use Rattle.d_tariff.specs.declared.period.Period.{Period}
use Rattle.d_tariff.specs.Terms.{Terms}
use Rattle.d_bill.specs.Inputs.{HasPeakPrices}
use Rattle.d_meter.specs.Meters.{Metered}
use Rattle.d_bill.specs.Join.{interval_period, occurring, occurring_periods, has_group, demand_groups, demand_peak}

-- what holds of all holds of all and one more
pub all_more : {X : Type 0} (P : X → Type 0) (x : X) (before after : List X) → after ≡ before ++ x ∷ [] → All P before → P x → All P after
all_more P x before after is all here = subst (All P) (sym is) (All-append P before (x ∷ []) all (All-cons P x [] here (λ k d below. absurd (omega arith))))

-- the value of one more number
pub map_more : {X : Type 0} (f : ℕ → X) (x : X) (n : ℕ) (before after : List X) → after ≡ before ++ x ∷ [] → before ≡ map f (range_with_len 0 n) → x ≡ f n
    → after ≡ map f (range_with_len 0 (n + 1))
map_more f x n before after is so_far here = rw (is, so_far, here) (sym (map-range_with_len_more f 0 n n (omega arith)))

-- the period of one more interval
pub interval_is : (weekday weekend : List (List ℕ)) (m : Metered) (t minutes period : ℕ) → minutes ≡ m.minutes
    → period ≡ period_of weekday weekend m.year m.number (t * minutes / 1440 + 1) (t * minutes % 1440 / 60) → period ≡ interval_period weekday weekend m t
interval_is weekday weekend m t minutes period same_minutes is = rw same_minutes at is

-- the energy periods of all 36 numbers
pub energy_all : (terms : Terms) (periods : List ℕ) (n : ℕ) (energy : List (Option Period)) → n ≡ 36 → energy ≡ map (occurring terms periods) (range_with_len 0 n)
    → energy ≡ occurring_periods terms periods
unfolding occurring_periods
energy_all terms periods n energy all is = subst (λ (k : ℕ). energy ≡ map (occurring terms periods) (range_with_len 0 k)) all is

-- the groups of the demand periods of all 36 numbers
pub groups_all : (terms : Terms) (demands : List ℕ) (n : ℕ) (groups : List ℕ) → n ≡ 36 → groups ≡ filter (has_group terms demands) (range_with_len 0 n)
    → groups ≡ demand_groups terms demands
unfolding demand_groups
groups_all terms demands n groups all is = subst (λ (k : ℕ). groups ≡ filter (has_group terms demands) (range_with_len 0 k)) all is

-- one more number passes a test or not
numbers_more : (p : ℕ → Bool) (n : ℕ) → filter p (range_with_len 0 (n + 1)) ≡ filter p (range_with_len 0 n) ++ (if p n then n ∷ [] else [])
numbers_more p n =
    ap (filter p) (sym (map-id (range_with_len 0 (n + 1))))
    ∙ filter_of_map_range_with_len_more p (λ (k : ℕ). k) 0 n n (omega arith)
    ∙ ap (λ (l : List ℕ). filter p l ++ (if p n then n ∷ [] else [])) (map-id (range_with_len 0 n))

-- the groups of the first n demand periods
pub record AreGroupsTo (terms : Terms) (demands : List ℕ) (n : ℕ) (numbers : List ℕ) (peaks : List Peak) : Type 0 where
  pub which : numbers ≡ filter (has_group terms demands) (range_with_len 0 n)
  pub what : peaks ≡ map (demand_peak terms) numbers
  pub prices : All HasPeakPrices peaks

-- the next one has a group
pub group_added : (terms : Terms) (demands : List ℕ) (n : ℕ) (numbers news : List ℕ) (peaks later : List Peak) (peak : Peak) → AreGroupsTo terms demands n numbers peaks
    → Some peak ≡ (if has_group terms demands n then Some (demand_peak terms n) else None) → HasPeakPrices peak → news ≡ numbers ++ n ∷ [] → later ≡ peaks ++ peak ∷ []
    → AreGroupsTo terms demands (n + 1) news later
group_added terms demands n numbers news peaks later peak so_far found fair numbers_are peaks_are = by_test (has_group terms demands n) refl found
  where
    more : (b : Bool) → has_group terms demands n ≡ b → filter (has_group terms demands) (range_with_len 0 (n + 1)) ≡ numbers ++ (if b then n ∷ [] else [])
    more b is = numbers_more (has_group terms demands) n ∙ rw (is, so_far.which) refl

    by_test : (b : Bool) → has_group terms demands n ≡ b → Some peak ≡ (if b then Some (demand_peak terms n) else None) → AreGroupsTo terms demands (n + 1) news later
    by_test true is has =
        let here : peak ≡ demand_peak terms n = cc in
        record {
          which = numbers_are ∙ sym (more true is);
          what = peaks_are ∙ rw (so_far.what, here) refl ∙ sym (ap (map (demand_peak terms)) numbers_are ∙ map-append (demand_peak terms) numbers (n ∷ []));
          prices = all_more HasPeakPrices peak peaks later peaks_are so_far.prices fair;
        }
    by_test false is has = absurd (cc)

-- it has none
pub group_missing : (terms : Terms) (demands : List ℕ) (n : ℕ) (numbers : List ℕ) (peaks : List Peak) → AreGroupsTo terms demands n numbers peaks
    → None ≡ (if has_group terms demands n then Some (demand_peak terms n) else None) → AreGroupsTo terms demands (n + 1) numbers peaks
group_missing terms demands n numbers peaks so_far found = by_test (has_group terms demands n) refl found
  where
    by_test : (b : Bool) → has_group terms demands n ≡ b → None ≡ (if b then Some (demand_peak terms n) else None) → AreGroupsTo terms demands (n + 1) numbers peaks
    by_test true is has = absurd (cc)
    by_test false is has = record {
      which = so_far.which ∙ sym (append-nil _) ∙ sym (numbers_more (has_group terms demands) n ∙ rw is refl);
      what = so_far.what;
      prices = so_far.prices;
    }
