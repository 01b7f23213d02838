use Rattle.std.proofs.Common.{◌≡◌, ◌↔◌, ◌++◌, ℕ, List, Some}
use Rattle.std.specs.Str.{str_to_ascii_lowercase}
use Rattle.d_columns.specs.declared.names.Structure.TheVariants.{Energy, Demand, FlatDemand}
use Rattle.d_columns.specs.Names.{structure_text}
use Rattle.d_columns.proofs.NameFacts.{structure_found}
use Rattle.d_columns.proofs.reading.read_structure.Goals as goal

pub returns-in-Some : goal.returns-in-Some
returns-in-Some c structure rest =
    let exact : (r : List ℕ) → (Some (str_to_ascii_lowercase c.in-Some.rest.now) ≡ Some r) ↔ (str_to_ascii_lowercase c.args.name.now ≡ structure_text Energy ++ r) =
    rw (c.in-Some.is, c.text.ensures.value) at c.behind.ensures in
    structure_found (str_to_ascii_lowercase c.args.name.now) Energy (str_to_ascii_lowercase c.in-Some.rest.now) exact structure rest

pub returns-in-Some-behind : goal.returns-in-Some-behind
returns-in-Some-behind c structure rest =
    let exact : (r : List ℕ) → (Some (str_to_ascii_lowercase c.in-Some-behind.rest.now) ≡ Some r) ↔ (str_to_ascii_lowercase c.args.name.now ≡ structure_text Demand ++ r) =
    rw (c.in-Some-behind.is, c.text-2.ensures.value) at c.behind-2.ensures in
    structure_found (str_to_ascii_lowercase c.args.name.now) Demand (str_to_ascii_lowercase c.in-Some-behind.rest.now) exact structure rest

pub returns-in-Some-behind-2 : goal.returns-in-Some-behind-2
returns-in-Some-behind-2 c structure rest =
    let exact : (r : List ℕ) → (Some (str_to_ascii_lowercase c.in-Some-behind-2.rest.now) ≡ Some r) ↔ (str_to_ascii_lowercase c.args.name.now ≡ structure_text FlatDemand ++ r) =
    rw (c.in-Some-behind-2.is, c.text-3.ensures.value) at c.behind-3.ensures in
    structure_found (str_to_ascii_lowercase c.args.name.now) FlatDemand (str_to_ascii_lowercase c.in-Some-behind-2.rest.now) exact structure rest
