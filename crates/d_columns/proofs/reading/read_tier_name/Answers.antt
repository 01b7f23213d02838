use Rattle.std.proofs.Common.{◌≡◌, ◌↔◌, ◌++◌, ℕ, List, refl}
use Rattle.std.specs.Str.{str_to_ascii_lowercase}
use Rattle.d_columns.specs.declared.names.Structure.{Structure}
use Rattle.d_columns.specs.declared.names.Part.{Part}
use Rattle.d_columns.specs.Names.{structure_text}
use Rattle.d_columns.specs.Reading.{IsPeriodEnd}
use Rattle.d_columns.proofs.TextFacts.{is_pair, is_triple}
use Rattle.d_columns.proofs.NameFacts.{name_found}
use Rattle.d_columns.proofs.reading.read_tier_name.Goals as goal

pub returns-clause-exact : goal.returns-clause-exact
returns-clause-exact c structure period digits part =
    let text = str_to_ascii_lowercase c.args.name.now in
    let start = c.in_ok-start.start in
    let rest = str_to_ascii_lowercase start.rest.now in
    let last = c.in_ok-end.end in
    let front : (s : Structure) (r : List ℕ) → (is_pair start.structure rest ≡ is_pair s r) ↔ (text ≡ structure_text s ++ r) = rw c.in_ok-start.was at c.read_structure.ensures in
    let end : (p : ℕ) (d : List ℕ) (q : Part) → (is_triple last.period last.tier.now last.part ≡ is_triple p d q) ↔ IsPeriodEnd rest p d q = rw c.in_ok-end.was at c.read_period.ensures in
    name_found text rest last.tier.now start.structure last.period last.part front end structure period digits part

pub returns-clause-number : goal.returns-clause-number
returns-clause-number c =
    let last = c.in_ok-end.end in
    let end : (p : ℕ) (d : List ℕ) (q : Part) → (is_triple last.period last.tier.now last.part ≡ is_triple p d q) ↔ IsPeriodEnd (str_to_ascii_lowercase c.in_ok-start.start.rest.now) p d q =
    rw c.in_ok-end.was at c.read_period.ensures in
    ((end last.period last.tier.now last.part).0 refl).number
