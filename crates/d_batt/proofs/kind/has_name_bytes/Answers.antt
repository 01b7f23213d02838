use Rattle.std.proofs.Common.{rules, ◌↔◌, All, IsTrue}
use Rattle.d_batt.specs.Kinds as spec
use Rattle.d_batt.proofs.Names.{all_test}
use Rattle.d_batt.proofs.kind.has_name_bytes.Goals as goal

pub returns : goal.returns
returns c =
    let is : IsTrue c.all.result ↔ All (λ b. IsTrue (spec.is_name_byte b)) c.args.name.now = search rules in
    all_test c.all.result spec.is_name_byte c.args.name.now is
