use Rattle.std.proofs.lemmas.Int.{to_z-of_z}
use Rattle.std.specs.Int.{w128}
use Rattle.std.proofs.Common.{rules}
use Rattle.d_cert.proofs.LineFacts.{number_put}
use Rattle.d_cert.proofs.line.put_number.Goals as goal

pub returns : goal.returns
returns c = number_put c.args.number _ c.args.line.now.items c.push.new.self.items c.extend_from_slice.new.self.items _ _ _ c.requires
    (to_z-of_z w128 c.args.number (search rules)) c.in_ok-push.ensures.items c.in_ok-extend_from_slice.ensures.items c.whole_text-end.ensures
