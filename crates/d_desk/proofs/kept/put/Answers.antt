use Rattle.std.proofs.Common.{string_bytes}
use Rattle.d_desk.proofs.Storing.{files_after_put}
use Rattle.d_desk.proofs.kept.put.Goals as goal

pub returns-clause-ok : goal.returns-clause-ok
returns-clause-ok c =
    rw (← c.in_ok-name.ensures.ok, ← c.in_ok-bytes.ensures.items)
    (files_after_put (string_bytes c.in_ok-name.name) c.args.files.now c.insert.new.self c.in_ok-bytes.bytes c.in_ok-insert.ensures.updates)
