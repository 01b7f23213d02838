use Rattle.std.proofs.Common.{map, string_bytes}
use Rattle.d_words.proofs.WordPlaces.{behind, no_plan}
use Rattle.d_words.proofs.job.read_plan.Goals as goal

pub returns-in_err-ending : goal.returns-in_err-ending
returns-in_err-ending c =
    let words = c.args.words.now in
    rw c.from_residual.ensures (no_plan (map string_bytes words) _ (behind string_bytes 2 words) c.in_err-ending.ensures)
