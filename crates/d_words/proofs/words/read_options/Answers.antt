use Rattle.std.proofs.Common.{map, string_bytes}
use Rattle.d_words.proofs.WordPlaces.{behind, no_named}
use Rattle.d_words.proofs.words.read_options.Goals as goal

pub returns-in_default : goal.returns-in_default
returns-in_default c =
    let words = c.args.words.now in
    no_named (map string_bytes words) _ _ c.word_at.ensures (behind string_bytes 7 words) c.in_default.ensures
