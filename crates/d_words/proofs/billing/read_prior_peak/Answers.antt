use Rattle.std.proofs.Common.{map, string_bytes, refl, ◌∙◌}
use Rattle.std.proofs.lemmas.List.{length-map}
use Rattle.d_words.proofs.WordPlaces.{given_peak}
use Rattle.d_words.proofs.billing.read_prior_peak.Goals as goal

pub returns-then-is_at : goal.returns-then-is_at
returns-then-is_at c =
    given_peak (map string_bytes c.args.words.now) c.word_at.result.now c.read_peak.result (length-map c.args.words.now string_bytes ∙ c.if-words-eq2.true)
    (c.if-is_at.ensures.0 refl) c.word_at.ensures c.read_peak.ensures
