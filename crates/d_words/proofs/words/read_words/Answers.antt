use Rattle.std.proofs.Common.{true≢false, sym, subst}
use Rattle.d_words.specs.Words.{Asked, HasValues}
use Rattle.d_words.proofs.RequestFound.{one_named, request_named}
use Rattle.d_words.proofs.words.read_words.Goals as goal
use Rattle.d_words.proofs.words.read_words.Goals.{in_default-via-in-Some+else-has_values, in_default-via-in_default}

pub returns-in_default : goal.returns-in_default
returns-in_default c = λ asked is. elim c.in_default.branch [
  | in_default-via-in-Some+else-has_values w ↦
      absurd (true≢false (sym (w.if-has_values.ensures.1 (subst (λ (a : Asked). HasValues a) (one_named (request_named is) w.in-Some.ensures) is.values))))
  | in_default-via-in_default w ↦ absurd (w.in_default.ensures asked (request_named is))
]
