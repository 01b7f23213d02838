use Rattle.std.proofs.Common.{◌≡◌, ◌-◌, ◌≤◌, ◌<◌, ◌^◌, ◌++◌, List, ℕ, length, take, replicate, decimal, arith, ap, ◌∙◌}
use Rattle.std.proofs.lemmas.Fmt.{length-decimal-le_wide}
use Rattle.d_text.proofs.Rooms.{zeros-part}
use Rattle.d_text.proofs.text.padded.Goals as goal
use Rattle.d_text.proofs.text.padded.Goals.{After-as_bytes-text}

text_is : (c : After-as_bytes-text) → c.as_bytes-text.result.now ≡ decimal c.args.number
text_is c = c.as_bytes-text.ensures.value ∙ c.format.ensures.text

text_short : (c : After-as_bytes-text) → length c.as_bytes-text.result.now ≤ c.args.width
text_short c =
    let small : c.args.number < 10 ^ 64 = omega arith in
    let short = length-decimal-le_wide c.args.width c.args.number c.requires.some c.requires.fits small in
    omega (arith, short, ap length (text_is c))

pub overflow_sub-width : goal.overflow_sub-width
overflow_sub-width c = text_short (goal.at.overflow_sub-width c).After-as_bytes-text

pub returns : goal.returns
returns c =
    let here = (goal.at.returns c).After-as_bytes-text in
    ap (take c.args.width) c.put.ensures.room ∙ zeros-part c.args.width c.as_bytes-text.result.now (omega arith) (text_short here)
    ∙ ap (λ (d : List ℕ). replicate (c.args.width - length d) 48 ++ d) (text_is here)
