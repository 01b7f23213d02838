-- Lines that are saved one after the other.
use Rattle.std.proofs.Common.{ℕ, List, ◌++◌, Result, Ok, Err, sym, refl, subst}
use Rattle.d_desk.specs.declared.fault.DeskFault.{DeskFault}
use Rattle.d_desk.specs.Scene.{Scene}
use Rattle.d_desk.specs.Stages.{SavesOnly, SavesFront}
use Rattle.d_desk.proofs.StageLaws.{saves_then, saves_front_more, saves_front_after, saves_part, saves_none}
use Rattle.d_certline.specs.Lines.{Line, text_of}
use Rattle.d_certline.proofs.LineFacts.{text_of-append}
use Rattle.d_cert.specs.Saved.{SavesText}

-- lines, and then more of them
pub lines_then : (a b : List Line) (x y z : Scene) → SavesOnly (text_of a) x y → SavesOnly (text_of b) y z → SavesOnly (text_of (a ++ b)) x z
lines_then a b x y z one other = subst (λ (t : List ℕ). SavesOnly t x z) (sym (text_of-append a b)) (saves_then one other)

-- lines, and then a front of those that follow
pub lines_front : (a b : List Line) (x y z : Scene) → SavesOnly (text_of a) x y → SavesFront (text_of b) y z → SavesFront (text_of (a ++ b)) x z
lines_front a b x y z one other = subst (λ (t : List ℕ). SavesFront t x z) (sym (text_of-append a b)) (saves_front_after one other)

-- a front of lines is one of these and more
pub lines_cut : (a b : List Line) (x y : Scene) → SavesFront (text_of a) x y → SavesFront (text_of (a ++ b)) x y
lines_cut a b x y one = subst (λ (t : List ℕ). SavesFront t x y) (sym (text_of-append a b)) (saves_front_more (text_of b) one)

-- lines, and then what follows, however it ends
pub lines_end : (a b : List Line) (x y z : Scene) (r : Result (Unit {0}) DeskFault) → SavesOnly (text_of a) x y → SavesText (text_of b) y z r → SavesText (text_of (a ++ b)) x z r
lines_end a b x y z (Ok done) one other = lines_then a b x y z one other
lines_end a b x y z (Err fault) one other = lines_front a b x y z one other

-- lines, then a front of the next ones, where more would have followed
pub lines_stop : (a b c : List Line) (x y z : Scene) → SavesOnly (text_of a) x y → SavesFront (text_of b) y z → SavesFront (text_of (a ++ (b ++ c))) x z
lines_stop a b c x y z one other = lines_front a (b ++ c) x y z one (lines_cut b c y z other)

-- nothing was saved
pub front_none : (text : List ℕ) (x : Scene) → SavesFront text x x
front_none text x = saves_part (saves_none x) (record { rest = text; whole_is = refl })
