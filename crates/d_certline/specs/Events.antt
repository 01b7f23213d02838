-- What the lines of a certificate say. It is our own rule.
use Rattle.std.specs.Prelude.{unsigned_abs, pos, List, [], ◌∷◌, ◌++◌, map}
use Rattle.d_box.specs.declared.space.Split.TheVariants as split
use Rattle.d_certline.specs.declared.event.Event.{Event}
use Rattle.d_certline.specs.declared.event.Event.TheVariants as event
use Rattle.d_certline.specs.Lines.{Line, version, label, month, minutes, intervals, levels, modes, groups, tiered, verdict, day, bill, lower, total, peak, leaf, slopes, layer, finish}

-- the events of a line in the order of its parts
unfoldable pub events_of : Line → List Event
events_of version = []
events_of (label text) = event.Label text ∷ []
events_of (month year m) = event.Month (pos year) m ∷ []
events_of (minutes m) = event.Minutes (unsigned_abs m) ∷ []
events_of (intervals n) = event.Intervals (unsigned_abs n) ∷ []
events_of (levels f c s e) = event.Levels (unsigned_abs f) (unsigned_abs c) (unsigned_abs s) (unsigned_abs e) ∷ []
events_of (modes n) = event.Modes (unsigned_abs n) ∷ []
events_of (groups n) = event.Groups (unsigned_abs n) ∷ []
events_of (tiered n) = event.Tiered (unsigned_abs n) ∷ []
events_of (verdict k) = event.Verdict k ∷ []
events_of (day d ms) = map (λ z. event.Mode (unsigned_abs z)) ms
events_of (bill z) = event.Bill z ∷ []
events_of (lower z) = event.Lower z ∷ []
events_of (total n at) = event.Split (split.Total (unsigned_abs n) at) ∷ []
events_of (peak n at) = event.Split (split.Peak (unsigned_abs n) at) ∷ []
events_of leaf = event.Leaf ∷ []
events_of (slopes zs) = map (λ z. event.Slope z) zs
events_of (layer t ps) = event.Layer t ∷ map (λ p. event.Potential p) ps
events_of finish = event.End ∷ []

-- the events of lines, one behind the other
unfoldable pub events : List Line → List Event
events [] = []
events (l ∷ ls) = events_of l ++ events ls
