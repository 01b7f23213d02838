-- The fault of bytes: why they are no certificate. All of it is our own rule.
use Rattle.std.specs.Prelude.{◌≡◌, ◌≢◌, ◌⊎◌, ◌+◌, ◌<◌, ℕ, List, [], ◌∷◌, ◌++◌, length, Option, Some, None}
use Rattle.std.specs.List.{AllByRecursion}
use Rattle.d_certline.specs.declared.fault.CertFault.{CertFault}
use Rattle.d_certline.specs.declared.fault.CertFault.TheVariants as fault
use Rattle.d_certline.specs.declared.event.Event.{Event}
use Rattle.d_certline.specs.declared.place.Place.{Place}
use Rattle.d_certline.specs.declared.place.Stage.TheVariants as stage
use Rattle.d_certline.specs.Lines.{Line, line_text, text_of}
use Rattle.d_certline.specs.Places.{Stand, after, first, number, form}
use Rattle.d_certline.specs.Events.{events}

-- none of these bytes is a line feed
abbrev pub HasNoLf : List ℕ → Type 0
HasNoLf bytes = AllByRecursion (λ byte. byte ≢ 10) bytes

-- so many bytes of a line without its line feed are too many for any line
abbrev pub too_long : ℕ
too_long = 16384

-- bytes of one line, and not too many
abbrev pub IsShort : List ℕ → Type 0
IsShort line = HasNoLf line × (length line < too_long)

-- the text of a line that has the form that is wanted at the place, and a number out of range
abbrev pub IsNumber : Place → List ℕ → Type 0
IsNumber p line = (l : Line) × (line_text l ≡ line) × (after p l ≡ number)

-- the text of no line, or of one that can't stand at the place
abbrev pub IsForm : Place → List ℕ → Type 0
IsForm p line = (l : Line) → line_text l ≡ line → after p l ≡ form

-- the bytes begin with a line that ends, of which this holds
abbrev pub EndsLine : (List ℕ → Type 0) → List ℕ → Type 0
EndsLine P rest = (line : List ℕ) × (more : List ℕ) × (rest ≡ line ++ 10 ∷ more) × IsShort line × P line

-- the bytes begin with too many bytes without a line feed
abbrev pub IsLong : List ℕ → Type 0
IsLong rest = (line : List ℕ) × (more : List ℕ) × (rest ≡ line ++ more) × HasNoLf line × (length line ≡ too_long)

-- the fault of the bytes behind lines that stand, where the next line has this number and would stand at this place: none exactly at the end
-- of a certificate
unfoldable pub Faulty : Place → ℕ → List ℕ → Option CertFault → Type 0
Faulty p n rest None = (p.stage ≡ stage.Done) × (rest ≡ [])
Faulty p n rest (Some fault.Trailing) = (p.stage ≡ stage.Done) × (rest ≢ [])
Faulty p n rest (Some fault.Early) = (p.stage ≢ stage.Done) × IsShort rest
Faulty p n rest (Some (fault.Form k)) = (p.stage ≢ stage.Done) × (k ≡ n) × (EndsLine (IsForm p) rest ⊎ IsLong rest)
Faulty p n rest (Some (fault.Number k)) = (p.stage ≢ stage.Done) × (k ≡ n) × EndsLine (IsNumber p) rest

-- the bytes are lines that stand, behind which the next line stands at the place, and a rest
pub record Divides (bytes : List ℕ) (lines : List Line) (p : Place) (rest : List ℕ) : Type 0 where
  pub parts : bytes ≡ text_of lines ++ rest
  pub stand : Stand first lines p

-- the fault of bytes; none where they are the text of a certificate in range
pub record FaultOf (bytes : List ℕ) (f : Option CertFault) : Type 0 where
  pub lines : List Line
  pub place : Place
  pub rest : List ℕ
  pub divides : Divides bytes lines place rest
  pub faulty : Faulty place (length lines + 1) rest f

-- this event comes behind so many others, by lines with which the bytes begin
pub record IsEvent (bytes : List ℕ) (k : ℕ) (e : Event) : Type 0 where
  pub lines : List Line
  pub place : Place
  pub rest : List ℕ
  pub before : List Event
  pub behind : List Event
  pub divides : Divides bytes lines place rest
  pub stands_there : events lines ≡ before ++ e ∷ behind
  pub so_many : length before ≡ k

-- all whole lines of the bytes stand, and they have so many events
pub record HasEvents (bytes : List ℕ) (k : ℕ) : Type 0 where
  pub lines : List Line
  pub place : Place
  pub rest : List ℕ
  pub divides : Divides bytes lines place rest
  pub part : HasNoLf rest
  pub so_many : length (events lines) ≡ k
