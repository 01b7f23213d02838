-- What holds of all certificates.
use Rattle.std.specs.Prelude.{◌≡◌, ◌≢◌, ◌<◌, ◌^◌, ℕ, ℤ, unsigned_abs, List, ◌++◌, Option, Some, None}
use Rattle.d_text.specs.Text.{whole_text}
use Rattle.d_certline.specs.declared.fault.CertFault.{CertFault}
use Rattle.d_certline.specs.declared.fault.CertFault.TheVariants.{Early}
use Rattle.d_certline.specs.declared.event.Event.{Event}
use Rattle.d_certline.specs.Wholes.{whole}
use Rattle.d_certline.specs.Lines.{Line, line_text}
use Rattle.d_certline.specs.Certificates.{Certificate, certificate_text, IsInRange}
use Rattle.d_certline.specs.Faults.{FaultOf, IsEvent, HasEvents}

-- a number of at most 38 digits is written as everywhere else
abbrev pub WholesArePrinted : Type 0
WholesArePrinted = (z : ℤ) → unsigned_abs z < 10 ^ 38 → whole z ≡ whole_text z

-- a text is that of one line at most
abbrev pub HasOneLine : Type 0
HasOneLine = (l m : Line) → line_text l ≡ line_text m → l ≡ m

-- bytes have one fault at most, where to have none counts as one
abbrev pub HasOneFault : Type 0
HasOneFault = (bytes : List ℕ) (f g : Option CertFault) → FaultOf bytes f → FaultOf bytes g → f ≡ g

-- bytes that have a fault have it whatever comes behind them; only that they end early may not last
abbrev pub FaultsStay : Type 0
FaultsStay = (bytes more : List ℕ) (f : CertFault) → f ≢ Early → FaultOf bytes (Some f) → FaultOf (bytes ++ more) (Some f)

-- behind so many events there is one at most
abbrev pub HasOneEvent : Type 0
HasOneEvent = (bytes : List ℕ) (k : ℕ) (e f : Event) → IsEvent bytes k e → IsEvent bytes k f → e ≡ f

-- where all whole lines have so many events there is none behind them
abbrev pub HasNoMore : Type 0
HasNoMore = (bytes : List ℕ) (k : ℕ) (e : Event) → HasEvents bytes k → IsEvent bytes k e → ⊥

-- bytes without a fault are the text of a certificate in range
abbrev pub FaultlessAreCertificates : Type 0
FaultlessAreCertificates = (bytes : List ℕ) → FaultOf bytes None → (c : Certificate) × IsInRange c × (bytes ≡ certificate_text c)

-- the text of a certificate in range has no fault
abbrev pub CertificatesAreFaultless : Type 0
CertificatesAreFaultless = (c : Certificate) → IsInRange c → FaultOf (certificate_text c) None

-- certificates in range that differ have different texts
abbrev pub HasOneCertificate : Type 0
HasOneCertificate = (c d : Certificate) → IsInRange c → IsInRange d → certificate_text c ≡ certificate_text d → c ≡ d
