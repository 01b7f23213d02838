-- Reading a file piece by piece.
use Rattle.std.proofs.Common.{◌≡◌, ℕ, ◌<◌, List, [], ◌∷◌, ◌++◌, take, length, sym, ◌∙◌, ap, append_assoc}
use Rattle.std.proofs.lemmas.List.{append-nil}
use Rattle.std.specs.Prelude.{Result, Ok, Err}
use Rattle.d_desk.specs.declared.fault.DeskFault.{DeskFault}
use Rattle.d_desk.specs.declared.fault.DeskFault.TheVariants.{Failed, Memory}
use Rattle.d_desk.specs.declared.opened.Direction.TheVariants.{In}
use Rattle.d_desk.specs.Scene.{Scene, Opening, opening, bytes_in}
use Rattle.d_desk.specs.Calls.{OpensIn, Reads}
use Rattle.d_desk.specs.Stages.{Opens, OpensSome}
use Rattle.d_desk.proofs.Fronts.{gains_none, gains_all}

-- the bytes so far and what is left make up the file, which alone was opened
pub record IsLoading (name : List ℕ) (before now : Scene) (bytes : List ℕ) : Type 0 where
  pub all : bytes ++ now.left ≡ bytes_in before.files name
  pub opens : Opens (opening In name ∷ []) before now

-- an opening that answers Ok begins a file of which nothing is read
pub loading_begins : {name : List ℕ} {x y : Scene} (u : Unit {0}) → OpensIn name x y (Ok u) → IsLoading name x y []
loading_begins u p = record { all = p.left; opens = record { opened = p.opened; files = p.files; saved = p.saved; printed = p.printed } }

-- one that failed has opened that file alone
pub open_failed : {name : List ℕ} {x y : Scene} → OpensIn name x y (Err Failed) → Opens (opening In name ∷ []) x y
open_failed p = record { opened = p.opened; files = p.files; saved = p.saved; printed = p.printed }

-- one that answers an error has opened that file alone or nothing
pub open_cut : {name : List ℕ} {x y : Scene} (e : DeskFault) → OpensIn name x y (Err e) → OpensSome (opening In name ∷ []) x y
open_cut Failed p = record { opened = gains_all p.opened; files = p.files; saved = p.saved; printed = p.printed }
open_cut Memory p = record { opened = gains_none _ p.opened; files = p.files; saved = p.saved; printed = p.printed }

-- a read, whatever it answers, opens, saves and prints nothing
pub read_keeps : {os : List Opening} {room : List ℕ} {x y z : Scene} {r : Result ℕ DeskFault} → Opens os x y → Reads room y z r → Opens os x z
read_keeps p q = record {
  opened = q.opened ∙ p.opened;
  files = q.files ∙ p.files;
  saved = q.saved ∙ p.saved;
  printed = q.printed ∙ p.printed;
}

-- a read of n bytes adds them to the bytes so far
pub loading_more : {name bytes room : List ℕ} {x y z : Scene} (n : ℕ) → IsLoading name x y bytes → Reads room y z (Ok n) → IsLoading name x z (bytes ++ take n room)
loading_more {name} {bytes} {room} {x} {y} {z} n p q = record {
  all = append_assoc bytes (take n room) z.left ∙ ap (λ w. bytes ++ w) (sym q.left) ∙ p.all;
  opens = read_keeps p.opens q;
}

-- where nothing more comes, the bytes so far are the file's
pub loading_done : {name bytes room : List ℕ} {x y z : Scene} (n : ℕ) → n ≡ 0 → 0 < length room → IsLoading name x y bytes → Reads room y z (Ok n) → bytes ≡ bytes_in x.files name
loading_done {name} {bytes} {room} {x} {y} {z} n none some p q =
    sym (append-nil bytes) ∙ ap (λ w. bytes ++ w) (sym (q.ended none some)) ∙ p.all
