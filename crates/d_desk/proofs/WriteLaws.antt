-- Writing a file whole, from its beginning to its close.
use Rattle.std.proofs.Common.{◌≡◌, ℕ, List, [], ◌∷◌, ◌++◌, sym, ◌∙◌, ap, subst, inl, inr}
use Rattle.std.proofs.lemmas.List.Sums.{fold-append}
use Rattle.std.specs.Map.{update}
use Rattle.std.specs.Prelude.{Ok, Err, Some, bytes_eq}
use Rattle.d_desk.specs.declared.fault.DeskFault.{DeskFault}
use Rattle.d_desk.specs.declared.fault.DeskFault.TheVariants.{Failed, Memory}
use Rattle.d_desk.specs.declared.opened.Direction.TheVariants.{Out}
use Rattle.d_desk.specs.Front.{IsFront}
use Rattle.d_desk.specs.Scene.{Scene, Opening, Files, opening, output_name, name_if_out}
use Rattle.d_desk.specs.Calls.{OpensOut, ClosesOut}
use Rattle.d_desk.specs.Stages.{SavesOnly, SavesFront, Begins, Writes, WritesFront}
use Rattle.d_desk.proofs.Fronts.{front_all, gains_none, gains_all}

-- the output's name is that of the last opening for writing
pub output_name_last : (os : List Opening) (name : List ℕ) → output_name (os ++ opening Out name ∷ []) ≡ name
output_name_last os name = fold-append (λ other o. name_if_out o.way o.name other) [] os (opening Out name ∷ [])

-- an opening for writing that answers Ok begins an output
pub open_out_begins : {name : List ℕ} {x y : Scene} (u : Unit {0}) → OpensOut name x y (Ok u) → Begins name x y
open_out_begins u p = record { opened = p.opened; saved = p.saved; files = p.files; printed = p.printed }

-- one that answers an error has saved nothing
pub open_out_cut : {name : List ℕ} {x y : Scene} (text : List ℕ) (e : DeskFault) → OpensOut name x y (Err e) → WritesFront name text x y
open_out_cut text Failed p = record { opened = gains_all p.opened; saved = inl p.saved_err; files = p.files; printed = p.printed }
open_out_cut text Memory p = record { opened = gains_none _ p.opened; saved = inl p.saved_err; files = p.files; printed = p.printed }

-- an output that has taken a front of the text
pub save_cut : {name text : List ℕ} {x y z : Scene} → Begins name x y → SavesFront text y z → WritesFront name text x z
save_cut {name} {text} {x} {y} {z} p q =
    let now : z.saved ≡ q.saved.part = q.saved.gained ∙ ap (λ w. w ++ q.saved.part) p.saved in
    let P : List ℕ → Type 0 = λ w. IsFront w text in
    record {
      opened = gains_all (q.opened ∙ p.opened);
      saved = inr (subst P (sym now) q.saved.front);
      files = q.files ∙ p.files;
      printed = q.printed ∙ p.printed;
    }

-- an output that has taken the whole text
saved_whole : {name text : List ℕ} {x y z : Scene} → Begins name x y → SavesOnly text y z → z.saved ≡ text
saved_whole {name} {text} p q = q.saved ∙ ap (λ w. w ++ text) p.saved

-- a close that answers an error has kept nothing
pub close_cut : {name text : List ℕ} {x y z w : Scene} (e : DeskFault) → Begins name x y → SavesOnly text y z → ClosesOut z w (Err e) → WritesFront name text x w
close_cut {name} {text} {x} {y} {z} {w} e p q r =
    let now : w.saved ≡ text = r.saved ∙ saved_whole p q in
    let P : List ℕ → Type 0 = λ v. IsFront v text in
    record {
      opened = gains_all (r.opened ∙ q.opened ∙ p.opened);
      saved = inr (subst P (sym now) (front_all text));
      files = r.files_err ∙ q.files ∙ p.files;
      printed = r.printed ∙ q.printed ∙ p.printed;
    }

-- a close that answers Ok has kept the whole text under the name with which the output was begun
pub close_writes : {name text : List ℕ} {x y z w : Scene} (u : Unit {0}) → Begins name x y → SavesOnly text y z → ClosesOut z w (Ok u) → Writes name text x w
close_writes {name} {text} {x} {y} {z} {w} u p q r =
    let opened : z.opened ≡ x.opened ++ opening Out name ∷ [] = q.opened ∙ p.opened in
    let same : output_name z.opened ≡ name = ap output_name opened ∙ output_name_last x.opened name in
    record {
      opened = r.opened ∙ opened;
      saved = r.saved ∙ saved_whole p q;
      files = r.files
          ∙ ap (λ (f : Files). update bytes_eq f (output_name z.opened) (Some z.saved)) (q.files ∙ p.files)
          ∙ ap (λ n. update bytes_eq x.files n (Some z.saved)) same
          ∙ ap (λ v. update bytes_eq x.files name (Some v)) (saved_whole p q);
      printed = r.printed ∙ q.printed ∙ p.printed;
    }
