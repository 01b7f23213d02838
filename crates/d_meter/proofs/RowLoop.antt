-- The rows one after the other.
use Rattle.std.proofs.Common.{◌≡◌, ◌∙◌, ℕ, ℤ, ◌+◌, ◌<◌, suc, List, [], ◌∷◌, ◌++◌, map, take, drop, length, get_or, All, Option, Ok, refl, sym, ap, subst, arith}
use Rattle.std.proofs.Math.Seq.{take-suc}
use Rattle.std.proofs.lemmas.List.{map-append, length-append, length-drop, take_all}
use Rattle.std.proofs.lemmas.List.Elements.{All-nil, All-push}
use Rattle.d_num.specs.Amount.{IsWithin}
use Rattle.std.proofs.lemmas.Grind.{get_or_after_one}
use Rattle.d_list.specs.Firsts.{first_of, each}
use Rattle.d_list.proofs.Firsts as firsts
use Rattle.d_table.specs.Table.{row_at}
use Rattle.d_meter.specs.declared.fault.MeterFault.{MeterFault}
use Rattle.d_meter.specs.Readings.{MeterReader, net_at, net_of, net_or_0, row_count}
use Rattle.d_meter.specs.Checks.{Passes, Refuses}

-- no row is looked at yet
pub none_yet : (list : MeterReader → ℕ → List (Option MeterFault)) → Passes (λ reader. each 0 (list reader))
unfolding first_of each
none_yet list reader are = refl

-- one row more passes
pub one_more : (row : ℕ) (list : MeterReader → ℕ → List (Option MeterFault)) → Passes (λ reader. each row (list reader)) → Passes (λ reader. list reader row)
    → Passes (λ reader. each (row + 1) (list reader))
one_more row list before here reader are = firsts.one_more row (list reader) (before reader are) (here reader are)

-- a row is refused where those before it pass
pub refused_here : (count row : ℕ) (list : MeterReader → ℕ → List (Option MeterFault)) (refused : MeterFault) → row < count
    → Passes (λ reader. each row (list reader)) → Refuses (λ reader. list reader row) refused → Refuses (λ reader. each count (list reader)) refused
refused_here count row list refused below before here reader are =
    firsts.each_here count row (list reader) refused below (before reader are) (here reader are)

-- one net reading more
pub net_more : (reader : MeterReader) (rows : List (List (List ℕ))) (row : ℕ) (before : List ℤ) (net : ℤ) → row < row_count rows
    → map (net_of reader) (take row (drop 1 rows)) ≡ before → net_at reader rows row ≡ Ok net
    → map (net_of reader) (take (row + 1) (drop 1 rows)) ≡ before ++ net ∷ []
net_more reader rows row before net below so_far here =
    let within : row < length (drop 1 rows) = omega (arith, below, length-drop 1 rows) in
    let next : row + 1 ≡ suc row = omega arith in
    let place : 1 + row ≡ row + 1 = omega arith in
    let at : get_or (drop 1 rows) row [] ≡ row_at rows (row + 1) = get_or_after_one rows row [] ∙ ap (λ n. get_or rows n []) place in
    let last : net_of reader (get_or (drop 1 rows) row []) ≡ net = ap (net_of reader) at ∙ ap net_or_0 here in
    ap (λ n. map (net_of reader) (take n (drop 1 rows))) next
    ∙ (ap (map (net_of reader)) (take-suc (drop 1 rows) row [] within)
    ∙ (map-append (net_of reader) (take row (drop 1 rows)) (get_or (drop 1 rows) row [] ∷ [])
    ∙ (ap (λ (xs : List ℤ). xs ++ net_of reader (get_or (drop 1 rows) row []) ∷ []) so_far ∙ ap (λ (n : ℤ). before ++ n ∷ []) last)))

-- one more of them is as long
pub long_more : (before after : List ℤ) (net : ℤ) (row : ℕ) → after ≡ before ++ net ∷ [] → length before ≡ row → length after ≡ row + 1
long_more before after net row is long = ap length is ∙ (length-append before (net ∷ []) ∙ ap (λ n. n + 1) long)

-- and as small
pub small_more : (most : ℕ) (before after : List ℤ) (net : ℤ) → after ≡ before ++ net ∷ [] → All (IsWithin most) before → IsWithin most net → All (IsWithin most) after
small_more most before after net is small here = subst (All (IsWithin most)) (sym is) (All-push (IsWithin most) before net small here)

-- none is there yet
pub small_yet : (most : ℕ) (net : List ℤ) → net ≡ [] → All (IsWithin most) net
small_yet most net is = subst (All (IsWithin most)) (sym is) (All-nil (IsWithin most))

-- all rows
pub all_net : (reader : MeterReader) (rows : List (List (List ℕ))) (row : ℕ) (net : List ℤ) → row ≡ row_count rows
    → map (net_of reader) (take row (drop 1 rows)) ≡ net → map (net_of reader) (drop 1 rows) ≡ net
all_net reader rows row net all so_far =
    ap (map (net_of reader)) (sym (take_all row (drop 1 rows) (omega (arith, all, length-drop 1 rows)))) ∙ so_far
