-- The numbers of the lines in front of the tree.
use Rattle.std.proofs.Common.{◌≡◌, ℕ, ◌-◌, ◌<◌, ◌^◌, ℤ, pos, negsuc, unsigned_abs, List, [], ◌∷◌, ◌++◌, codes, ◌≤ℤ◌, length, replicate, append-nil, arith, sym, ap, ◌∙◌}
use Rattle.std.proofs.lemmas.Int.{ints}
use Rattle.d_num.specs.declared.pot.Pot.{Pot}
use Rattle.d_num.specs.declared.pot.Pot.TheVariants.{To}
use Rattle.d_text.specs.Text.{zero_padded}
use Rattle.d_cal.specs.Starts.{month_text}
use Rattle.d_cal.specs.Calendar.{IsMonth}
use Rattle.d_certline.specs.Wholes.{padded}
use Rattle.d_search.specs.declared.outcome.Verdict.{Verdict}
use Rattle.d_certline.specs.Certificates.{kind_of}
use Rattle.d_cert.specs.Written.{found_by}
use Rattle.d_certline.specs.Lines.{line_text, word, parts, kind_text}
use Rattle.d_certline.specs.Lines as line
use Rattle.d_certline.proofs.DigitFacts.{natural_printed}
use Rattle.d_batt.specs.declared.battery.Battery.{Battery}
use Rattle.d_batt.specs.declared.mode.Mode.{Mode}
use Rattle.d_batt.specs.Storage.{Storage}
use Rattle.d_batt.specs.Shown.{storage_of}

-- how many there are of what a list holds
pub count_part : {X : Type 0} (xs ys : List X) → ys ≡ xs → ◌≡◌ {A = List Pot} (To (pos (length xs)) ∷ []) (To (pos (length ys)) ∷ [])
count_part {X} xs ys same = ap (λ (l : List X). To (pos (length l)) ∷ []) (sym same)

-- the levels of a battery
pub levels_part : (s : Storage) (b : Battery) → storage_of b ≡ s
    → ◌≡◌ {A = List Pot} (To (pos s.floor) ∷ To (pos s.capacity) ∷ To (pos s.start) ∷ To (pos s.end) ∷ [])
    (To (pos b.floor) ∷ To (pos b.capacity) ∷ To (pos b.start) ∷ To (pos b.end) ∷ [])
levels_part s b is = ap (λ (x : Storage). To (pos x.floor) ∷ To (pos x.capacity) ∷ To (pos x.start) ∷ To (pos x.end) ∷ []) (sym is)

-- its modes
pub modes_part : (s : Storage) (b : Battery) (modes : List Mode) → storage_of b ≡ s → modes ≡ b.modes
    → ◌≡◌ {A = List Pot} (To (pos (length s.modes)) ∷ []) (To (pos (length modes)) ∷ [])
modes_part s b modes is listed = count_part s.modes modes (listed ∙ ap (λ (x : Storage). x.modes) is)

-- the label's line
pub label_line : (text : List ℕ) → line_text (line.label text) ≡ codes "label " ++ text
unfolding line_text word parts
label_line text = append-nil (codes "label " ++ text)

-- a number with zeros in front is written as everywhere else
padded_printed : (width n : ℕ) → n < 10 ^ 64 → padded width n ≡ zero_padded width n
unfolding padded
padded_printed width n small = ap (λ (ds : List ℕ). replicate (width - length ds) 48 ++ ds) (natural_printed n small)

below_none : (n : ℕ) → pos 1 ≤ℤ negsuc n → ⊥
below_none n h = omega (arith, ints)

years_small : (year : ℤ) (number : ℕ) → IsMonth year number → unsigned_abs year < 10 ^ 64
years_small (pos year) number month = omega (arith, ints, month.before_year_10000)
years_small (negsuc year) number month = absurd (below_none year month.after_year_0)

-- the month's line
pub month_line : (year : ℤ) (number : ℕ) (text : List ℕ) → IsMonth year number → text ≡ month_text year number
    → line_text (line.month (unsigned_abs year) number) ≡ codes "month " ++ text
unfolding line_text word parts
month_line year number text month is =
    append-nil (codes "month " ++ (padded 4 (unsigned_abs year) ++ 45 ∷ padded 2 number))
    ∙ ap (λ (t : List ℕ). codes "month " ++ t)
    (ap (λ (t : List ℕ). t ++ 45 ∷ padded 2 number) (padded_printed 4 (unsigned_abs year) (years_small year number month))
    ∙ (ap (λ (t : List ℕ). zero_padded 4 (unsigned_abs year) ++ 45 ∷ t) (padded_printed 2 number (omega (arith, month.from_january, month.to_december))) ∙ sym is))

-- a count that is said to be this one
pub number_part : (n m : ℕ) → m ≡ n → ◌≡◌ {A = List Pot} (To (pos n) ∷ []) (To (pos m) ∷ [])
number_part n m same = ap (λ (k : ℕ). To (pos k) ∷ []) (sym same)

-- the line of what is claimed
pub verdict_is : (verdict known : Verdict) (claim : List ℕ) → verdict ≡ known → claim ≡ kind_text (kind_of (found_by known [] (pos 0) (pos 0)))
    → line_text (line.verdict (kind_of (found_by verdict [] (pos 0) (pos 0)))) ≡ codes "verdict " ++ claim
unfolding line_text word parts
verdict_is verdict known claim same is =
    append-nil (codes "verdict " ++ kind_text (kind_of (found_by verdict [] (pos 0) (pos 0))))
    ∙ ap (λ (t : List ℕ). codes "verdict " ++ t) (ap (λ (v : Verdict). kind_text (kind_of (found_by v [] (pos 0) (pos 0)))) same ∙ sym is)
