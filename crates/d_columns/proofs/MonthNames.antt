-- The names of the columns of months.
use Rattle.std.proofs.Common.{◌≡◌, ◌∙◌, ℕ, zero, suc, ◌/◌, ◌%◌, ◌<◌, ◌≤◌, ◌+◌, List, [], ◌∷◌, ◌++◌, length, map, decimal, get_or, Bor, sym, ap, arith}
use Rattle.std.proofs.lemmas.List.{get_or-map, length-map}
use Rattle.std.proofs.lemmas.Fmt.{decimal_digit, decimal_step}
use Rattle.d_columns.specs.declared.month_list.MonthList.{MonthList}
use Rattle.d_columns.specs.MonthLists.{month_front, month_name, month_names}

-- a number of one digit or two
one_digit : (n : ℕ) → n < 10 → decimal n ≡ (48 + n) ∷ []
one_digit n few = decimal_digit n few

two_digits : (n : ℕ) → 10 ≤ n → n < 100 → decimal n ≡ (48 + n / 10) ∷ (48 + n % 10) ∷ []
two_digits n more few =
    decimal_step n more (omega arith) ∙ ap (λ (digits : List ℕ). digits ++ (48 + n % 10) ∷ []) (decimal_digit (n / 10) (omega arith))

-- a name among those of the twelve months
name_is : (list : MonthList) (month : ℕ) → month < 12 → get_or (month_names list) month [] ≡ month_name list month
name_is list zero few = ap (λ (digits : List ℕ). month_front list ++ digits) (sym (one_digit 1 (omega arith)))
name_is list (suc zero) few = ap (λ (digits : List ℕ). month_front list ++ digits) (sym (one_digit 2 (omega arith)))
name_is list (suc (suc zero)) few = ap (λ (digits : List ℕ). month_front list ++ digits) (sym (one_digit 3 (omega arith)))
name_is list (suc (suc (suc zero))) few = ap (λ (digits : List ℕ). month_front list ++ digits) (sym (one_digit 4 (omega arith)))
name_is list (suc (suc (suc (suc zero)))) few = ap (λ (digits : List ℕ). month_front list ++ digits) (sym (one_digit 5 (omega arith)))
name_is list (suc (suc (suc (suc (suc zero))))) few = ap (λ (digits : List ℕ). month_front list ++ digits) (sym (one_digit 6 (omega arith)))
name_is list (suc (suc (suc (suc (suc (suc zero)))))) few = ap (λ (digits : List ℕ). month_front list ++ digits) (sym (one_digit 7 (omega arith)))
name_is list (suc (suc (suc (suc (suc (suc (suc zero))))))) few = ap (λ (digits : List ℕ). month_front list ++ digits) (sym (one_digit 8 (omega arith)))
name_is list (suc (suc (suc (suc (suc (suc (suc (suc zero)))))))) few = ap (λ (digits : List ℕ). month_front list ++ digits) (sym (one_digit 9 (omega arith)))
name_is list (suc (suc (suc (suc (suc (suc (suc (suc (suc zero))))))))) few = ap (λ (digits : List ℕ). month_front list ++ digits) (sym (two_digits 10 (omega arith) (omega arith)))
name_is list (suc (suc (suc (suc (suc (suc (suc (suc (suc (suc zero)))))))))) few = ap (λ (digits : List ℕ). month_front list ++ digits) (sym (two_digits 11 (omega arith) (omega arith)))
name_is list (suc (suc (suc (suc (suc (suc (suc (suc (suc (suc (suc zero))))))))))) few = ap (λ (digits : List ℕ). month_front list ++ digits) (sym (two_digits 12 (omega arith) (omega arith)))
name_is list (suc (suc (suc (suc (suc (suc (suc (suc (suc (suc (suc (suc month)))))))))))) few = absurd (omega (arith, few))

pub named_among : (list : MonthList) (month : ℕ) (names : List (Bor (List ℕ))) (other : Bor (List ℕ)) → month < 12
    → map (λ name. name.now) names ≡ month_names list → (get_or names month other).now ≡ month_name list month
named_among list month names other few same =
    let text : Bor (List ℕ) → List ℕ = λ name. name.now in
    let long : length names ≡ 12 = sym (length-map names text) ∙ ap (λ (xs : List (List ℕ)). length xs) same in
    sym (get_or-map text names month other [] (omega (arith, long, few)))
    ∙ ap (λ (xs : List (List ℕ)). get_or xs month []) same
    ∙ name_is list month few
