-- Reading a number as it is written gives that number.
use Rattle.std.proofs.Common.{◌≡◌, ◌≢◌, ℕ, zero, suc, ◌<◌, ◌^◌, true, false, List, [], ◌∷◌, ◌++◌, length, get_or, refl, sym, ap, subst, ◌∙◌, arith, Option, Result, Ok, Err, ⊎_elim, rules, eqb}
use Rattle.std.proofs.lemmas.Bool.{and_parts, and_from, false≢true}
use Rattle.std.proofs.lemmas.Bool.Decides.{eqb_tells}
use Rattle.std.proofs.lemmas.Fmt.{decimal_digit, decimal_nonempty, first_decimal, digits_decimal, decimal-digits_value, decimal_injective, parse-decimal}
use Rattle.std.proofs.lemmas.Str.Parse.{IsNumeralModel, numerals_by_value, parse_digits}
use Rattle.std.proofs.Math.Dec.{eqb-suc-zero}
use Rattle.std.specs.Prelude.{IfSome, MatchOption}
use Rattle.std.specs.Char.{is_ascii_digit}
use Rattle.std.specs.Fmt.{decimal}
use Rattle.std.specs.List.{list_all}
use Rattle.std.specs.Result.{result_ok}
use Rattle.std.specs.Str.Parse.{ParsesUnsigned, digits_value}
use Rattle.js_link_outbox.specs.Numerals.{begins_well, is_written}
use Rattle.js_link_outbox.specs.Outbox.{answer_subject}

own : IsNumeralModel (λ ds. list_all is_ascii_digit ds ≡ true) (digits_value 10)
own = numerals_by_value _ (search rules)

-- a zero stands alone, or does not stand first
rest_from : (d : ℕ) (ds : List ℕ) → eqb d 48 ≡ true → length (d ∷ ds) ≡ 1 → begins_well (d ∷ ds) ≡ true
rest_from d [] h one = rw h refl
rest_from d (x ∷ ds) h one = absurd (omega arith)

begins_from : (ds : List ℕ) → 0 < length ds → (get_or ds 0 0 ≡ 48 → length ds ≡ 1) → begins_well ds ≡ true
begins_from [] some alone = absurd (omega arith)
begins_from (d ∷ ds) some alone = ⊎_elim (λ h. rest_from d ds h.0 (alone h.1)) (λ h. rw h.0 refl) (eqb_tells d 48)

-- and the way back
some_digit : (ds : List ℕ) → begins_well ds ≡ true → 0 < length ds
some_digit [] h = absurd (false≢true h)
some_digit (d ∷ ds) h = omega arith

alone_zero : (ds : List ℕ) → begins_well ds ≡ true → get_or ds 0 0 ≡ 48 → length ds ≡ 1
alone_zero [] h e = absurd (false≢true h)
alone_zero (d ∷ []) h e = refl
alone_zero (d ∷ x ∷ ds) h e =
    let g : begins_well (48 ∷ x ∷ ds) ≡ true = subst (λ n. begins_well (n ∷ x ∷ ds) ≡ true) e h in
    absurd (false≢true (sym (eqb-suc-zero (length ds)) ∙ g))

-- what is written of a number is a number as it is written
decimal_begins : (n : ℕ) → n < 2 ^ 64 → begins_well (decimal n) ≡ true
decimal_begins zero small = rw (decimal_digit 0 (omega arith)) refl
decimal_begins (suc n) small = begins_from (decimal (suc n)) (decimal_nonempty (suc n) small) (λ e. absurd (omega (arith, e, first_decimal (suc n) (omega arith) small)))

pub decimal_is_written : (n : ℕ) → n < 2 ^ 64 → is_written (decimal n) ≡ true
decimal_is_written n small = and_from _ _ (decimal_begins n small) (digits_decimal own n small)

-- a text that is no number as it is written was written of none
pub none_written : (text : List ℕ) → is_written text ≡ false → (n : ℕ) → n < 2 ^ 64 → text ≢ decimal n
none_written text isnt n small e = false≢true (sym isnt ∙ ap is_written e ∙ decimal_is_written n small)

some_written : (text : List ℕ) → is_written text ≡ true → digits_value 10 text < 2 ^ 64 → text ≡ decimal (digits_value 10 text)
some_written text is_so small =
    let parts = and_parts _ _ is_so in
    sym (decimal-digits_value own text parts.1 (some_digit text parts.0) (alone_zero text parts.0) small)

not_refused : {E : Type 0} (text : List ℕ) (e : E) (n : ℕ) → n < 2 ^ 64 → text ≡ decimal n → ParsesUnsigned 64 10 text (Err e) → ⊥
not_refused text e n small same parsed = let h : Err e ≡ Ok n = parse-decimal 64 n text (Err e) small small same parsed in cc

-- what was read is the number of which the text was written
pub reads_written : {E : Type 0} (text : List ℕ) (r : Result ℕ E) (o : Option ℕ) → is_written text ≡ true → ParsesUnsigned 64 10 text r → o ≡ result_ok r → MatchOption o ((n : ℕ) → n < 2 ^ 64 → text ≢ decimal n) (λ n. text ≡ decimal n)
reads_written {E} text (Ok x) o is_so parsed is =
    let parts = and_parts _ _ is_so in
    let h = parse_digits own {E = E} 64 text (Ok x) parsed parts.1 in
    rw (is, h.1) (some_written text is_so h.0.1)
reads_written text (Err e) o is_so parsed is = rw is (λ n small same. not_refused text e n small same parsed)

pub reads_small : {E : Type 0} (text : List ℕ) (r : Result ℕ E) (o : Option ℕ) → is_written text ≡ true → ParsesUnsigned 64 10 text r → o ≡ result_ok r → IfSome o (λ n. n < 2 ^ 64)
reads_small {E} text (Ok x) o is_so parsed is =
    let h = parse_digits own {E = E} 64 text (Ok x) parsed (and_parts _ _ is_so).1 in
    rw (is, h.1) h.0.1
reads_small text (Err e) o is_so parsed is = rw is tt

-- two numbers of which the same was written behind the same front are one
append_cancel : (front xs ys : List ℕ) → front ++ xs ≡ front ++ ys → xs ≡ ys
append_cancel [] xs ys e = e
append_cancel (x ∷ front) xs ys e = append_cancel front xs ys cc

pub same_number : (front : List ℕ) (m n : ℕ) → m < 2 ^ 64 → n < 2 ^ 64 → front ++ decimal m ≡ front ++ decimal n → m ≡ n
same_number front m n p q e = decimal_injective m n p q (append_cancel front _ _ e)

pub same_request : (front : List ℕ) (m n : ℕ) → m < 2 ^ 64 → n < 2 ^ 64 → answer_subject front m ≡ answer_subject front n → m ≡ n
unfolding answer_subject
same_request front m n p q e = same_number front m n p q e
