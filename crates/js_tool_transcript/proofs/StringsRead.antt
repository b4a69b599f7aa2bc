-- The strings that stand in a UTF-8 text are UTF-8.
use Rattle.std.proofs.Common.{◌≡◌, ℕ, ◌+◌, ◌-◌, ◌*◌, ◌<◌, Bool, true, false, cond, ◌&&◌, ◌||◌, ◌==◌, nat_lt, List, [], ◌∷◌, ◌++◌, length, take, drop, get_or, Option, Some, None, option_and_then, refl, sym, subst, arith, append_assoc, append-nil}
use Rattle.std.specs.Prelude.{⊤, IfSome, nat_eq}
use Rattle.std.specs.List.{AllByRecursion, starts_with}
use Rattle.std.specs.Str.{IsUtf8, IsCharBoundary}
use Rattle.std.specs.Char.{IsScalar, digit_value, is_digit, encode_utf8}
use Rattle.std.proofs.Math.Seq.{take-append_seam, drop-append_seam, get_or-append_seam}
use Rattle.std.proofs.lemmas.Bool.{and_parts, eqb-true}
use Rattle.std.proofs.lemmas.Bool.Decides.{nat_tests}
use Rattle.std.proofs.lemmas.List.{length-append}
use Rattle.std.proofs.lemmas.Str.{IsUtf8-append, IsUtf8-encode, IsUtf8-take, IsUtf8-drop, IsCharBoundary-before_ascii, IsCharBoundary-after_ascii}
use Rattle.json.specs.Ascii as ascii
use Rattle.json.specs.Text.{code_unit, short_escape, is_high_surrogate, is_low_surrogate, surrogate_pair, Within, plain, after_backslash, after_u, after_high, prepend, content}
use Rattle.json.specs.Token.{Token, begin_object, end_object, begin_array, end_array, key, string, number, boolean, null, bad}
use Rattle.json.specs.Word.{is_operator, is_space, head, ends_word, literal, number_before, after_number, word}
use Rattle.json.specs.Lex.{Lexeme, token, comma, colon, Class, quote, backslash, operator, space, other, class, operator_lexeme, string_token, Mode, between, in_word, in_string, in_escape, lex_byte, lex, begins_colon, may_begin, may_close, Place, fresh, after_value, after_comma, after_key, if_allowed, place_token, punctuate, tokens}
use Rattle.json.proofs.Printed.Utf8.{IsUtf8-are_ascii}

-- ---- choices

pub choose : {A : Type 0} (P : A → Type 0) (b : Bool) (x y : A) → (b ≡ true → P x) → (b ≡ false → P y) → P (cond b x y)
choose P true x y first second = first refl
choose P false x y first second = second refl

-- ---- cutting at an ASCII byte

one_byte : (x : ℕ) → x < 128 → IsUtf8 (x ∷ [])
one_byte x small = let e : nat_lt x 128 ≡ true = grind (arith, nat_tests) in IsUtf8-are_ascii (x ∷ []) (rw e refl)

cut : (before : List ℕ) (x : ℕ) (rest : List ℕ) → x < 128 → IsUtf8 (before ++ x ∷ rest) → IsUtf8 before × IsUtf8 rest
cut before x rest small utf8 =
    let d = before ++ x ∷ rest in
    let i = length before in
    let within : i < length d = omega (arith, length-append before (x ∷ rest)) in
    let read : get_or d i 0 ≡ x = get_or-append_seam before x rest 0 in
    let low : get_or d i 0 < 128 = omega (arith, read) in
    let edge : IsCharBoundary d i = IsCharBoundary-before_ascii d i within low in
    let first : IsUtf8 (take i d) = IsUtf8-take d i utf8 edge in
    let second : IsUtf8 (drop i d) = IsUtf8-drop d i utf8 edge in
    let tail : IsUtf8 (x ∷ rest) = subst IsUtf8 (drop-append_seam before (x ∷ rest)) second in
    let past : IsCharBoundary (x ∷ rest) 1 = IsCharBoundary-after_ascii (x ∷ rest) 0 tail (omega arith) small in
    (subst IsUtf8 (take-append_seam before (x ∷ rest)) first, IsUtf8-drop (x ∷ rest) 1 tail past)

behind : (x : ℕ) (rest : List ℕ) → x < 128 → IsUtf8 (x ∷ rest) → IsUtf8 rest
behind x rest small utf8 = (cut [] x rest small utf8).1

-- ---- escapes

hex_digit : (c : ℕ) → is_digit c 16 ≡ true → (c < 128) × (digit_value c < 16)
hex_digit c is = grind (arith, nat_tests)

-- four hex digits are ASCII, and what they spell is below 65536
IsUnit : ℕ → ℕ → ℕ → ℕ → ℕ → Type 0
IsUnit a b c d u = (a < 128) × (b < 128) × (c < 128) × (d < 128) × (u < 65536)

unit_is : (a b c d : ℕ) → IfSome (code_unit a b c d) (λ u. IsUnit a b c d u)
unfolding code_unit IsUnit
unit_is a b c d = choose (λ (o : Option ℕ). IfSome o (λ u. IsUnit a b c d u)) (is_digit a 16 && is_digit b 16 && is_digit c 16 && is_digit d 16) _ _
    (λ is.
    let p = and_parts (is_digit a 16 && is_digit b 16 && is_digit c 16) (is_digit d 16) is in
    let q = and_parts (is_digit a 16 && is_digit b 16) (is_digit c 16) p.0 in
    let r = and_parts (is_digit a 16) (is_digit b 16) q.0 in
    let one = hex_digit a r.0 in
    let two = hex_digit b r.1 in
    let three = hex_digit c q.1 in
    let four = hex_digit d p.1 in
    (one.0, two.0, three.0, four.0, below (digit_value a) (digit_value b) (digit_value c) (digit_value d) one.1 two.1 three.1 four.1))
    (λ _. tt)
  where
    below : (w x y z : ℕ) → w < 16 → x < 16 → y < 16 → z < 16 → w * 4096 + x * 256 + y * 16 + z < 65536
    below w x y z ws xs ys zs = omega arith

short_is : (x : ℕ) → IfSome (short_escape x) (λ c. (x < 128) × (c < 128))
unfolding short_escape
short_is x =
    choose P ((x == ascii.quote) || (x == ascii.backslash) || (x == ascii.slash)) _ _ (λ is. let low : x < 128 = grind (arith, nat_tests) in (low, low)) (λ _.
    choose P (x == ascii.lower_b) _ _ (λ is. small x ascii.lower_b 8 is (omega arith) (omega arith)) (λ _.
    choose P (x == ascii.lower_f) _ _ (λ is. small x ascii.lower_f 12 is (omega arith) (omega arith)) (λ _.
    choose P (x == ascii.lower_n) _ _ (λ is. small x ascii.lower_n 10 is (omega arith) (omega arith)) (λ _.
    choose P (x == ascii.lower_r) _ _ (λ is. small x ascii.lower_r 13 is (omega arith) (omega arith)) (λ _.
    choose P (x == ascii.lower_t) _ _ (λ is. small x ascii.lower_t 9 is (omega arith) (omega arith)) (λ _. tt))))))
  where
    P : Option ℕ → Type 0
    P o = IfSome o (λ c. (x < 128) × (c < 128))

    small : (x y c : ℕ) → (x == y) ≡ true → y < 128 → c < 128 → (x < 128) × (c < 128)
    small x y c is low high = let same : x ≡ y = eqb-true x y is in (omega arith, high)

scalar_unit : (u : ℕ) → u < 65536 → is_high_surrogate u ≡ false → is_low_surrogate u ≡ false → IsScalar u
scalar_unit u small high low = grind (arith, nat_tests)

scalar_pair : (h l : ℕ) → is_high_surrogate h ≡ true → is_low_surrogate l ≡ true → IsScalar (surrogate_pair h l)
scalar_pair h l high low = grind (arith, nat_tests)

-- ---- the content of a string

-- what is before is UTF-8 with what is left; behind an escape each of the two is
abbrev Goes : Within → List ℕ → List ℕ → Type 0
Goes plain before rest = IsUtf8 (before ++ rest)
Goes after_backslash before rest = IsUtf8 before × IsUtf8 rest
Goes after_u before rest = IsUtf8 before × IsUtf8 rest
Goes (after_high h) before rest = IsUtf8 before × IsUtf8 rest × (is_high_surrogate h ≡ true)

-- it is UTF-8 with what was read
abbrev Joins : List ℕ → Option (List ℕ) → Type 0
Joins before o = IfSome o (λ s. IsUtf8 (before ++ s))

regroup : (before more : List ℕ) (o : Option (List ℕ)) → Joins (before ++ more) o → Joins before (prepend more o)
regroup before more None joins = tt
regroup before more (Some s) joins = subst IsUtf8 (append_assoc before more s) joins

then : (before : List ℕ) (f : ℕ → Option (List ℕ)) (o : Option ℕ) (P : ℕ → Type 0) → IfSome o P → ((u : ℕ) → P u → Joins before (f u)) → Joins before (option_and_then f o)
then before f None P is next = tt
then before f (Some u) P is next = next u is

pub content_is : (w : Within) (before xs : List ℕ) → Goes w before xs → Joins before (content w xs)
unfolding content IsUnit
content_is plain before [] goes = tt
content_is plain before (x ∷ xs) goes =
    choose (Joins before) (x == 34) _ _
    (λ is. let low : x < 128 = grind (arith, nat_tests) in subst IsUtf8 (sym (append-nil before)) (cut before x xs low goes).0)
    (λ _. choose (Joins before) (x == 92) _ _
    (λ is. let low : x < 128 = grind (arith, nat_tests) in content_is after_backslash before xs (cut before x xs low goes))
    (λ _. choose (Joins before) (nat_lt x 32) _ _ (λ _. tt)
    (λ _. regroup before (x ∷ []) (content plain xs) (content_is plain (before ++ x ∷ []) xs (subst IsUtf8 (sym (append_assoc before (x ∷ []) xs)) goes)))))
content_is after_backslash before [] goes = tt
content_is after_backslash before (x ∷ xs) goes =
    choose (Joins before) (x == 117) _ _
    (λ is. let low : x < 128 = grind (arith, nat_tests) in content_is after_u before xs (goes.0, behind x xs low goes.1))
    (λ _. then before _ (short_escape x) _ (short_is x) (λ c small.
    regroup before (c ∷ []) (content plain xs)
    (content_is plain (before ++ c ∷ []) xs (IsUtf8-append (before ++ c ∷ []) xs (IsUtf8-append before (c ∷ []) goes.0 (one_byte c small.1)) (behind x xs small.0 goes.1)))))
content_is after_u before [] goes = tt
content_is after_u before (a ∷ []) goes = tt
content_is after_u before (a ∷ b ∷ []) goes = tt
content_is after_u before (a ∷ b ∷ c ∷ []) goes = tt
content_is after_u before (a ∷ b ∷ c ∷ d ∷ xs) goes =
    then before _ (code_unit a b c d) (λ u. IsUnit a b c d u) (unit_is a b c d) (λ u unit.
    let rest : IsUtf8 xs = behind d xs unit.3 (behind c (d ∷ xs) unit.2 (behind b (c ∷ d ∷ xs) unit.1 (behind a (b ∷ c ∷ d ∷ xs) unit.0 goes.1))) in
    choose (Joins before) (is_high_surrogate u) _ _ (λ high. content_is (after_high u) before xs (goes.0, rest, high))
    (λ high. choose (Joins before) (is_low_surrogate u) _ _ (λ _. tt)
    (λ low. regroup before (encode_utf8 u) (content plain xs)
    (content_is plain (before ++ encode_utf8 u) xs
    (IsUtf8-append (before ++ encode_utf8 u) xs (IsUtf8-append before (encode_utf8 u) goes.0 (IsUtf8-encode u (scalar_unit u unit.4 high low))) rest)))))
content_is (after_high h) before [] goes = tt
content_is (after_high h) before (s ∷ []) goes = tt
content_is (after_high h) before (s ∷ u ∷ []) goes = tt
content_is (after_high h) before (s ∷ u ∷ a ∷ []) goes = tt
content_is (after_high h) before (s ∷ u ∷ a ∷ b ∷ []) goes = tt
content_is (after_high h) before (s ∷ u ∷ a ∷ b ∷ c ∷ []) goes = tt
content_is (after_high h) before (s ∷ u ∷ a ∷ b ∷ c ∷ d ∷ xs) goes =
    choose (Joins before) ((s == 92) && (u == 117)) _ _
    (λ is. then before _ (code_unit a b c d) (λ l. IsUnit a b c d l) (unit_is a b c d) (λ l unit.
    let first : s < 128 = let p = eqb-true s 92 (and_parts (s == 92) (u == 117) is).0 in omega arith in
    let second : u < 128 = let p = eqb-true u 117 (and_parts (s == 92) (u == 117) is).1 in omega arith in
    let digits : IsUtf8 (a ∷ b ∷ c ∷ d ∷ xs) = behind u (a ∷ b ∷ c ∷ d ∷ xs) second (behind s (u ∷ a ∷ b ∷ c ∷ d ∷ xs) first goes.1) in
    let rest : IsUtf8 xs = behind d xs unit.3 (behind c (d ∷ xs) unit.2 (behind b (c ∷ d ∷ xs) unit.1 (behind a (b ∷ c ∷ d ∷ xs) unit.0 digits))) in
    choose (Joins before) (is_low_surrogate l) _ _
    (λ low. regroup before (encode_utf8 (surrogate_pair h l)) (content plain xs)
    (content_is plain (before ++ encode_utf8 (surrogate_pair h l)) xs
    (IsUtf8-append (before ++ encode_utf8 (surrogate_pair h l)) xs (IsUtf8-append before (encode_utf8 (surrogate_pair h l)) goes.0 (IsUtf8-encode (surrogate_pair h l) (scalar_pair h l goes.2 low))) rest)))
    (λ _. tt)))
    (λ _. tt)

-- ---- lexemes

-- a key and a string are UTF-8
abbrev pub IsTextToken : Token → Type 0
IsTextToken begin_object = ⊤
IsTextToken end_object = ⊤
IsTextToken begin_array = ⊤
IsTextToken end_array = ⊤
IsTextToken (key s) = IsUtf8 s
IsTextToken (string s) = IsUtf8 s
IsTextToken (number s) = ⊤
IsTextToken (boolean b) = ⊤
IsTextToken null = ⊤
IsTextToken bad = ⊤

abbrev IsTextLexeme : Lexeme → Type 0
IsTextLexeme (token t) = IsTextToken t
IsTextLexeme comma = ⊤
IsTextLexeme colon = ⊤

abbrev AreTextLexemes : List Lexeme → Type 0
AreTextLexemes ls = AllByRecursion IsTextLexeme ls

string_is : (o : Option (List ℕ)) → IfSome o IsUtf8 → IsTextToken (string_token o)
string_is None is = tt
string_is (Some s) is = is

allowed_token : (b : Bool) (t : Token) → IsTextToken t → IsTextToken (cond b t bad)
allowed_token true t is = is
allowed_token false t is = tt

number_is : (xs : List ℕ) (o : Option (List ℕ)) → IsTextToken (number_before xs o)
number_is xs None = tt
number_is xs (Some rest) = allowed_token (ends_word rest) (number (take (length xs - length rest) xs)) tt

word_at : (t f n : Bool) (one two three four : Token) → IsTextToken one → IsTextToken two → IsTextToken three → IsTextToken four → IsTextToken (cond t one (cond f two (cond n three four)))
word_at true f n one two three four first second third fourth = first
word_at false true n one two three four first second third fourth = second
word_at false false true one two three four first second third fourth = third
word_at false false false one two three four first second third fourth = fourth

literal_is : (name : List ℕ) (t : Token) (xs : List ℕ) → IsTextToken t → IsTextToken (literal name t xs)
literal_is name t xs is = allowed_token (starts_with nat_eq xs name && ends_word (drop (length name) xs)) t is

-- a word is no string
word_is : (xs : List ℕ) → IsTextToken (word xs)
unfolding word
word_is xs =
    word_at (head xs == ascii.lower_t) (head xs == ascii.lower_f) (head xs == ascii.lower_n)
    (literal ascii.true_text (boolean true) xs) (literal ascii.false_text (boolean false) xs) (literal ascii.null_text null xs) (number_before xs (after_number xs))
    (literal_is ascii.true_text (boolean true) xs tt) (literal_is ascii.false_text (boolean false) xs tt) (literal_is ascii.null_text null xs tt) (number_is xs (after_number xs))

operator_at : (a b c d e : Bool) → IsTextLexeme (cond a (token begin_object) (cond b (token end_object) (cond c (token begin_array) (cond d (token end_array) (cond e comma colon)))))
operator_at true b c d e = tt
operator_at false true c d e = tt
operator_at false false true d e = tt
operator_at false false false true e = tt
operator_at false false false false true = tt
operator_at false false false false false = tt

operator_is : (x : ℕ) → IsTextLexeme (operator_lexeme x)
operator_is x = operator_at (x == ascii.open_brace) (x == ascii.close_brace) (x == ascii.open_bracket) (x == ascii.close_bracket) (x == ascii.comma)

quote_class : (q b o s : Bool) → cond q quote (cond b backslash (cond o operator (cond s space other))) ≡ quote → q ≡ true
quote_class true b o s is = refl
quote_class false true o s is = cc
quote_class false false true s is = cc
quote_class false false false true is = cc
quote_class false false false false is = cc

-- what a byte begins, where a string that it opens is read to UTF-8
byte_is : (m : Mode) (c : Class) (x : ℕ) (xs : List ℕ) (k : Mode → List Lexeme) → (c ≡ quote → IsUtf8 xs) → ((next : Mode) → AreTextLexemes (k next)) → AreTextLexemes (lex_byte m c x xs k)
byte_is between quote x xs k opens rest = (string_is (content plain xs) (content_is plain [] xs (opens refl)), rest in_string)
byte_is between backslash x xs k opens rest = (tt, rest in_word)
byte_is between operator x xs k opens rest = (operator_is x, rest between)
byte_is between space x xs k opens rest = rest between
byte_is between other x xs k opens rest = (word_is (x ∷ xs), rest in_word)
byte_is in_word quote x xs k opens rest = rest in_word
byte_is in_word backslash x xs k opens rest = rest in_word
byte_is in_word operator x xs k opens rest = (operator_is x, rest between)
byte_is in_word space x xs k opens rest = rest between
byte_is in_word other x xs k opens rest = rest in_word
byte_is in_string quote x xs k opens rest = rest between
byte_is in_string backslash x xs k opens rest = rest in_escape
byte_is in_string operator x xs k opens rest = rest in_string
byte_is in_string space x xs k opens rest = rest in_string
byte_is in_string other x xs k opens rest = rest in_string
byte_is in_escape c x xs k opens rest = rest in_string

lex_is : (before xs : List ℕ) (m : Mode) → IsUtf8 (before ++ xs) → AreTextLexemes (lex m xs)
unfolding lex
lex_is before [] m utf8 = tt
lex_is before (x ∷ xs) m utf8 =
    byte_is m (class x) x xs (λ next. lex next xs)
    (λ is.
    let same : x ≡ 34 = eqb-true x 34 (quote_class (x == ascii.quote) (x == ascii.backslash) (is_operator x) (is_space x) is) in
    (cut before x xs (omega arith) utf8).1)
    (λ next. lex_is (before ++ x ∷ []) xs next (subst IsUtf8 (sym (append_assoc before (x ∷ []) xs)) utf8))

-- ---- tokens

abbrev pub AreTextTokens : List Token → Type 0
AreTextTokens ts = AllByRecursion IsTextToken ts

allowed_is : (b : Bool) (t : Token) (k : Place → List Token) (next : Place) → IsTextToken t → AreTextTokens (k next) → AreTextTokens (if_allowed b t k next)
allowed_is true t k next is rest = (is, rest)
allowed_is false t k next is rest = (tt, tt)

placed_is : (p : Place) (t : Token) (before_colon : Bool) (k : Place → List Token) → IsTextToken t → ((next : Place) → AreTextTokens (k next)) → AreTextTokens (place_token p t before_colon k)
placed_is p begin_object before_colon k is rest = allowed_is (may_begin p) begin_object k fresh tt (rest fresh)
placed_is p end_object before_colon k is rest = allowed_is (may_close p) end_object k after_value tt (rest after_value)
placed_is p begin_array before_colon k is rest = allowed_is (may_begin p) begin_array k fresh tt (rest fresh)
placed_is p end_array before_colon k is rest = allowed_is (may_close p) end_array k after_value tt (rest after_value)
placed_is p (key s) before_colon k is rest = (tt, tt)
placed_is p (string s) true k is rest = allowed_is (may_begin p) (key s) k after_key is (rest after_key)
placed_is p (string s) false k is rest = allowed_is (may_begin p) (string s) k after_value is (rest after_value)
placed_is p (number s) before_colon k is rest = allowed_is (may_begin p) (number s) k after_value tt (rest after_value)
placed_is p (boolean b) before_colon k is rest = allowed_is (may_begin p) (boolean b) k after_value tt (rest after_value)
placed_is p null before_colon k is rest = allowed_is (may_begin p) null k after_value tt (rest after_value)
placed_is p bad before_colon k is rest = (tt, tt)

punctuated_is : (ls : List Lexeme) (p : Place) → AreTextLexemes ls → AreTextTokens (punctuate p ls)
unfolding punctuate
punctuated_is [] fresh are = tt
punctuated_is [] after_value are = tt
punctuated_is [] after_comma are = (tt, tt)
punctuated_is [] after_key are = (tt, tt)
punctuated_is (token t ∷ ls) fresh are = placed_is fresh t (begins_colon ls) (λ next. punctuate next ls) are.0 (λ next. punctuated_is ls next are.1)
punctuated_is (token t ∷ ls) after_value are = placed_is after_value t (begins_colon ls) (λ next. punctuate next ls) are.0 (λ next. punctuated_is ls next are.1)
punctuated_is (token t ∷ ls) after_comma are = placed_is after_comma t (begins_colon ls) (λ next. punctuate next ls) are.0 (λ next. punctuated_is ls next are.1)
punctuated_is (token t ∷ ls) after_key are = placed_is after_key t (begins_colon ls) (λ next. punctuate next ls) are.0 (λ next. punctuated_is ls next are.1)
punctuated_is (comma ∷ ls) fresh are = (tt, tt)
punctuated_is (comma ∷ ls) after_value are = punctuated_is ls after_comma are.1
punctuated_is (comma ∷ ls) after_comma are = (tt, tt)
punctuated_is (comma ∷ ls) after_key are = (tt, tt)
punctuated_is (colon ∷ ls) fresh are = (tt, tt)
punctuated_is (colon ∷ ls) after_value are = (tt, tt)
punctuated_is (colon ∷ ls) after_comma are = (tt, tt)
punctuated_is (colon ∷ ls) after_key are = punctuated_is ls fresh are.1

-- the keys and the strings of a UTF-8 text
pub tokens_are : (text : List ℕ) → IsUtf8 text → AreTextTokens (tokens text)
tokens_are text utf8 = punctuated_is (lex between text) fresh (lex_is [] text between utf8)
