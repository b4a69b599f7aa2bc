-- The texts of a value that is read from UTF-8 are UTF-8, and so is its compact text.
use Rattle.std.proofs.Common.{◌≡◌, ℕ, zero, suc, ◌^◌, ◌<◌, ◌≤◌, Bool, true, false, ◌&&◌, nat_lt, nat_le, List, [], ◌∷◌, ◌++◌, length, decimal, Option, Some, None, option_map, option_and_then, refl, arith}
use Rattle.std.specs.Prelude.{⊤, pos, negsuc, IfSome, ◌==◌, slice_index, drop, if◌then◌else◌}
use Rattle.std.specs.Ordering.{nat_cmp, match_ordering}
use Rattle.std.specs.Cmp.Lexicographic.{slice_cmp}
use Rattle.std.specs.declared.cmp.Ordering.{Ordering}
use Rattle.std.specs.declared.cmp.Ordering.TheVariants.{Less, Equal, Greater}
use Rattle.std.specs.Float.{binary64, float_is_finite}
use Rattle.std.specs.Str.{IsUtf8}
use Rattle.std.proofs.lemmas.Bool.{and_parts, or_parts, ltb-true, leb-true}
use Rattle.std.proofs.lemmas.Str.{IsUtf8-append}
use Rattle.fast_float.specs.Text.{minus, Parts, scan, digits_of, nearest, with_sign}
use Rattle.json.specs.Token.{Token, begin_object, end_object, begin_array, end_array, key, boolean, null, bad}
use Rattle.json.specs.Token as tokens_of
use Rattle.json.specs.Lex.{tokens}
use Rattle.json.specs.Json as json
use Rattle.json.specs.Print.{quoted}
use Rattle.json.proofs.Printed.Utf8.{IsUtf8-are_ascii, IsUtf8-quoted, IsUtf8-boolean}
use Rattle.serde_json.specs.Data.{Num, unsigned, negative, float, Data, number, string, array, object, Items, no_items, item, Members, no_members, member, put}
use Rattle.serde_json.specs.Data as values
use Rattle.serde_json.specs.Read.{is_integer, float_of, number_from, number_of, of_json, of_items, of_members, read}
use Rattle.serde_json.specs.Find.{is_float}
use Rattle.serde_json.specs.Written.{number_text, compact_text, items_text, members_text, comma_if, has_float, items_have_float, members_have_float}
use Rattle.js_tool_transcript.proofs.Printed.{digits_utf8}
use Rattle.js_tool_transcript.proofs.StringsRead.{AreTextTokens, tokens_are}

-- ---- the grammar

abbrev mutual
  -- each string is UTF-8, keys too
  IsTextJson : json.Json → Type 0
  IsTextJson json.null = ⊤
  IsTextJson (json.boolean b) = ⊤
  IsTextJson (json.number s) = ⊤
  IsTextJson (json.string s) = IsUtf8 s
  IsTextJson (json.array js) = AreTextItems js
  IsTextJson (json.object ms) = AreTextMembers ms

  AreTextItems : json.Items → Type 0
  AreTextItems json.no_items = ⊤
  AreTextItems (json.item j js) = IsTextJson j × AreTextItems js

  AreTextMembers : json.Members → Type 0
  AreTextMembers json.no_members = ⊤
  AreTextMembers (json.member k j ms) = IsUtf8 k × IsTextJson j × AreTextMembers ms

-- what was read is so, and so is what is left
abbrev Leaves : {A : Type 0} → (A → Type 0) → Option (A × List Token) → Type 0
Leaves P o = IfSome o (λ p. P p.0 × AreTextTokens p.1)

-- what a parser reads of such tokens
abbrev Parses : {A : Type 0} → (A → Type 0) → json.Parse A → Type 0
Parses P f = (ts : List Token) → AreTextTokens ts → Leaves P (f ts)

mapped_is : {A B : Type 0} (P : A → Type 0) (Q : B → Type 0) (f : A → B) → ((a : A) → P a → Q (f a)) → (o : Option (A × List Token)) → Leaves P o → Leaves Q (json.parse_map f o)
mapped_is P Q f keeps None is = tt
mapped_is P Q f keeps (Some p) is = (keeps p.0 is.0, is.1)

next_is : {A B : Type 0} (P : A → Type 0) (Q : B → Type 0) (g : A × List Token → Option (B × List Token)) (o : Option (A × List Token)) → Leaves P o
    → ((p : A × List Token) → P p.0 → AreTextTokens p.1 → Leaves Q (g p)) → Leaves Q (option_and_then g o)
next_is P Q g None is next = tt
next_is P Q g (Some p) is next = next p is.0 is.1

value_with_is : (a : json.Parse json.Items) (o : json.Parse json.Members) → Parses AreTextItems a → Parses AreTextMembers o → Parses IsTextJson (json.value_with a o)
value_with_is a o items members [] are = tt
value_with_is a o items members (begin_object ∷ ts) are = mapped_is AreTextMembers IsTextJson json.object (λ ms is. is) (o ts) (members ts are.1)
value_with_is a o items members (end_object ∷ ts) are = tt
value_with_is a o items members (begin_array ∷ ts) are = mapped_is AreTextItems IsTextJson json.array (λ js is. is) (a ts) (items ts are.1)
value_with_is a o items members (end_array ∷ ts) are = tt
value_with_is a o items members (key s ∷ ts) are = tt
value_with_is a o items members (tokens_of.string s ∷ ts) are = are
value_with_is a o items members (tokens_of.number s ∷ ts) are = are
value_with_is a o items members (boolean b ∷ ts) are = are
value_with_is a o items members (null ∷ ts) are = are
value_with_is a o items members (bad ∷ ts) are = tt

after_end_is : (ts : List Token) → AreTextTokens ts → IfSome (json.after_end_array ts) AreTextTokens
after_end_is [] are = tt
after_end_is (begin_object ∷ ts) are = tt
after_end_is (end_object ∷ ts) are = tt
after_end_is (begin_array ∷ ts) are = tt
after_end_is (end_array ∷ ts) are = are.1
after_end_is (key s ∷ ts) are = tt
after_end_is (tokens_of.string s ∷ ts) are = tt
after_end_is (tokens_of.number s ∷ ts) are = tt
after_end_is (boolean b ∷ ts) are = tt
after_end_is (null ∷ ts) are = tt
after_end_is (bad ∷ ts) are = tt

-- a key is UTF-8, where one stands
abbrev IsTextKey : Option (List ℕ) → Type 0
IsTextKey o = IfSome o IsUtf8

key_is : Parses IsTextKey json.read_key
key_is [] are = tt
key_is (begin_object ∷ ts) are = tt
key_is (end_object ∷ ts) are = (tt, are.1)
key_is (begin_array ∷ ts) are = tt
key_is (end_array ∷ ts) are = tt
key_is (key s ∷ ts) are = are
key_is (tokens_of.string s ∷ ts) are = tt
key_is (tokens_of.number s ∷ ts) are = tt
key_is (boolean b ∷ ts) are = tt
key_is (null ∷ ts) are = tt
key_is (bad ∷ ts) are = tt

items_step_is : (value : json.Parse json.Json) (more : json.Parse json.Items) → Parses IsTextJson value → Parses AreTextItems more → (ts : List Token) → AreTextTokens ts
    → (o : Option (List Token)) → IfSome o AreTextTokens → Leaves AreTextItems (json.items_step value more ts o)
items_step_is value more one rest ts are (Some left) is = (tt, is)
items_step_is value more one rest ts are None is =
    next_is IsTextJson AreTextItems (λ p. json.parse_map (json.item p.0) (more p.1)) (value ts) (one ts are)
    (λ p first left. mapped_is AreTextItems AreTextItems (json.item p.0) (λ js is. (first, is)) (more p.1) (rest p.1 left))

items_are : (value : json.Parse json.Json) → Parses IsTextJson value → (n : ℕ) → Parses AreTextItems (json.items value n)
unfolding json.items
items_are value one zero ts are = tt
items_are value one (suc n) ts are =
    items_step_is value (json.items value n) one (items_are value one n) ts are (json.after_end_array ts) (after_end_is ts are)

members_step_is : (value : json.Parse json.Json) (more : json.Parse json.Members) → Parses IsTextJson value → Parses AreTextMembers more
    → (k : Option (List ℕ)) → IsTextKey k → Parses AreTextMembers (json.members_step value more k)
members_step_is value more one rest None is ts are = (tt, are)
members_step_is value more one rest (Some k) is ts are =
    next_is IsTextJson AreTextMembers (λ p. json.parse_map (json.member k p.0) (more p.1)) (value ts) (one ts are)
    (λ p first left. mapped_is AreTextMembers AreTextMembers (json.member k p.0) (λ ms are. (is, first, are)) (more p.1) (rest p.1 left))

members_are : (value : json.Parse json.Json) → Parses IsTextJson value → (n : ℕ) → Parses AreTextMembers (json.members value n)
unfolding json.members
members_are value one zero ts are = tt
members_are value one (suc n) ts are =
    next_is IsTextKey AreTextMembers (λ p. json.members_step value (json.members value n) p.0 p.1) (json.read_key ts) (key_is ts are)
    (λ p first left. members_step_is value (json.members value n) one (members_are value one n) p.0 first p.1 left)

value_is : (depth : ℕ) → Parses IsTextJson (json.value depth)
unfolding json.value
value_is zero ts are = value_with_is (λ ts. None) (λ ts. None) (λ ts are. tt) (λ ts are. tt) ts are
value_is (suc depth) ts are =
    value_with_is (λ ts. json.items (json.value depth) (length ts) ts) (λ ts. json.members (json.value depth) (length ts) ts)
    (λ ts are. items_are (json.value depth) (value_is depth) (length ts) ts are) (λ ts are. members_are (json.value depth) (value_is depth) (length ts) ts are) ts are

-- ---- values

-- a whole number fits 64 bits
abbrev pub IsTextNumber : Num → Type 0
IsTextNumber (unsigned n) = n < 2 ^ 64
IsTextNumber (negative (pos n)) = n < 2 ^ 64
IsTextNumber (negative (negsuc n)) = n < 2 ^ 63
IsTextNumber (float x) = ⊤

abbrev mutual
  -- each text is UTF-8, keys too, and each whole number fits 64 bits
  pub IsTextValue : Data → Type 0
  IsTextValue values.null = ⊤
  IsTextValue (values.boolean b) = ⊤
  IsTextValue (number n) = IsTextNumber n
  IsTextValue (string s) = IsUtf8 s
  IsTextValue (array ds) = AreTextValues ds
  IsTextValue (object ms) = AreTextNamed ms

  pub AreTextValues : Items → Type 0
  AreTextValues no_items = ⊤
  AreTextValues (item d ds) = IsTextValue d × AreTextValues ds

  pub AreTextNamed : Members → Type 0
  AreTextNamed no_members = ⊤
  AreTextNamed (member k d ms) = IsUtf8 k × IsTextValue d × AreTextNamed ms

float_is : (sign : Bool) (p : Parts) → IfSome (float_of sign p) IsTextNumber
float_is sign p = by_test (float_is_finite (nearest binary64 sign p))
  where
    by_test : (b : Bool) → IfSome (if b then Some (float (nearest binary64 sign p)) else None) IsTextNumber
    by_test true = tt
    by_test false = tt

negative_is : (n : ℕ) → 0 < n → n ≤ 2 ^ 63 → IsTextNumber (negative (with_sign true n))
negative_is zero above within = absurd (omega arith)
negative_is (suc n) above within = let low : n < 2 ^ 63 = omega arith in low

number_from_is : (sign : Bool) (p : Parts) → IfSome (number_from sign p) IsTextNumber
number_from_is false p = by_test (is_integer p && nat_lt (digits_of p) (2 ^ 64)) refl
  where
    by_test : (b : Bool) → (is_integer p && nat_lt (digits_of p) (2 ^ 64)) ≡ b → IfSome (if b then Some (unsigned (digits_of p)) else float_of false p) IsTextNumber
    by_test true is = ltb-true (digits_of p) (2 ^ 64) (and_parts (is_integer p) (nat_lt (digits_of p) (2 ^ 64)) is).1
    by_test false is = float_is false p
number_from_is true p = by_test (is_integer p && nat_lt 0 (digits_of p) && nat_le (digits_of p) (2 ^ 63)) refl
  where
    by_test : (b : Bool) → (is_integer p && nat_lt 0 (digits_of p) && nat_le (digits_of p) (2 ^ 63)) ≡ b
        → IfSome (if b then Some (negative (with_sign true (digits_of p))) else float_of true p) IsTextNumber
    by_test true is =
        let both = and_parts (is_integer p && nat_lt 0 (digits_of p)) (nat_le (digits_of p) (2 ^ 63)) is in
        let above = and_parts (is_integer p) (nat_lt 0 (digits_of p)) both.0 in
        negative_is (digits_of p) (ltb-true 0 (digits_of p) above.1) (leb-true (digits_of p) (2 ^ 63) both.1)
    by_test false is = float_is true p

number_is : (s : List ℕ) → IfSome (number_of s) IsTextNumber
unfolding number_of
number_is s = by_test (slice_index s 0 == minus)
  where
    by_test : (b : Bool) → IfSome (if b then number_from true (scan (drop 1 s)) else number_from false (scan s)) IsTextNumber
    by_test true = number_from_is true (scan (drop 1 s))
    by_test false = number_from_is false (scan s)

-- a member goes in among others
put_is : (k : List ℕ) (d : Data) (ms : Members) → IsUtf8 k → IsTextValue d → AreTextNamed ms → AreTextNamed (put k d ms)
put_is k d no_members name is are = (name, is, tt)
put_is k d (member l e ms) name is are = by_order (slice_cmp nat_cmp k l) (put_is k d ms name is are.2)
  where
    by_order : (o : Ordering) → AreTextNamed (put k d ms) → AreTextNamed (match_ordering o (member k d (member l e ms)) (member l d ms) (member l e (put k d ms)))
    by_order Less rest = (name, is, are)
    by_order Equal rest = (are.0, is, are.2)
    by_order Greater rest = (are.0, are.1, rest)

held : {A B : Type 0} (P : A → Type 0) (Q : B → Type 0) (f : A → B) → ((a : A) → P a → Q (f a)) → (o : Option A) → IfSome o P → IfSome (option_map f o) Q
held P Q f keeps None is = tt
held P Q f keeps (Some a) is = keeps a is

led : {A B : Type 0} (P : A → Type 0) (Q : B → Type 0) (f : A → Option B) → ((a : A) → P a → IfSome (f a) Q) → (o : Option A) → IfSome o P → IfSome (option_and_then f o) Q
led P Q f next None is = tt
led P Q f next (Some a) is = next a is

mutual
  of_json_is : (j : json.Json) → IsTextJson j → IfSome (of_json j) IsTextValue
  of_json_is json.null is = tt
  of_json_is (json.boolean b) is = tt
  of_json_is (json.number s) is = held IsTextNumber IsTextValue number (λ n fits. fits) (number_of s) (number_is s)
  of_json_is (json.string s) is = is
  of_json_is (json.array js) is = held AreTextValues IsTextValue array (λ ds are. are) (of_items js) (of_items_are js is)
  of_json_is (json.object ms) is = held AreTextNamed IsTextValue object (λ ms are. are) (of_members ms no_members) (of_members_are ms no_members is tt)

  of_items_are : (js : json.Items) → AreTextItems js → IfSome (of_items js) AreTextValues
  of_items_are json.no_items are = tt
  of_items_are (json.item j js) are =
      let rest = of_items_are js are.1 in
      led IsTextValue AreTextValues (λ d. option_map (item d) (of_items js)) (λ d is. held AreTextValues AreTextValues (item d) (λ ds more. (is, more)) (of_items js) rest) (of_json j) (of_json_is j are.0)

  of_members_are : (ms : json.Members) (found : Members) → AreTextMembers ms → AreTextNamed found → IfSome (of_members ms found) AreTextNamed
  of_members_are json.no_members found are so_far = so_far
  of_members_are (json.member k j ms) found are so_far =
      led IsTextValue AreTextNamed (λ d. of_members ms (put k d found)) (λ d is. of_members_are ms (put k d found) are.2 (put_is k d found are.0 is so_far)) (of_json j) (of_json_is j are.1)

last_is : (j : json.Json) (ts : List Token) → IsTextJson j → IfSome (json.if_last j ts) IsTextJson
last_is j [] is = is
last_is j (t ∷ ts) is = tt

-- the value that UTF-8 is read as
pub read_is : (text : List ℕ) → IsUtf8 text → IfSome (read text) IsTextValue
read_is text utf8 =
    led IsTextJson IsTextValue of_json of_json_is (option_and_then (λ p. json.if_last p.0 p.1) (json.value 127 (tokens text)))
    (last_of (json.value 127 (tokens text)) (value_is 127 (tokens text) (tokens_are text utf8)))
  where
    last_of : (o : Option (json.Json × List Token)) → Leaves IsTextJson o → IfSome (option_and_then (λ p. json.if_last p.0 p.1) o) IsTextJson
    last_of None leaves = tt
    last_of (Some p) leaves = last_is p.0 p.1 leaves.0

-- ---- compact texts

number_utf8 : (n : Num) → is_float n ≡ false → IsTextNumber n → IsUtf8 (number_text n)
number_utf8 (unsigned n) whole is = digits_utf8 n is
number_utf8 (negative (pos n)) whole is = digits_utf8 n is
number_utf8 (negative (negsuc n)) whole is = IsUtf8-append (45 ∷ []) (decimal (suc n)) (IsUtf8-are_ascii (45 ∷ []) refl) (digits_utf8 (suc n) (omega arith))
number_utf8 (float x) whole is = cc

comma_utf8 : (later : Bool) → IsUtf8 (comma_if later)
comma_utf8 true = IsUtf8-are_ascii (44 ∷ []) refl
comma_utf8 false = IsUtf8-are_ascii [] refl

mutual
  pub text_utf8 : (d : Data) → has_float d ≡ false → IsTextValue d → IsUtf8 (compact_text d)
  text_utf8 values.null whole is = IsUtf8-are_ascii _ refl
  text_utf8 (values.boolean b) whole is = IsUtf8-boolean b
  text_utf8 (number n) whole is = number_utf8 n whole is
  text_utf8 (string s) whole is = IsUtf8-quoted s is
  text_utf8 (array ds) whole is = IsUtf8-append (91 ∷ []) (items_text false ds) (IsUtf8-are_ascii (91 ∷ []) refl) (items_utf8 false ds whole is)
  text_utf8 (object ms) whole is = IsUtf8-append (123 ∷ []) (members_text false ms) (IsUtf8-are_ascii (123 ∷ []) refl) (members_utf8 false ms whole is)

  items_utf8 : (later : Bool) (ds : Items) → items_have_float ds ≡ false → AreTextValues ds → IsUtf8 (items_text later ds)
  items_utf8 later no_items whole are = IsUtf8-are_ascii (93 ∷ []) refl
  items_utf8 later (item d ds) whole are =
      let none = or_parts (has_float d) (items_have_float ds) whole in
      IsUtf8-append (comma_if later) (compact_text d ++ items_text true ds) (comma_utf8 later)
      (IsUtf8-append (compact_text d) (items_text true ds) (text_utf8 d none.0 are.0) (items_utf8 true ds none.1 are.1))

  members_utf8 : (later : Bool) (ms : Members) → members_have_float ms ≡ false → AreTextNamed ms → IsUtf8 (members_text later ms)
  members_utf8 later no_members whole are = IsUtf8-are_ascii (125 ∷ []) refl
  members_utf8 later (member k d ms) whole are =
      let none = or_parts (has_float d) (members_have_float ms) whole in
      IsUtf8-append (comma_if later) (quoted k ++ 58 ∷ (compact_text d ++ members_text true ms)) (comma_utf8 later)
      (IsUtf8-append (quoted k) (58 ∷ (compact_text d ++ members_text true ms)) (IsUtf8-quoted k are.0)
      (IsUtf8-append (58 ∷ []) (compact_text d ++ members_text true ms) (IsUtf8-are_ascii (58 ∷ []) refl)
      (IsUtf8-append (compact_text d) (members_text true ms) (text_utf8 d none.0 are.1) (members_utf8 true ms none.1 are.2))))
