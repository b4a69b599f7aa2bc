-- What the compact text of a value is: on one line, UTF-8, and read as the value.
use Rattle.std.proofs.Common.{◌≡◌, ℕ, zero, suc, ◌^◌, ◌<◌, ◌≤◌, ◌==◌, Bool, true, false, not, ◌&&◌, nat_lt, List, [], ◌∷◌, ◌++◌, decimal, inl, inr, Some, Ok, refl, sym, ap, ◌∙◌, arith}
use Rattle.std.specs.Prelude.{⊤}
use Rattle.std.specs.Int.{IsInRange}
use Rattle.std.specs.Str.{IsUtf8}
use Rattle.std.specs.Str.Parse.{AllDigits}
use Rattle.std.proofs.lemmas.Bool.{and_parts, cases_lt, cases_eq}
use Rattle.std.proofs.lemmas.Fmt.{decimal_is_IsNumeral}
use Rattle.std.proofs.lemmas.Str.{IsUtf8-append, is_utf8-from_IsUtf8}
use Rattle.std.proofs.lemmas.Str.Parse.{digit_from_value}
use Rattle.json.specs.Print.{escape_byte, escape, quoted}
use Rattle.json.specs.Tree.{depth, HasNumbers, ItemsHaveNumbers, MembersHaveNumbers}
use Rattle.json.proofs.Printed.Decimals.{IsNumber-decimal}
use Rattle.json.proofs.Printed.Strings.{escape_byte_plain}
use Rattle.json.proofs.Printed.Utf8.{IsUtf8-are_ascii, IsUtf8-quoted, IsUtf8-boolean}
use Rattle.serde_json.specs.Data.{Data, null, boolean, unsigned, negative, float, number, string, array, object, Items, no_items, item, Members, no_members, member}
use Rattle.serde_json.specs.Read.{read, of_json}
use Rattle.serde_json.specs.Written.{outline, items_outline, members_outline, compact_text, items_text, members_text, has_float, items_have_float, members_have_float}
use Rattle.serde_json.proofs.Texts.{print-outline}
use Rattle.js_json_members.specs.Member.{float_free}
use Rattle.js_json_members.specs.Value.{value_of}
use Rattle.js_tool_io.specs.Lines.{lines_of}
use Rattle.js_tool_transcript.proofs.Printed.{digits_utf8, read_printed}

-- ---- values of texts, of whole numbers and of booleans

abbrev mutual
  -- each text is so, keys too, each number fits 64 bits, and no null and no float stands there
  pub IsSimple : (List ℕ → Type 0) → Data → Type 0
  IsSimple Q null = ⊥
  IsSimple Q (boolean b) = ⊤
  IsSimple Q (number (unsigned n)) = n < 2 ^ 64
  IsSimple Q (number (negative z)) = ⊥
  IsSimple Q (number (float x)) = ⊥
  IsSimple Q (string s) = Q s
  IsSimple Q (array ds) = ItemsAreSimple Q ds
  IsSimple Q (object ms) = MembersAreSimple Q ms

  pub ItemsAreSimple : (List ℕ → Type 0) → Items → Type 0
  ItemsAreSimple Q no_items = ⊤
  ItemsAreSimple Q (item d ds) = IsSimple Q d × ItemsAreSimple Q ds

  pub MembersAreSimple : (List ℕ → Type 0) → Members → Type 0
  MembersAreSimple Q no_members = ⊤
  MembersAreSimple Q (member k d ms) = Q k × (IsSimple Q d × MembersAreSimple Q ms)

-- what holds of brackets, of quoted texts and of numbers, and of joined texts, holds of the text of such a value
module _ (P Q : List ℕ → Type 0) (joined : (xs ys : List ℕ) → P xs → P ys → P (xs ++ ys)) (mark : (x : ℕ) → nat_lt x 128 ≡ true → (x == 10) ≡ false → P (x ∷ []))
    (quotes : (s : List ℕ) → Q s → P (quoted s)) (digits : (n : ℕ) → n < 2 ^ 64 → P (decimal n)) (truth : (b : Bool) → P (compact_text (boolean b))) where
  member_is : (k text rest : List ℕ) → Q k → P text → P rest → P (quoted k ++ 58 ∷ (text ++ rest))
  member_is k text rest h t r = joined (quoted k) (58 ∷ (text ++ rest)) (quotes k h) (joined (58 ∷ []) (text ++ rest) (mark 58 refl refl) (joined text rest t r))

  mutual
    pub text_is : (d : Data) → IsSimple Q d → P (compact_text d)
    text_is null h = absurd h
    text_is (boolean b) h = truth b
    text_is (number (unsigned n)) h = digits n h
    text_is (number (negative z)) h = absurd h
    text_is (number (float x)) h = absurd h
    text_is (string s) h = quotes s h
    text_is (array ds) h = joined (91 ∷ []) (items_text false ds) (mark 91 refl refl) (items_are false ds h)
    text_is (object ms) h = joined (123 ∷ []) (members_text false ms) (mark 123 refl refl) (members_are false ms h)

    items_are : (later : Bool) (ds : Items) → ItemsAreSimple Q ds → P (items_text later ds)
    items_are later no_items h = mark 93 refl refl
    items_are false (item d ds) h = joined (compact_text d) (items_text true ds) (text_is d h.0) (items_are true ds h.1)
    items_are true (item d ds) h =
        joined (44 ∷ []) (compact_text d ++ items_text true ds) (mark 44 refl refl) (joined (compact_text d) (items_text true ds) (text_is d h.0) (items_are true ds h.1))

    members_are : (later : Bool) (ms : Members) → MembersAreSimple Q ms → P (members_text later ms)
    members_are later no_members h = mark 125 refl refl
    members_are false (member k d ms) h = member_is k (compact_text d) (members_text true ms) h.0 (text_is d h.1.0) (members_are true ms h.1.1)
    members_are true (member k d ms) h =
        joined (44 ∷ []) (quoted k ++ 58 ∷ (compact_text d ++ members_text true ms)) (mark 44 refl refl) (member_is k (compact_text d) (members_text true ms) h.0 (text_is d h.1.0) (members_are true ms h.1.1))

-- ---- UTF-8

one_utf8 : (x : ℕ) → nat_lt x 128 ≡ true → (x == 10) ≡ false → IsUtf8 (x ∷ [])
one_utf8 x small other = IsUtf8-are_ascii (x ∷ []) (rw small refl)

-- the text is UTF-8 where its texts are
pub text_utf8 : (d : Data) → IsSimple IsUtf8 d → IsUtf8 (compact_text d)
text_utf8 d h = text_is IsUtf8 IsUtf8 IsUtf8-append one_utf8 IsUtf8-quoted digits_utf8 IsUtf8-boolean d h

-- ---- one line

-- none of the bytes is a line feed
abbrev pub IsOneLine : List ℕ → Type 0
IsOneLine [] = ⊤
IsOneLine (b ∷ bytes) = ((b == 10) ≡ false) × IsOneLine bytes

lines_joined : (xs ys : List ℕ) → IsOneLine xs → IsOneLine ys → IsOneLine (xs ++ ys)
lines_joined [] ys h k = k
lines_joined (b ∷ xs) ys h k = (h.0, lines_joined xs ys h.1 k)

one_byte : (x : ℕ) → nat_lt x 128 ≡ true → (x == 10) ≡ false → IsOneLine (x ∷ [])
one_byte x small other = (other, tt)

abbrev has_no_feed : List ℕ → Bool
has_no_feed [] = true
has_no_feed (b ∷ bytes) = not (b == 10) && has_no_feed bytes

not_true : (b : Bool) → not b ≡ true → b ≡ false
not_true true e = cc
not_true false e = refl

no_feed_line : (bytes : List ℕ) → has_no_feed bytes ≡ true → IsOneLine bytes
no_feed_line [] e = tt
no_feed_line (b ∷ bytes) e = let p = and_parts _ _ e in (not_true (b == 10) p.0, no_feed_line bytes p.1)

-- the escapes of the bytes below n have none
abbrev escapes_below : ℕ → Bool
escapes_below zero = true
escapes_below (suc n) = has_no_feed (escape_byte n) && escapes_below n

escape_below : (n : ℕ) → escapes_below n ≡ true → (x : ℕ) → x < n → has_no_feed (escape_byte x) ≡ true
escape_below zero e x h = absurd (omega arith)
escape_below (suc n) e x h =
    let p = and_parts _ _ e in
    elim (cases_eq x n) [ inl same ↦ rw same p.0 | inr other ↦ escape_below n p.1 x (omega arith) ]

all_below : escapes_below 128 ≡ true
unfolding escape_byte
all_below = refl

is_other : (x : ℕ) → 128 ≤ x → (x == 10) ≡ false
is_other x high = elim (cases_eq x 10) [ inl same ↦ absurd (omega arith) | inr other ↦ grind arith ]

escaped_line : (x : ℕ) → IsOneLine (escape_byte x)
escaped_line x = elim (cases_lt x 128) [
  | inl small ↦ no_feed_line (escape_byte x) (escape_below 128 all_below x small)
  | inr high ↦ rw (escape_byte_plain x (λ e. omega arith) (λ e. omega arith) (omega arith)) (is_other x high, tt)
]

escape_line : (s : List ℕ) → IsOneLine (escape s)
escape_line [] = tt
escape_line (x ∷ s) = lines_joined (escape_byte x) (escape s) (escaped_line x) (escape_line s)

quoted_line : (s : List ℕ) → ⊤ → IsOneLine (quoted s)
quoted_line s h = (refl, lines_joined (escape s) (34 ∷ []) (escape_line s) (refl, tt))

digits_line : (ds : List ℕ) → AllDigits 10 ds → IsOneLine ds
digits_line [] h = tt
digits_line (c ∷ cs) h =
    let range : IsInRange 48 57 c = digit_from_value c h.0 in
    let other : (c == 10) ≡ false = grind arith in
    (other, digits_line cs h.1)

number_line : (n : ℕ) → n < 2 ^ 64 → IsOneLine (decimal n)
number_line n small = digits_line (decimal n) (decimal_is_IsNumeral n small).0.1

truth_line : (b : Bool) → IsOneLine (compact_text (boolean b))
truth_line true = no_feed_line (compact_text (boolean true)) refl
truth_line false = no_feed_line (compact_text (boolean false)) refl

-- no line feed stands in the text
pub text_line : (d : Data) → IsSimple (λ s. ⊤) d → IsOneLine (compact_text d)
text_line d h = text_is IsOneLine (λ s. ⊤) lines_joined one_byte quoted_line number_line truth_line d h

mutual
  pub simple_line : (d : Data) → IsSimple IsUtf8 d → IsSimple (λ s. ⊤) d
  simple_line null h = h
  simple_line (boolean b) h = h
  simple_line (number (unsigned n)) h = h
  simple_line (number (negative z)) h = h
  simple_line (number (float x)) h = h
  simple_line (string s) h = tt
  simple_line (array ds) h = simple_items ds h
  simple_line (object ms) h = simple_members ms h

  simple_items : (ds : Items) → ItemsAreSimple IsUtf8 ds → ItemsAreSimple (λ s. ⊤) ds
  simple_items no_items h = h
  simple_items (item d ds) h = (simple_line d h.0, simple_items ds h.1)

  simple_members : (ms : Members) → MembersAreSimple IsUtf8 ms → MembersAreSimple (λ s. ⊤) ms
  simple_members no_members h = h
  simple_members (member k d ms) h = (tt, (simple_line d h.1.0, simple_members ms h.1.1))

-- it is the first line of what follows
pub line_cut : (line rest : List ℕ) → IsOneLine line → lines_of (line ++ 10 ∷ rest) ≡ line ∷ lines_of rest
line_cut [] rest h = refl
line_cut (b ∷ line) rest h = rw (h.0, line_cut line rest h.1) refl

-- ---- reading

mutual
  has_numbers : (d : Data) → IsSimple IsUtf8 d → HasNumbers (outline d)
  has_numbers null h = absurd h
  has_numbers (boolean b) h = tt
  has_numbers (number (unsigned n)) h = IsNumber-decimal n h
  has_numbers (number (negative z)) h = absurd h
  has_numbers (number (float x)) h = absurd h
  has_numbers (string s) h = tt
  has_numbers (array ds) h = items_have_numbers ds h
  has_numbers (object ms) h = members_have_numbers ms h

  items_have_numbers : (ds : Items) → ItemsAreSimple IsUtf8 ds → ItemsHaveNumbers (items_outline ds)
  items_have_numbers no_items h = tt
  items_have_numbers (item d ds) h = (has_numbers d h.0, items_have_numbers ds h.1)

  members_have_numbers : (ms : Members) → MembersAreSimple IsUtf8 ms → MembersHaveNumbers (members_outline ms)
  members_have_numbers no_members h = tt
  members_have_numbers (member k d ms) h = (has_numbers d h.1.0, members_have_numbers ms h.1.1)

-- the text of such a value is read as what its outline says
pub text_read : (d : Data) → IsSimple IsUtf8 d → depth (outline d) ≤ 127 → read (compact_text d) ≡ of_json (outline d)
text_read d simple shallow = ap read (sym (print-outline d)) ∙ read_printed (outline d) (has_numbers d simple) shallow

-- ---- no float

mutual
  pub simple_float_free : (d : Data) → IsSimple IsUtf8 d → has_float d ≡ false
  simple_float_free null h = absurd h
  simple_float_free (boolean b) h = refl
  simple_float_free (number (unsigned n)) h = refl
  simple_float_free (number (negative z)) h = absurd h
  simple_float_free (number (float x)) h = absurd h
  simple_float_free (string s) h = refl
  simple_float_free (array ds) h = items_float_free ds h
  simple_float_free (object ms) h = members_float_free ms h

  items_float_free : (ds : Items) → ItemsAreSimple IsUtf8 ds → items_have_float ds ≡ false
  items_float_free no_items h = refl
  items_float_free (item d ds) h = rw (simple_float_free d h.0) (items_float_free ds h.1)

  members_float_free : (ms : Members) → MembersAreSimple IsUtf8 ms → members_have_float ms ≡ false
  members_float_free no_members h = refl
  members_float_free (member k d ms) h = rw (simple_float_free d h.1.0) (members_float_free ms h.1.1)

-- ---- a whole value

-- the text of a value is read as what its outline says
pub value_reads_as : (d said : Data) → IsSimple IsUtf8 d → depth (outline d) ≤ 127 → of_json (outline d) ≡ Some said → has_float said ≡ false → value_of (compact_text d) ≡ Ok said
unfolding value_of float_free
value_reads_as d said simple shallow says whole =
    rw (is_utf8-from_IsUtf8 (compact_text d) (text_utf8 d simple), text_read d simple shallow, says, whole) refl

-- and as the value itself, where its members are in order
pub value_reads : (d : Data) → IsSimple IsUtf8 d → depth (outline d) ≤ 127 → of_json (outline d) ≡ Some d → value_of (compact_text d) ≡ Ok d
value_reads d simple shallow same = value_reads_as d d simple shallow same (simple_float_free d simple)
