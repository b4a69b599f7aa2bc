-- Headers that are written are read again.
use Rattle.std.proofs.Common.{◌≡◌, ℕ, ◌+◌, ◌-◌, Bool, true, false, not, eqb, codes, List, [], ◌∷◌, ◌++◌, length, take, drop, Option, Some, None, Result, Ok, refl, sym, ap, ◌∙◌, arith, append_assoc}
use Rattle.std.proofs.lemmas.Bool.{and_parts, and_from, ne_eqb}
use Rattle.std.proofs.lemmas.List.{get_or_at, length-append, take_at, drop_at}
use Rattle.std.specs.Char.{is_ascii_whitespace}
use Rattle.std.specs.List.{list_all, flat_map, position_or_len, prefix_len, AllByRecursion}
use Rattle.js_base.specs.Results.{◌>>=◌}
use Rattle.js_base.specs.Headers.{pairs, ends_name, is_sendable, is_sendable_header}
use Rattle.std.specs.Str.{is_utf8}
use Rattle.js_base.specs.declared.headers.Header.{Header}
use Rattle.js_base.specs.declared.message.StatusCode.{StatusCode}
use Rattle.js_link_wire.specs.declared.headers.HeaderBlock.{HeaderBlock}
use Rattle.js_link_wire.specs.declared.headers.HeadersDamage.{HeadersDamage}
use Rattle.js_link_wire.specs.declared.headers.HeadersDamage.TheVariants.{NoColon, CutShort}
use Rattle.memchr.specs.Find.{is_byte}
use Rattle.js_link_wire.specs.ServerText.{line_end}
use Rattle.js_link_wire.specs.Written.{header_line, header_text, header_block, ends_line, is_in_line}
use Rattle.js_link_wire.specs.Headers.{trimmed, text_in, cut_at, line_text, name_and_value, header_of, before, headers_in, line_or_end, next_header, status_of, version_of, read_block, IsReadable}
use Rattle.js_link_wire.proofs.InLine.{byte_fails, header_in_line}
use Rattle.js_link_wire.proofs.HeaderSteps.{and_more, headers_step}

-- ---- a front in which no byte passes

place_after : (test : ℕ → Bool) (front : List ℕ) (c : ℕ) (rest : List ℕ) → list_all (λ b. not (test b)) front ≡ true → test c ≡ true → position_or_len test (front ++ c ∷ rest) ≡ length front
place_after test [] c rest none passes = rw passes refl
place_after test (b ∷ front) c rest none passes =
    let parts = and_parts (not (test b)) (list_all (λ (x : ℕ). not (test x)) front) none in
    let later = place_after test front c rest parts.1 passes in
    rw (parts.0, later) (omega arith)

abbrev parted : List ℕ → List ℕ → Result (List ℕ × List ℕ) HeadersDamage
parted front rest = Ok (front, rest)

cut_again : (byte : ℕ) (damage : HeadersDamage) (front rest : List ℕ) → list_all (λ b. not (is_byte byte b)) front ≡ true → is_byte byte byte ≡ true
    → cut_at byte damage (front ++ byte ∷ rest) ≡ Ok (front, rest)
unfolding cut_at
cut_again byte damage front rest none passes =
    let place = place_after (is_byte byte) front byte rest none passes in
    let long = length-append front (byte ∷ rest) in
    let parts : cut_at byte damage (front ++ byte ∷ rest) ≡ Ok (take (length front) (front ++ byte ∷ rest), drop (length front + 1) (front ++ byte ∷ rest)) =
    rw (place, ne_eqb (length front) (length (front ++ byte ∷ rest)) (λ e. omega (arith, long, e))) refl in
    parts
    ∙ ap (λ (x : List ℕ). parted x (drop (length front + 1) (front ++ byte ∷ rest))) (take_at front (byte ∷ rest) (length front) refl)
    ∙ ap (λ (y : List ℕ). parted front y) (ap (λ (whole : List ℕ). drop (length front + 1) whole) (sym (append_assoc front (byte ∷ []) rest)) ∙ drop_at (front ++ byte ∷ []) rest (length front + 1) (length-append front (byte ∷ [])))

-- ---- one header

no_feed : (text : List ℕ) → is_in_line text ≡ true → list_all (λ b. not (is_byte 10 b)) (text ++ 13 ∷ []) ≡ true
no_feed [] h = refl
no_feed (c ∷ text) h = let parts = and_parts _ _ h in and_from _ _ (byte_fails ends_line 10 refl c parts.0) (no_feed text parts.1)

line_again : (text : List ℕ) → line_text (text ++ 13 ∷ []) ≡ Ok text
unfolding line_text
line_again text =
    let long : length (text ++ 13 ∷ []) - 1 ≡ length text = omega (arith, length-append text (13 ∷ [])) in
    rw (long, get_or_at text 13 [] 0 (length text) refl, take_at text (13 ∷ []) (length text) refl) refl

no_colon : (name : List ℕ) → list_all (λ c. not (ends_name c)) name ≡ true → list_all (λ b. not (is_byte 58 b)) name ≡ true
no_colon [] h = refl
no_colon (c ∷ name) h = let parts = and_parts _ _ h in and_from _ _ (byte_fails ends_name 58 refl c parts.0) (no_colon name parts.1)

-- a value of a blank and a text that begins with no white space
value_again : (value : List ℕ) → prefix_len is_ascii_whitespace value ≡ 0 → trimmed (32 ∷ value) ≡ value
unfolding trimmed
value_again value begins = ap (λ (n : ℕ). drop (1 + n) (32 ∷ value)) begins

abbrev pair_of : List ℕ → List ℕ → Result (List ℕ × List ℕ) HeadersDamage
pair_of name value = Ok (name, value)

abbrev pair_in : List ℕ × List ℕ → Result (List ℕ × List ℕ) HeadersDamage
pair_in cut = text_in cut.0 >>= λ name. text_in (trimmed cut.1) >>= pair_of name

utf8_again : (text : List ℕ) → is_utf8 text ≡ true → text_in text ≡ Ok text
unfolding text_in
utf8_again text is = rw is refl

pair_again : (header : Header) → list_all (λ c. not (ends_name c)) header.name ≡ true → IsReadable header → name_and_value (header_text header) ≡ Ok (header.name, header.value)
unfolding name_and_value
pair_again header named is =
    ap (λ (r : Result (List ℕ × List ℕ) HeadersDamage). r >>= pair_in) (cut_again 58 NoColon header.name (32 ∷ header.value) (no_colon header.name named) refl)
    ∙ ap (λ (r : Result (List ℕ) HeadersDamage). r >>= λ name. text_in (trimmed (32 ∷ header.value)) >>= pair_of name) (utf8_again header.name is.name_is)
    ∙ ap (λ (r : Result (List ℕ) HeadersDamage). r >>= pair_of header.name) (ap text_in (value_again header.value is.begins) ∙ utf8_again header.value is.value_is)

header_lines : (header : Header) (rest : List ℕ) → header_line (header.name, header.value) ++ rest ≡ (header_text header ++ 13 ∷ []) ++ 10 ∷ rest
header_lines header rest =
    ap (λ (front : List ℕ). front ++ rest) (sym (append_assoc header.name (58 ∷ 32 ∷ header.value) line_end))
    ∙ append_assoc (header_text header) line_end rest
    ∙ sym (append_assoc (header_text header) (13 ∷ []) (10 ∷ rest))

abbrev found_with : List ℕ → Header → Result (Option (Header × List ℕ)) HeadersDamage
found_with rest header = Ok (Some (header, rest))

abbrev header_with : List ℕ × List ℕ → Result Header HeadersDamage
header_with pair = Ok (record { name = pair.0; value = pair.1 })

filled_line : (rest text : List ℕ) → eqb (length text) 0 ≡ false → line_or_end rest text ≡ (header_of text >>= found_with rest)
filled_line rest text filled = rw filled refl

next_again : (header : Header) (rest : List ℕ) → is_sendable_header header ≡ true → IsReadable header → next_header (header_line (header.name, header.value) ++ rest) ≡ Ok (Some (header, rest))
unfolding next_header
next_again header rest sendable is =
    let text = header_text header in
    let named : list_all (λ c. not (ends_name c)) header.name ≡ true = (and_parts _ _ sendable).0 in
    let filled : eqb (length (header_text header)) 0 ≡ false = ne_eqb (length (header_text header)) 0 (λ e. omega (arith, length-append header.name (58 ∷ 32 ∷ header.value), e)) in
    ap next_header (header_lines header rest)
    ∙ ap (λ (r : Result (List ℕ × List ℕ) HeadersDamage). r >>= λ cut. line_text cut.0 >>= line_or_end cut.1) (cut_again 10 CutShort (text ++ 13 ∷ []) rest (no_feed text (header_in_line header sendable)) refl)
    ∙ ap (λ (r : Result (List ℕ) HeadersDamage). r >>= line_or_end rest) (line_again text)
    ∙ filled_line rest (header_text header) filled
    ∙ ap (λ (r : Result (List ℕ × List ℕ) HeadersDamage). (r >>= header_with) >>= found_with rest) (pair_again header named is)

-- ---- all headers

abbrev headers_text : List Header → List ℕ
headers_text headers = flat_map header_line (pairs headers) ++ line_end

the_end : headers_in line_end ≡ Ok []
unfolding headers_in line_text
the_end = refl

pub headers_again : (headers : List Header) → is_sendable headers ≡ true → AllByRecursion IsReadable headers → headers_in (headers_text headers) ≡ Ok headers
headers_again [] sendable are = the_end
headers_again (header ∷ headers) sendable are =
    let parts = and_parts _ _ sendable in
    ap headers_in (append_assoc (header_line (header.name, header.value)) (flat_map header_line (pairs headers)) line_end)
    ∙ headers_step (header_line (header.name, header.value) ++ headers_text headers)
    ∙ ap (λ (r : Result (Option (Header × List ℕ)) HeadersDamage). r >>= and_more) (next_again header (headers_text headers) parts.0 are.0)
    ∙ ap (λ (r : Result (List Header) HeadersDamage). before header r) (headers_again headers parts.1 are.1)

abbrev block_from : Option StatusCode × Option (List ℕ) → List Header → Result HeaderBlock HeadersDamage
block_from said headers = Ok (record { status = said.0; description = said.1; headers = headers })

abbrev after_cut : List ℕ × List ℕ → Result HeaderBlock HeadersDamage
after_cut cut = line_text cut.0 >>= λ text. version_of text >>= λ said. headers_in cut.1 >>= block_from said

pub block_again : (headers : List Header) → is_sendable headers ≡ true → AllByRecursion IsReadable headers → read_block (header_block headers) ≡ Ok (record { status = None; description = None; headers = headers })
unfolding read_block header_block line_text version_of status_of trimmed
block_again headers sendable are =
    ap (λ (r : Result (List ℕ × List ℕ) HeadersDamage). r >>= after_cut) (cut_again 10 CutShort (codes "NATS/1.0" ++ 13 ∷ []) (headers_text headers) refl refl)
    ∙ ap (λ (r : Result (List Header) HeadersDamage). r >>= block_from (None, None)) (headers_again headers sendable are)
