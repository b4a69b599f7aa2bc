-- What a server writes is read again.
use Rattle.std.proofs.Common.{◌≡◌, ℕ, inl, inr, ◌+◌, ◌-◌, ◌<◌, ◌≤◌, ◌^◌, Bool, true, false, cond, eqb, List, [], ◌∷◌, ◌++◌, length, get_or, drop, Option, Some, None, Result, Ok, Err, refl, sym, ap, ◌∙◌, arith, append_assoc, All}
use Rattle.std.specs.Fmt.{decimal}
use Rattle.std.specs.Str.{is_utf8}
use Rattle.std.specs.Str.Parse.{without_leading_plus, ParsesUnsigned}
use Rattle.std.proofs.lemmas.Bool.{cases_lt, lt-ltb, le-ltb, ne_eqb}
use Rattle.std.proofs.lemmas.Fmt.{decimal_is_IsNumeral}
use Rattle.std.proofs.lemmas.Str.Parse.{digit_at}
use Rattle.std.proofs.lemmas.List.{get_or_append_left, get_or_at, get_or-append-add, get_or_default, length-append, take_at, drop_at}
use Rattle.std.proofs.lemmas.List.Sums.{position_or_len_is}
use Rattle.std.proofs.lemmas.List.Splits.{slice_split_at, slice_split_none}
use Rattle.js_base.specs.Results.{◌>>=◌}
use Rattle.js_base.specs.Numeral.{unsigned_of}
use Rattle.js_base.proofs.Numeral.{unsigned_of-parse}
use Rattle.js_link_wire.specs.declared.damage.Damage.TheVariants.{BadNumber}
use Rattle.js_link_wire.specs.declared.damage.Unread.{Unread}
use Rattle.js_link_wire.specs.declared.damage.Unread.TheVariants.{Damaged}
use Rattle.js_link_wire.specs.declared.frame.ServerFrame.{ServerFrame}
use Rattle.js_link_wire.specs.declared.frame.ServerFrame.TheVariants.{Info, Message, HeaderedMessage, Ping, Pong, Taken, Refused}
use Rattle.js_link_wire.specs.declared.first_frame.Reading.TheVariants as readings
use Rattle.js_link_wire.specs.Lines.{is_feed, line_limit, line_at, without_return, text_of}
use Rattle.js_link_wire.specs.Words.{is_blank, parts, words, some_number, number_of}
use Rattle.js_link_wire.specs.Messages.{Line, HeaderedLine, line_of, head_of, headered_line_of, headered_of, body_at, message_of, headered_message_of}
use Rattle.js_link_wire.specs.FirstFrame.{said, frame_of, first_frame, reading_of, read}
use Rattle.js_link_wire.specs.ServerText.{spaced, addressed, server_line, line_end, server_body, server_text, longest, IsWord, IsMessage, HasParts, IsFrame}
use Rattle.js_link_wire.proofs.Feeds.{feed_place, cut_at}
use Rattle.js_link_wire.proofs.Stable.{cut_is, message_with, headered_with, counted, after_line}

-- ---- the line

-- a front without a feed is the first line
cut_again : (front rest : List ℕ) → All (λ c. is_feed c ≡ false) front → length front < line_limit (front ++ 10 ∷ rest) → line_at (front ++ 10 ∷ rest) ≡ Ok (front, rest)
cut_again front rest none few =
    let long = length-append front (10 ∷ rest) in
    let place : feed_place (front ++ 10 ∷ rest) ≡ length front =
    position_or_len_is is_feed (front ++ 10 ∷ rest) (length front) 0 (omega arith)
    (λ k below. rw (get_or_append_left front (10 ∷ rest) 0 k below) (none k 0 below))
    (λ _. rw (get_or_at front 10 rest 0 (length front) refl) refl) in
    cut_at (front ++ 10 ∷ rest) (length front) place few (omega arith)
    ∙ ap (λ (x : List ℕ). cut_is x (drop (length front + 1) (front ++ 10 ∷ rest))) (take_at front (10 ∷ rest) (length front) refl)
    ∙ ap (λ (y : List ℕ). cut_is front y) (ap (λ (whole : List ℕ). drop (length front + 1) whole) (sym (append_assoc front (10 ∷ []) rest)) ∙ drop_at (front ++ 10 ∷ []) rest (length front + 1) (length-append front (10 ∷ [])))

text_again : (line : List ℕ) → is_utf8 line ≡ true → text_of (line ++ 13 ∷ []) ≡ Ok line
unfolding text_of without_return
text_again line utf8 =
    let long : length (line ++ 13 ∷ []) - 1 ≡ length line = omega (arith, length-append line (13 ∷ [])) in
    rw (long, get_or_at line 13 [] 0 (length line) refl, take_at line (13 ∷ []) (length line) refl) (rw utf8 refl)

-- ---- words and numbers

word_then : (word rest : List ℕ) → IsWord word → words (spaced word rest) ≡ word ∷ words rest
word_then word rest is =
    rw (slice_split_at is_blank word 32 rest is.whole refl, lt-ltb 0 (length word) is.filled) refl

word_last : (word : List ℕ) → IsWord word → words word ≡ word ∷ []
word_last word is = rw (slice_split_none is_blank word is.whole, lt-ltb 0 (length word) is.filled) refl

decimal_word : (n : ℕ) → n < 2 ^ 64 → IsWord (decimal n)
decimal_word n fits =
    let numeral = (decimal_is_IsNumeral n fits).0 in
    record {
      filled = numeral.0;
      whole = λ k d low. let digit = digit_at (decimal n) k numeral.1 low in let same = get_or_default (decimal n) k d 0 low in ne_eqb _ _ (λ e. omega (arith, digit, same, e));
    }

abbrev value : ℕ → Result ℕ Unread
value n = Ok n

number_again : (n : ℕ) → n < 2 ^ 64 → number_of (decimal n) ≡ Ok n
unfolding number_of
number_again n fits =
    let numeral = decimal_is_IsNumeral n fits in
    let digit = digit_at (decimal n) 0 numeral.0.1 numeral.0.0 in
    let no_sign : eqb (get_or (decimal n) 0 0) 43 ≡ false = ne_eqb _ _ (λ e. omega (arith, digit, e)) in
    let plain : without_leading_plus (decimal n) ≡ decimal n = rw no_sign refl in
    let parsed : ParsesUnsigned 64 10 (decimal n) (value n) = rw plain ((numeral.0, omega (arith, numeral.1)), sym numeral.1) in
    ap (λ (b : Bool). cond b (Err (Damaged BadNumber)) (some_number (unsigned_of 64 (decimal n)))) no_sign ∙ ap some_number (sym (unsigned_of-parse {E = Unread} 64 (decimal n) (value n) parsed))

-- ---- messages

abbrev found : ServerFrame → ℕ → Result (ServerFrame × ℕ) Unread
found frame count = Ok (frame, count)

body_again : (most : ℕ) (body rest : List ℕ) → length body ≤ most → body_at most (length body) ((body ++ line_end) ++ rest) ≡ Ok body
unfolding body_at
body_again most body rest fits =
    let whole : (body ++ line_end) ++ rest ≡ body ++ (13 ∷ 10 ∷ rest) = append_assoc body line_end rest in
    let long : length body + 2 ≤ length (body ++ (13 ∷ 10 ∷ rest)) = omega (arith, length-append body (13 ∷ 10 ∷ rest)) in
    rw (whole, le-ltb most (length body) fits, le-ltb (length (body ++ (13 ∷ 10 ∷ rest))) (length body + 2) long, get_or_at body 13 (10 ∷ rest) 0 (length body) refl, get_or-append-add body (13 ∷ 10 ∷ rest) 1 0, take_at body (13 ∷ 10 ∷ rest) (length body) refl) refl

words_again : (subject : List ℕ) (n : ℕ) (lengths : List ℕ) → IsWord subject → n < 2 ^ 64 → words (addressed subject n None lengths) ≡ subject ∷ decimal n ∷ words lengths
words_again subject n lengths is fits =
    word_then subject (spaced (decimal n) lengths) is ∙ ap (λ (ws : List (List ℕ)). subject ∷ ws) (word_then (decimal n) lengths (decimal_word n fits))

words_with_reply : (subject : List ℕ) (n : ℕ) (reply lengths : List ℕ) → IsWord subject → n < 2 ^ 64 → IsWord reply → words (addressed subject n (Some reply) lengths) ≡ subject ∷ decimal n ∷ reply ∷ words lengths
words_with_reply subject n reply lengths is fits is-reply =
    word_then subject (spaced (decimal n) (spaced reply lengths)) is
    ∙ ap (λ (ws : List (List ℕ)). subject ∷ ws) (word_then (decimal n) (spaced reply lengths) (decimal_word n fits) ∙ ap (λ (ws : List (List ℕ)). decimal n ∷ ws) (word_then reply lengths is-reply))

line_again : (subject : List ℕ) (n : ℕ) (reply : Option (List ℕ)) (count : ℕ) → n < 2 ^ 64 → count < 2 ^ 64
    → line_of subject (decimal n) reply (decimal count) ≡ Ok (record { subject = subject; subscription = n; reply = reply; length = count })
unfolding line_of
line_again subject n reply count fits count-fits = rw (number_again n fits, number_again count count-fits) refl

head_again : (most : ℕ) (subject : List ℕ) (n : ℕ) (reply : Option (List ℕ)) (count : ℕ) → most < 2 ^ 64 → IsMessage most subject n reply count
    → head_of (words (addressed subject n reply (decimal count))) ≡ Ok (record { subject = subject; subscription = n; reply = reply; length = count })
head_again most subject n None count small is =
    let count-fits : count < 2 ^ 64 = omega (arith, is.body_fits) in
    ap head_of (words_again subject n (decimal count) is.subject_is is.number_fits ∙ ap (λ (ws : List (List ℕ)). subject ∷ decimal n ∷ ws) (word_last (decimal count) (decimal_word count count-fits)))
    ∙ line_again subject n None count is.number_fits count-fits
head_again most subject n (Some reply) count small is =
    let count-fits : count < 2 ^ 64 = omega (arith, is.body_fits) in
    ap head_of (words_with_reply subject n reply (decimal count) is.subject_is is.number_fits is.reply_is ∙ ap (λ (ws : List (List ℕ)). subject ∷ decimal n ∷ reply ∷ ws) (word_last (decimal count) (decimal_word count count-fits)))
    ∙ line_again subject n (Some reply) count is.number_fits count-fits

two_words : (headers count : ℕ) → headers < 2 ^ 64 → count < 2 ^ 64 → words (spaced (decimal headers) (decimal count)) ≡ decimal headers ∷ decimal count ∷ []
two_words headers count headers-fit count-fits =
    word_then (decimal headers) (decimal count) (decimal_word headers headers-fit) ∙ ap (λ (ws : List (List ℕ)). decimal headers ∷ ws) (word_last (decimal count) (decimal_word count count-fits))

headered_line_again : (subject : List ℕ) (n : ℕ) (reply : Option (List ℕ)) (headers count : ℕ) → n < 2 ^ 64 → count < 2 ^ 64 → headers ≤ count
    → headered_line_of subject (decimal n) reply (decimal headers) (decimal count) ≡ Ok (record { line = record { subject = subject; subscription = n; reply = reply; length = count }; headers = headers })
unfolding headered_line_of
headered_line_again subject n reply headers count fits count-fits part =
    rw (line_again subject n reply count fits count-fits, number_again headers (omega arith), le-ltb count headers part) refl

headered_again : (most : ℕ) (subject : List ℕ) (n : ℕ) (reply : Option (List ℕ)) (headers count : ℕ) → most < 2 ^ 64 → IsMessage most subject n reply count → headers ≤ count
    → headered_of (words (addressed subject n reply (spaced (decimal headers) (decimal count)))) ≡ Ok (record { line = record { subject = subject; subscription = n; reply = reply; length = count }; headers = headers })
headered_again most subject n None headers count small is part =
    let count-fits : count < 2 ^ 64 = omega (arith, is.body_fits) in
    ap headered_of (words_again subject n (spaced (decimal headers) (decimal count)) is.subject_is is.number_fits ∙ ap (λ (ws : List (List ℕ)). subject ∷ decimal n ∷ ws) (two_words headers count (omega arith) count-fits))
    ∙ headered_line_again subject n None headers count is.number_fits count-fits part
headered_again most subject n (Some reply) headers count small is part =
    let count-fits : count < 2 ^ 64 = omega (arith, is.body_fits) in
    ap headered_of (words_with_reply subject n reply (spaced (decimal headers) (decimal count)) is.subject_is is.number_fits is.reply_is ∙ ap (λ (ws : List (List ℕ)). subject ∷ decimal n ∷ reply ∷ ws) (two_words headers count (omega arith) count-fits))
    ∙ headered_line_again subject n (Some reply) headers count is.number_fits count-fits part

message_again : (most : ℕ) (subject : List ℕ) (n : ℕ) (reply : Option (List ℕ)) (payload rest : List ℕ) → most < 2 ^ 64 → IsMessage most subject n reply (length payload)
    → message_of most (addressed subject n reply (decimal (length payload))) ((payload ++ line_end) ++ rest) ≡ Ok (Message subject n reply payload, length payload + 2)
unfolding message_of
message_again most subject n reply payload rest small is =
    let head : Line = record { subject = subject; subscription = n; reply = reply; length = length payload } in
    ap (λ (r : Result Line Unread). r >>= λ line. body_at most line.length ((payload ++ line_end) ++ rest) >>= message_with line) (head_again most subject n reply (length payload) small is)
    ∙ ap (λ (r : Result (List ℕ) Unread). r >>= message_with head) (body_again most payload rest is.body_fits)

headered_message_again : (most : ℕ) (subject : List ℕ) (n : ℕ) (reply : Option (List ℕ)) (headers payload rest : List ℕ) → most < 2 ^ 64 → IsMessage most subject n reply (length headers + length payload)
    → headered_message_of most (addressed subject n reply (spaced (decimal (length headers)) (decimal (length headers + length payload)))) (((headers ++ payload) ++ line_end) ++ rest)
    ≡ Ok (HeaderedMessage subject n reply headers payload, length headers + length payload + 2)
unfolding headered_message_of
headered_message_again most subject n reply headers payload rest small is =
    let count = length headers + length payload in
    let both : length (headers ++ payload) ≡ length headers + length payload = length-append headers payload in
    let head : HeaderedLine = record { line = record { subject = subject; subscription = n; reply = reply; length = length headers + length payload }; headers = length headers } in
    let whole = ((headers ++ payload) ++ line_end) ++ rest in
    let body : body_at most (length headers + length payload) whole ≡ Ok (headers ++ payload) =
    ap (λ (k : ℕ). body_at most k whole) (sym both) ∙ body_again most (headers ++ payload) rest (omega (arith, both, is.body_fits)) in
    ap (λ (r : Result HeaderedLine Unread). r >>= λ line. body_at most line.line.length whole >>= headered_with line) (headered_again most subject n reply (length headers) (length headers + length payload) small is (omega arith))
    ∙ ap (λ (r : Result (List ℕ) Unread). r >>= headered_with head) body
    ∙ ap (λ (h : List ℕ). found (HeaderedMessage subject n reply h (drop (length headers) (headers ++ payload))) (length (headers ++ payload) + 2)) (take_at headers payload (length headers) refl)
    ∙ ap (λ (p : List ℕ). found (HeaderedMessage subject n reply headers p) (length (headers ++ payload) + 2)) (drop_at headers payload (length headers) refl)
    ∙ ap (λ (k : ℕ). found (HeaderedMessage subject n reply headers payload) (k + 2)) both

-- ---- frames

said_again : (most : ℕ) (frame : ServerFrame) (rest : List ℕ) → most < 2 ^ 64 → HasParts most frame → frame_of most (server_line frame) (server_body frame ++ rest) ≡ Ok (frame, length (server_body frame))
unfolding said
said_again most (Info json) rest small parts = refl
said_again most (Message subject n reply payload) rest small parts =
    message_again most subject n reply payload rest small parts ∙ ap (λ (count : ℕ). found (Message subject n reply payload) count) (sym (length-append payload line_end))
said_again most (HeaderedMessage subject n reply headers payload) rest small parts =
    headered_message_again most subject n reply headers payload rest small parts
    ∙ ap (λ (count : ℕ). found (HeaderedMessage subject n reply headers payload) count) (sym (length-append (headers ++ payload) line_end ∙ ap (λ (k : ℕ). k + 2) (length-append headers payload)))
said_again most Ping rest small parts = refl
said_again most Pong rest small parts = refl
said_again most Taken rest small parts = refl
said_again most (Refused text) rest small parts = refl

limit_is : (frame : ServerFrame) (more : List ℕ) → line_limit ((server_line frame ++ 13 ∷ []) ++ more) ≡ longest frame
limit_is (Info json) more = refl
limit_is (Message subject n reply payload) more = refl
limit_is (HeaderedMessage subject n reply headers payload) more = refl
limit_is Ping more = refl
limit_is Pong more = refl
limit_is Taken more = refl
limit_is (Refused text) more = refl

-- a line with its carriage return has no feed either
with_return : (line : List ℕ) → All (λ c. is_feed c ≡ false) line → All (λ c. is_feed c ≡ false) (line ++ 13 ∷ [])
with_return line none k d low =
    elim (cases_lt k (length line)) [
      | inl below ↦ rw (get_or_append_left line (13 ∷ []) d k below) (none k d below)
      | inr past ↦ rw (get_or_at line 13 [] d k (omega (arith, length-append line (13 ∷ [])))) refl
    ]

regrouped : (line body rest : List ℕ) → (line ++ (line_end ++ body)) ++ rest ≡ (line ++ 13 ∷ []) ++ 10 ∷ (body ++ rest)
regrouped line body rest = append_assoc line (line_end ++ body) rest ∙ sym (append_assoc line (13 ∷ []) (10 ∷ (body ++ rest)))

first_again : (most : ℕ) (frame : ServerFrame) (rest : List ℕ) → most < 2 ^ 64 → IsFrame most frame → first_frame most (server_text frame ++ rest) ≡ Ok (frame, length (server_text frame))
unfolding first_frame server_text
first_again most frame rest small is =
    let line = server_line frame in
    let body = server_body frame in
    let front : length (line ++ 13 ∷ []) ≡ length line + 1 = length-append line (13 ∷ []) in
    let cut = cut_again (line ++ 13 ∷ []) (body ++ rest) (with_return line is.one_line) (omega (arith, front, limit_is frame (10 ∷ (body ++ rest)), is.short)) in
    let count : length (line ++ 13 ∷ []) + 1 + length body ≡ length (line ++ (line_end ++ body)) = omega (arith, front, length-append line (line_end ++ body)) in
    let cut-off : List ℕ × List ℕ = (line ++ 13 ∷ [], body ++ rest) in
    ap (λ (bytes : List ℕ). line_at bytes >>= after_line most) (regrouped line body rest)
    ∙ ap (λ (r : Result (List ℕ × List ℕ) Unread). r >>= after_line most) cut
    ∙ ap (λ (r : Result (List ℕ) Unread). r >>= λ text. frame_of most text (body ++ rest) >>= counted cut-off) (text_again line is.utf8)
    ∙ ap (λ (r : Result (ServerFrame × ℕ) Unread). r >>= counted cut-off) (said_again most frame rest small is.parts)
    ∙ ap (λ (k : ℕ). found frame k) count

pub read_again : (most : ℕ) (frame : ServerFrame) (rest : List ℕ) → most < 2 ^ 64 → IsFrame most frame → read most (server_text frame ++ rest) ≡ readings.Whole frame (length (server_text frame))
unfolding read
read_again most frame rest small is = ap reading_of (first_again most frame rest small is)
