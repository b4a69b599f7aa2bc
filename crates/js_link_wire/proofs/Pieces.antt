-- Frames that are read off pieces are those of the pieces together.
use Rattle.std.proofs.Common.{◌≡◌, ℕ, ◌+◌, ◌≤◌, inl, inr, ltb, codes, List, [], ◌∷◌, ◌++◌, length, take, drop, Option, Some, None, Result, Ok, Err, refl, sym, ap, subst, ◌∙◌, arith}
use Rattle.std.proofs.lemmas.Bool.{cases_lt, cond_both, lt-ltb, le-ltb}
use Rattle.std.proofs.lemmas.List.{length-take-le, length-drop, drop-append-le}
use Rattle.std.specs.List.{before_first, after_first}
use Rattle.std.specs.Str.{bytes_eq}
use Rattle.js_base.specs.Results.{◌>>=◌}
use Rattle.js_link_wire.specs.declared.damage.Damage.{Damage}
use Rattle.js_link_wire.specs.declared.damage.Damage.TheVariants.{NoLineEnd}
use Rattle.js_link_wire.specs.declared.damage.Unread.{Unread}
use Rattle.js_link_wire.specs.declared.damage.Unread.TheVariants.{More, Damaged}
use Rattle.js_link_wire.specs.declared.frame.ServerFrame.{ServerFrame}
use Rattle.js_link_wire.specs.declared.first_frame.Reading.{Reading}
use Rattle.js_link_wire.specs.declared.first_frame.Reading.TheVariants as readings
use Rattle.js_link_wire.specs.Lines.{line_limit, line_at, text_of}
use Rattle.js_link_wire.specs.Words.{is_blank, words}
use Rattle.js_link_wire.specs.Messages.{Line, HeaderedLine, head_of, headered_of, body_at, message_of, headered_message_of}
use Rattle.js_link_wire.specs.FirstFrame.{said, frame_of, first_frame, reading_of, read}
use Rattle.js_link_wire.specs.FrameReader.{taken_off, next_frame, AreRead}
use Rattle.js_link_wire.proofs.Feeds.{feed_place, place_within, cut_at, ends_late, ends_nowhere}
use Rattle.js_link_wire.proofs.Stable.{message_with, headered_with, counted, after_line, whole_stays}

-- ---- a frame lies within the bytes that it is read of

-- a frame takes at most so many bytes
abbrev Within : ℕ → Result (ServerFrame × ℕ) Unread → Type 0
Within count (Ok found) = found.1 ≤ count
Within count (Err e) = Unit {0}

-- a body and its line end lie in these bytes
abbrev BodyIn : List ℕ → Result (List ℕ) Unread → Type 0
BodyIn rest (Ok body) = length body + 2 ≤ length rest
BodyIn rest (Err e) = Unit {0}

-- a line, its line feed and the rest are these bytes
abbrev LineIn : List ℕ → Result (List ℕ × List ℕ) Unread → Type 0
LineIn bytes (Ok line) = length line.0 + 1 + length line.1 ≡ length bytes
LineIn bytes (Err e) = Unit {0}

body_in : (most count : ℕ) (rest : List ℕ) → BodyIn rest (body_at most count rest)
unfolding body_at
body_in most count rest =
    cond_both (ltb most count) _ _ (BodyIn rest) (λ _. tt) (λ _.
    elim (cases_lt (length rest) (count + 2)) [
      | inl short ↦ rw (lt-ltb (length rest) (count + 2) short) tt
      | inr long ↦
          let low : count ≤ length rest = omega arith in
          let same = length-take-le count rest low in
          let fits : length (take count rest) + 2 ≤ length rest = omega (arith, same, long) in
          rw (le-ltb (length rest) (count + 2) long) (cond_both _ (Ok (take count rest)) (Err (Damaged NoLineEnd)) (BodyIn rest) (λ _. fits) (λ _. tt))
    ])

message_in : (rest : List ℕ) (head : Line) (r : Result (List ℕ) Unread) → BodyIn rest r → Within (length rest) (r >>= message_with head)
message_in rest head (Ok body) h = h
message_in rest head (Err e) h = tt

headered_in : (rest : List ℕ) (head : HeaderedLine) (r : Result (List ℕ) Unread) → BodyIn rest r → Within (length rest) (r >>= headered_with head)
headered_in rest head (Ok body) h = h
headered_in rest head (Err e) h = tt

plain_within : (most : ℕ) (rest : List ℕ) (r : Result Line Unread) → Within (length rest) (r >>= λ head. body_at most head.length rest >>= message_with head)
plain_within most rest (Ok head) = message_in rest head (body_at most head.length rest) (body_in most head.length rest)
plain_within most rest (Err e) = tt

with_headers_within : (most : ℕ) (rest : List ℕ) (r : Result HeaderedLine Unread) → Within (length rest) (r >>= λ head. body_at most head.line.length rest >>= headered_with head)
with_headers_within most rest (Ok head) = headered_in rest head (body_at most head.line.length rest) (body_in most head.line.length rest)
with_headers_within most rest (Err e) = tt

said_within : (most : ℕ) (verb text rest : List ℕ) → Within (length rest) (said most verb text rest)
unfolding said message_of headered_message_of
said_within most verb text rest =
    let none : 0 ≤ length rest = omega arith in
    cond_both (bytes_eq verb (codes "MSG")) _ _ (Within (length rest)) (λ _. plain_within most rest (head_of (words text))) (λ _.
    cond_both (bytes_eq verb (codes "HMSG")) _ _ (Within (length rest)) (λ _. with_headers_within most rest (headered_of (words text))) (λ _.
    cond_both (bytes_eq verb (codes "PING")) _ _ (Within (length rest)) (λ _. none) (λ _.
    cond_both (bytes_eq verb (codes "PONG")) _ _ (Within (length rest)) (λ _. none) (λ _.
    cond_both (bytes_eq verb (codes "+OK")) _ _ (Within (length rest)) (λ _. none) (λ _.
    cond_both (bytes_eq verb (codes "-ERR")) _ _ (Within (length rest)) (λ _. none) (λ _.
    cond_both (bytes_eq verb (codes "INFO")) _ _ (Within (length rest)) (λ _. none) (λ _. tt)))))))

line_in : (bytes : List ℕ) → LineIn bytes (line_at bytes)
line_in bytes =
    elim (cases_lt (feed_place bytes) (line_limit bytes)) [
      | inl few ↦ elim (cases_lt (feed_place bytes) (length bytes)) [
        | inl within ↦
            let low : feed_place bytes ≤ length bytes = omega arith in
            subst (LineIn bytes) (sym (cut_at bytes (feed_place bytes) refl few within))
            (omega (arith, length-take-le (feed_place bytes) bytes low, length-drop (feed_place bytes + 1) bytes, within))
        | inr none ↦ let inside = place_within bytes in subst (LineIn bytes) (sym (ends_nowhere bytes none (omega arith))) tt
      ]
      | inr late ↦ let inside = place_within bytes in subst (LineIn bytes) (sym (ends_late bytes late (omega arith))) tt
    ]

counted_within : (bytes : List ℕ) (line : List ℕ × List ℕ) (r : Result (ServerFrame × ℕ) Unread) → length line.0 + 1 + length line.1 ≡ length bytes → Within (length line.1) r
    → Within (length bytes) (r >>= counted line)
counted_within bytes line (Ok found) whole h = omega (arith, whole, h)
counted_within bytes line (Err e) whole h = tt

text_within : (most : ℕ) (bytes : List ℕ) (line : List ℕ × List ℕ) (r : Result (List ℕ) Unread) → length line.0 + 1 + length line.1 ≡ length bytes
    → Within (length bytes) (r >>= λ text. frame_of most text line.1 >>= counted line)
text_within most bytes line (Ok text) whole =
    counted_within bytes line (frame_of most text line.1) whole (said_within most (before_first is_blank text) (after_first is_blank text) line.1)
text_within most bytes line (Err e) whole = tt

line_within : (most : ℕ) (bytes : List ℕ) (r : Result (List ℕ × List ℕ) Unread) → LineIn bytes r → Within (length bytes) (r >>= after_line most)
line_within most bytes (Ok line) h = text_within most bytes line (text_of line.0) h
line_within most bytes (Err e) h = tt

-- a frame that is read takes no more bytes than there are
abbrev ReadIn : ℕ → Reading → Type 0
ReadIn count readings.More = Unit {0}
ReadIn count (readings.Whole frame n) = n ≤ count
ReadIn count (readings.Damaged damage) = Unit {0}

reading_in : (count : ℕ) (r : Result (ServerFrame × ℕ) Unread) → Within count r → ReadIn count (reading_of r)
reading_in count (Ok found) h = h
reading_in count (Err More) h = tt
reading_in count (Err (Damaged damage)) h = tt

read_in : (most : ℕ) (bytes : List ℕ) → ReadIn (length bytes) (read most bytes)
unfolding read first_frame
read_in most bytes = reading_in (length bytes) (first_frame most bytes) (line_within most bytes (line_at bytes) (line_in bytes))

-- ---- more bytes behind those that a frame is read of

abbrev frame_and : ServerFrame → List ℕ → Result (Option (ServerFrame × List ℕ)) Damage
frame_and frame rest = Ok (Some (frame, rest))

-- how the reading of bytes goes on where more follow
abbrev Goes : ℕ → List ℕ → List ℕ → Reading → Type 0
Goes most bytes more readings.More = Unit {0}
Goes most bytes more (readings.Whole frame n) = next_frame most (bytes ++ more) ≡ Ok (Some (frame, drop n bytes ++ more))
Goes most bytes more (readings.Damaged damage) = Unit {0}

goes_on : (most : ℕ) (bytes more : List ℕ) (r : Reading) → read most bytes ≡ r → Goes most bytes more r
unfolding next_frame
goes_on most bytes more readings.More e = tt
goes_on most bytes more (readings.Whole frame n) e =
    let within : n ≤ length bytes = subst (ReadIn (length bytes)) e (read_in most bytes) in
    ap (taken_off (bytes ++ more)) (whole_stays most bytes more frame n e) ∙ ap (frame_and frame) (drop-append-le n bytes more within)
goes_on most bytes more (readings.Damaged damage) e = tt

-- what is left, with more behind it
abbrev with_more : List ℕ → Result (Option (ServerFrame × List ℕ)) Damage → Result (Option (ServerFrame × List ℕ)) Damage
with_more more (Ok (Some found)) = Ok (Some (found.0, found.1 ++ more))
with_more more (Ok None) = Ok None
with_more more (Err damage) = Err damage

taken_is : (most : ℕ) (bytes : List ℕ) (frame : ServerFrame) (rest : List ℕ) → next_frame most bytes ≡ Ok (Some (frame, rest)) → taken_off bytes (read most bytes) ≡ Ok (Some (frame, rest))
unfolding next_frame
taken_is most bytes frame rest e = e

-- a frame with what is left was taken off this reading
taken_then : (most : ℕ) (bytes more : List ℕ) (frame : ServerFrame) (rest : List ℕ) (r : Reading) → taken_off bytes r ≡ Ok (Some (frame, rest)) → Goes most bytes more r
    → next_frame most (bytes ++ more) ≡ Ok (Some (frame, rest ++ more))
taken_then most bytes more frame rest readings.More e h = absurd cc
taken_then most bytes more frame rest (readings.Whole other n) e h =
    h ∙ ap (with_more more) e
taken_then most bytes more frame rest (readings.Damaged damage) e h = absurd cc

frame_stays : (most : ℕ) (bytes more : List ℕ) (frame : ServerFrame) (rest : List ℕ) → next_frame most bytes ≡ Ok (Some (frame, rest))
    → next_frame most (bytes ++ more) ≡ Ok (Some (frame, rest ++ more))
frame_stays most bytes more frame rest e =
    taken_then most bytes more frame rest (read most bytes) (taken_is most bytes frame rest e) (goes_on most bytes more (read most bytes) refl)

pub read_as_one : (most : ℕ) (bytes more left last : List ℕ) (frames others : List ServerFrame) → AreRead most bytes frames left → AreRead most (left ++ more) others last
    → AreRead most (bytes ++ more) (frames ++ others) last
read_as_one most bytes more left last [] others h later = subst (λ (front : List ℕ). AreRead most (front ++ more) others last) (sym h) later
read_as_one most bytes more left last (frame ∷ frames) others h later =
    (h.0 ++ more, frame_stays most bytes more frame h.0 h.1, read_as_one most h.0 more left last frames others h.2 later)
