-- What follows a frame, or what cannot become one, does not matter.
use Rattle.std.proofs.Common.{◌≡◌, ℕ, ◌+◌, ◌<◌, ◌≤◌, ◌⊎◌, inl, inr, lit≤, cond, ltb, codes, List, ◌++◌, length, take, drop, Result, Ok, Err, refl, sym, ap, ◌∙◌, arith, nat_eq}
use Rattle.std.proofs.lemmas.Bool.{both_ways, cases_lt, cases_Bool, cond_both, lt-ltb, le-ltb}
use Rattle.std.proofs.lemmas.List.{get_or_append_left, length-append, take-append-le, drop-append-le}
use Rattle.std.proofs.lemmas.List.Sums.{position_or_len_is, fails_before_first, passes_at_first}
use Rattle.std.specs.List.{starts_with, before_first, after_first}
use Rattle.std.specs.Cmp.Lexicographic.{pointwise}
use Rattle.std.specs.Str.{bytes_eq}
use Rattle.js_base.specs.Results.{◌>>=◌}
use Rattle.js_link_wire.specs.declared.line.TheConstants.{LONGEST_LINE, LONGEST_INFO}
use Rattle.js_link_wire.specs.declared.damage.Damage.{Damage}
use Rattle.js_link_wire.specs.declared.damage.Unread.{Unread}
use Rattle.js_link_wire.specs.declared.damage.Unread.TheVariants.{More}
use Rattle.js_link_wire.specs.declared.frame.ServerFrame.{ServerFrame}
use Rattle.js_link_wire.specs.declared.frame.ServerFrame.TheVariants as frames
use Rattle.js_link_wire.specs.declared.first_frame.Reading.TheVariants as readings
use Rattle.js_link_wire.specs.Lines.{is_feed, line_limit, line_at, text_of}
use Rattle.js_link_wire.specs.Words.{is_blank, words}
use Rattle.js_link_wire.specs.Messages.{Line, HeaderedLine, head_of, headered_of, body_at, message_of, headered_message_of}
use Rattle.js_link_wire.specs.FirstFrame.{said, frame_of, first_frame, reading_of, read}
use Rattle.js_link_wire.proofs.Feeds.{feed_place, place_within, cut_at, ends_late, ends_nowhere}

-- ---- the first line

feed_same : (xs ys : List ℕ) → feed_place xs < length xs → feed_place (xs ++ ys) ≡ feed_place xs
feed_same xs ys lt =
    position_or_len_is is_feed (xs ++ ys) (feed_place xs) 0 (omega (arith, length-append xs ys))
    (λ k below. let within : k < length xs = omega arith in rw (get_or_append_left xs ys 0 k within) (fails_before_first is_feed xs k 0 below))
    (λ _. rw (get_or_append_left xs ys 0 (feed_place xs) lt) (passes_at_first is_feed xs 0 lt))

feed_no_sooner : (xs ys : List ℕ) (n : ℕ) → n ≤ feed_place xs → n ≤ length xs → n ≤ feed_place (xs ++ ys)
feed_no_sooner xs ys n later long =
    elim (cases_lt (feed_place (xs ++ ys)) n) [
      | inl lt ↦
          let within : feed_place (xs ++ ys) < length xs = omega arith in
          let passes = passes_at_first is_feed (xs ++ ys) 0 (omega (arith, length-append xs ys)) in
          let fails = fails_before_first is_feed xs (feed_place (xs ++ ys)) 0 (omega arith) in
          absurd (both_ways _ fails (sym (ap is_feed (get_or_append_left xs ys 0 (feed_place (xs ++ ys)) within)) ∙ passes))
      | inr le ↦ le
    ]

limit_same : (xs ys : List ℕ) → 5 ≤ length xs → line_limit (xs ++ ys) ≡ line_limit xs
limit_same xs ys long =
    ap (λ (front : List ℕ). cond (pointwise nat_eq (codes "INFO ") front) LONGEST_INFO LONGEST_LINE) (take-append-le 5 xs ys long)

limit_least : (bytes : List ℕ) → 4096 ≤ line_limit bytes
limit_least bytes = cond_both (starts_with nat_eq bytes (codes "INFO ")) LONGEST_INFO LONGEST_LINE (λ n. 4096 ≤ n) (λ _. lit≤ tt) (λ _. lit≤ tt)

-- a line, and what follows it
abbrev pub cut_is : List ℕ → List ℕ → Result (List ℕ × List ℕ) Unread
cut_is front rest = Ok (front, rest)

-- a line with more behind it
abbrev behind : List ℕ → Result (List ℕ × List ℕ) Unread → Result (List ℕ × List ℕ) Unread
behind ys (Ok cut) = Ok (cut.0, cut.1 ++ ys)
behind ys (Err e) = Err e

line_late : (xs ys : List ℕ) → line_limit xs ≤ feed_place xs → line_at (xs ++ ys) ≡ behind ys (line_at xs)
line_late xs ys late =
    let least = limit_least xs in
    let within = place_within xs in
    let same = limit_same xs ys (omega arith) in
    let sooner = feed_no_sooner xs ys (line_limit xs) late (omega arith) in
    ends_late (xs ++ ys) (omega arith) (omega (arith, length-append xs ys)) ∙ sym (ap (behind ys) (ends_late xs late (omega arith)))

few_still : (xs ys : List ℕ) → feed_place xs < line_limit xs → feed_place xs < length xs → feed_place xs < line_limit (xs ++ ys)
few_still xs ys few within =
    elim (cases_lt (length xs) 5) [
      | inl short ↦ let least = limit_least (xs ++ ys) in omega arith
      | inr long ↦ let same = limit_same xs ys long in omega arith
    ]

line_cut : (xs ys : List ℕ) → feed_place xs < line_limit xs → feed_place xs < length xs → line_at (xs ++ ys) ≡ behind ys (line_at xs)
line_cut xs ys few within =
    let k = feed_place xs in
    let next : k + 1 ≤ length xs = omega arith in
    let low : k ≤ length xs = omega arith in
    cut_at (xs ++ ys) k (feed_same xs ys within) (few_still xs ys few within) (omega (arith, length-append xs ys))
    ∙ ap (λ (front : List ℕ). cut_is front (drop (k + 1) (xs ++ ys))) (take-append-le k xs ys low)
    ∙ ap (λ (rest : List ℕ). cut_is (take k xs) rest) (drop-append-le (k + 1) xs ys next)
    ∙ sym (ap (behind ys) (cut_at xs k refl few within))

line_stays : (xs ys : List ℕ) → (line_at xs ≡ Err More) ⊎ (line_at (xs ++ ys) ≡ behind ys (line_at xs))
line_stays xs ys =
    elim (cases_lt (feed_place xs) (line_limit xs)) [
      | inl few ↦ elim (cases_lt (feed_place xs) (length xs)) [
        | inl within ↦ inr (line_cut xs ys few within)
        | inr none ↦ let inside = place_within xs in inl (ends_nowhere xs none (omega arith))
      ]
      | inr late ↦ inr (line_late xs ys late)
    ]

-- ---- what stays when more comes

-- more was asked for, or the answer is the same
abbrev pub Stays : {A : Type 0} → Result A Unread → Result A Unread → Type 0
Stays before after = (before ≡ Err More) ⊎ (after ≡ before)

stays_then : {A B : Type 0} (r : Result A Unread) (f f' : A → Result B Unread) → ((x : A) → Stays (f x) (f' x)) → Stays (r >>= f) (r >>= f')
stays_then (Ok x) f f' h = h x
stays_then (Err e) f f' h = inr refl

stays_before : {A B : Type 0} (r r' : Result A Unread) (f : A → Result B Unread) → Stays r r' → Stays (r >>= f) (r' >>= f)
stays_before {A} r r' f (inl e) = inl (ap (λ (q : Result A Unread). q >>= f) e)
stays_before {A} r r' f (inr e) = inr (ap (λ (q : Result A Unread). q >>= f) e)

body_stays : (most count : ℕ) (rest ys : List ℕ) → Stays (body_at most count rest) (body_at most count (rest ++ ys))
unfolding body_at
body_stays most count rest ys =
    elim (cases_Bool (ltb most count)) [
      | inl big ↦ inr (rw big refl)
      | inr small ↦ elim (cases_lt (length rest) (count + 2)) [
        | inl short ↦ inl (rw (small, lt-ltb (length rest) (count + 2) short) refl)
        | inr long ↦
            let longer : count + 2 ≤ length (rest ++ ys) = omega (arith, length-append rest ys) in
            let here : count < length rest = omega arith in
            let next : count + 1 < length rest = omega arith in
            let low : count ≤ length rest = omega arith in
            inr (rw (small, le-ltb (length rest) (count + 2) long, le-ltb (length (rest ++ ys)) (count + 2) longer, get_or_append_left rest ys 0 count here, get_or_append_left rest ys 0 (count + 1) next, take-append-le count rest ys low) refl)
      ]
    ]

abbrev pub message_with : Line → List ℕ → Result (ServerFrame × ℕ) Unread
message_with head body = Ok (frames.Message head.subject head.subscription head.reply body, length body + 2)

abbrev pub headered_with : HeaderedLine → List ℕ → Result (ServerFrame × ℕ) Unread
headered_with head body = Ok (frames.HeaderedMessage head.line.subject head.line.subscription head.line.reply (take head.headers body) (drop head.headers body), length body + 2)

message_stays : (most : ℕ) (text rest ys : List ℕ) → Stays (message_of most text rest) (message_of most text (rest ++ ys))
unfolding message_of
message_stays most text rest ys =
    stays_then (head_of (words text)) (λ head. body_at most head.length rest >>= message_with head) (λ head. body_at most head.length (rest ++ ys) >>= message_with head)
    (λ head. stays_before (body_at most head.length rest) (body_at most head.length (rest ++ ys)) (message_with head) (body_stays most head.length rest ys))

headered_stays : (most : ℕ) (text rest ys : List ℕ) → Stays (headered_message_of most text rest) (headered_message_of most text (rest ++ ys))
unfolding headered_message_of
headered_stays most text rest ys =
    stays_then (headered_of (words text)) (λ head. body_at most head.line.length rest >>= headered_with head) (λ head. body_at most head.line.length (rest ++ ys) >>= headered_with head)
    (λ head. stays_before (body_at most head.line.length rest) (body_at most head.line.length (rest ++ ys)) (headered_with head) (body_stays most head.line.length rest ys))

said_stays : (most : ℕ) (verb text rest ys : List ℕ) → Stays (said most verb text rest) (said most verb text (rest ++ ys))
unfolding said
said_stays most verb text rest ys =
    elim (cases_Bool (bytes_eq verb (codes "MSG"))) [
      | inl plain ↦ rw plain (message_stays most text rest ys)
      | inr other ↦ elim (cases_Bool (bytes_eq verb (codes "HMSG"))) [
        | inl headered ↦ rw (other, headered) (headered_stays most text rest ys)
        | inr alone ↦ rw (other, alone) (inr refl)
      ]
    ]

-- the frame of a line, with all its bytes counted
abbrev pub counted : List ℕ × List ℕ → ServerFrame × ℕ → Result (ServerFrame × ℕ) Unread
counted line frame = Ok (frame.0, length line.0 + 1 + frame.1)

-- what follows the first line
abbrev pub after_line : ℕ → List ℕ × List ℕ → Result (ServerFrame × ℕ) Unread
after_line most line = text_of line.0 >>= λ text. frame_of most text line.1 >>= counted line

after_stays : (most : ℕ) (ys : List ℕ) (r : Result (List ℕ × List ℕ) Unread) → Stays (r >>= after_line most) (behind ys r >>= after_line most)
after_stays most ys (Ok line) =
    stays_then (text_of line.0) (λ text. frame_of most text line.1 >>= counted line) (λ text. frame_of most text (line.1 ++ ys) >>= counted line)
    (λ text. stays_before (frame_of most text line.1) (frame_of most text (line.1 ++ ys)) (counted line) (said_stays most (before_first is_blank text) (after_first is_blank text) line.1 ys))
after_stays most ys (Err e) = inr refl

pub first_stays : (most : ℕ) (xs ys : List ℕ) → Stays (first_frame most xs) (first_frame most (xs ++ ys))
unfolding first_frame
first_stays most xs ys =
    elim (line_stays xs ys) [
      | inl more ↦ inl (ap (λ (r : Result (List ℕ × List ℕ) Unread). r >>= after_line most) more)
      | inr same ↦ rw same (after_stays most ys (line_at xs))
    ]

-- ---- readings

settled : (most : ℕ) (xs ys : List ℕ) → (read most xs ≡ readings.More) ⊎ (read most (xs ++ ys) ≡ read most xs)
unfolding read
settled most xs ys =
    elim (first_stays most xs ys) [ inl more ↦ inl (ap reading_of more) | inr same ↦ inr (ap reading_of same) ]

pub whole_stays : (most : ℕ) (xs ys : List ℕ) (frame : ServerFrame) (count : ℕ) → read most xs ≡ readings.Whole frame count → read most (xs ++ ys) ≡ readings.Whole frame count
whole_stays most xs ys frame count h = elim (settled most xs ys) [ inl more ↦ absurd cc | inr same ↦ same ∙ h ]

pub damaged_stays : (most : ℕ) (xs ys : List ℕ) (damage : Damage) → read most xs ≡ readings.Damaged damage → read most (xs ++ ys) ≡ readings.Damaged damage
damaged_stays most xs ys damage h = elim (settled most xs ys) [ inl more ↦ absurd cc | inr same ↦ same ∙ h ]
