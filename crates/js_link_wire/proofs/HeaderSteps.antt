-- A block of headers, a header at a time.
use Rattle.std.proofs.Common.{◌≡◌, ℕ, ◌+◌, ◌-◌, ◌<◌, inl, inr, false, not, eqb, List, [], ◌∷◌, ◌++◌, length, take, drop, Option, Some, None, Result, Ok, Err, refl, sym, ap, ◌∙◌, arith, append_assoc}
use Rattle.std.proofs.lemmas.Bool.{false_from_ne_true, cases_Bool, cases_lt, ne_eqb, eq-eqb}
use Rattle.std.proofs.lemmas.List.{take_rest, append-nil}
use Rattle.std.proofs.lemmas.List.Sums.{position_or_len_is, fails_before_first, prefix_len-le-length}
use Rattle.std.proofs.lemmas.List.Splits.{slice_split_first, slice_split_none, length-slice_split, join_with_byte-slice_split}
use Rattle.std.specs.List.{join_with_byte, position_or_len, before_first, after_first, slice_split}
use Rattle.memchr.specs.Find.{IsFirstByte, is_byte}
use Rattle.js_base.specs.Results.{◌>>=◌}
use Rattle.js_base.specs.declared.headers.Header.{Header}
use Rattle.js_link_wire.specs.declared.headers.HeadersDamage.{HeadersDamage}
use Rattle.js_link_wire.specs.declared.headers.HeadersDamage.TheVariants.{Trailing}
use Rattle.js_link_wire.specs.Headers.{cut_at, line_text, header_of, before, ended, header_or_end, headers_of, headers_in, end_at, line_or_end, next_header}

-- ---- the first byte of a kind

pub cut_found : (c : ℕ) (damage : HeadersDamage) (bytes : List ℕ) (k : ℕ) → IsFirstByte (is_byte c) bytes (Some k)
    → cut_at c damage bytes ≡ Ok (take k bytes, take (length bytes - (k + 1)) (drop (k + 1) bytes))
unfolding cut_at
cut_found c damage bytes k h =
    let place : position_or_len (is_byte c) bytes ≡ k =
    position_or_len_is (is_byte c) bytes k 0 (omega (arith, h.0.high)) (λ j below. false_from_ne_true _ (λ e. h.0.before j (omega arith) below e)) (λ _. h.1) in
    rw take_rest (rw (place, ne_eqb k (length bytes) (λ e. omega (arith, h.0.high, e))) refl)

pub cut_none : (c : ℕ) (damage : HeadersDamage) (bytes : List ℕ) → IsFirstByte (is_byte c) bytes None → cut_at c damage bytes ≡ Err damage
unfolding cut_at
cut_none c damage bytes h =
    let place : position_or_len (is_byte c) bytes ≡ length bytes =
    position_or_len_is (is_byte c) bytes (length bytes) 0 (omega arith) (λ j below. false_from_ne_true _ (λ e. h j (omega arith) below e)) (λ past. absurd (omega (arith, past))) in
    rw (place, eq-eqb (length bytes) (length bytes) refl) refl

-- ---- the headers of what is left

abbrev all_of : List Header → Result (List Header) HeadersDamage
all_of headers = Ok headers

-- headers, and then others
abbrev pub with_front : List Header → Result (List Header) HeadersDamage → Result (List Header) HeadersDamage
with_front front (Ok headers) = Ok (front ++ headers)
with_front front (Err damage) = Err damage

pub front_grows : (front : List Header) (header : Header) (r : Result (List Header) HeadersDamage) → with_front (front ++ header ∷ []) r ≡ with_front front (before header r)
front_grows front header (Ok headers) = ap (λ (all : List Header). all_of all) (append_assoc front (header ∷ []) headers)
front_grows front header (Err damage) = refl

-- the headers from the first one on, or from the end
abbrev pub and_more : Option (Header × List ℕ) → Result (List Header) HeadersDamage
and_more None = Ok []
and_more (Some found) = before found.0 (headers_in found.1)

other_ended : (lines : List (List ℕ)) → 0 < length lines → ¬ (lines ≡ [] ∷ []) → ended lines ≡ Err Trailing
other_ended [] some other = absurd (omega (arith, some))
other_ended ([] ∷ []) some other = absurd (other refl)
other_ended ([] ∷ line ∷ more) some other = refl
other_ended ((c ∷ line) ∷ more) some other = refl

-- bytes have a line
a_line : (bytes : List ℕ) → 0 < length (slice_split (is_byte 10) bytes)
a_line bytes = omega (arith, length-slice_split (is_byte 10) bytes)

end_filled : (rest : List ℕ) → eqb (length rest) 0 ≡ false → (end_at rest >>= and_more) ≡ Err Trailing
end_filled rest filled = rw filled refl

ended_same : (rest : List ℕ) → ended (slice_split (is_byte 10) rest) ≡ (end_at rest >>= and_more)
ended_same [] = refl
ended_same (c ∷ rest) =
    let filled : eqb (length (c ∷ rest)) 0 ≡ false = ne_eqb (length (c ∷ rest)) 0 (λ e. omega (arith, e)) in
    other_ended (slice_split (is_byte 10) (c ∷ rest)) (a_line (c ∷ rest)) (λ e.
    let none : c ∷ rest ≡ [] = sym (join_with_byte-slice_split 10 (c ∷ rest)) ∙ ap (join_with_byte 10) e in
    omega (arith, ap length none))
    ∙ sym (end_filled (c ∷ rest) filled)

abbrev with_rest : List ℕ → Header → Result (Option (Header × List ℕ)) HeadersDamage
with_rest rest header = Ok (Some (header, rest))

header_then : (rest : List ℕ) (r : Result Header HeadersDamage) → (r >>= λ header. before header (headers_in rest)) ≡ ((r >>= with_rest rest) >>= and_more)
header_then rest (Ok header) = refl
header_then rest (Err damage) = refl

text_then : (rest text : List ℕ) → header_or_end (headers_in rest) (slice_split (is_byte 10) rest) text ≡ (line_or_end rest text >>= and_more)
text_then rest text =
    elim (cases_Bool (eqb (length text) 0)) [
      | inl empty ↦ rw empty (ended_same rest)
      | inr filled ↦ rw filled (header_then rest (header_of text))
    ]

line_then : (rest : List ℕ) (r : Result (List ℕ) HeadersDamage) → (r >>= header_or_end (headers_in rest) (slice_split (is_byte 10) rest)) ≡ ((r >>= line_or_end rest) >>= and_more)
line_then rest (Ok text) = text_then rest text
line_then rest (Err damage) = refl

after_line : (line rest : List ℕ) → headers_of (line ∷ slice_split (is_byte 10) rest) ≡ (line_text line >>= header_or_end (headers_in rest) (slice_split (is_byte 10) rest))
unfolding headers_in
after_line line rest = rw (ne_eqb (length (slice_split (is_byte 10) rest)) 0 (λ e. omega (arith, a_line rest, e))) refl

pub headers_step : (bytes : List ℕ) → headers_in bytes ≡ (next_header bytes >>= and_more)
unfolding headers_in next_header cut_at
headers_step bytes =
    elim (cases_lt (position_or_len (is_byte 10) bytes) (length bytes)) [
      | inl within ↦
          let line = before_first (is_byte 10) bytes in
          let rest = after_first (is_byte 10) bytes in
          ap headers_of (slice_split_first (is_byte 10) bytes 0 within)
          ∙ after_line line rest
          ∙ line_then rest (line_text line)
          ∙ rw (ne_eqb (position_or_len (is_byte 10) bytes) (length bytes) (λ e. omega (arith, within, e))) refl
      | inr past ↦
          let whole : position_or_len (is_byte 10) bytes ≡ length bytes = omega (arith, past, prefix_len-le-length (λ b. not (is_byte 10 b)) bytes) in
          ap headers_of (slice_split_none (is_byte 10) bytes (λ k d low. fails_before_first (is_byte 10) bytes k d (omega (arith, past, low))))
          ∙ rw (whole, eq-eqb (length bytes) (length bytes) refl) refl
    ]

-- ---- a loop over the headers

pub none_in_front : (r : Result (List Header) HeadersDamage) → with_front [] r ≡ r
none_in_front (Ok headers) = refl
none_in_front (Err damage) = refl

step_told : (front : List Header) (left : List ℕ) (r : Result (Option (Header × List ℕ)) HeadersDamage) → next_header left ≡ r → with_front front (headers_in left) ≡ with_front front (r >>= and_more)
step_told front left r e =
    ap (with_front front) (headers_step left) ∙ ap (λ (q : Result (Option (Header × List ℕ)) HeadersDamage). with_front front (q >>= and_more)) e

pub goes_on : (front : List Header) (header : Header) (left rest : List ℕ) (all : Result (List Header) HeadersDamage)
    → with_front front (headers_in left) ≡ all → next_header left ≡ Ok (Some (header, rest)) → with_front (front ++ header ∷ []) (headers_in rest) ≡ all
goes_on front header left rest all so-far e =
    front_grows front header (headers_in rest) ∙ sym (step_told front left (Ok (Some (header, rest))) e) ∙ so-far

pub ends_here : (front : List Header) (left : List ℕ) (all : Result (List Header) HeadersDamage)
    → with_front front (headers_in left) ≡ all → next_header left ≡ Ok None → all ≡ Ok front
ends_here front left all so-far e =
    sym so-far ∙ step_told front left (Ok None) e ∙ ap all_of (append-nil front)

pub fails_here : (front : List Header) (left : List ℕ) (all : Result (List Header) HeadersDamage) (damage : HeadersDamage)
    → with_front front (headers_in left) ≡ all → next_header left ≡ Err damage → all ≡ Err damage
fails_here front left all damage so-far e = sym so-far ∙ step_told front left (Err damage) e
