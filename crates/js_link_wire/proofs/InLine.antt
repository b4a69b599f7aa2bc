-- No text of a frame that is written ends its line.
use Rattle.std.proofs.Common.{◌≡◌, ℕ, ◌+◌, ◌<◌, ◌^◌, inl, inr, Bool, true, false, cond, not, ◌&&◌, ◌||◌, eqb, get_or, List, [], ◌∷◌, ◌++◌, length, Option, Some, None, refl, sym, ap, ◌∙◌, subst, arith}
use Rattle.std.specs.Prelude.{IfSome}
use Rattle.std.specs.Fmt.{decimal}
use Rattle.std.specs.List.{list_all}
use Rattle.std.specs.Char.{is_ascii_whitespace}
use Rattle.std.proofs.lemmas.Bool.{false≢true, and_parts, and_from, or_cases, or_from, not_from_false, false_from_ne_true, eqb-true, ne_eqb}
use Rattle.std.proofs.lemmas.Fmt.{decimal_is_IsNumeral}
use Rattle.std.proofs.lemmas.Str.Parse.{digit_at}
use Rattle.std.proofs.lemmas.List.{get_or_default}
use Rattle.std.proofs.lemmas.List.Sums.{list_all-from_AllPass}
use Rattle.js_base.specs.Headers.{is_breaking, ends_name, is_sendable}
use Rattle.js_base.specs.Subject.{is_valid_subject}
use Rattle.js_base.specs.declared.headers.Header.{Header}
use Rattle.js_link_wire.specs.declared.frame.ClientFrame.{ClientFrame}
use Rattle.js_link_wire.specs.declared.frame.ClientFrame.TheVariants.{Connect, Subscribe, Unsubscribe, Publish, HeaderedPublish, Ping, Pong}
use Rattle.js_link_wire.specs.declared.refusals.WriteError.{WriteError}
use Rattle.js_link_wire.specs.ServerText.{spaced}
use Rattle.js_link_wire.specs.Written.{after_any, before_any, header_block, header_text, client_line, ends_line, is_in_line, is_name, passes_any, refusal, NumbersFit}

in_line_append : (xs ys : List ℕ) → is_in_line xs ≡ true → is_in_line ys ≡ true → is_in_line (xs ++ ys) ≡ true
in_line_append [] ys hx hy = hy
in_line_append (x ∷ xs) ys hx hy = let parts = and_parts _ _ hx in and_from _ _ parts.0 (in_line_append xs ys parts.1 hy)

-- a byte that passes a test is none that fails it
pub byte_fails : (test : ℕ → Bool) (byte : ℕ) → test byte ≡ true → (c : ℕ) → not (test c) ≡ true → not (eqb c byte) ≡ true
byte_fails test byte passes c h =
    let Fails : ℕ → Type 0 = λ n. not (test n) ≡ true in
    not_from_false (eqb c byte) (false_from_ne_true _ (λ e. false≢true (sym (ap not passes) ∙ subst Fails (eqb-true c byte e) h)))

-- a test that both bytes pass which end a line
ends_not : (test : ℕ → Bool) → test 13 ≡ true → test 10 ≡ true → (c : ℕ) → not (test c) ≡ true → not (ends_line c) ≡ true
ends_not test return-passes feed-passes c h =
    let Fails : ℕ → Type 0 = λ n. not (test n) ≡ true in
    not_from_false _ (false_from_ne_true _ (λ e. elim (or_cases _ _ e) [
      | inl return ↦ false≢true (sym (ap not return-passes) ∙ subst Fails (eqb-true c 13 return) h)
      | inr feed ↦ false≢true (sym (ap not feed-passes) ∙ subst Fails (eqb-true c 10 feed) h)
    ]))

fails_in_line : (test : ℕ → Bool) → test 13 ≡ true → test 10 ≡ true → (text : List ℕ) → list_all (λ c. not (test c)) text ≡ true → is_in_line text ≡ true
fails_in_line test return-passes feed-passes [] h = refl
fails_in_line test return-passes feed-passes (c ∷ text) h =
    let parts = and_parts _ _ h in and_from _ _ (ends_not test return-passes feed-passes c parts.0) (fails_in_line test return-passes feed-passes text parts.1)

decimal_in_line : (n : ℕ) → n < 2 ^ 64 → is_in_line (decimal n) ≡ true
decimal_in_line n fits =
    let numeral = (decimal_is_IsNumeral n fits).0 in
    list_all-from_AllPass (λ c. not (ends_line c)) (decimal n) (λ k d low.
    let digit = digit_at (decimal n) k numeral.1 low in
    let same = get_or_default (decimal n) k d 0 low in
    let byte = get_or (decimal n) k d in
    let no_return : eqb byte 13 ≡ false = ne_eqb byte 13 (λ e. omega (arith, digit, same, e)) in
    let no_feed : eqb byte 10 ≡ false = ne_eqb byte 10 (λ e. omega (arith, digit, same, e)) in
    not_from_false (eqb byte 13 || eqb byte 10) (or_from (eqb byte 13) (eqb byte 10) no_return no_feed))

subject_in_line : (subject : List ℕ) → is_valid_subject subject ≡ true → is_in_line subject ≡ true
subject_in_line subject h =
    let front = and_parts _ _ (and_parts _ _ h).0 in
    fails_in_line is_ascii_whitespace refl refl subject (and_parts _ _ front.0).1

name_in_line : (name : List ℕ) → is_name name ≡ true → is_in_line name ≡ true
name_in_line name h = fails_in_line is_ascii_whitespace refl refl name (and_parts _ _ h).1

after_group : (queue_group : Option (List ℕ)) (last : List ℕ) → passes_any is_name queue_group ≡ true → is_in_line last ≡ true → is_in_line (after_any queue_group last) ≡ true
after_group None last h hl = hl
after_group (Some name) last h hl = in_line_append name (32 ∷ last) (name_in_line name h) hl

after_reply : (reply : Option (List ℕ)) (last : List ℕ) → passes_any is_valid_subject reply ≡ true → is_in_line last ≡ true → is_in_line (after_any reply last) ≡ true
after_reply None last h hl = hl
after_reply (Some subject) last h hl = in_line_append subject (32 ∷ last) (subject_in_line subject h) hl

numbers_in_line : (n : ℕ) (max : Option ℕ) → n < 2 ^ 64 → IfSome max (λ m. m < 2 ^ 64) → is_in_line (before_any n max) ≡ true
numbers_in_line n None fits h = decimal_in_line n fits
numbers_in_line n (Some max) fits h = in_line_append (decimal n) (32 ∷ decimal max) (decimal_in_line n fits) (decimal_in_line max h)

-- ---- nothing is refused where each test passes

allowed : (b : Bool) (e : WriteError) → cond b None (Some e) ≡ None → b ≡ true
allowed true e h = refl
allowed false e h = absurd cc

both_allowed : (a b : Bool) (d e : WriteError) → cond a (cond b None (Some d)) (Some e) ≡ None → (a ≡ true) × (b ≡ true)
both_allowed true true d e h = (refl, refl)
both_allowed true false d e h = absurd cc
both_allowed false b d e h = absurd cc

front_allowed : (a b c : Bool) (f d e : WriteError) → cond a (cond b (cond c None (Some f)) (Some d)) (Some e) ≡ None → (a ≡ true) × (b ≡ true)
front_allowed true true c f d e h = (refl, refl)
front_allowed true false c f d e h = absurd cc
front_allowed false b c f d e h = absurd cc

pub line_stays_one : (frame : ClientFrame) → NumbersFit frame → refusal frame ≡ None → is_in_line (client_line frame) ≡ true
line_stays_one (Connect json) fits h = allowed (is_in_line json) _ h
line_stays_one (Subscribe subject queue_group n) fits h =
    let pass = both_allowed (is_valid_subject subject) (passes_any is_name queue_group) _ _ h in
    in_line_append subject (32 ∷ after_any queue_group (decimal n)) (subject_in_line subject pass.0) (after_group queue_group (decimal n) pass.1 (decimal_in_line n fits))
line_stays_one (Unsubscribe n max) fits h = numbers_in_line n max fits.0 fits.1
line_stays_one (Publish subject reply payload) fits h =
    let pass = both_allowed (is_valid_subject subject) (passes_any is_valid_subject reply) _ _ h in
    in_line_append subject (32 ∷ after_any reply (decimal (length payload))) (subject_in_line subject pass.0) (after_reply reply (decimal (length payload)) pass.1 (decimal_in_line (length payload) fits))
line_stays_one (HeaderedPublish subject reply headers payload) fits h =
    let pass = front_allowed (is_valid_subject subject) (passes_any is_valid_subject reply) (is_sendable headers) _ _ _ h in
    let part = length (header_block headers) in
    let whole = length (header_block headers) + length payload in
    let part-fits : part < 2 ^ 64 = omega (arith, fits) in
    let lengths = in_line_append (decimal part) (32 ∷ decimal whole) (decimal_in_line part part-fits) (decimal_in_line whole fits) in
    in_line_append subject (32 ∷ after_any reply (spaced (decimal part) (decimal whole))) (subject_in_line subject pass.0) (after_reply reply (spaced (decimal part) (decimal whole)) pass.1 lengths)
line_stays_one Ping fits h = refl
line_stays_one Pong fits h = refl

pub header_in_line : (header : Header) → list_all (λ c. not (ends_name c)) header.name && list_all (λ c. not (is_breaking c)) header.value ≡ true → is_in_line (header_text header) ≡ true
header_in_line header h =
    let parts = and_parts _ _ h in
    in_line_append header.name (58 ∷ 32 ∷ header.value) (fails_in_line ends_name refl refl header.name parts.0) (fails_in_line is_breaking refl refl header.value parts.1)

pub headers_stay_one : (headers : List Header) → is_sendable headers ≡ true → list_all (λ header. is_in_line (header_text header)) headers ≡ true
headers_stay_one [] h = refl
headers_stay_one (header ∷ headers) h =
    let parts = and_parts _ _ h in and_from _ _ (header_in_line header parts.0) (headers_stay_one headers parts.1)
