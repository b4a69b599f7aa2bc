-- What the replies of relayed messages read as.
use Rattle.std.proofs.Common.{◌≡◌, ℕ, ◌^◌, ◌<◌, Bool, true, false, not, ◌&&◌, ◌||◌, List, [], ◌∷◌, ◌++◌, Some, codes, decimal, refl, ap, ◌∙◌}
use Rattle.std.specs.Prelude.{◌==◌}
use Rattle.std.specs.List.{AllByRecursion, All, list_all}
use Rattle.std.specs.Char.{is_ascii_whitespace}
use Rattle.std.proofs.lemmas.List.Elements.{All-from_recursion}
use Rattle.std.proofs.lemmas.List.Splits.{slice_split_at}
use Rattle.js_base.specs.Subject.{tokens}
use Rattle.js_codes.specs.Name.{is_name, is_name_byte, is_empty}
use Rattle.js_message.specs.AckSubject.{of_tokens, place_of, readable_as}
use Rattle.js_message.proofs.DecimalTokens.{u64_of-decimal, last_tokens, placed}
use Rattle.js_event_log.specs.Events.{reply}

name_byte : (space dot star tail rest : Bool) → (not (space || dot || star || tail) && rest) ≡ true → (dot ≡ false) × (rest ≡ true)
name_byte true dot star tail rest h = absurd (cc)
name_byte false true star tail rest h = absurd (cc)
name_byte false false true tail rest h = absurd (cc)
name_byte false false false true rest h = absurd (cc)
name_byte false false false false rest h = (refl, h)

bytes_whole : (name : List ℕ) → list_all is_name_byte name ≡ true → AllByRecursion (λ c. (c == 46) ≡ false) name
bytes_whole [] h = tt
bytes_whole (c ∷ cs) h =
    let parts = name_byte (is_ascii_whitespace c) (c == 46) (c == 42) (c == 62) (list_all is_name_byte cs) h in
    (parts.0, bytes_whole cs parts.1)

filled : (empty rest : Bool) → (not empty && rest) ≡ true → rest ≡ true
filled true rest h = absurd (cc)
filled false rest h = h

name_whole : (name : List ℕ) → is_name name ≡ true → All (λ c. (c == 46) ≡ false) name
name_whole name h = All-from_recursion (λ c. (c == 46) ≡ false) name (bytes_whole name (filled (is_empty name) (list_all is_name_byte name) h))

all_tokens : (stream name : List ℕ) (sequence number : ℕ) → is_name stream ≡ true → is_name name ≡ true → sequence < 2 ^ 64 → number < 2 ^ 64
    → tokens (stream ++ (46 ∷ (name ++ (46 ∷ 49 ∷ 46 ∷ (decimal sequence ++ (46 ∷ (decimal number ++ (46 ∷ codes "0.0")))))))) ≡ stream ∷ name ∷ codes "1" ∷ decimal sequence ∷ decimal number ∷ codes "0" ∷ codes "0" ∷ []
all_tokens stream name sequence number is_stream is s n =
    slice_split_at (λ c. c == 46) stream 46 (name ++ (46 ∷ 49 ∷ 46 ∷ (decimal sequence ++ (46 ∷ (decimal number ++ (46 ∷ codes "0.0")))))) (name_whole stream is_stream) refl
    ∙ ap (λ (ts : List (List ℕ)). stream ∷ ts) (slice_split_at (λ c. c == 46) name 46 (49 ∷ 46 ∷ (decimal sequence ++ (46 ∷ (decimal number ++ (46 ∷ codes "0.0"))))) (name_whole name is) refl)
    ∙ ap (λ (ts : List (List ℕ)). stream ∷ name ∷ codes "1" ∷ ts) (last_tokens sequence number s n)

-- a reply reads as the sequence and the number that it was made of
pub reply_reads : (stream name : List ℕ) (sequence number : ℕ) → is_name stream ≡ true → is_name name ≡ true → sequence < 2 ^ 64 → number < 2 ^ 64
    → readable_as (Some (reply stream name sequence number)) ≡ Some (record { sequence = sequence; number = number })
reply_reads stream name sequence number is_stream is s n =
    ap (λ (ts : List (List ℕ)). place_of (of_tokens ts)) (all_tokens stream name sequence number is_stream is s n)
    ∙ placed stream name (decimal sequence) (decimal number) sequence number (u64_of-decimal sequence s) (u64_of-decimal number n)
