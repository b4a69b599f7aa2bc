-- Acknowledgement subjects.
use Rattle.std.specs.Prelude.{ℕ, ℤ, pos, ◌^◌, ◌-◌, ◌+◌, Bool, ◌&&◌, List, [], ◌∷◌, length, drop, Option, Some, None, Result, Ok, Err, codes, nat_eq, slice_get, slice_index_or, neg_ℤ, int_le, if◌then◌else◌}
use Rattle.std.specs.List.{starts_with}
use Rattle.std.specs.Str.{bytes_eq}
use Rattle.js_base.specs.Subject.{tokens}
use Rattle.js_base.specs.Numeral.{signed_of}
use Rattle.js_message.specs.Numbers.{u64_of}
use Rattle.js_message.specs.declared.info_error.InfoError.{InfoError}
use Rattle.js_message.specs.declared.info_error.InfoError.TheVariants.{Prefix, TokenCount, Number, Instant}

-- what an acknowledgement subject says
pub record Info : Type 0 where
  pub domain : Option (List ℕ)
  pub acc_hash : Option (List ℕ)
  pub stream : List ℕ
  pub consumer : List ℕ
  pub delivered : ℤ
  pub stream_sequence : ℕ
  pub consumer_sequence : ℕ
  pub published : ℤ
  pub pending : ℕ
  pub token : Option (List ℕ)

-- what was read, or the place of a bad number; then what follows
abbrev pub read_then : {A B : Type 0} → Option A → ℕ → (A → Result B InfoError) → Result B InfoError
read_then None place next = Err (Number place)
read_then (Some value) place next = next value

-- the nanoseconds that a timestamp holds
abbrev pub is_instant : ℤ → Bool
is_instant n = int_le (neg_ℤ (pos 377_705_023_201_000_000_000)) n && int_le n (pos 253_402_207_200_999_999_999)

-- the text as an i64
abbrev pub i64_of : List ℕ → Option ℤ
i64_of = signed_of (neg_ℤ (pos (2 ^ 63))) (pos (2 ^ 63 - 1))

-- the text as an i128
abbrev pub i128_of : List ℕ → Option ℤ
i128_of = signed_of (neg_ℤ (pos (2 ^ 127))) (pos (2 ^ 127 - 1))

-- the seven tokens, of which the first is at the place, read from left to right
abbrev pub seven : ℕ → Option (List ℕ) → Option (List ℕ) → Option (List ℕ) → List ℕ → List ℕ → List ℕ → List ℕ → List ℕ → List ℕ → List ℕ → Result Info InfoError
seven place domain acc_hash token stream consumer delivered stream_sequence consumer_sequence published pending =
    read_then (i64_of delivered) (place + 2) (λ d.
    read_then (u64_of stream_sequence) (place + 3) (λ s.
    read_then (u64_of consumer_sequence) (place + 4) (λ c.
    read_then (i128_of published) (place + 5) (λ at.
    if is_instant at
    then read_then (u64_of pending) (place + 6) (λ p. Ok (record {
      domain = domain;
      acc_hash = acc_hash;
      stream = stream;
      consumer = consumer;
      delivered = d;
      stream_sequence = s;
      consumer_sequence = c;
      published = at;
      pending = p;
      token = token;
    }))
    else Err Instant))))

-- the token of a number, counted from 0
abbrev pub token_at : ℕ → List (List ℕ) → List ℕ
token_at k tokens = slice_index_or tokens k []

-- what follows the seven tokens of which the first is at the place
abbrev pub seven_at : ℕ → Option (List ℕ) → Option (List ℕ) → List (List ℕ) → Result Info InfoError
seven_at place domain acc_hash tokens =
    seven place domain acc_hash (slice_get tokens (place + 7)) (token_at place tokens) (token_at (place + 1) tokens) (token_at (place + 2) tokens) (token_at (place + 3) tokens) (token_at (place + 4) tokens) (token_at (place + 5) tokens) (token_at (place + 6) tokens)

-- `_` is no domain
abbrev pub domain_of : List ℕ → Option (List ℕ)
domain_of text = if bytes_eq text (codes "_") then None else Some text

-- the tenth token, where there is one
abbrev pub first_of_rest : List (List ℕ) → Option (List ℕ)
first_of_rest [] = None
first_of_rest (token ∷ tokens) = Some token

-- seven tokens, or nine and more, of which the tenth is kept
abbrev pub of_tokens : List (List ℕ) → Result Info InfoError
of_tokens (stream ∷ consumer ∷ delivered ∷ sseq ∷ cseq ∷ published ∷ pending ∷ []) =
    seven 0 None None None stream consumer delivered sseq cseq published pending
of_tokens (domain ∷ hash ∷ stream ∷ consumer ∷ delivered ∷ sseq ∷ cseq ∷ published ∷ pending ∷ rest) =
    seven 2 (domain_of domain) (Some hash) (first_of_rest rest) stream consumer delivered sseq cseq published pending
of_tokens others = Err (TokenCount (length others))

-- what the text says as an acknowledgement subject
abbrev pub ack : List ℕ → Result Info InfoError
ack text = if starts_with nat_eq text (codes "$JS.ACK.") then of_tokens (tokens (drop 8 text)) else Err Prefix

-- a message's stream sequence and consumer number
pub record Place : Type 0 where
  pub sequence : ℕ
  pub number : ℕ

-- the two numbers of what was read
abbrev pub place_of : Result Info InfoError → Option Place
place_of (Ok info) = Some (record { sequence = info.stream_sequence; number = info.consumer_sequence })
place_of (Err error) = None

-- where a message with this reply stands, if it is readable
abbrev pub readable_as : Option (List ℕ) → Option Place
readable_as None = None
readable_as (Some reply) = place_of (ack reply)
