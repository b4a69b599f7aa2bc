-- What the replies of a generated transcript read as.
use Rattle.std.proofs.Common.{◌≡◌, ℕ, ◌^◌, ◌<◌, List, ◌∷◌, Some, codes, decimal, ap, ◌∙◌}
use Rattle.js_message.specs.AckSubject.{of_tokens, place_of, readable_as}
use Rattle.js_message.proofs.DecimalTokens.{u64_of-decimal, last_tokens, placed}
use Rattle.js_tool_generate.specs.Episode.{reply}

-- a reply reads as the sequence and the number that it was made of
pub reply_reads : (sequence number : ℕ) → sequence < 2 ^ 64 → number < 2 ^ 64
    → readable_as (Some (reply sequence number)) ≡ Some (record { sequence = sequence; number = number })
reply_reads sequence number s n =
    ap (λ (ts : List (List ℕ)). place_of (of_tokens (codes "events" ∷ codes "gen" ∷ codes "1" ∷ ts))) (last_tokens sequence number s n)
    ∙ placed (codes "events") (codes "gen") (decimal sequence) (decimal number) sequence number (u64_of-decimal sequence s) (u64_of-decimal number n)
