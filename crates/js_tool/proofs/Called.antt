-- The status that an input calls for, by what it says.
use Rattle.std.proofs.Common.{◌≡◌, ℕ, ◌<◌, ◌≤◌, List, length, true, false, nat_lt, Option, Some, None, IfSome, Result, refl, subst, ◌∙◌, arith}
use Rattle.std.proofs.lemmas.Bool.Decides.{nat_tests}
use Rattle.js_ordered_table.proofs.Accepted.{valid_accepted}
use Rattle.js_tool.specs.declared.status.Status.{Status}
use Rattle.js_tool.specs.declared.status.Status.TheVariants as status
use Rattle.js_tool.specs.declared.answer.ReplayOutcome.{ReplayOutcome}
use Rattle.js_tool.specs.declared.answer.ReplayOutcome.TheVariants as outcome
use Rattle.js_tool.specs.Answer.{Texts, IsAcceptedAs, IsOutcome, text_of}
use Rattle.js_tool.specs.Program.{IsUnlessFailed, called_by}
use Rattle.js_tool_transcript.specs.TranscriptReplay.{replay_input, IsValidAs}
use Rattle.js_tool_transcript.specs.declared.transcript.Transcript.{Transcript}

-- what holds of the bytes that were read holds of those that the source told
pub of_source : (left : Option (List ℕ)) (read : List ℕ) (P : List ℕ → Type 0) → IfSome left (λ bytes. read ≡ bytes) → P read → IfSome left P
of_source None read P whole h = tt
of_source (Some bytes) read P whole h = subst P whole h

-- the program reads up to 64 MiB
pub not_long : (n : ℕ) → n ≤ 67_108_864 → nat_lt 67_108_864 n ≡ false
not_long n within = grind (arith, nat_tests)

pub is_long : (n : ℕ) → 67_108_864 < n → nat_lt 67_108_864 n ≡ true
is_long n above = grind (arith, nat_tests)

abbrev pub outcome_status : ReplayOutcome → Status
outcome_status (outcome.Done text) = status.Done
outcome_status (outcome.Refused text) = status.Refused
outcome_status (outcome.BadLine line) = status.BadLine line

pub called_outcome : (text : Texts) (reading : Result Transcript ℕ) (r : ReplayOutcome) (bytes : List ℕ) → IsOutcome text reading bytes r → called_by reading bytes ≡ outcome_status r
unfolding called_by
called_outcome text reading (outcome.Done written) bytes (t, is, says) = rw (not_long (length bytes) is.within, is.reads, is.accepted) refl
called_outcome text reading (outcome.Refused written) bytes (refusal, refused, says) = rw (not_long (length bytes) refused.within, refused.by.1, refused.by.2) refl
called_outcome text reading (outcome.BadLine line) bytes unread = rw (not_long (length bytes) unread.within, unread.by) refl

-- what is written of the outcome is written of the text
pub writes_text : (text : Texts) (reading : Result Transcript ℕ) (bytes : List ℕ) (P : List ℕ → Type 0) (piece written : List ℕ) → (t : Transcript) × IsAcceptedAs reading bytes t × (written ≡ text_of text t)
    → piece ≡ written → P piece → (t : Transcript) × IsAcceptedAs reading bytes t × P (text_of text t)
writes_text text reading bytes P piece written (t, is, says) same writes = (t, is, subst P (same ∙ says) writes)

-- however the bytes are read
pub too_long_by : (reading : List ℕ → Result Transcript ℕ) (left : Option (List ℕ)) → IfSome left (λ bytes. 67_108_864 < length bytes) → IfSome left (λ bytes. called_by (reading bytes) bytes ≡ status.TooLong)
unfolding called_by
too_long_by reading None long = tt
too_long_by reading (Some bytes) long = rw (is_long (length bytes) long) refl

-- valid input calls for its text
called_valid : (reading : Result Transcript ℕ) (bytes : List ℕ) → IsValidAs reading bytes → called_by reading bytes ≡ status.Done
unfolding called_by
called_valid reading bytes valid =
    let t = valid.by.0 in
    rw (not_long (length bytes) valid.within, valid.by.1, valid_accepted (replay_input t.setup) t.setup.start t.events valid.by.2) refl

-- so nothing else is answered to it, where nothing fails
pub valid_by : (reading : List ℕ → Result Transcript ℕ) (left : Option (List ℕ)) (s : Status) → IfSome left (λ bytes. IsUnlessFailed s (called_by (reading bytes) bytes))
    → IfSome left (λ bytes. IsValidAs (reading bytes) bytes → IsUnlessFailed s status.Done)
valid_by reading None s as_called = tt
valid_by reading (Some bytes) s as_called = λ valid. subst (IsUnlessFailed s) (called_valid (reading bytes) bytes valid) as_called
