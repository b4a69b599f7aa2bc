-- Worked rows of the options by which a reader never hangs, and that without them a row is as it is without any option.
use Rattle.std.proofs.Common.{◌≡◌, ℕ, ◌*◌, Bool, true, false, [], ◌∷◌, Some, None, refl, ap}
use Rattle.std.specs.Prelude.{◌&&◌, not, if◌then◌else◌}
use Rattle.js_base.specs.Clock.{is_any_due, second}
use Rattle.js_link.specs.RowInput.{RowInput}
use Rattle.js_pull.specs.Limits.{batch_of}
use Rattle.js_pull.specs.Passes.{publishing}
use Rattle.js_pull.specs.Resilience.{none, all}
use Rattle.js_pull.specs.declared.resilience.Resilience.{Resilience}
use Rattle.js_pull.specs.declared.reader.InfoRequest.{InfoRequest}
use Rattle.js_pull.specs.declared.reader.InfoRequest.TheVariants.{NoInfoRequest, Asked}
use Rattle.js_pull.specs.declared.reader.MessagesErrorKind.TheVariants as error
use Rattle.js_pull.specs.declared.reader.Reader.{Reader}
use Rattle.js_pull.specs.declared.reader.Row.TheVariants.{Inquire, FailInfoRequest}
use Rattle.js_pull.specs.declared.replies.InfoReply.{InfoReply}
use Rattle.js_pull.specs.declared.replies.InfoReply.TheVariants as reply
use Rattle.js_pull.specs.Reader as rows
use Rattle.js_pull.specs.Reader.{new_reader}
use Rattle.js_pull.proofs.Bodies.{source}

-- ---- without the options

refused_as_ever : (failures : ℕ) (gone : Bool) (r : Reader) → r.source.resilience.recreates_when_gone ≡ false → rows.refused failures gone r ≡ rows.silent_row r (FailInfoRequest failures ∷ [])
refused_as_ever failures gone r off = ap (λ (b : Bool). if b && gone then rows.end_with error.ConsumerDeleted r else rows.silent_row r (FailInfoRequest failures ∷ [])) off

-- an answer without an info is a failed try
pub fails_as_ever : (failures : ℕ) (says : InfoReply) (r : Reader) → r.source.resilience ≡ none → rows.info_in says ≡ None → rows.answered failures says r ≡ rows.silent_row r (FailInfoRequest failures ∷ [])
fails_as_ever failures (reply.Info info) r off none_in = cc
fails_as_ever failures (reply.Error code) r off none_in = refused_as_ever failures (rows.is_gone code) r (ap (λ (o : Resilience). o.recreates_when_gone) off)
fails_as_ever failures reply.Nothing r off none_in = refl

-- nothing follows a missing heartbeat
pub silent_as_ever : (p : RowInput) (r : Reader) → r.source.resilience ≡ none
    → rows.check_silence p r ≡ (if is_any_due r.heartbeat_timer p.now then rows.tell error.MissingHeartbeat (rows.with_silence p.now r) [] else rows.silent_row r [])
silent_as_ever p r off = ap (λ (o : Resilience).
    if is_any_due r.heartbeat_timer p.now
    then rows.tell error.MissingHeartbeat (rows.with_silence p.now r) (if o.asks_at_first_heartbeat && not (rows.is_asking r.inquiry) then Inquire 0 ∷ [] else [])
    else rows.silent_row r []) off

-- ---- with them

-- a reader that has asked for an info, and whose heartbeat is armed
abbrev reader : Resilience → InfoRequest → Reader
reader resilience inquiry =
    record (new_reader (record (source (record (batch_of 1) { idle_heartbeat = 5 * second })) { resilience = resilience })) { inquiry = inquiry; heartbeat_timer = Some (record { set = 0; wait = 10 * second }) }

abbrev asked : Resilience → Reader
asked resilience = reader resilience (Asked 7 None 2)

-- a consumer that is not found ends the reader. Refused: the try has failed, and the next one waits
gone_is_told : rows.answered 2 (reply.Error (record { 0 = 10014 })) (asked all) ≡ rows.tell error.ConsumerDeleted (record (asked all) { ended = true }) []
gone_is_told = refl

-- and so a stream that is not found
stream_is_told : rows.answered 2 (reply.Error (record { 0 = 10059 })) (asked all) ≡ rows.tell error.ConsumerDeleted (record (asked all) { ended = true }) []
stream_is_told = refl

-- another error is a failed try. Refused: each error ends the reader
unavailable_fails : rows.answered 2 (reply.Error (record { 0 = 10008 })) (asked all) ≡ rows.silent_row (asked all) (FailInfoRequest 2 ∷ [])
unavailable_fails = refl

-- so is a consumer that is not found where all options are off
gone_fails : rows.answered 2 (reply.Error (record { 0 = 10014 })) (asked none) ≡ rows.silent_row (asked none) (FailInfoRequest 2 ∷ [])
gone_fails = refl

-- an info is asked for at a missing heartbeat. Refused: it is told, and nothing is asked
silence_asks : (rows.check_silence (publishing (10 * second) false) (reader all NoInfoRequest)).next ≡ Inquire 0 ∷ []
silence_asks = refl

-- not where one is open, nor where the options are off. Refused: the open request is forgotten
open_asks_nothing : (rows.check_silence (publishing (10 * second) false) (asked all)).next ≡ []
open_asks_nothing = refl

off_asks_nothing : (rows.check_silence (publishing (10 * second) false) (reader none NoInfoRequest)).next ≡ []
off_asks_nothing = refl
