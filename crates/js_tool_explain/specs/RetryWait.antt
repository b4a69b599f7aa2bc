-- What a consumer waits for before it tries again, and what is said of it.
use Rattle.std.specs.Prelude.{ℕ, Bool, true, false, not, ◌&&◌, List, [], ◌∷◌, codes, Option, Some, None, ◌==◌, if◌then◌else◌}
use Rattle.js_pull.specs.declared.reader.InfoRequest.{InfoRequest}
use Rattle.js_pull.specs.declared.reader.InfoRequest.TheVariants.{NoInfoRequest, Asked, Resting}
use Rattle.js_ordered_table.specs.declared.consumer.Phase.{Phase}
use Rattle.js_ordered_table.specs.declared.consumer.Phase.TheVariants.{Pulls, Pushes, Recreates, Idle, Ended, Exhausted}
use Rattle.js_ordered_table.specs.declared.consumer.Stage.{Stage}
use Rattle.js_ordered_table.specs.declared.consumer.Stage.TheVariants.{Between, Deleting, Creating, Waiting}
use Rattle.js_tool_explain.specs.declared.retry_wait.Rest.{Rest}
use Rattle.js_tool_explain.specs.SentencePart.{Said, Text, Seconds, Count, line_text}

-- ---- what it is

abbrev pub inquiry_rest : InfoRequest → Option Rest
inquiry_rest NoInfoRequest = None
inquiry_rest (Asked request timeout failures) = None
inquiry_rest (Resting wait failures) = Some (record { is_info = true; failures = failures; timer = wait })

abbrev pub stage_rest : ℕ → Stage → Option Rest
stage_rest failures Between = None
stage_rest failures (Deleting request timeout) = None
stage_rest failures (Creating request timeout) = None
stage_rest failures (Waiting wait) = Some (record { is_info = false; failures = failures; timer = wait })

-- a reader before the next request for the info, or a recreation before its next try
abbrev pub rest_of : Phase → Option Rest
rest_of (Pulls reader) = inquiry_rest reader.inquiry
rest_of (Pushes inbox heartbeat_timer) = None
rest_of (Recreates r) = stage_rest r.failures r.stage
rest_of Idle = None
rest_of Ended = None
rest_of Exhausted = None

abbrev pub is_same_kind : Bool → Bool → Bool
is_same_kind before after = if before then after else not after

-- two waits are one
abbrev pub is_same : Rest → Rest → Bool
is_same before after = is_same_kind before.is_info after.is_info && (before.timer.set == after.timer.set)

-- the wait was not there before
abbrev pub is_new : Option Rest → Rest → Bool
is_new None after = true
is_new (Some before) after = not (is_same before after)

-- ---- what is said of it

abbrev pub rest_sentence : Rest → List Said
rest_sentence rest =
    if rest.is_info
    then Text (codes "The request for the consumer's info has failed ") ∷ Count rest.failures (codes "time") ∷ Text (codes "; the next one follows after ")
    ∷ Seconds rest.timer.wait ∷ Text (codes ".") ∷ []
    else Text (codes "The recreation has failed ") ∷ Count rest.failures (codes "time") ∷ Text (codes "; the next try follows after ")
    ∷ Seconds rest.timer.wait ∷ Text (codes ".") ∷ []

abbrev pub rest_text : ℕ → Rest → List ℕ
rest_text at rest = line_text at (rest_sentence rest)

-- of a wait that began in a step
abbrev pub new_rest_text : ℕ → Option Rest → Option Rest → List ℕ
new_rest_text at before None = []
new_rest_text at before (Some rest) = if is_new before rest then rest_text at rest else []
