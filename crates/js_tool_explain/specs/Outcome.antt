-- What the consumer puts out in a step, and what is said of it.
use Rattle.std.specs.Prelude.{ℕ, Bool, true, false, List, [], ◌∷◌, length, codes, is_some, ◌==◌, if◌then◌else◌}
use Rattle.js_ordered_table.specs.declared.consumer.Consumer.{Consumer}
use Rattle.js_ordered_table.specs.declared.consumer.Phase.{Phase}
use Rattle.js_ordered_table.specs.declared.consumer.Phase.TheVariants.{Pulls, Pushes, Recreates, Idle, Ended, Exhausted}
use Rattle.js_ordered_table.specs.declared.consumer.Stage.{Stage}
use Rattle.js_ordered_table.specs.declared.consumer.Stage.TheVariants.{Between, Deleting, Creating, Waiting}
use Rattle.js_ordered_table.specs.declared.run.ItemKind.{ItemKind}
use Rattle.js_ordered_table.specs.declared.run.ItemKind.TheVariants as kind
use Rattle.js_ordered_table.specs.declared.run.Output.{Output}
use Rattle.js_ordered_table.specs.declared.run.Output.TheVariants as out
use Rattle.js_ordered_table.specs.declared.run.Start as starts
use Rattle.js_ordered_table.specs.declared.run.Start.TheVariants as start
use Rattle.js_tool_explain.specs.declared.outcome.Place.{Place}
use Rattle.js_tool_explain.specs.declared.outcome.Purpose.{Purpose}
use Rattle.js_tool_explain.specs.declared.outcome.Purpose.TheVariants as purpose
use Rattle.js_tool_explain.specs.SentencePart.{Text, Number, Count, line_text}

-- in which step something is put out: its moment, whether the consumer was being recreated before it, whether the end of the watcher
-- ended the consumer in it, and the link and the consumer after it
pub record StepPlace : Type 0 where
  pub at : ℕ
  pub was_recreating : Bool
  pub is_unwatched : Bool
  pub is_up : Bool
  pub consumer : Consumer

abbrev pub place_of : Place → StepPlace
place_of place = record { at = place.at; was_recreating = place.was_recreating; is_unwatched = place.is_unwatched; is_up = place.is_up; consumer = place.consumer.now }

-- ---- requests

-- a recreation that waits for the answer to a request sent it last
abbrev pub stage_purpose : ℕ → Stage → Purpose
stage_purpose request Between = purpose.Info
stage_purpose request (Deleting asked timeout) = if request == asked then purpose.Delete else purpose.Info
stage_purpose request (Creating asked timeout) = if request == asked then purpose.Create else purpose.Info
stage_purpose request (Waiting wait) = purpose.Info

-- all other requests are a reader's, for the consumer's info
abbrev pub purpose_of : ℕ → Phase → Purpose
purpose_of request (Pulls reader) = purpose.Info
purpose_of request (Pushes inbox heartbeat_timer) = purpose.Info
purpose_of request (Recreates r) = stage_purpose request r.stage
purpose_of request Idle = purpose.Info
purpose_of request Ended = purpose.Info
purpose_of request Exhausted = purpose.Info

-- ---- what is said

-- a message that was handed out, with the length of its payload
abbrev pub yield_text : ℕ → ℕ → ℕ → ℕ → List ℕ
yield_text at sequence number bytes = line_text at (
    Text (codes "Message ") ∷ Number sequence ∷ Text (codes " came in order (consumer sequence ") ∷ Number number ∷ Text (codes ", ")
    ∷ Count bytes (codes "byte") ∷ Text (codes ") and was handed out.") ∷ [])

abbrev pub other_text : Bool → List ℕ
other_text true = codes "The user was handed the error Other: the connection is not watched any more."
other_text false = codes "The user was handed the error Other: a message that came cannot be read."

-- with the link open a pull request goes out
abbrev pub pull_text : Bool → List ℕ
pull_text true = codes "The user was handed the error Pull: six requests for the consumer's info have failed."
pull_text false =
    codes "The user was handed the error Pull: the link is closed, so that a pull request did not go out or the sixth request for the consumer's info has failed."

-- an error item by its name, with its cause
abbrev pub item_text : Bool → Bool → ItemKind → List ℕ
item_text up unwatched kind.MissingHeartbeat = codes "The user was handed the error MissingHeartbeat: nothing came from the server in time."
item_text up unwatched kind.RequestLimitExceeded = codes "The user was handed the error RequestLimitExceeded: the server refused two requests of this size."
item_text up unwatched kind.PushBasedConsumer = codes "The user was handed the error PushBasedConsumer: the consumer is a push consumer."
item_text up unwatched kind.Pull = pull_text up
item_text up unwatched kind.Recreate = codes "The user was handed the error Recreate: all tries to recreate the consumer have failed."
item_text up unwatched kind.Other = other_text unwatched
item_text up unwatched kind.StreamNotFound = codes "The user was handed the error StreamNotFound: the server has no stream of this name."

-- where a recreation ends and another begins in one step, push has heard what it held
abbrev pub why_text : Bool → List ℕ
why_text true = codes "What was held shows a gap: the consumer is being recreated (recreation "
why_text false = codes "The consumer is being recreated (recreation "

-- a recreation by its serial number, and where it starts
abbrev pub recreation_text : ℕ → Bool → ℕ → starts.Start → List ℕ
recreation_text at recreating count start.All = line_text at (
    Text (why_text recreating) ∷ Number count ∷ Text (codes ") from the beginning of the stream.") ∷ [])
recreation_text at recreating count (start.From sequence) = line_text at (
    Text (why_text recreating) ∷ Number count ∷ Text (codes ") from stream sequence ") ∷ Number sequence ∷ Text (codes ".") ∷ [])

abbrev pub numbered_text : ℕ → List ℕ → ℕ → List ℕ
numbered_text at text request = line_text at (Text text ∷ Number request ∷ Text (codes ").") ∷ [])

abbrev pub purpose_text : ℕ → List ℕ → ℕ → Purpose → List ℕ
purpose_text at name request purpose.Delete = numbered_text at (codes "The old consumer is being deleted (request ") request
purpose_text at name request purpose.Create = line_text at (
    Text (codes "The new consumer \"") ∷ Text name ∷ Text (codes "\" is being created (request ") ∷ Number request ∷ Text (codes ").") ∷ [])
purpose_text at name request purpose.Info = numbered_text at (codes "The consumer's info is asked for (request ") request

-- a request by its number and what it is for
abbrev pub request_text : ℕ → Consumer → ℕ → List ℕ
request_text at c request = purpose_text at c.name request (purpose_of request c.phase)

-- a pull request has a reply subject, and the answer to a flow-control message has none
abbrev pub publish_text : Bool → List ℕ
publish_text true = codes "A pull request was sent."
publish_text false = codes "A flow-control message was answered."

abbrev pub inbox_text : ℕ → ℕ → List ℕ
inbox_text at inbox = line_text at (Text (codes "Inbox ") ∷ Number inbox ∷ Text (codes " was opened for the new consumer.") ∷ [])

-- the line of an output
abbrev pub output_text : StepPlace → Output → List ℕ
output_text place (out.Yield sequence number subject payload) = yield_text place.at sequence number (length payload)
output_text place (out.Item kind) = line_text place.at (Text (item_text place.is_up place.is_unwatched kind) ∷ [])
output_text place (out.Recreate count from) = recreation_text place.at place.was_recreating count from
output_text place (out.Request number subject payload) = request_text place.at place.consumer number
output_text place (out.Publish subject reply payload) = line_text place.at (Text (publish_text (is_some reply)) ∷ [])
output_text place (out.Subscribe inbox subject) = inbox_text place.at inbox
