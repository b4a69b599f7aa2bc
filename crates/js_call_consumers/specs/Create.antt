-- Making and changing consumers: a row of the table of calls for each of the calls.
use Rattle.std.specs.Prelude.{ℕ, ◌≡◌, Option, None, List, codes, Result, Ok, Err, refl}
use Rattle.js_base.specs.Error.{caused}
use Rattle.js_base.specs.declared.error.Source.TheVariants.{Text}
use Rattle.js_json_members.specs.declared.key.Key.TheVariants.{OptStartTime}
use Rattle.js_json_members.specs.declared.error.ReadError.TheVariants.{OutOfRange}
use Rattle.js_call_consumers.specs.declared.error.ConsumerErrorKind.TheVariants.{Request as ConsumerRequest}
use Rattle.js_base.specs.declared.error.Error.{Error}
use Rattle.js_base.specs.declared.turn.Turn.{Turn}
use Rattle.js_base.specs.declared.turn.Turn.TheVariants.{Pending, Ready, OutOfMemory}
use Rattle.js_json_members.specs.Member.{float_free}
use Rattle.js_json_members.specs.Rows.{text_of}
use Rattle.js_json_members.specs.declared.error.ReadError.{ReadError}
use Rattle.js_json.specs.CreateRequest.{create_request_value}
use Rattle.js_json.specs.Response.{response_of}
use Rattle.js_json.specs.declared.consumer.config.Config.{Config}
use Rattle.js_json.specs.declared.consumer.conversion.ConfigError.{ConfigError}
use Rattle.js_json.specs.declared.consumer.create_request.Action.{Action}
use Rattle.js_json.specs.declared.consumer.create_request.CreateRequest.{CreateRequest}
use Rattle.js_json.specs.declared.response.Response.{Response}
use Rattle.js_json.specs.declared.response.Response.TheVariants as response
use Rattle.js_call.specs.declared.call.Call.{Call}
use Rattle.js_call.specs.declared.failure.Failure.TheVariants.{Read}
use Rattle.js_call.specs.declared.open_request.OpenRequest.{OpenRequest}
use Rattle.js_call.specs.declared.scope.ApiScope.{ApiScope}
use Rattle.js_call.specs.Call.{calling}
use Rattle.js_call.specs.Failure.{failure_source}
use Rattle.js_call.specs.Scope.{asking}
use Rattle.js_call.specs.Table.{Table, reads_as}
use Rattle.js_call.specs.CallSequence.{Polls}
use Rattle.js_link.specs.LinkView.{LinkView}
use Rattle.js_call_consumers.specs.declared.consumer.Consumer.{Consumer}
use Rattle.js_call_consumers.specs.declared.create.CreatingConsumer.{CreatingConsumer}
use Rattle.js_call_consumers.specs.declared.create_call.CreateCall.{CreateCall}
use Rattle.js_call_consumers.specs.declared.create_call.CreateCall.TheVariants.{Refused, Asking}
use Rattle.js_call_consumers.specs.declared.consumer_answer.ConsumerAnswer.{ConsumerAnswer}
use Rattle.js_call_consumers.specs.CreateKind.{Kinds, consumer_kinds, failed}
use Rattle.js_call_consumers.specs.CreateSubject.{create_subject}
use Rattle.js_call_consumers.specs.ConsumerAnswer.{told_fields, converted}

-- the consumer, or why it was not made
abbrev pub created : {C K : Type 0} → Kinds K → CreatingConsumer C K → Response (ConsumerAnswer C) → Result (Consumer C) (Error K)
created kinds s (response.Ok told) = converted kinds.other s.scope told.info told.config
created kinds s (response.Err error) = Err (kinds.of_api error)

-- the row of a call that makes a kind of consumer
abbrev pub create_row : {C K : Type 0} → (Config → Result C ConfigError) → Kinds K → Table (CreatingConsumer C K) (Response (ConsumerAnswer C)) (Result (Consumer C) (Error K))
create_row of_config kinds = record {
  refused = λ s. None;
  reads = reads_as (response_of (float_free (told_fields of_config)));
  means = created kinds;
  fails = λ s failure source. Err (failed kinds.of_request failure source);
}

-- what is asked for, as a value
abbrev pub request_of : Action → Config → List ℕ → CreateRequest
request_of action config stream = record { action = action; config = config; stream_name = stream }

-- a call that asks for a consumer by that text, which is not sent
abbrev pub creating : {C K : Type 0} → ApiScope → CreateRequest → List ℕ → Call (CreatingConsumer C K)
creating scope request text = calling
    (record { scope = scope; of = record {} })
    (asking scope (create_subject request.stream_name request.config) text)

-- the refusal of a request that has no text: that it can't be made, and why
abbrev pub unwritten : {K : Type 0} → Kinds K → ReadError → Error K
unwritten kinds fault = failed kinds.of_request (Read fault) (failure_source (Read fault))

-- a start that has no text is told with its key
start_is_told : unwritten consumer_kinds (OutOfRange OptStartTime) ≡ caused ConsumerRequest (Text (codes "opt_start_time: out of range"))
start_is_told = refl

-- the call by the text of its request, or its refusal where that has none
abbrev pub MakesBy : {C K : Type 0} → Result (List ℕ) ReadError → Kinds K → ApiScope → CreateRequest → CreateCall C K → Type 0
MakesBy (Ok text) kinds scope request call = call ≡ Asking (creating scope request text)
MakesBy (Err fault) kinds scope request call = call ≡ Refused (unwritten kinds fault)

-- the call, which is not sent
abbrev pub Makes : {C K : Type 0} → Kinds K → ApiScope → CreateRequest → CreateCall C K → Type 0
Makes kinds scope request call = MakesBy (text_of (create_request_value request)) kinds scope request call

-- what a poll does: a refusal is answered and nothing is sent, and else the request goes on
abbrev pub CreatePolled : {C K Y : Type 0} → Polls (Call (CreatingConsumer C K)) (Result Y (Error K)) → CreateCall C K → ℕ → Turn (CreateCall C K) (Result Y (Error K)) → LinkView → LinkView → Type 0
CreatePolled polls (Refused error) now turn old new = (turn ≡ Ready (Err error)) × (new ≡ old)
CreatePolled polls (Asking call) now (Pending (Asking next)) old new = polls call now (Pending next) old new
CreatePolled polls (Asking call) now (OutOfMemory (Asking next)) old new = polls call now (OutOfMemory next) old new
CreatePolled polls (Asking call) now (Ready answer) old new = polls call now (Ready answer) old new
CreatePolled polls (Asking call) now (Pending (Refused error)) old new = ⊥
CreatePolled polls (Asking call) now (OutOfMemory (Refused error)) old new = ⊥

-- what it waits for: a refusal for nothing, and else what its call does
abbrev pub create_waits_for : {C K : Type 0} → (Call (CreatingConsumer C K) → Option OpenRequest) → CreateCall C K → Option OpenRequest
create_waits_for call_waits_for (Refused error) = None
create_waits_for call_waits_for (Asking call) = call_waits_for call
