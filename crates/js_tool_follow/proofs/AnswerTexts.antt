-- The answers to one event more, and that without options they are the text of the run.
use Rattle.std.proofs.Common.{◌≡◌, ℕ, Bool, true, false, List, [], ◌∷◌, ◌++◌, length, flat_map, if◌then◌else◌, Option, Result, Ok, Err, refl, sym, ap, subst, ◌∙◌, append-nil, append_assoc}
use Rattle.std.specs.Prelude.{codes, OnOk}
use Rattle.std.specs.Io.KnownBytes.{Appends}
use Rattle.std.specs.Str.{is_utf8}
use Rattle.base64.specs.Engines.{standard}
use Rattle.base64.specs.GeneralPurpose.{encode_of}
use Rattle.serde_json.specs.Data.{string}
use Rattle.js_base.specs.declared.message.Message.{Message}
use Rattle.js_ordered.specs.declared.incremental_replay.IncrementalReplay.{IncrementalReplay}
use Rattle.js_ordered.specs.IncrementalReplay.{HasCome}
use Rattle.js_ordered_table.specs.declared.consumer.Phase.{Phase}
use Rattle.js_ordered_table.specs.declared.event.Event.{Event}
use Rattle.js_ordered_table.specs.declared.replay_state.ReplayState.{ReplayState}
use Rattle.js_ordered_table.specs.declared.run.Output.{Output}
use Rattle.js_ordered_table.specs.Fold.{fold}
use Rattle.js_tool.specs.declared.command.FollowOptions.{FollowOptions}
use Rattle.js_tool.specs.Command.{plain}
use Rattle.js_tool_transcript.specs.declared.transcript.setup.Setup.{Setup}
use Rattle.js_tool_transcript.specs.TranscriptReplay.{replay_input}
use Rattle.js_tool_transcript.specs.Text.{count, line_text, output_text, text_so_far, last_line, run_text}
use Rattle.js_tool.proofs.RunText.{text_first as run_first, text_on, text_ends}
use Rattle.js_tool_follow.specs.AnswerText.{last_text, last_outputs, last_phase, answer_text, messages_behind, answers_behind, text_to, whole_text}
use Rattle.js_tool_follow.specs.Details.{details_text, payload_text}
use Rattle.js_tool_follow.specs.Wakes.{wakes_text}

-- ---- one event more

-- the opening's alone
pub text_first : (asked : FollowOptions) (setup : Setup) → text_to asked setup [] ≡ [] ++ answer_text asked [] setup []
text_first asked setup = append-nil (answer_text asked [] setup [])

-- the answer to the last of these events
one : FollowOptions → Setup → Event → List Event → List ℕ
one asked setup e front = answer_text asked (messages_behind setup front e) setup (front ++ e ∷ [])

answers_more : (asked : FollowOptions) (setup : Setup) (before es : List Event) (e : Event)
    → answers_behind asked setup before (es ++ e ∷ []) ≡ answers_behind asked setup before es ++ one asked setup e (before ++ es)
unfolding one
answers_more asked setup before [] e =
    append-nil (one asked setup e before) ∙ ap (one asked setup e) (sym (append-nil before))
answers_more asked setup before (x ∷ es) e =
    let first = one asked setup x before in
    let rest = answers_behind asked setup (before ++ x ∷ []) es in
    ap (λ (text : List ℕ). first ++ text) (answers_more asked setup (before ++ x ∷ []) es e)
    ∙ ap (λ (front : List Event). first ++ (rest ++ one asked setup e front)) (append_assoc before (x ∷ []) es)
    ∙ sym (append_assoc first rest (one asked setup e (before ++ x ∷ es)))

-- the answer to one event more stands behind the others
pub text_more : (asked : FollowOptions) (setup : Setup) (es : List Event) (e : Event)
    → text_to asked setup (es ++ e ∷ []) ≡ text_to asked setup es ++ answer_text asked (messages_behind setup es e) setup (es ++ e ∷ [])
unfolding one
text_more asked setup es e =
    let first = answer_text asked [] setup [] in
    ap (λ (text : List ℕ). first ++ text) (answers_more asked setup [] es e)
    ∙ sym (append_assoc first (answers_behind asked setup [] es) (one asked setup e es))

-- ---- what is not asked for

-- without details the messages do not count
messages_same : (asked : Bool) (step : ℕ) (messages : List Message) (outputs : List Output) → details_text asked step (if asked then messages else []) outputs ≡ details_text asked step messages outputs
messages_same true step messages outputs = refl
messages_same false step messages outputs = refl

pub answer_same : (asked : FollowOptions) (messages : List Message) (setup : Setup) (es : List Event) → answer_text asked (if asked.details then messages else []) setup es ≡ answer_text asked messages setup es
answer_same asked messages setup es =
    ap (λ (text : List ℕ). last_text setup es ++ (text ++ wakes_text asked.wakes (length es) (last_phase setup es))) (messages_same asked.details (length es) messages (last_outputs setup es))

plain_answer : (messages : List Message) (setup : Setup) (es : List Event) → answer_text plain messages setup es ≡ last_text setup es
plain_answer messages setup es = append-nil (last_text setup es)

-- the text that `replay` writes of the opening and of these events
text_of : Setup → List Event → List ℕ
text_of setup es = text_so_far (fold (replay_input setup) setup.start es)

plain_behind : (setup : Setup) (before es : List Event) → text_of setup (before ++ es) ≡ text_of setup before ++ answers_behind plain setup before es
unfolding text_of
plain_behind setup before [] = ap (text_of setup) (append-nil before) ∙ sym (append-nil (text_of setup before))
plain_behind setup before (e ∷ es) =
    let all : List Event = before ++ e ∷ [] in
    let rest = answers_behind plain setup all es in
    ap (text_of setup) (sym (append_assoc before (e ∷ []) es))
    ∙ plain_behind setup all es
    ∙ ap (λ (t : List ℕ). t ++ rest) (text_on (replay_input setup) setup.start before e)
    ∙ append_assoc (text_of setup before) (last_text setup all) rest
    ∙ ap (λ (t : List ℕ). text_of setup before ++ (t ++ rest)) (sym (plain_answer (messages_behind setup before e) setup all))

-- without options the answers are that text
plain_text : (setup : Setup) (es : List Event) → text_to plain setup es ≡ text_so_far (fold (replay_input setup) setup.start es)
unfolding text_of
plain_text setup es =
    sym (plain_behind setup [] es ∙ ap (λ (t : List ℕ). t ++ answers_behind plain setup [] es) (run_first (replay_input setup) setup.start ∙ sym (plain_answer [] setup [])))

plain_whole : (setup : Setup) (es : List Event) → whole_text plain setup es ≡ run_text (fold (replay_input setup) setup.start es)
plain_whole setup es =
    ap (λ (t : List ℕ). t ++ last_line (fold (replay_input setup) setup.start es).ended (length es)) (plain_text setup es)
    ∙ sym (text_ends (replay_input setup) setup.start es)

pub plain_run : (asked : FollowOptions) (setup : Setup) (es : List Event) (taken now : Option (List ℕ)) → asked ≡ plain → Appends taken now (whole_text asked setup es)
    → Appends taken now (run_text (fold (replay_input setup) setup.start es))
plain_run asked setup es taken now none appends =
    subst (Appends taken now) (plain_whole setup es) (subst (λ (options : FollowOptions). Appends taken now (whole_text options setup es)) none appends)

-- ---- as it is written

-- the text of a step, the details and the moment were added one behind the other
pub outputs_so : (asked : FollowOptions) (messages : List Message) (setup : Setup) (es : List Event) (replay : IncrementalReplay) (step : ℕ) (outputs : List Output) (state : ReplayState) (none first second third : List ℕ)
    → HasCome (replay_input setup) setup.start es replay → step ≡ replay.count → outputs ≡ replay.outputs → state ≡ replay.state
    → none ≡ [] → first ≡ none ++ flat_map (output_text step) outputs → second ≡ first ++ details_text asked.details step messages outputs → third ≡ second ++ wakes_text asked.wakes step state.consumer.phase
    → third ≡ answer_text asked messages setup es
outputs_so asked messages setup es replay step outputs state none first second third come counted put lent empty says details wakes =
    let told : List ℕ = details_text asked.details step messages outputs in
    let woken : List ℕ = wakes_text asked.wakes step state.consumer.phase in
    wakes
    ∙ ap (λ (t : List ℕ). t ++ woken) details
    ∙ append_assoc first told woken
    ∙ ap (λ (t : List ℕ). t ++ (told ++ woken)) (says ∙ ap (λ (t : List ℕ). t ++ flat_map (output_text step) outputs) empty)
    ∙ ap (λ (n : ℕ). flat_map (output_text n) outputs ++ (details_text asked.details n messages outputs ++ wakes_text asked.wakes n state.consumer.phase)) (counted ∙ come.count)
    ∙ ap (λ (some : List Output). flat_map (output_text (length es)) some ++ (details_text asked.details (length es) messages some ++ wakes_text asked.wakes (length es) state.consumer.phase)) (put ∙ come.outputs)
    ∙ ap (λ (w : ReplayState). last_text setup es ++ (details_text asked.details (length es) messages (last_outputs setup es) ++ wakes_text asked.wakes (length es) w.consumer.phase)) (lent ∙ come.state)

-- a payload that is no text was added in base64
pub payload_so : {T E : Type 0} (result : Result T E) (step sequence : ℕ) (payload encoded before after : List ℕ) → is_utf8 payload ≡ false → encoded ≡ encode_of standard payload
    → OnOk result (after ≡ before ++ line_text (count step ∷ string (codes "payload_base64") ∷ count sequence ∷ string encoded ∷ []))
    → OnOk result (after ≡ before ++ payload_text step sequence payload)
payload_so (Ok done) step sequence payload encoded before after none is says =
    let line : List ℕ → List ℕ = λ text. line_text (count step ∷ string (codes "payload_base64") ∷ count sequence ∷ string text ∷ []) in
    says
    ∙ ap (λ (text : List ℕ). before ++ line text) is
    ∙ ap (λ (readable : Bool). before ++ (if readable then [] else line (encode_of standard payload))) (sym none)
payload_so (Err error) step sequence payload encoded before after none is says = tt
