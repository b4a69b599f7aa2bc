-- What the transcript of a mirror is read as, and what its replay hands out.
use Rattle.std.specs.Prelude.{◌≡◌, ℕ, List, Ok}
use Rattle.std.specs.List.{AllByRecursion}
use Rattle.std.specs.Str.{IsUtf8}
use Rattle.js_base.specs.declared.message.Entry as base
use Rattle.js_json.specs.declared.consumer.deliver_policy.DeliverPolicy.TheVariants as policy
use Rattle.js_json.specs.declared.pull.OrderedConfig.{OrderedConfig}
use Rattle.js_json.specs.PullConfig.{new_ordered_pull_config}
use Rattle.js_event_log.specs.Mirror.{Mirrored}
use Rattle.js_ordered_table.specs.declared.consumer.ReplayInput.{ReplayInput}
use Rattle.js_ordered_table.specs.declared.run.Run.{Run}
use Rattle.js_ordered_table.specs.declared.event.Event.{Event}
use Rattle.js_ordered_table.specs.declared.setup.OrderedSetup.{OrderedSetup}
use Rattle.js_ordered_table.specs.declared.setup.OrderedSetup.TheVariants.{Pull}
use Rattle.js_ordered_table.specs.Gapless.{Server, IsHonest}
use Rattle.js_ordered_table.specs.Texts.{filters}
use Rattle.js_ordered_table.specs.Replay.{IsReplay}
use Rattle.js_event_log.specs.Events.{relayed}
use Rattle.js_event_log.specs.RelayReader.{HandsOut, default_settings}
use Rattle.js_event_log.specs.LogCopy.{IsCopy, server_of}
use Rattle.js_tool_transcript.specs.declared.transcript.setup.Setup.{Setup}
use Rattle.js_tool_transcript.specs.declared.transcript.Transcript.{Transcript}
use Rattle.js_tool_transcript.specs.TranscriptReplay.{Replays}
use Rattle.js_tool_transcript.specs.Transcript.{transcript}
use Rattle.js_tool_transcript.specs.RelayConfig.{relay_config, relay_info}

-- ---- what it is read as

-- an ordered pull consumer that starts at a sequence and has these filters
abbrev pub relay_reader : List ℕ → List (List ℕ) → ℕ → OrderedConfig
relay_reader filter filters start = record new_ordered_pull_config { deliver_policy = policy.ByStartSequence start; filter_subject = filter; filter_subjects = filters }

-- it has these names
abbrev pub relay_setup : List ℕ → List ℕ → List ℕ → List (List ℕ) → ℕ → Setup
relay_setup stream name filter filters start = record {
  settings = default_settings;
  setup = Pull (relay_reader filter filters start);
  first = relay_info stream name (relay_config filter filters start);
  start = 0;
}

-- that setup, and the arrivals of the mirror's entries
abbrev pub relay_transcript : List ℕ → List ℕ → List ℕ → List (List ℕ) → Mirrored → Transcript
relay_transcript stream name filter filters mirror =
    record { setup = relay_setup stream name filter filters mirror.start; events = relayed stream name 1 mirror.entries }

-- subjects and payloads are UTF-8, as those of messages that were read from JSON are
pub record IsText (entry : base.Entry) : Type 0 where
  pub subject : IsUtf8 entry.subject
  pub payload : IsUtf8 entry.payload

pub record AreTexts (filter : List ℕ) (filters : List (List ℕ)) (entries : List base.Entry) : Type 0 where
  pub one : IsUtf8 filter
  pub more : AllByRecursion IsUtf8 filters
  pub all : AllByRecursion IsText entries

-- the bytes are read as this transcript
abbrev pub ReadsAs : List ℕ → Transcript → Type 0
ReadsAs bytes t = transcript bytes ≡ Ok t

-- ---- what its replay hands out

-- each replay of the bytes hands out these entries, in order, without an error item and without a recreation
abbrev pub ReplaysTo : List base.Entry → List ℕ → Type 0
ReplaysTo entries bytes = (run : Run) → Replays bytes run → HandsOut entries run

-- Let a server have been honest in a run with a setup, and the mirror be one of that run. Then each replay of the bytes has the setup's filters, and the server is honest in it for the same log and the same removed ones.
abbrev pub StaysHonestIn : Mirrored → OrderedSetup → List ℕ → Type 0
StaysHonestIn mirror setup bytes =
    (s : Server) (first : ReplayInput) (start : ℕ) (first_events : List Event) (first_run : Run)
    → first.setup ≡ setup → IsReplay first start first_events first_run → IsHonest s first.setup first_events first_run → IsCopy first.setup first_run mirror
    → (run : Run) → Replays bytes run → (t : Transcript) × ReadsAs bytes t × (filters t.setup.setup ≡ filters first.setup) × IsHonest (server_of s mirror) t.setup.setup t.events run
