-- What a replay of a relayed mirror hands out.
use Rattle.std.specs.Prelude.{◌≡◌, ℕ, ⊤, List, map, None, Some, Result, Ok, Err, codes}
use Rattle.std.specs.List.{AllByRecursion}
use Rattle.js_base.specs.declared.message.Entry as base
use Rattle.js_json.specs.declared.consumer.info.Info.{Info}
use Rattle.js_json.specs.declared.consumer.deliver_policy.DeliverPolicy.TheVariants as policy
use Rattle.js_json.specs.declared.pull.OrderedConfig.{OrderedConfig}
use Rattle.js_json.specs.PullConfig.{new_ordered_pull_config}
use Rattle.js_ordered_table.specs.declared.setup.Settings.{Settings}
use Rattle.js_ordered_table.specs.declared.setup.OrderedSetup.TheVariants.{Pull}
use Rattle.js_ordered_table.specs.declared.consumer.ReplayInput.{ReplayInput}
use Rattle.js_ordered_table.specs.declared.event.Event.{Event}
use Rattle.js_ordered_table.specs.declared.run.Run.{Run}
use Rattle.js_ordered_table.specs.declared.run.ReplayError.{ReplayError}
use Rattle.js_ordered_table.specs.declared.run.ReplayError.TheVariants as error
use Rattle.js_ordered_table.specs.declared.run.Output.{Output}
use Rattle.js_ordered_table.specs.declared.run.Output.TheVariants as out
use Rattle.js_ordered_table.specs.Gapless.{Entry, yields, all_outputs}
use Rattle.js_ordered_table.specs.Refusal.{bad_field}
use Rattle.js_ordered_table.specs.Replay.{IsAnswer}
use Rattle.js_pull.specs.Resilience.{none}

-- an entry as a run hands it out
abbrev pub handed : base.Entry → Entry
handed entry = record { subject = entry.subject; sequence = entry.sequence; payload = entry.payload }

-- neither an error item nor a recreation
abbrev pub IsCalm : Output → Type 0
IsCalm (out.Item kind) = ⊥
IsCalm (out.Recreate recreation_count start) = ⊥
IsCalm _ = ⊤

-- a run hands out these entries and no others, in order, without an error item and without a recreation
pub record HandsOut (entries : List base.Entry) (run : Run) : Type 0 where
  pub yielded : yields (all_outputs run) ≡ map handed entries
  pub calm : AllByRecursion IsCalm (all_outputs run)

-- a run that hands them out, or want of memory, and no refusal
abbrev pub AnswersWith : List base.Entry → Result Run ReplayError → Type 0
AnswersWith entries (Ok run) = HandsOut entries run
AnswersWith entries (Err error.OutOfMemory) = ⊤
AnswersWith entries (Err refusal) = ⊥

-- a pull consumer, no field of which is bad
pub record IsReader (g : ReplayInput) : Type 0 where
  pub config : OrderedConfig
  pub pull : g.setup ≡ Pull config
  pub fields : bad_field g ≡ None

-- each such consumer that replays the events from the start 0 hands out these entries
abbrev pub Replays : List base.Entry → List Event → Type 0
Replays entries es = (g : ReplayInput) (answer : Result Run ReplayError) → IsReader g → IsAnswer g 0 es answer → AnswersWith entries answer

-- ---- with all settings at their defaults

abbrev pub default_settings : Settings
default_settings = record {
  api_prefix = codes "$JS.API";
  inbox_prefix = codes "_INBOX.t";
  context_timeout = None;
  request_timeout = Some 10_000_000_000;
  retries = 4_294_967_295;
  resilience = none;
}

-- a pull consumer that starts at a sequence and asks for nothing else, of which the server told this
abbrev pub default_reader : ℕ → Info → ReplayInput
default_reader start first = record {
  settings = default_settings;
  setup = Pull (record new_ordered_pull_config { deliver_policy = policy.ByStartSequence start });
  first = first;
}
