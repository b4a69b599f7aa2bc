-- How much a run puts out.
use Rattle.std.specs.Prelude.{◌≡◌, ℕ, Bool, true, false, List, [], ◌∷◌, length, count_by}
use Rattle.js_ordered_table.specs.declared.event.Event.{Event}
use Rattle.js_ordered_table.specs.declared.run.Run.{Run}
use Rattle.js_ordered_table.specs.declared.run.Output.{Output}
use Rattle.js_ordered_table.specs.declared.run.Output.TheVariants as out
use Rattle.js_ordered_table.specs.Fold.{is_request, is_subscribe}
use Rattle.js_ordered_table.specs.Gapless.{all_outputs}
use Rattle.js_ordered_table.specs.Replay.{IsReplay}
use Rattle.js_tool_generate.specs.declared.summary.Summary.{Summary}
use Rattle.js_tool_generate.specs.Transcript.{replay_input}

-- a message is handed out
abbrev pub is_yield : Output → Bool
is_yield (out.Yield sequence number subject payload) = true
is_yield _ = false

-- an error is handed out
abbrev pub is_item : Output → Bool
is_item (out.Item kind) = true
is_item _ = false

-- a recreation begins
abbrev pub is_recreation : Output → Bool
is_recreation (out.Recreate recreation_count start) = true
is_recreation _ = false

-- a pull request goes out
abbrev pub is_publish : Output → Bool
is_publish (out.Publish subject reply payload) = true
is_publish _ = false

-- the last sequence that is yielded, after one that was the last so far
abbrev pub last_yielded : ℕ → List Output → ℕ
last_yielded last [] = last
last_yielded last (out.Yield sequence number subject payload ∷ outputs) = last_yielded sequence outputs
last_yielded last (_ ∷ outputs) = last_yielded last outputs

-- the counts of some outputs
abbrev pub counts : ℕ → List Output → Summary
counts events outputs = record {
  events = events;
  yields = count_by is_yield outputs;
  items = count_by is_item outputs;
  recreations = count_by is_recreation outputs;
  requests = count_by is_request outputs;
  publishes = count_by is_publish outputs;
  subscribes = count_by is_subscribe outputs;
  last = last_yielded 0 outputs;
}

-- the counts of a run, over its opening and all of its steps
abbrev pub summary : Run → Summary
summary run = counts (length run.steps) (all_outputs run)

-- a replay of the events yields as many messages as its last sequence says
abbrev pub YieldsItsLast : List Event → Type 0
YieldsItsLast events = (run : Run) → IsReplay replay_input 0 events run → (summary run).yields ≡ (summary run).last
