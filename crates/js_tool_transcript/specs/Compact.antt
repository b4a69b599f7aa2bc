-- Lines in their shortest form.
use Rattle.std.specs.Prelude.{◌≡◌, ℕ, List, [], ◌∷◌, ◌++◌, codes, decimal, length, Some, None, Ok}
use Rattle.json.specs.Print.{escape}
use Rattle.js_base.specs.declared.message.Message.{Message}
use Rattle.js_ordered_table.specs.declared.event.EventKind.{EventKind}
use Rattle.js_ordered_table.specs.declared.event.EventKind.TheVariants as event_kind
use Rattle.js_tool_transcript.specs.declared.transcript.compact.CompactLine.{CompactLine}
use Rattle.js_tool_transcript.specs.declared.transcript.compact.CompactLine.TheVariants.{Tick}
use Rattle.js_tool_transcript.specs.declared.transcript.compact.CompactLine.TheVariants as compact
use Rattle.js_tool_transcript.specs.Event.{event_line}

-- a bare tick
abbrev pub tick_text : ℕ → List ℕ
tick_text at = codes "{\"at\":" ++ (decimal at ++ codes "}")

-- what follows the moment of an arrival with a reply and a payload
abbrev pub arrival_rest : ℕ → List ℕ → List ℕ → List ℕ
arrival_rest inbox reply payload =
    codes ",\"arrival\":{\"inbox\":" ++ (decimal inbox ++ (codes ",\"reply\":\"" ++ (reply ++ 34 ∷ (codes ",\"payload\":\"" ++ (payload ++ 34 ∷ codes "}}")))))

-- an arrival with a reply and a payload
abbrev pub arrival_text : ℕ → ℕ → List ℕ → List ℕ → List ℕ
arrival_text at inbox reply payload = codes "{\"at\":" ++ (decimal at ++ arrival_rest inbox reply payload)

-- two texts stand between quotes as they are
abbrev pub IsPlain : List ℕ → List ℕ → Type 0
IsPlain reply payload = (escape reply ≡ reply) × (escape payload ≡ payload)

-- a message with nothing but a reply and a payload
abbrev pub plain_message : List ℕ → List ℕ → Message
plain_message reply payload = record {
  subject = [];
  reply = Some reply;
  payload = payload;
  headers = None;
  status = None;
  description = None;
  length = length payload;
}

-- a line says that this happens at a moment
abbrev pub Says : List ℕ → ℕ → EventKind → Type 0
Says line at what = event_line line ≡ Ok (record { at = at; what = what })

-- a line says what was found in it
abbrev pub SaysCompact : List ℕ → CompactLine → Type 0
SaysCompact line (Tick at) = Says line at event_kind.Tick
SaysCompact line (compact.Arrival at arrival) = Says line at (event_kind.Arrival arrival.inbox (plain_message arrival.reply.now arrival.payload.now))
