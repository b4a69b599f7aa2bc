-- A mirror that is served again: the events of a consumer that reads it.
use Rattle.std.specs.Prelude.{ℕ, ◌+◌, ◌<◌, ◌^◌, List, [], ◌∷◌, ◌++◌, length, Some, None, codes, decimal}
use Rattle.std.specs.List.{AllByRecursion}
use Rattle.js_base.specs.declared.message.Entry.{Entry}
use Rattle.js_base.specs.declared.message.Message.{Message}
use Rattle.js_ordered_table.specs.declared.event.Event.{Event}
use Rattle.js_ordered_table.specs.declared.event.EventKind.TheVariants as what

-- the acknowledgement subject of the message with this sequence and number, of this stream and this consumer
abbrev pub reply : List ℕ → List ℕ → ℕ → ℕ → List ℕ
reply stream name sequence number =
    codes "$JS.ACK." ++ (stream ++ (codes "." ++ (name ++ (codes ".1." ++ (decimal sequence ++ (codes "." ++ (decimal number ++ codes ".0.0")))))))

-- an entry as the message with this number
abbrev pub message : List ℕ → List ℕ → ℕ → Entry → Message
message stream name number entry = record {
  subject = entry.subject;
  reply = Some (reply stream name entry.sequence number);
  payload = entry.payload;
  headers = None;
  status = None;
  description = None;
  length = length entry.payload;
}

-- it arrives on the first inbox, at the moment of its number
abbrev pub arrival : List ℕ → List ℕ → ℕ → Entry → Event
arrival stream name number entry = record { at = number; what = what.Arrival 0 (message stream name number entry) }

-- the entries arrive one after another, numbered from a number on
abbrev pub relayed : List ℕ → List ℕ → ℕ → List Entry → List Event
relayed stream name number [] = []
relayed stream name number (entry ∷ entries) = arrival stream name number entry ∷ relayed stream name (number + 1) entries

-- each has a sequence of 64 bits, and so has their number
pub record AllFit (entries : List Entry) : Type 0 where
  pub sequences : AllByRecursion (λ (entry : Entry). entry.sequence < 2 ^ 64) entries
  pub number : length entries < 2 ^ 64
