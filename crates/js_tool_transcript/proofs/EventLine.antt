-- The JSON of an event stands on one line, whatever its texts are.
use Rattle.std.proofs.Common.{◌≡◌, ℕ, ◌^◌, ◌<◌, true, false, List, [], ◌∷◌, ◌++◌, codes, Option, Some, None, option_map, sym, ap, ◌∙◌, subst, append_assoc, arith}
use Rattle.std.specs.Prelude.{⊤, IfSome}
use Rattle.serde_json.specs.Data.{string}
use Rattle.js_base.specs.declared.headers.Header.{Header}
use Rattle.js_base.specs.declared.message.Message.{Message}
use Rattle.js_base.specs.declared.message.State.TheVariants.{Connected, Disconnected, Pending}
use Rattle.js_base.specs.declared.message.StatusCode.{StatusCode}
use Rattle.js_base.specs.Headers.{pairs}
use Rattle.js_ordered_table.specs.declared.event.Event.{Event}
use Rattle.js_ordered_table.specs.declared.event.EventKind.{EventKind}
use Rattle.js_ordered_table.specs.declared.event.EventKind.TheVariants as what
use Rattle.js_tool_io.specs.Lines.{lines_of}
use Rattle.js_tool_transcript.specs.EventText.{event_json, event_text, IsTyped, IsTypedKind}
use Rattle.js_tool_transcript.proofs.CompactText.{IsSimple, ItemsAreSimple, MembersAreSimple, IsOneLine, text_line, line_cut}
use Rattle.js_tool_transcript.proofs.EventData.{unless_empty, header_items, status_data, headers_data, message_rows, numbered_data, what_member, event_data, json_is}
use Rattle.js_tool_transcript.proofs.RowsRead.{AreSimple, written_simple}

-- of its texts nothing is asked
abbrev Any : List ℕ → Type 0
Any s = ⊤

headers_simple : (headers : List (List ℕ × List ℕ)) → ItemsAreSimple Any (header_items headers)
headers_simple [] = tt
headers_simple (h ∷ headers) = ((tt, (tt, tt)), headers_simple headers)

subject_simple : (s : List ℕ) → IfSome (unless_empty s) (IsSimple Any)
subject_simple [] = tt
subject_simple (c ∷ cs) = tt

text_simple : (s : Option (List ℕ)) → IfSome (option_map string s) (IsSimple Any)
text_simple None = tt
text_simple (Some s) = tt

status_simple : (status : Option StatusCode) → IfSome status (λ status. status.0 < 2 ^ 16) → IfSome (option_map status_data status) (IsSimple Any)
status_simple None low = tt
status_simple (Some status) low = omega (arith, low)

list_simple : (m : Message) → IfSome (option_map headers_data m.headers) (IsSimple Any)
list_simple m = by_cases m.headers
  where
    by_cases : (headers : Option (List Header)) → IfSome (option_map headers_data headers) (IsSimple Any)
    by_cases None = tt
    by_cases (Some headers) = headers_simple (pairs headers)

message_simple : (m : Message) → IsTyped m → AreSimple Any (message_rows m)
message_simple m typed =
    ((tt, subject_simple m.subject), ((tt, text_simple m.reply), ((tt, tt), ((tt, status_simple m.status typed.status), ((tt, text_simple m.description), ((tt, list_simple m), tt))))))

numbered_simple : (k : List ℕ) (n : ℕ) (m : Message) → n < 2 ^ 64 → IsTyped m → IsSimple Any (numbered_data k n m)
numbered_simple k n m low typed = (tt, (low, written_simple Any (message_rows m) (message_simple m typed)))

what_simple : (kind : EventKind) → IsTypedKind kind → MembersAreSimple Any (what_member kind)
what_simple what.Tick typed = tt
what_simple (what.Arrival inbox m) typed = (tt, (numbered_simple (codes "inbox") inbox m typed.0 typed.1, tt))
what_simple (what.Answer request (Some m)) typed = (tt, (numbered_simple (codes "request") request m typed.0 typed.1, tt))
what_simple (what.Answer request None) typed = (tt, ((tt, (typed, (tt, (tt, tt)))), tt))
what_simple (what.Link true) typed = (tt, (tt, tt))
what_simple (what.Link false) typed = (tt, (tt, tt))
what_simple (what.Connection Connected) typed = (tt, (tt, tt))
what_simple (what.Connection Disconnected) typed = (tt, (tt, tt))
what_simple (what.Connection Pending) typed = (tt, (tt, tt))
what_simple what.WatcherEnded typed = (tt, (tt, tt))

json_line : (e : Event) → e.at < 2 ^ 64 → IsTypedKind e.what → IsOneLine (event_json e)
json_line e low typed = subst IsOneLine (sym (json_is e)) (text_line (event_data e) (tt, (low, what_simple e.what typed)))

-- it is the first line of what follows
pub event_cut : (e : Event) → e.at < 2 ^ 64 → IsTypedKind e.what → (rest : List ℕ) → lines_of (event_text e ++ rest) ≡ event_json e ∷ lines_of rest
event_cut e low typed rest =
    ap lines_of (append_assoc (event_json e) (codes "\n") rest) ∙ line_cut (event_json e) rest (json_line e low typed)
