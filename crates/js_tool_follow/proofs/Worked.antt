-- Worked examples, which the definitions compute.
use Rattle.std.specs.Prelude.{◌≡◌, ℕ, List, [], ◌∷◌, ◌++◌, codes, true, false, Some, None, refl}
use Rattle.serde_json.specs.Data.{string}
use Rattle.js_base.specs.declared.message.Message.{Message}
use Rattle.js_ordered_table.specs.declared.consumer.Phase.TheVariants.{Pushes, Idle, Ended}
use Rattle.js_ordered_table.specs.declared.event.EventKind.TheVariants as what
use Rattle.js_ordered_table.specs.declared.run.Output.TheVariants as out
use Rattle.js_tool.specs.declared.command.FollowOptions.{FollowOptions}
use Rattle.js_tool.specs.declared.status.Status.TheVariants as status
use Rattle.js_tool_follow.specs.declared.incoming_lines.Incoming.TheVariants as incoming
use Rattle.js_tool_follow.specs.declared.peer.PeerCall.TheVariants as turn
use Rattle.js_tool_transcript.specs.Text.{count, line_text}
use Rattle.js_tool_follow.specs.Details.{details_line, details_text, header_line, headers_text, messages_at}
use Rattle.js_tool_follow.specs.Wakes.{earlier, moment_or_null, wakes_at, wakes_line, wakes_text}
use Rattle.js_tool_follow.specs.IncomingLines.{IsNext, lines_left}
use Rattle.js_tool_follow.specs.Punctuality.{whole_lines}
use Rattle.js_tool_follow.specs.Standing.{Over, next, standing, status_for, text_for}
use Rattle.js_tool_follow.specs.Peer.{heard, flushed}

-- ---- lines

-- a body that takes what follows the last line feed for a line has one more
whole : whole_lines (97 ∷ 10 ∷ 98 ∷ 10 ∷ 99 ∷ []) ≡ (97 ∷ []) ∷ (98 ∷ []) ∷ []
whole = refl

-- bytes that are held come before those of the peer
held_first : lines_left (97 ∷ []) (Some (98 ∷ 10 ∷ [])) ≡ Some ((97 ∷ 98 ∷ []) ∷ [])
held_first = refl

last : IsNext incoming.Last (lines_left (97 ∷ []) (Some [])) (97 ∷ []) None
last = refl

-- ---- calls

-- a body that keeps its last text back has passed on the first alone
kept_back : flushed (turn.Wrote (98 ∷ []) ∷ turn.Flushed ∷ turn.Wrote (97 ∷ []) ∷ []) ≡ 97 ∷ []
kept_back = refl

read_twice : heard (turn.Read (98 ∷ []) ∷ turn.Flushed ∷ turn.Read (97 ∷ []) ∷ []) ≡ 97 ∷ 98 ∷ []
read_twice = refl

-- ---- standing

-- no line is no setup, and nothing is said
none : (asked : FollowOptions) → status_for asked [] ≡ status.BadLine 1
unfolding standing
none asked = refl

silent : (asked : FollowOptions) → text_for asked [] ≡ []
unfolding standing
silent asked = refl

-- a body that goes on behind a line that does not read answers more
stays : (asked : FollowOptions) (text line : List ℕ) → next asked (Over text (status.BadLine 3)) line ≡ Over text (status.BadLine 3)
stays asked text line = refl

-- ---- when a consumer wakes

-- a body that tells the beginning of a wait has 5, and one that is late 16
wait_ends : wakes_at (Pushes 0 (record { set = 5; wait = 10 })) ≡ Some 15
wait_ends = refl

-- a wait that would end past the last moment never ends
never_ends : wakes_at (Pushes 0 (record { set = 1; wait = 18_446_744_073_709_551_615 })) ≡ None
never_ends = refl

-- a body that tells the later of two waits has 9
sooner : earlier (Some 9) (Some 7) ≡ Some 7
sooner = refl

at_once : wakes_line 3 Idle ≡ line_text (count 3 ∷ string (codes "wakes") ∷ count 0 ∷ [])
at_once = refl

never : wakes_line 3 Ended ≡ line_text (count 3 ∷ string (codes "wakes") ∷ moment_or_null None ∷ [])
never = refl

unasked : wakes_text false 3 Idle ≡ []
unasked = refl

-- ---- details

abbrev unreadable : Message
unreadable = record { subject = []; reply = Some (codes "r"); payload = codes "p"; headers = None; status = None; description = None; length = 1 }

-- what arrives can be handed out, and what no consumer holds cannot
arrives : messages_at Idle (record { at = 7; what = what.Arrival 2 unreadable }) ≡ unreadable ∷ []
arrives = refl

passes : messages_at Idle (record { at = 7; what = what.Tick }) ≡ []
passes = refl

-- of an output that hands nothing out there is nothing to tell
no_message : details_text true 3 (unreadable ∷ []) (out.Subscribe 1 (codes "i") ∷ []) ≡ []
no_message = refl

-- a body that tells of any message that arrives tells of this one
not_handed_out : details_line 3 (unreadable ∷ []) (out.Yield 7 2 [] (codes "p")) ≡ []
not_handed_out = refl

two_headers : headers_text 3 7 (Some (record { name = codes "a"; value = codes "b" } ∷ record { name = codes "a"; value = codes "c" } ∷ []))
    ≡ header_line 3 7 (codes "a", codes "b") ++ (header_line 3 7 (codes "a", codes "c") ++ [])
two_headers = refl
