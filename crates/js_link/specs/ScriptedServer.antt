-- A link in memory that answers its requests from a script.
use Rattle.std.specs.Prelude.{ℕ, ◌≡◌, ◌++◌, Bool, Option, List, Result, Ok, Err}
use Rattle.std.specs.List.{find, before_first, after_first}
use Rattle.std.specs.Option.{option_map}
use Rattle.std.specs.Str.{bytes_eq}
use Rattle.std.specs.Borrow.{Lends, MutBor, Fml}
use Rattle.js_base.specs.declared.headers.Header.{Header}
use Rattle.js_base.specs.declared.message.Message.{Message}
use Rattle.js_link.specs.LinkView.{LinkView}
use Rattle.js_link.specs.Calls.{Asks, RefusedSend}
use Rattle.js_link.specs.Memory.{memory_view, HasReply}
use Rattle.js_link.specs.declared.link.LinkError.{LinkError}
use Rattle.js_link.specs.declared.memory.MemoryLink.{MemoryLink}
use Rattle.js_link.specs.declared.sent.RequestId.{RequestId}
use Rattle.js_link.specs.declared.scripted_server.Scripted.{Scripted}
use Rattle.js_link.specs.declared.scripted_server.ScriptedServer.{ScriptedServer}
use Rattle.js_link.specs.contracts.memory.MemoryLink as link
use Rattle.js_link.specs.contracts.scripted_server.ScriptedServer as server

-- the link that it stands over
abbrev pub link_of : ScriptedServer → MemoryLink
link_of s = s.link

-- the replies that were not used yet
abbrev pub script_of : ScriptedServer → List Scripted
script_of s = s.script.items

-- it means what its link means
abbrev pub server_view : ScriptedServer → LinkView
server_view s = memory_view s.link

-- the server over another link
abbrev pub with_link : ScriptedServer → MemoryLink → ScriptedServer
with_link s link = record s { link = link }

-- the server ends with what was made of its link
abbrev pub LendsLink : MutBor ScriptedServer → MutBor MemoryLink → Fml
LendsLink s r = Lends server.the_row link.the_row s r (with_link s.now)

-- the reply is one for the subject
abbrev pub is_for : List ℕ → Scripted → Bool
is_for subject line = bytes_eq line.subject subject

-- the first reply for a subject
abbrev pub first_reply : List ℕ → List Scripted → Option Message
first_reply subject script = option_map (λ line. line.reply) (find (is_for subject) script)

-- the script without that reply
abbrev pub used_up : List ℕ → List Scripted → List Scripted
used_up subject script = before_first (is_for subject) script ++ after_first (is_for subject) script

-- the first reply for the subject was taken from the script
pub record UsesReply (subject : List ℕ) (reply : Option Message) (old new : List Scripted) : Type 0 where
  pub first : reply ≡ first_reply subject old
  pub rest : new ≡ used_up subject old

-- a request was made, and took the first reply for its subject
pub record AsksServer (number : ℕ) (subject : List ℕ) (headers : Option (List Header)) (payload : List ℕ) (old new : ScriptedServer) : Type 0 where
  pub asks : Asks number subject headers payload (server_view old) (server_view new)
  pub reply : HasReply number (first_reply subject (script_of old)) (server_view new)
  pub rest : script_of new ≡ used_up subject (script_of old)

-- what a request does to the server: one that was refused takes no reply
abbrev pub AsksServerOf : Result RequestId LinkError → List ℕ → Option (List Header) → List ℕ → ScriptedServer → ScriptedServer → Type 0
AsksServerOf (Ok request) subject headers payload old new = AsksServer request.0 subject headers payload old new
AsksServerOf (Err e) subject headers payload old new = RefusedSend e (server_view old) (server_view new) × (script_of new ≡ script_of old)
