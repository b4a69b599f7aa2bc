-- Which words are a command over a log or over sessions, and what they ask for.
use Rattle.std.specs.Prelude.{ℕ, nat_lt, List, [], ◌∷◌, codes, ◌&&◌, IsTrue, ⊤, Option, Some, None, option_and_then, if◌then◌else◌}
use Rattle.std.specs.Str.{bytes_eq}
use Rattle.js_base.specs.Subject.{is_valid_subject}
use Rattle.js_codes.specs.Name.{is_name}
use Rattle.js_tool.specs.Command.{number_of}
use Rattle.js_tool.specs.declared.command.Command.{Command}
use Rattle.js_tool.specs.declared.command.Command.TheVariants as command
use Rattle.js_tool.specs.declared.command.LogCommand.{LogCommand}
use Rattle.js_tool.specs.declared.command.LogCommand.TheVariants as log

-- what words ask for: the table of the yields whose subject a filter matches, at their end or up to a sequence; the yields with the holes between them; or the transcript of a consumer that is sent the yields, by the names of the stream and of the consumer
pub data Wanted : Type 0 where
  Project : (filter : List ℕ) → (sequence : Option ℕ) → Wanted
  Mirror : Wanted
  Relay : (stream : List ℕ) → (name : List ℕ) → Wanted

-- what a command asks for
abbrev pub wanted : LogCommand → Wanted
wanted (log.Project filter sequence) = Project filter.now sequence
wanted log.Mirror = Mirror
wanted (log.Relay stream name) = Relay stream.now name.now

-- so does one of all commands, if it is of this kind
abbrev pub wanted_of_log : Command → Option Wanted
wanted_of_log command.Help = None
wanted_of_log command.Version = None
wanted_of_log (command.Follow options) = None
wanted_of_log command.Explain = None
wanted_of_log command.Rerun = None
wanted_of_log (command.Tool one) = None
wanted_of_log (command.Log one) = Some (wanted one)
wanted_of_log (command.Sessions next) = None

-- its names are valid
abbrev pub HasNames : Wanted → Type 0
HasNames (Relay stream name) = IsTrue (is_name stream) × IsTrue (is_name name)
HasNames wanted = ⊤

-- a filter that may be a subject
unfoldable pub project_of : List ℕ → Option ℕ → Option Wanted
project_of filter sequence = if is_valid_subject filter then Some (Project filter sequence) else None

-- and a number of 64 bits
unfoldable pub project_up_to : List ℕ → List ℕ → Option Wanted
project_up_to filter word = option_and_then (λ sequence. project_of filter (Some sequence)) (number_of word)

-- two valid names
unfoldable pub relay_of : List ℕ → List ℕ → Option Wanted
relay_of stream name = if is_name stream && is_name name then Some (Relay stream name) else None

-- a word with two others behind it
unfoldable pub three_words : List ℕ → List ℕ → List ℕ → Option Wanted
three_words name first second =
    if bytes_eq name (codes "project") then project_up_to first second
    else if bytes_eq name (codes "relay") then relay_of first second else None

-- what the words ask for, where they are in one of the forms
abbrev pub wanted_of : List (List ℕ) → Option Wanted
wanted_of (name ∷ []) = if bytes_eq name (codes "mirror") then Some Mirror else None
wanted_of (name ∷ filter ∷ []) = if bytes_eq name (codes "project") then project_of filter None else None
wanted_of (name ∷ first ∷ second ∷ []) = three_words name first second
wanted_of words = None

-- ---- sessions

abbrev pub above_nothing : ℕ → Option ℕ
above_nothing number = if nat_lt 0 number then Some number else None

-- a number of 64 bits above 0
unfoldable pub bookmark_number : List ℕ → Option ℕ
bookmark_number word = option_and_then above_nothing (number_of word)

-- the bookmark from which the words ask for sessions, where they do
abbrev pub sessions_bookmark : List (List ℕ) → Option ℕ
sessions_bookmark (name ∷ word ∷ []) = if bytes_eq name (codes "sessions") then bookmark_number word else None
sessions_bookmark words = None

-- the bookmark of a command, where it is over sessions
abbrev pub bookmark : Command → Option ℕ
bookmark command.Help = None
bookmark command.Version = None
bookmark (command.Follow options) = None
bookmark command.Explain = None
bookmark command.Rerun = None
bookmark (command.Tool one) = None
bookmark (command.Log one) = None
bookmark (command.Sessions next) = Some next
