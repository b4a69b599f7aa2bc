-- Which words are a command, and what they ask for.
use Rattle.std.specs.Prelude.{ℕ, ◌^◌, ◌&&◌, Bool, true, false, List, [], ◌∷◌, length, codes, Option, Some, None, option_and_then, option_map, nat_le, nat_lt, if◌then◌else◌}
use Rattle.std.specs.Str.{bytes_eq}
use Rattle.std.specs.Str.Parse.{digits_value}
use Rattle.js_message.specs.Numbers.{is_numeral}
use Rattle.js_tool.specs.declared.command.Command.{Command}
use Rattle.js_tool.specs.declared.command.Command.TheVariants as command
use Rattle.js_tool.specs.declared.command.FollowOptions.{FollowOptions}
use Rattle.js_tool.specs.declared.command.ToolCommand.{ToolCommand}
use Rattle.js_tool.specs.declared.command.ToolCommand.TheVariants as tool

-- what words ask for: a replay, the counts of a generated one, what a subject says, or threads that take permits of a window
pub data Asked : Type 0 where
  Replay : Asked
  Generate : (seed events : ℕ) → Asked
  Info : (subject : List ℕ) → Asked
  Window : (capacity threads calls : ℕ) → Asked

-- ---- limits of numbers

-- from one limit to the other
abbrev pub is_between : ℕ → ℕ → ℕ → Bool
is_between low high number = nat_le low number && nat_le number high

-- at most 200,000 events
abbrev pub generate_within : ℕ → ℕ → Option Asked
generate_within seed events = if nat_le events 200_000 then Some (Generate seed events) else None

-- numbers that a window and its workers can have
abbrev pub is_window : ℕ → ℕ → ℕ → Bool
is_window capacity threads calls = is_between 1 4_294_967_295 capacity && (is_between 1 8 threads && nat_le calls 100_000)

-- 1 to 4294967295 permits, 1 to 8 threads, and at most 100,000 calls of each
abbrev pub window_within : ℕ → ℕ → ℕ → Option Asked
window_within capacity threads calls = if is_window capacity threads calls then Some (Window capacity threads calls) else None

-- ---- what a command asks for

-- of this crate, where its numbers are within their limits
abbrev pub asked : ToolCommand → Option Asked
asked tool.Replay = Some Replay
asked (tool.Generate seed events) = generate_within seed events
asked (tool.Info subject) = Some (Info subject.now)
asked (tool.Window capacity threads calls) = window_within capacity threads calls

-- so does one of all commands, if it is of this kind
abbrev pub asked_of_tool : Command → Option Asked
asked_of_tool command.Help = None
asked_of_tool command.Version = None
asked_of_tool (command.Follow options) = None
asked_of_tool command.Explain = None
asked_of_tool command.Rerun = None
asked_of_tool (command.Tool one) = asked one
asked_of_tool (command.Log one) = None
asked_of_tool (command.Sessions next) = None

-- ---- the program's own words

-- the page of all words, the version, a conversation with its options, an explanation, or a replay that reads extended lines too
pub data Own : Type 0 where
  Help : Own
  Version : Own
  Follow : FollowOptions → Own
  Explain : Own
  Rerun : Own

-- what a command asks for of these
abbrev pub own : Command → Option Own
own command.Help = Some Help
own command.Version = Some Version
own (command.Follow options) = Some (Follow options)
own command.Explain = Some Explain
own command.Rerun = Some Rerun
own (command.Tool one) = None
own (command.Log one) = None
own (command.Sessions next) = None

-- nothing but the text of the replay
abbrev pub plain : FollowOptions
plain = record { details = false; wakes = false }

-- these options, and the one that a word names
abbrev pub with_option : FollowOptions → List ℕ → Option FollowOptions
with_option options word =
    if bytes_eq word (codes "--details") then Some (record options { details = true })
    else if bytes_eq word (codes "--wakes") then Some (record options { wakes = true }) else None

-- the options that two words name, in any order
unfoldable pub follow_of : List ℕ → List ℕ → Option FollowOptions
follow_of first second = option_and_then (λ options. with_option options second) (with_option plain first)

-- what the words ask for of these. Each stands alone, but `follow`, which may have options
abbrev pub own_of : List (List ℕ) → Option Own
own_of (name ∷ []) =
    if bytes_eq name (codes "--help") then Some Help
    else if bytes_eq name (codes "--version") then Some Version
    else if bytes_eq name (codes "follow") then Some (Follow plain)
    else if bytes_eq name (codes "explain") then Some Explain
    else if bytes_eq name (codes "rerun") then Some Rerun else None
own_of (name ∷ word ∷ []) = if bytes_eq name (codes "follow") then option_map Follow (with_option plain word) else None
own_of (name ∷ first ∷ second ∷ []) = if bytes_eq name (codes "follow") then option_map Follow (follow_of first second) else None
own_of words = None

-- ---- number words

-- a word of 1 to 20 digits, as a number below 2 ^ 64
abbrev pub number_of : List ℕ → Option ℕ
number_of word =
    if is_numeral word && (nat_le (length word) 20 && nat_lt (digits_value 10 word) (2 ^ 64)) then Some (digits_value 10 word) else None

-- ---- the forms

-- three numbers of 64 bits
unfoldable pub window_of : List ℕ → List ℕ → List ℕ → Option Asked
window_of capacity threads calls =
    option_and_then (λ c. option_and_then (λ t. option_and_then (λ n. window_within c t n) (number_of calls)) (number_of threads)) (number_of capacity)

-- two numbers of 64 bits
unfoldable pub generate_of : List ℕ → List ℕ → Option Asked
generate_of seed events = option_and_then (λ s. option_and_then (λ n. generate_within s n) (number_of events)) (number_of seed)

-- what the words ask for, where they are in one of the forms
abbrev pub command_of : List (List ℕ) → Option Asked
command_of (name ∷ []) = if bytes_eq name (codes "replay") then Some Replay else None
command_of (name ∷ subject ∷ []) = if bytes_eq name (codes "info") then Some (Info subject) else None
command_of (name ∷ seed ∷ events ∷ []) = if bytes_eq name (codes "generate") then generate_of seed events else None
command_of (name ∷ capacity ∷ threads ∷ calls ∷ []) = if bytes_eq name (codes "window") then window_of capacity threads calls else None
command_of words = None
