-- What the lines of sessions say, and which of them is the first that does not read.
use Rattle.std.specs.Prelude.{ℕ, ◌+◌, List, [], ◌∷◌, Result, Ok, Err}
use Rattle.js_event_log_sessions.specs.declared.session.Line.{Line}
use Rattle.js_event_log_sessions.specs.declared.session.Session.{Session}
use Rattle.js_tool_io.specs.Lines.{lines_of}
use Rattle.js_tool_transcript.specs.declared.transcript.setup.Setup.{Setup}
use Rattle.js_tool_transcript.specs.Setup.{setup_line}
use Rattle.js_tool_transcript.specs.Transcript.{◌>>=◌, numbered}
use Rattle.js_tool_event_log.specs.declared.sessions.line.Said.{Said}
use Rattle.js_tool_event_log.specs.declared.sessions.line.Said.TheVariants.{Begins, Says}
use Rattle.js_tool_event_log.specs.SessionLine.{session_line}

-- what the lines say, or the number of the first that does not read
abbrev pub said_from : ℕ → List (List ℕ) → Result (List Said) ℕ
said_from n [] = Ok []
said_from n (line ∷ lines) = numbered n (session_line line) >>= λ said. said_from (n + 1) lines >>= λ more. Ok (said ∷ more)

-- the session that a setup begins, with these lines
abbrev pub session_of : Setup → List Line → Session
session_of setup lines = record { settings = setup.settings; setup = setup.setup; first = setup.first; start = setup.start; lines = lines }

-- the lines up to the next setup
abbrev pub lines_before : List Said → List Line
lines_before [] = []
lines_before (Begins setup ∷ more) = []
lines_before (Says line ∷ more) = line ∷ lines_before more

-- the sessions that begin, each with the lines up to the next one
abbrev pub begun : List Said → List Session
begun [] = []
begun (Begins setup ∷ more) = session_of setup (lines_before more) ∷ begun more
begun (Says line ∷ more) = begun more

-- a setup and further lines
abbrev pub with_said : Setup → List (List ℕ) → Result (List Session) ℕ
with_said setup lines = said_from 2 lines >>= λ more. Ok (begun (Begins setup ∷ more))

-- the first line is a setup
abbrev pub sessions_of : List (List ℕ) → Result (List Session) ℕ
sessions_of [] = Err 1
sessions_of (line ∷ lines) = numbered 1 (setup_line line) >>= λ setup. with_said setup lines

-- the sessions that the bytes say, by their lines
unfoldable pub sessions : List ℕ → Result (List Session) ℕ
sessions bytes = sessions_of (lines_of bytes)
