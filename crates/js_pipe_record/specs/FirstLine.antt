-- What the first line of a recording says.
use Rattle.std.specs.Prelude.{◌≡◌, ℕ, List, [], ◌∷◌, None, Ok}
use Rattle.js_ordered_table.specs.Refusal.{refuse_input}
use Rattle.js_tool_io.specs.Lines.{lines_of}
use Rattle.js_tool_io.specs.Pieces.{EndsLine}
use Rattle.js_tool_transcript.specs.ExtendedSetup.{setup_line_in}
use Rattle.js_tool_transcript.specs.Transcript.{numbered}
use Rattle.js_tool_transcript.specs.TranscriptReplay.{replay_input}
use Rattle.js_tool_transcript.specs.declared.transcript.lines.Lines.TheVariants.{Extended}
use Rattle.js_tool_transcript.specs.declared.transcript.setup.Setup.{Setup}

-- bytes are one line, which says a setup that no replay refuses
pub record SaysSetup (bytes : List ℕ) (setup : Setup) : Type 0 where
  pub line : List ℕ
  pub whole : lines_of bytes ≡ line ∷ []
  pub reads : numbered 1 (setup_line_in Extended line) ≡ Ok setup
  pub accepted : refuse_input (replay_input setup) setup.start [] ≡ None

-- and its line feed is there, so that what follows begins a line
pub record IsFirstLine (bytes : List ℕ) (setup : Setup) : Type 0 where
  pub says : SaysSetup bytes setup
  pub ends : EndsLine bytes
