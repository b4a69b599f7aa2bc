-- What is answered to the lines of an input, and what is written.
use Rattle.std.specs.Prelude.{◌≡◌, ◌⊎◌, ◌≤◌, ℕ, Bool, true, false, List, [], ◌∷◌, ◌++◌, Option, Some, None, IfSome, Ok, option_map, ⊤}
use Rattle.std.specs.Io.KnownBytes.{Appends}
use Rattle.js_tool_io.specs.Causes.{Rose, AppendsPrefix}
use Rattle.js_tool_io.specs.Lines.{lines_of}
use Rattle.js_ordered_table.specs.declared.run.Run.{Run}
use Rattle.js_ordered_table.specs.Replay.{IsReplay, IsValid}
use Rattle.js_tool.specs.Command.{plain}
use Rattle.js_tool.specs.declared.status.Status.{Status}
use Rattle.js_tool.specs.declared.status.Status.TheVariants as status
use Rattle.js_tool_transcript.specs.declared.transcript.Transcript.{Transcript}
use Rattle.js_tool_transcript.specs.TranscriptReplay.{replay_input}
use Rattle.js_tool_transcript.specs.Text.{run_text}
use Rattle.js_tool_transcript.specs.Transcript.{transcript_of}
use Rattle.js_tool.specs.declared.command.FollowOptions.{FollowOptions}
use Rattle.js_tool_follow.specs.declared.answer.Listener.{Listener}
use Rattle.js_tool_follow.specs.Answer.{IsTold}
use Rattle.js_tool_follow.specs.AnswerText.{whole_text}
use Rattle.js_tool_follow.specs.IncomingLines.{lines_left}
use Rattle.js_tool_follow.specs.Punctuality.{Holds, TurnsSoFar, IsPunctual}
use Rattle.js_tool_follow.specs.Standing.{Standing, Unopened, Going, Over, standing, answered, text_for, status_for}
use Rattle.js_tool_follow.specs.Peer.{Dialogue}

-- it is not over
abbrev pub GoesOn : Standing → Type 0
GoesOn Unopened = ⊤
GoesOn (Going setup es) = ⊤
GoesOn (Over text s) = ⊥

-- exactly the answer to some first lines was written, with which it is not over
pub record StopsWithin (asked : FollowOptions) (lines : List (List ℕ)) (taken taken_after : Option (List ℕ)) : Type 0 where
  pub front : List (List ℕ)
  pub rest : List (List ℕ)
  pub cut : lines ≡ front ++ rest
  pub goes_on : GoesOn (standing asked front)
  pub written : Appends taken taken_after (answered asked front)

-- what was written, by the status. What the lines call for is answered, with all its text, unless memory ran out or a count of faults rose
abbrev pub AnswersLines : FollowOptions → List (List ℕ) → Option (List ℕ) → Option (List ℕ) → Status → Type 0
AnswersLines asked lines taken taken_after status.ReadFault = StopsWithin asked lines taken taken_after
AnswersLines asked lines taken taken_after status.OutOfMemory = StopsWithin asked lines taken taken_after
AnswersLines asked lines taken taken_after status.WriteFault = AppendsPrefix taken taken_after (text_for asked lines)
AnswersLines asked lines taken taken_after s = (status_for asked lines ≡ s) × Appends taken taken_after (text_for asked lines)

-- an input was answered, from where a dialogue stood
pub record HasEnded (asked : FollowOptions) (from now : Dialogue) (s : Status) : Type 0 where
  pub told : IfSome from.left (λ bytes. AnswersLines asked (lines_of bytes) from.taken now.taken s)
  pub read_fault : s ≡ status.ReadFault → Rose from.read_faults now.read_faults
  pub write_fault : s ≡ status.WriteFault → Rose from.write_faults now.write_faults
  pub place : now.place ≡ from.place

-- ---- on the way

-- neither count of faults falls, and the ends are the same
pub record HasGone (from now : Dialogue) : Type 0 where
  pub reads : from.read_faults ≤ now.read_faults
  pub writes : from.write_faults ≤ now.write_faults
  pub place : now.place ≡ from.place

-- all lines are these and those that are left
abbrev pub IsCut : Option (List (List ℕ)) → List (List ℕ) → Option (List (List ℕ)) → Type 0
IsCut None lines left = ⊤
IsCut (Some all) lines None = ⊥
IsCut (Some all) lines (Some left) = all ≡ lines ++ left

-- the lines of an input that tells its bytes
abbrev pub all_lines : Dialogue → Option (List (List ℕ))
all_lines from = option_map lines_of from.left

-- Lines were told and their answer written, and these are left.
pub record Stands (asked : FollowOptions) (from now : Dialogue) (lines : List (List ℕ)) (left : Option (List (List ℕ))) (listener : Listener) : Type 0 where
  pub gone : HasGone from now
  pub cut : IsCut (all_lines from) lines left
  pub written : Appends from.taken now.taken (answered asked lines)
  pub told : IsTold asked lines listener

-- it goes on with these lines, or has ended
abbrev pub StandsOr : FollowOptions → Dialogue → Dialogue → List (List ℕ) → Option (List (List ℕ)) → Listener → Option Status → Type 0
StandsOr asked from now lines left listener None = Stands asked from now lines left listener
StandsOr asked from now lines left listener (Some s) = HasEnded asked from now s

-- where a conversation stands between two lines: all is answered, and was so at each read
pub record IsAt (asked : FollowOptions) (from now : Dialogue) (lines : List (List ℕ)) (held : List ℕ) (listener : Listener) : Type 0 where
  pub stands : Stands asked from now lines (lines_left held now.left) listener
  pub heard : from.turns ≡ Some [] → Holds now.turns (TurnsSoFar asked lines held (answered asked lines) (answered asked lines))

-- where it has ended
pub record IsOver (asked : FollowOptions) (from now : Dialogue) (s : Status) : Type 0 where
  pub ended : HasEnded asked from now s
  pub punctual : from.turns ≡ Some [] → Holds now.turns (IsPunctual asked)

-- a turn was taken: a line more was told, or it is over
abbrev pub TakesTurn : FollowOptions → Dialogue → Dialogue → List (List ℕ) → List ℕ → Listener → Option Status → Type 0
TakesTurn asked from now lines held listener None = (line : List ℕ) × IsAt asked from now (lines ++ line ∷ []) held listener
TakesTurn asked from now lines held listener (Some s) = IsOver asked from now s

-- the first line was read, behind which more may come or not, and nothing said
abbrev pub HasBegun : FollowOptions → Dialogue → Dialogue → Bool → List ℕ → List ℕ → Type 0
HasBegun asked from now true line held =
    HasGone from now × (now.taken ≡ from.taken) × IsCut (all_lines from) (line ∷ []) (lines_left held now.left)
    × (from.turns ≡ Some [] → Holds now.turns (TurnsSoFar asked (line ∷ []) held [] []))
HasBegun asked from now false line held =
    HasGone from now × (now.taken ≡ from.taken) × IsCut (all_lines from) (line ∷ []) (Some []) × (from.turns ≡ Some [] → Holds now.turns (IsPunctual asked))

-- why no line was read
abbrev pub IsReadStop : Status → Type 0
IsReadStop s = (s ≡ status.ReadFault) ⊎ (s ≡ status.OutOfMemory)

-- an answer was written, or a front of it where the sink failed
abbrev pub Replies : Dialogue → Dialogue → List ℕ → Option Status → Option Status → Type 0
Replies old new text ending result =
    ((result ≡ ending) × Appends old.taken new.taken text)
    ⊎ ((result ≡ Some status.WriteFault) × AppendsPrefix old.taken new.taken text × Rose old.write_faults new.write_faults)

-- ---- the headlines

-- the bytes are a transcript of any length, and the answers to all of it were written, and nothing else; without options they are the text of its run
pub record WritesRun (asked : FollowOptions) (bytes : List ℕ) (taken taken_after : Option (List ℕ)) : Type 0 where
  pub transcript : Transcript
  pub reads : transcript_of (lines_of bytes) ≡ Ok transcript
  pub run : Run
  pub replays : IsReplay (replay_input transcript.setup) transcript.setup.start transcript.events run
  pub written : Appends taken taken_after (whole_text asked transcript.setup transcript.events)
  pub same : asked ≡ plain → Appends taken taken_after (run_text run)

-- a transcript of any length with good settings, moments that do not fall, and no last sequence
abbrev pub IsValidInput : List ℕ → Type 0
IsValidInput bytes = (t : Transcript) × (transcript_of (lines_of bytes) ≡ Ok t) × IsValid (replay_input t.setup) t.setup.start t.events
