-- What `explain` answers to an input, and what it writes.
use Rattle.std.specs.Prelude.{ℕ, List, Option}
use Rattle.js_tool.specs.declared.status.Status.{Status}
use Rattle.js_tool.specs.Answer.{AnswersText}
use Rattle.js_tool_transcript.specs.Transcript.{transcript, extended_transcript}
use Rattle.js_tool_explain.specs.Sentences.{replay_text}

-- The sentences on the replay are written, over ends before and after it: what the source had left, what the sink had taken, and the sink's count
-- of faults. Extended lines are read too.
abbrev pub AnswersExplain : Option (List ℕ) → Option (List ℕ) → Option (List ℕ) → Option (List ℕ) → ℕ → ℕ → Status → Type 0
AnswersExplain = AnswersText replay_text extended_transcript

-- The same, where the lines of a transcript alone are read.
abbrev pub ExplainsTranscript : Option (List ℕ) → Option (List ℕ) → Option (List ℕ) → Option (List ℕ) → ℕ → ℕ → Status → Type 0
ExplainsTranscript = AnswersText replay_text transcript
