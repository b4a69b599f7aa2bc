use Rattle.std.proofs.Common.{ℕ, List, subst}
use Rattle.js_tool_transcript.specs.Setup.{setup_line}
use Rattle.js_tool_transcript.specs.Transcript.{GivesLines, numbered}
use Rattle.js_tool_follow.proofs.conversation.begin.Goals as goal

pub returns : goal.returns
returns g c = λ from begun.
    c.begin_with-status.ensures from c.args.lines.now.line
    (subst (λ (line : List ℕ). GivesLines (λ s. s) c.first_line-first.result (numbered 1 (setup_line line))) c.line.ensures c.first_line-first.ensures)
    begun
