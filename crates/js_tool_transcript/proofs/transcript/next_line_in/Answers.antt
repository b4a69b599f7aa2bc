use Rattle.std.proofs.Common.{subst}
use Rattle.std.specs.Prelude.{Result}
use Rattle.js_json_members.specs.declared.error.ReadError.{ReadError}
use Rattle.js_ordered_table.specs.declared.event.Event.{Event}
use Rattle.js_tool_transcript.specs.Transcript.{GivesLines, numbered}
use Rattle.js_tool_transcript.proofs.LinesAgree.{reads_alike}
use Rattle.js_tool_transcript.proofs.transcript.next_line_in.Goals as goal

pub returns-clause-plain : goal.returns-clause-plain
returns-clause-plain c = λ said is.
    subst (λ (r : Result Event ReadError). GivesLines (λ (e : Event). e) c.numbered_line.result (numbered c.args.number r)) (reads_alike c.args.lines c.args.line.now said is) c.numbered_line.ensures
