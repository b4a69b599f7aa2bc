use Rattle.std.proofs.Common.{subst}
use Rattle.std.specs.Prelude.{Result}
use Rattle.js_json_members.specs.declared.error.ReadError.{ReadError}
use Rattle.js_tool_transcript.specs.declared.transcript.setup.Setup.{Setup}
use Rattle.js_tool_transcript.specs.Transcript.{GivesLines, numbered}
use Rattle.js_tool_transcript.proofs.LinesAgree.{setup_alike}
use Rattle.js_tool_transcript.proofs.transcript.first_line_in.Goals as goal

pub returns-clause-plain : goal.returns-clause-plain
returns-clause-plain c = λ said is.
    subst (λ (r : Result Setup ReadError). GivesLines (λ (s : Setup). s) c.numbered_setup.result (numbered 1 r)) (setup_alike c.args.lines c.args.line.now said is) c.numbered_setup.ensures
