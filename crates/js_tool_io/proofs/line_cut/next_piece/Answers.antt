use Rattle.js_tool_io.proofs.Cuts.{piece_lines, piece_length}
use Rattle.js_tool_io.proofs.line_cut.next_piece.Goals as goal

pub returns-clause-lines : goal.returns-clause-lines
returns-clause-lines c = piece_lines (λ piece. piece.items) c.take.result _ _ c.take.ensures.bytes c.take.ensures.cut

pub returns-clause-length : goal.returns-clause-length
returns-clause-length c = piece_length (λ piece. piece.items) c.take.result _ _ c.take.ensures.bytes
