use Rattle.std.proofs.Common.{append_assoc}
use Rattle.js_tool_explain.proofs.Digits.{next_digit}
use Rattle.js_tool_explain.proofs.sentence_part.+push_digits.Goals as goal

pub returns : goal.returns
returns t c =
    rw (next_digit c.args.places c.args.rest c.if-places-eq0.false c.if-rest-eq0.false)
    (rw (c.in_ok-push.ensures.items, append_assoc) at c.push_digits.ensures)
