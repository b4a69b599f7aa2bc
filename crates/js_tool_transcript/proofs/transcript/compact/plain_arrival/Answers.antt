use Rattle.std.proofs.Common.{◌≡◌, codes, rules}
use Rattle.js_tool_transcript.proofs.Compact.{rest_shape}
use Rattle.js_tool_transcript.proofs.transcript.compact.plain_arrival.Goals as goal

pub returns-then-eq-clause-rest : goal.returns-then-eq-clause-rest
returns-then-eq-clause-rest c =
    let last : c.in_ok-payload.rest.now ≡ codes "}}" = search rules in
    rest_shape c.args.rest.now c.in_ok-inbox.rest.now c.in_ok-reply.rest.now c.in_ok-payload.rest.now
    c.in_ok-inbox.inbox c.in_ok-reply.reply.now c.in_ok-payload.payload.now
    c.in_ok-inbox.ensures.text c.in_ok-reply.ensures.0 c.in_ok-payload.ensures.0 last
