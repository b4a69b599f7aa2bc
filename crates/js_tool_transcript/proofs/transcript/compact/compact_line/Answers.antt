use Rattle.std.proofs.Common.{◌≡◌, codes, rules}
use Rattle.std.specs.Str.{IsUtf8}
use Rattle.js_tool_transcript.proofs.Compact.{arrival_line, tick_line}
use Rattle.js_tool_transcript.proofs.transcript.compact.compact_line.Goals as goal

pub returns-then-eq : goal.returns-then-eq
returns-then-eq c =
    let last : c.in_ok-at.rest.now ≡ codes "}" = search rules in
    tick_line c.args.line.now c.in_ok-at.rest.now c.in_ok-at.at c.in_ok-at.ensures.small c.in_ok-at.ensures.text last

pub returns : goal.returns
returns c =
    let reply : IsUtf8 c.in_ok-arrival.arrival.reply.now = search rules in
    let payload : IsUtf8 c.in_ok-arrival.arrival.payload.now = search rules in
    arrival_line c.args.line.now c.in_ok-at.rest.now c.in_ok-at.at c.in_ok-arrival.arrival.inbox c.in_ok-arrival.arrival.reply.now c.in_ok-arrival.arrival.payload.now
    c.in_ok-at.ensures.small c.in_ok-arrival.ensures.small c.in_ok-at.ensures.text c.in_ok-arrival.ensures.rest c.in_ok-arrival.ensures.plain reply payload
