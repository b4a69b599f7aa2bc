use Rattle.std.proofs.Common.{rules, sym, ◌∙◌}
use Rattle.js_link.proofs.Scripts.{made_and_answered}
use Rattle.js_link.proofs.scripted_server.ScriptedServerLink.request.Goals as goal

pub returns : goal.returns
returns c =
    let made = made_and_answered _ _ _ _ c.in-Some.reply _ _ _ c.in_ok-request.ensures.call c.in_ok-request.ensures.waits.0 (search rules) in
    record {
      asks = made.0;
      reply = rw (sym c.next_reply.ensures.reply.first ∙ c.in-Some.is) made.1;
      rest = c.next_reply.ensures.reply.rest;
    }
