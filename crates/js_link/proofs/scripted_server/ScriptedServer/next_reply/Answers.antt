use Rattle.std.proofs.Common.{rules, sym, ◌∙◌}
use Rattle.js_link.proofs.Scripts.{uses_none, uses_at}
use Rattle.js_link.proofs.scripted_server.ScriptedServer.next_reply.Goals as goal

pub returns-in_default-clause-reply : goal.returns-in_default-clause-reply
returns-in_default-clause-reply c = uses_none c.args.subject.now c.args.self.now.script.items (search rules)

pub returns-clause-reply : goal.returns-clause-reply
returns-clause-reply c = uses_at c.args.subject.now c.args.self.now.script.items _ c.remove-reply.result c.remove-reply.new.self.items (sym c.position_of.ensures ∙ c.in-Some.is) c.remove-reply.ensures.value c.remove-reply.ensures.items
