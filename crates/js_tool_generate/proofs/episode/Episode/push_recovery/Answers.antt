use Rattle.std.proofs.Common.{string_bytes}
use Rattle.js_tool_generate.proofs.AddedEvents.{recovery_pushed, on_ok}
use Rattle.js_tool_generate.proofs.episode.Episode.push_recovery.Goals as goal

pub returns : goal.returns
returns c =
    on_ok c.push_delivery-2.result
    (recovery_pushed c.args.events.now.items c.push_delivery.new.events.items c.push_answer.new.events.items c.push_answer-2.new.events.items c.push_delivery-2.new.events.items
    c.args.self.now.number c.args.self.now.before c.args.delivered (string_bytes c.in_ok-deleted.deleted) (string_bytes c.in_ok-created.created)
    c.in_ok-deleted.ensures.ok c.in_ok-created.ensures c.in_ok-push_delivery.ensures c.in_ok-push_answer.ensures c.in_ok-push_answer-2.ensures)
    c.push_delivery-2.ensures
