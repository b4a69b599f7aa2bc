use Rattle.std.proofs.Common.{not, rules}
use Rattle.std.proofs.lemmas.Fn.{filter_same}
use Rattle.js_link_connection.specs.Writer.{is_subscription}
use Rattle.js_link_connection.proofs.writer.note_frame.Goals as goal

pub returns-in-Unsubscribe : goal.returns-in-Unsubscribe
returns-in-Unsubscribe c =
    rw c.in-Unsubscribe.is (filter_same _ (λ frame. not (is_subscription c.in-Unsubscribe.subscription frame)) _ (λ x b f' k. search rules) _ _ c.retain.ensures.filtered)
