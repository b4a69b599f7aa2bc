use Rattle.std.proofs.Common.{rules}
use Rattle.js_link.proofs.Updates.{reads_put, put_same}
use Rattle.js_link_outbox.proofs.inboxes.put_into.Goals as goal

pub returns-in-Err-clause-err : goal.returns-in-Err-clause-err
returns-in-Err-clause-err c = search (rules, reads_put, put_same)
