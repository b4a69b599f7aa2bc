use Rattle.std.proofs.Common.{arith, ap, sym, ◌∙◌}
use Rattle.std.specs.Prelude.{Some, Result, Ok, Err, OnErr}
use Rattle.std.proofs.lemmas.Option.{slice_get-get_or}
use Rattle.js_link.specs.Memory.{is_open_at}
use Rattle.js_link.proofs.Places.{get_past}
use Rattle.js_link.proofs.Views.{same_queue, delivers_back, delivers_none, delivers_closed}
use Rattle.js_link.proofs.memory.MemoryLink.deliver.Goals as goal

on_err : {T E P : Type 0} (r : Result T E) → P → OnErr r P
on_err (Ok x) p = tt
on_err (Err e) p = p

pub returns-then-i-len-clause-ok : goal.returns-then-i-len-clause-ok
returns-then-i-len-clause-ok c = delivers_none c.args.self.now c.args.inbox.0 c.args.message (ap is_open_at (get_past c.args.self.now.inboxes.items c.args.inbox.0 (omega arith)))

pub returns-in-None-clause-ok : goal.returns-in-None-clause-ok
returns-in-None-clause-ok c = delivers_closed c.args.self.now c.args.inbox.0 c.index_mut.result.now c.args.message
    (slice_get-get_or c.args.self.now.inboxes.items c.args.inbox.0 _ (omega arith) ∙ ap Some (sym c.index_mut.ensures.value)) c.in-None.is

pub returns-in_ok-push_back-in-Some-clause-ok : goal.returns-in_ok-push_back-in-Some-clause-ok
returns-in_ok-push_back-in-Some-clause-ok c = delivers_back c.args.self.now c.args.inbox.0 c.in-Some.messages c.push_back.new.self c.args.message (omega arith)
    (slice_get-get_or c.args.self.now.inboxes.items c.args.inbox.0 _ (omega arith) ∙ ap Some (sym c.index_mut.ensures.value ∙ c.in-Some.is))
    c.in_ok-push_back-in-Some.ensures.items

pub returns-in_err-push_back-in-Some-clause-err : goal.returns-in_err-push_back-in-Some-clause-err
returns-in_err-push_back-in-Some-clause-err c = on_err _ (same_queue c.args.self.now c.args.inbox.0 c.in-Some.messages c.push_back.new.self (omega arith)
    (slice_get-get_or c.args.self.now.inboxes.items c.args.inbox.0 _ (omega arith) ∙ ap Some (sym c.index_mut.ensures.value ∙ c.in-Some.is))
    c.in_err-push_back-in-Some.ensures.items)
