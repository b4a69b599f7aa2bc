use Rattle.std.proofs.Common.{◌≡◌, ◌++◌, ℕ, List, ap, refl, subst}
use Rattle.js_link_connection.specs.declared.connection.Connection.{Connection}
use Rattle.js_link_connection.specs.declared.keep_alive.KeepAlive.{KeepAlive}
use Rattle.js_link_connection.specs.Delivery.{IsSame, Reads}
use Rattle.js_link_connection.proofs.Frames.{reads_from_same, receives_read, same_link}
use Rattle.js_link_connection.proofs.connection.Connection.received.Goals as goal

pub returns-clause-receives : goal.returns-clause-receives
returns-clause-receives c =
    let old = c.args.self.now in
    let new = c.take_all.new.self in
    let result = c.take_all.result in
    let before : Connection = record old { came = c.push.new.self; keep_alive = c.hear.new.self } in
    let same : IsSame old before = record { link = same_link old.link; writer = refl; info = refl; unanswered = ap (λ (k : KeepAlive). k.unanswered) c.hear.ensures } in
    let came : c.push.new.self ≡ old.came ++ c.args.bytes.now = c.in_ok-push.ensures.ok in
    let reads = subst (λ (all : List ℕ). Reads {T = Unit {0}} result old.most all before new) came c.take_all.ensures.reads in
    receives_read {T = Unit {0}} result c.args.bytes.now old new (reads_from_same {T = Unit {0}} result old.most (old.came ++ c.args.bytes.now) old before new same refl reads)
