use Rattle.std.proofs.Common.{◌≡◌, arith, rules}
use Rattle.std.specs.Prelude.{Err}
use Rattle.js_link_outbox.specs.Outbox.{outgoing}
use Rattle.js_link_connection.proofs.Steps.{item_writes, ping_writes, pong_writes, subscribed_stays, subscribed_writes}
use Rattle.js_link_connection.proofs.writer.Writer.write_more.Goals as goal

pub returns-then-self-gt0-clause-writes : goal.returns-then-self-gt0-clause-writes
returns-then-self-gt0-clause-writes c =
    pong_writes c.args.self.now c.write_pong.new.self (outgoing c.args.link.now) c.requires c.if-self-gt0.true c.in_ok-write_pong.ensures.ok

pub returns-then-self-clause-writes : goal.returns-then-self-clause-writes
returns-then-self-clause-writes c =
    ping_writes c.args.self.now c.write_ping.new.self (outgoing c.args.link.now) c.requires (omega arith) c.if-self.true c.in_ok-write_ping.ensures.ok

pub returns-in_err-write_subscribed-clause-writes : goal.returns-in_err-write_subscribed-clause-writes
returns-in_err-write_subscribed-clause-writes c =
    let is : c.from_residual-in_err-write_subscribed.result ≡ Err c.in_err-write_subscribed.field-0.0 = search rules in
    let cause = c.in_err-write_subscribed.ensures.cause in
    rw (is) (subscribed_stays c.in_err-write_subscribed.field-0.0 c.args.self.now c.write_subscribed.new.self (outgoing c.args.link.now) cause.0 c.requires (omega arith) c.if-self.false cause.1 cause.2 c.in_err-write_subscribed.ensures.err)

pub returns-then-self-len-clause-writes : goal.returns-then-self-len-clause-writes
returns-then-self-len-clause-writes c =
    let ok = c.in_ok-write_subscribed.ensures.ok in
    subscribed_writes c.args.self.now c.write_subscribed.new.self (outgoing c.args.link.now) ok.0 c.requires (omega arith) c.if-self.false ok.1 ok.2 ok.3

pub returns-clause-writes : goal.returns-clause-writes
returns-clause-writes c =
    item_writes c.write_item.result c.args.self.now c.write_item.new.self (outgoing c.args.link.now) (outgoing c.write_item.new.link) c.requires (omega arith) c.if-self.false (omega arith) c.write_item.ensures.writes
