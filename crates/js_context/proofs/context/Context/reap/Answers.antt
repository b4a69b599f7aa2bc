use Rattle.std.proofs.Common.{◌≡◌, ◌+◌, ◌-◌, length, arith, subst}
use Rattle.js_context.specs.DetachedAcks.{Reaps}
use Rattle.js_context.proofs.AckLooks.{looked_within, turned_back, still_there}
use Rattle.js_context.proofs.context.Context.reap.Goals as goal

pub overflow_sub-others : goal.overflow_sub-others
overflow_sub-others g c =
    let within = looked_within c.args.self.now.settings.concurrency_limit (length c.args.self.now.detached) in
    omega (arith, within, c.reaped_len-count.ensures, c.detached_len.ensures)

pub reap_first-settled-requires : goal.reap_first-settled-requires
reap_first-settled-requires g c =
    let within = looked_within c.args.self.now.settings.concurrency_limit (length c.args.self.now.detached) in
    omega (arith, within, c.reaped_len-count.ensures)

pub turn_detached-requires : goal.turn_detached-requires
turn_detached-requires g c =
    let within = looked_within c.args.self.now.settings.concurrency_limit (length c.args.self.now.detached) in
    still_there _ _ _ _ _ _ _ _ c.reap_first-settled.ensures (omega (arith, within, c.reaped_len-count.ensures, c.detached_len.ensures))

pub returns : goal.returns
returns g c =
    let within = looked_within c.args.self.now.settings.concurrency_limit (length c.args.self.now.detached) in
    let all : (c.detached_len.result - c.reaped_len-count.result) + c.reaped_len-count.result ≡ length c.args.self.now.detached =
    omega (arith, within, c.reaped_len-count.ensures, c.detached_len.ensures) in
    subst (λ k. Reaps k c.args.now c.args.self.now c.turn_detached.new.self (g.L.Link.view c.args.link.now) (g.L.Link.view c.reap_first-settled.new.link) c.reap_first-settled.result) c.reaped_len-count.ensures
    (turned_back _ _ _ _ _ _ _ _ _ c.reap_first-settled.ensures all c.turn_detached.ensures)
