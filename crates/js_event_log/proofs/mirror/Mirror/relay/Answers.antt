use Rattle.std.proofs.Common.{◌≡◌, List, IfOk, OnOk, sym, subst}
use Rattle.js_base.specs.declared.message.Entry as base
use Rattle.js_ordered_table.specs.declared.event.Event.{Event}
use Rattle.js_event_log.specs.Events.{relayed, AllFit}
use Rattle.js_event_log.specs.RelayReader.{Replays}
use Rattle.js_event_log.specs.LogCopy.{StaysHonest}
use Rattle.js_event_log.proofs.RelayAnswers.{if_both_ok, replays, default_reads}
use Rattle.js_event_log.proofs.MirrorServer.{stays_honest}
use Rattle.js_event_log.proofs.MirrorSlots.{shows_each_log}
use Rattle.js_event_log.proofs.mirror.Mirror.relay.Goals as goal

pub returns-clause-events : goal.returns-clause-events
returns-clause-events c =
    subst (λ (es : List base.Entry). IfOk c.arrivals.result (λ events. events.items ≡ relayed c.args.stream.now c.args.name.now 1 es)) c.entries.ensures.entries c.arrivals.ensures.events

pub returns-clause-replays : goal.returns-clause-replays
returns-clause-replays c =
    let stream = c.args.stream.now in
    let name = c.args.name.now in
    let entries = c.args.self.now.entries in
    let inboxes_opened : IfOk c.arrivals.result (λ events. events.items ≡ relayed stream name 1 entries) =
    subst (λ (es : List base.Entry). IfOk c.arrivals.result (λ events. events.items ≡ relayed stream name 1 es)) c.entries.ensures.entries c.arrivals.ensures.events in
    let fit : OnOk c.arrivals.result (AllFit entries) = subst (λ (es : List base.Entry). OnOk c.arrivals.result (AllFit es)) c.entries.ensures.entries c.arrivals.ensures.fit in
    if_both_ok c.arrivals.result inboxes_opened fit
    (λ events is fits. subst (λ (es : List Event). Replays entries es) (sym is) (replays stream name c.requires.stream c.requires.name entries fits))

pub returns-clause-default_reads : goal.returns-clause-default_reads
returns-clause-default_reads c = λ first s n. default_reads c.args.self.now.start first c.args.stream.now c.args.name.now c.requires.stream c.requires.name s n

pub returns-clause-honest : goal.returns-clause-honest
returns-clause-honest c =
    let stream = c.args.stream.now in
    let name = c.args.name.now in
    let mirror = c.args.self.now in
    let inboxes_opened : IfOk c.arrivals.result (λ events. events.items ≡ relayed stream name 1 mirror.entries) =
    subst (λ (es : List base.Entry). IfOk c.arrivals.result (λ events. events.items ≡ relayed stream name 1 es)) c.entries.ensures.entries c.arrivals.ensures.events in
    let fit : OnOk c.arrivals.result (AllFit mirror.entries) = subst (λ (es : List base.Entry). OnOk c.arrivals.result (AllFit es)) c.entries.ensures.entries c.arrivals.ensures.fit in
    if_both_ok c.arrivals.result inboxes_opened fit
    (λ events is fits. subst (λ (es : List Event). StaysHonest mirror es) (sym is) (stays_honest stream name c.requires.stream c.requires.name mirror fits))

pub returns-clause-log : goal.returns-clause-log
returns-clause-log c = shows_each_log c.args.self.now c.entries.ensures.mirror
