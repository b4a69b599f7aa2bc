-- The inbox that is open for an ordered consumer, and how it is closed.
use Rattle.std.specs.Prelude.{◌≡◌, Option, Some, None, refl}
use Rattle.js_base.specs.declared.clock.Timer.{Timer}
use Rattle.js_link.specs.Calls.{Closes}
use Rattle.js_link.specs.LinkView.{LinkView}
use Rattle.js_link.specs.declared.sent.InboxId.{InboxId}
use Rattle.js_ordered_table.specs.declared.consumer.Opened.{Opened}
use Rattle.js_ordered_table.specs.declared.consumer.Phase.{Phase}
use Rattle.js_ordered_table.specs.declared.consumer.Phase.TheVariants.{Pulls, Pushes, Recreates, Ended}

-- the one of the consumer that is being made
abbrev pub opened_inbox : Option Opened → Option InboxId
opened_inbox None = None
opened_inbox (Some opened) = Some (record { 0 = opened.inbox })

-- the one that is read, or the one of the consumer that is being made
abbrev pub inbox_of : Phase → Option InboxId
inbox_of (Pulls reader) = Some (record { 0 = reader.source.inbox })
inbox_of (Pushes inbox heartbeat_timer) = Some (record { 0 = inbox })
inbox_of (Recreates recreation) = opened_inbox recreation.opened
inbox_of phase = None

-- worked: push listens to inbox 7. One that has ended has none
worked_inbox : (timer : Timer) → (inbox_of (Pushes 7 timer) ≡ Some (record { 0 = 7 })) × (inbox_of Ended ≡ None)
worked_inbox timer = (refl, refl)

-- it is closed, where there is one; else the link stays as it is
abbrev pub ClosesInbox : Option InboxId → LinkView → LinkView → Type 0
ClosesInbox (Some inbox) old new = Closes inbox.0 old new
ClosesInbox None old new = new ≡ old

-- worked: without an inbox the link stays
worked_close : (link : LinkView) → ClosesInbox None link link
worked_close link = refl
