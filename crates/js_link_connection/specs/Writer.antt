-- What is to be written, in order, and what is noted of what was written.
use Rattle.std.specs.Prelude.{ℕ, zero, suc, ◌≡◌, ◌==◌, refl, Bool, true, false, not, List, [], ◌∷◌, ◌++◌, map, filter, length, drop, codes, Option, Some, None, Result, Ok, Err}
use Rattle.std.specs.List.{All}
use Rattle.js_base.specs.declared.headers.Header.{Header}
use Rattle.js_link.specs.declared.sent.RequestId.{RequestId}
use Rattle.js_link_outbox.specs.declared.outgoing.Outgoing.{Outgoing}
use Rattle.js_link_outbox.specs.declared.outgoing.Outgoing.TheVariants as outgoings
use Rattle.js_link_outbox.specs.declared.outbox.OutboxLink.{OutboxLink}
use Rattle.js_link_outbox.specs.Outbox.{front, outbox_view}
use Rattle.js_link_wire.specs.declared.frame.ClientFrame.{ClientFrame}
use Rattle.js_link_wire.specs.declared.frame.ClientFrame.TheVariants as frames
use Rattle.js_link_wire.specs.Written.{written, refusal}
use Rattle.js_link_connection.specs.declared.error.ConnectionError.{ConnectionError}
use Rattle.js_link_connection.specs.declared.writer.Item.{Item}
use Rattle.js_link_connection.specs.declared.writer.Phase.{Phase}
use Rattle.js_link_connection.specs.declared.writer.Phase.TheVariants as phases
use Rattle.js_link_connection.specs.declared.writer.Writer.{Writer}
use Rattle.js_link_connection.specs.Errors.{IsUnwritten}

-- ---- what a link has to send, as frames

-- a message without headers is a PUB, and one with headers an HPUB
abbrev pub publish_of : List ℕ → Option (List ℕ) → Option (List Header) → List ℕ → ClientFrame
publish_of subject reply None payload = frames.Publish subject reply payload
publish_of subject reply (Some headers) payload = frames.HeaderedPublish subject reply headers payload

-- what a link has to send as a frame, with the request that it makes
abbrev pub item_of : Outgoing → Item
item_of (outgoings.Subscribe subscription subject group) = record { frame = frames.Subscribe subject group subscription; request = None }
item_of (outgoings.Unsubscribe subscription) = record { frame = frames.Unsubscribe subscription None; request = None }
item_of (outgoings.Publish subject reply headers payload request) = record { frame = publish_of subject reply headers payload; request = request }

-- what was taken from the link already
abbrev pub taken_items : Option Item → List Item
taken_items None = []
taken_items (Some item) = item ∷ []

-- all that is to be written for a link: what was taken already, and then what it still has
abbrev pub queue : Option Item → List Outgoing → List Item
queue taken items = taken_items taken ++ map item_of items

-- ---- what is to be written

-- so many PONGs
abbrev pub pongs : ℕ → List ClientFrame
pongs zero = []
pongs (suc n) = frames.Pong ∷ pongs n

-- a PING, where one is due
abbrev pub pings : Bool → List ClientFrame
pings false = []
pings true = frames.Ping ∷ []

abbrev pub frame_of : Item → ClientFrame
frame_of item = item.frame

-- what is to be written after CONNECT: the answers to PINGs, a PING, the open subscriptions that this connection has not written, and what the link has to send
abbrev pub after_connect : ℕ → Bool → List ClientFrame → List Item → List ClientFrame
after_connect count ping subscriptions items = pongs count ++ (pings ping ++ (subscriptions ++ map frame_of items))

-- nothing before INFO has come, then CONNECT, then the rest
abbrev pub in_phase : Phase → ClientFrame → List ClientFrame → List ClientFrame
in_phase phases.Lost connect rest = []
in_phase phases.Awaiting connect rest = []
in_phase phases.Greeting connect rest = connect ∷ rest
in_phase phases.Up connect rest = rest

-- what is to be written now, in order
abbrev pub due : Writer → List Outgoing → List ClientFrame
due writer items = in_phase writer.phase writer.connect (after_connect writer.pongs writer.is_ping_due (drop writer.resubscribed writer.subscribed.items) (queue writer.taken items))

-- worked: on a connection that is new, CONNECT goes first, then the answer to a PING, the subscription that is open, and what was held back; and nothing of it goes before INFO has come
worked_due : in_phase phases.Greeting (frames.Connect (codes "{}")) (after_connect 1 false (frames.Subscribe (codes "a") None 1 ∷ []) (queue None (outgoings.Publish (codes "b") None None [] None ∷ [])))
    ≡ frames.Connect (codes "{}") ∷ frames.Pong ∷ frames.Subscribe (codes "a") None 1 ∷ frames.Publish (codes "b") None [] ∷ []
worked_due = refl

worked_held : in_phase phases.Awaiting (frames.Connect (codes "{}")) (frames.Pong ∷ []) ≡ []
worked_held = refl

-- ---- what is noted of what was written

-- it is the subscription of that number
abbrev pub is_subscription : ℕ → ClientFrame → Bool
is_subscription number (frames.Connect json) = false
is_subscription number (frames.Subscribe subject group subscription) = subscription == number
is_subscription number (frames.Unsubscribe subscription max) = false
is_subscription number (frames.Publish subject reply payload) = false
is_subscription number (frames.HeaderedPublish subject reply headers payload) = false
is_subscription number frames.Ping = false
is_subscription number frames.Pong = false

-- the subscriptions that are open: one that begins goes behind the others, and one that ends is none any more
abbrev pub subscribed_after : ClientFrame → List ClientFrame → List ClientFrame
subscribed_after (frames.Connect json) subscribed = subscribed
subscribed_after (frames.Subscribe subject group subscription) subscribed = subscribed ++ frames.Subscribe subject group subscription ∷ []
subscribed_after (frames.Unsubscribe subscription max) subscribed = filter (λ frame. not (is_subscription subscription frame)) subscribed
subscribed_after (frames.Publish subject reply payload) subscribed = subscribed
subscribed_after (frames.HeaderedPublish subject reply headers payload) subscribed = subscribed
subscribed_after frames.Ping subscribed = subscribed
subscribed_after frames.Pong subscribed = subscribed

-- the same after several items
abbrev pub all_subscribed_after : List Item → List ClientFrame → List ClientFrame
all_subscribed_after [] subscribed = subscribed
all_subscribed_after (item ∷ items) subscribed = all_subscribed_after items (subscribed_after item.frame subscribed)

-- the requests that wait for an answer: one that was written goes behind the others
abbrev pub requests_after : Option RequestId → List ℕ → List ℕ
requests_after None requests = requests
requests_after (Some request) requests = requests ++ request.0 ∷ []

-- the same after several items
abbrev pub all_requests_after : List Item → List ℕ → List ℕ
all_requests_after [] requests = requests
all_requests_after (item ∷ items) requests = all_requests_after items (requests_after item.request requests)

-- worked: a subscription that has ended is not written to the next server
worked_subscribed : subscribed_after (frames.Unsubscribe 1 None) (subscribed_after (frames.Subscribe (codes "b") None 2) (subscribed_after (frames.Subscribe (codes "a") None 1) [])) ≡ frames.Subscribe (codes "b") None 2 ∷ []
worked_subscribed = refl

-- how far a connection has come once something was written: CONNECT, if it was to be written
abbrev pub up : Phase → Phase
up phases.Lost = phases.Lost
up phases.Awaiting = phases.Awaiting
up phases.Greeting = phases.Up
up phases.Up = phases.Up

-- the same after several frames
abbrev pub phase_after : List ClientFrame → Phase → Phase
phase_after [] phase = phase
phase_after (frame ∷ frames) phase = up phase

-- no INFO has come: nothing can be written
abbrev pub is_waiting : Phase → Bool
is_waiting phases.Lost = true
is_waiting phases.Awaiting = true
is_waiting phases.Greeting = false
is_waiting phases.Up = false

-- ---- steps

-- how far the connection is, and what is not the link's, are as they were
pub record KeepsOwn (old new : Writer) : Type 0 where
  pub phase : new.phase ≡ old.phase
  pub connect : new.connect ≡ old.connect
  pub pongs : new.pongs ≡ old.pongs
  pub ping : new.is_ping_due ≡ old.is_ping_due

-- what is noted is as it was too
pub record KeepsNotes (old new : Writer) : Type 0 where
  pub own : KeepsOwn old new
  pub subscribed : new.subscribed.items ≡ old.subscribed.items
  pub requests : new.requests.items ≡ old.requests.items
  pub resubscribed : new.resubscribed ≡ old.resubscribed

-- an item was written, and it is noted
pub record Notes (item : Item) (old new : Writer) : Type 0 where
  pub own : KeepsOwn old new
  pub subscribed : new.subscribed.items ≡ subscribed_after item.frame old.subscribed.items
  pub requests : new.requests.items ≡ requests_after item.request old.requests.items
  pub resubscribed : new.resubscribed ≡ length new.subscribed.items

-- the same is to be written for the link, and its first thing is taken where there is one
abbrev pub Fetches : Option Item → List Outgoing → Option Item → List Outgoing → Type 0
Fetches taken items new_taken new_items = (queue new_taken new_items ≡ queue taken items) × (new_taken ≡ None → new_items ≡ [])

-- nothing of a link is other than before but what it has to send
pub record TakesOnly (old new : OutboxLink) : Type 0 where
  pub view : outbox_view new ≡ record (outbox_view old) { sent = (outbox_view new).sent }
  pub same_front : front new ≡ front old

-- what was taken from the link is written and noted; where nothing was taken, nothing has changed, and where it is not written, it stays
abbrev pub WritesTaken : Result Bool ConnectionError → Writer → Writer → Type 0
WritesTaken (Ok true) old new = (item : Item) × (old.taken ≡ Some item) × (new.taken ≡ None) × (new.out ≡ old.out ++ written item.frame) × Notes item old new × (refusal item.frame ≡ None)
WritesTaken (Ok false) old new = (old.taken ≡ None) × (new ≡ old)
WritesTaken (Err error) old new = (item : Item) × (old.taken ≡ Some item) × (new.taken ≡ Some item) × (new.out ≡ old.out) × KeepsNotes old new × IsUnwritten error (item.frame ∷ [])

-- the first thing that is to be written for the link is written and noted, and is to be written no more; where it is not written, it stays
abbrev pub WritesItem : Result Bool ConnectionError → Writer → List Outgoing → Writer → List Outgoing → Type 0
WritesItem (Ok true) old items new new_items = (item : Item) × (queue old.taken items ≡ item ∷ queue new.taken new_items) × (new.out ≡ old.out ++ written item.frame) × Notes item old new × (refusal item.frame ≡ None)
WritesItem (Ok false) old items new new_items = (queue old.taken items ≡ []) × (new ≡ old) × (new_items ≡ items)
WritesItem (Err error) old items new new_items =
    (item : Item) × (later : List Item) × (queue old.taken items ≡ item ∷ later) × (queue new.taken new_items ≡ queue old.taken items) × (new.out ≡ old.out) × KeepsNotes old new × IsUnwritten error (item.frame ∷ [])

-- these items of the link were written: they are noted, and the others are to be written
pub record TakesItems (done : List Item) (old : Writer) (items : List Outgoing) (new : Writer) (new_items : List Outgoing) : Type 0 where
  pub queue_is : queue old.taken items ≡ done ++ queue new.taken new_items
  pub subscribed : new.subscribed.items ≡ all_subscribed_after done old.subscribed.items
  pub requests : new.requests.items ≡ all_requests_after done old.requests.items

-- the first frame that is to be written was written, and is to be written no more
pub record WritesOne (old : Writer) (items : List Outgoing) (new : Writer) (new_items : List Outgoing) : Type 0 where
  pub frame : ClientFrame
  pub done : List Item
  pub due_is : due old items ≡ frame ∷ due new new_items
  pub out_is : new.out ≡ old.out ++ written frame
  pub allowed : refusal frame ≡ None
  pub takes : TakesItems done old items new new_items
  pub phase : new.phase ≡ up old.phase
  pub connect : new.connect ≡ old.connect

-- no frame was written, for this: the same is to be written
pub record WritesNone (error : ConnectionError) (old : Writer) (items : List Outgoing) (new : Writer) (new_items : List Outgoing) : Type 0 where
  pub due_is : due new new_items ≡ due old items
  pub out_is : new.out ≡ old.out
  pub cause : IsUnwritten error (due old items)
  pub takes : TakesItems [] old items new new_items
  pub phase : new.phase ≡ old.phase
  pub connect : new.connect ≡ old.connect
  pub begun : is_waiting old.phase ≡ false

-- a frame was written; where none is to be written, nothing has changed
abbrev pub WritesNext : Result Bool ConnectionError → Writer → List Outgoing → Writer → List Outgoing → Type 0
WritesNext (Ok true) old items new new_items = WritesOne old items new new_items
WritesNext (Ok false) old items new new_items = (due old items ≡ []) × (new ≡ old) × (new_items ≡ items)
WritesNext (Err error) old items new new_items = WritesNone error old items new new_items

-- the text of frames, one after another
abbrev pub all_written : List ClientFrame → List ℕ
all_written [] = []
all_written (frame ∷ frames) = written frame ++ all_written frames

-- the first of what is to be written was written, each frame once and in order, and the others are to be written; none that is refused was written
pub record Writes (old : Writer) (items : List Outgoing) (new : Writer) (new_items : List Outgoing) : Type 0 where
  pub done : List ClientFrame
  pub due_is : due old items ≡ done ++ due new new_items
  pub out_is : new.out ≡ old.out ++ all_written done
  pub allowed : All (λ frame. refusal frame ≡ None) done
  pub items_done : List Item
  pub takes : TakesItems items_done old items new new_items
  pub phase : new.phase ≡ phase_after done old.phase
  pub connect : new.connect ≡ old.connect
  pub waits : is_waiting old.phase ≡ true → (new ≡ old) × (new_items ≡ items)
