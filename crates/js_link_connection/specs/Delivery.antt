-- What came, and what is delivered of it.
use Rattle.std.specs.Prelude.{ℕ, zero, suc, ◌≡◌, ◌+◌, ◌-◌, ◌^◌, ◌++◌, Bool, true, false, not, ◌==◌, List, [], ◌∷◌, length, filter, min, Option, Some, None, Result, Ok, Err, refl}
use Rattle.js_base.specs.declared.message.State.TheVariants.{Connected}
use Rattle.js_link.specs.LinkView.{LinkView}
use Rattle.js_link_outbox.specs.declared.outbox.OutboxLink.{OutboxLink}
use Rattle.js_link_outbox.specs.declared.outgoing.Delivery.{Delivery}
use Rattle.js_link_outbox.specs.declared.outgoing.Delivery.TheVariants as delivery
use Rattle.js_link_outbox.specs.Calls.{Brings, IsWantedBy, SendsNothing, watch_after}
use Rattle.js_link_outbox.specs.Outbox.{outbox_view}
use Rattle.js_link_wire.specs.declared.frame.ServerFrame.{ServerFrame}
use Rattle.js_link_wire.specs.declared.frame.ServerFrame.TheVariants as frames
use Rattle.js_link_wire.specs.declared.headers.HeadersDamage.{HeadersDamage}
use Rattle.js_link_wire.specs.declared.incoming.Incoming.{Incoming}
use Rattle.js_link_wire.specs.FrameReader.{next_frame, AreRead}
use Rattle.js_link_wire.specs.Incoming.{incoming}
use Rattle.js_link_connection.specs.declared.connection.Connection.{Connection}
use Rattle.js_link_connection.specs.declared.error.ConnectionError.{ConnectionError}
use Rattle.js_link_connection.specs.declared.error.ConnectionError.TheVariants as failed
use Rattle.js_link_connection.specs.declared.server_info.ServerInfo.{ServerInfo}
use Rattle.js_link_connection.specs.declared.writer.Phase.{Phase}
use Rattle.js_link_connection.specs.declared.writer.Phase.TheVariants as phases
use Rattle.js_link_connection.specs.ServerInfo.{info_of}
use Rattle.js_link_connection.specs.Connection.{quiet_after}

-- ---- what a frame does to a link

-- it means the same, and has the same to send
pub record IsSameLink (old new : OutboxLink) : Type 0 where
  pub view : outbox_view new ≡ outbox_view old
  pub sends : SendsNothing old new

-- a message was brought to whoever wants it
pub record Brought (delivery : Delivery) (message : Incoming) (old new : OutboxLink) : Type 0 where
  pub wanted : IsWantedBy delivery message.subscription message.message old
  pub brings : Brings delivery message.message (outbox_view old) (outbox_view new)
  pub sends : SendsNothing old new

-- a link after INFO: it is connected, and takes no longer body than the server does
abbrev pub told_by : Option ServerInfo → LinkView → LinkView
told_by None view = view
told_by (Some info) view = record view { watch = watch_after view.watch Connected; max_payload = info.max_payload }

-- a link after a frame that is no message: INFO alone tells it something
abbrev pub told_view : ServerFrame → LinkView → LinkView
told_view (frames.Info json) view = told_by (info_of json) view
told_view (frames.Message subject subscription reply payload) view = view
told_view (frames.HeaderedMessage subject subscription reply headers payload) view = view
told_view frames.Ping view = view
told_view frames.Pong view = view
told_view frames.Taken view = view
told_view (frames.Refused text) view = view

-- ---- what a frame does besides

-- the requests that wait for an answer, after a message was brought: one that has its answer waits no more
abbrev pub without : Delivery → List ℕ → List ℕ
without (delivery.Request request) requests = filter (λ number. not (number == request.0)) requests
without (delivery.Inbox inbox) requests = requests
without delivery.Nobody requests = requests

-- CONNECT is to be written once INFO has come
abbrev pub after_info : Phase → Phase
after_info phases.Lost = phases.Lost
after_info phases.Awaiting = phases.Greeting
after_info phases.Greeting = phases.Greeting
after_info phases.Up = phases.Up

-- how far the connection has come after a frame
abbrev pub phase_heard : ServerFrame → Phase → Phase
phase_heard (frames.Info json) phase = after_info phase
phase_heard (frames.Message subject subscription reply payload) phase = phase
phase_heard (frames.HeaderedMessage subject subscription reply headers payload) phase = phase
phase_heard frames.Ping phase = phase
phase_heard frames.Pong phase = phase
phase_heard frames.Taken phase = phase
phase_heard (frames.Refused text) phase = phase

-- how many PONGs are to be written: one more after a PING, up to the type's end
abbrev pub pongs_heard : ServerFrame → ℕ → ℕ
pongs_heard (frames.Info json) count = count
pongs_heard (frames.Message subject subscription reply payload) count = count
pongs_heard (frames.HeaderedMessage subject subscription reply headers payload) count = count
pongs_heard frames.Ping count = min (count + 1) (2 ^ 64 - 1)
pongs_heard frames.Pong count = count
pongs_heard frames.Taken count = count
pongs_heard (frames.Refused text) count = count

-- what the server said of itself last
abbrev pub info_heard : ServerFrame → Option ServerInfo → Option ServerInfo
info_heard (frames.Info json) info = info_of json
info_heard (frames.Message subject subscription reply payload) info = info
info_heard (frames.HeaderedMessage subject subscription reply headers payload) info = info
info_heard frames.Ping info = info
info_heard frames.Pong info = info
info_heard frames.Taken info = info
info_heard (frames.Refused text) info = info

-- how many PINGs have no answer: none after a PONG
abbrev pub unanswered_heard : ServerFrame → ℕ → ℕ
unanswered_heard (frames.Info json) count = count
unanswered_heard (frames.Message subject subscription reply payload) count = count
unanswered_heard (frames.HeaderedMessage subject subscription reply headers payload) count = count
unanswered_heard frames.Ping count = count
unanswered_heard frames.Pong count = 0
unanswered_heard frames.Taken count = count
unanswered_heard (frames.Refused text) count = count

-- worked: a PING is owed a PONG, and a message is owed none
worked_pongs : (pongs_heard frames.Ping 1 ≡ 2) × (pongs_heard frames.Taken 1 ≡ 1) × (unanswered_heard frames.Pong 2 ≡ 0)
worked_pongs = (refl, refl, refl)

-- the server refuses something
abbrev pub is_refusal : ServerFrame → Bool
is_refusal (frames.Info json) = false
is_refusal (frames.Message subject subscription reply payload) = false
is_refusal (frames.HeaderedMessage subject subscription reply headers payload) = false
is_refusal frames.Ping = false
is_refusal frames.Pong = false
is_refusal frames.Taken = false
is_refusal (frames.Refused text) = true

-- ---- what a frame does to a connection

-- a message is brought; where the frame is none, the link is told what it has to know
abbrev pub Delivers : Result (Option Incoming) HeadersDamage → ServerFrame → Connection → Connection → Type 0
Delivers (Ok (Some message)) frame old new = (delivery : Delivery) × Brought delivery message old.link new.link × (new.writer.requests.items ≡ without delivery old.writer.requests.items)
Delivers (Ok None) frame old new = (outbox_view new.link ≡ told_view frame (outbox_view old.link)) × SendsNothing old.link new.link × (new.writer.requests.items ≡ old.writer.requests.items)
Delivers (Err damage) frame old new = ⊥

-- a frame that is no refusal was taken: a message is brought, a PING is owed a PONG, and no more
pub record Takes (frame : ServerFrame) (old new : Connection) : Type 0 where
  pub refused : is_refusal frame ≡ false
  pub delivers : Delivers (incoming frame) frame old new
  pub writer : new.writer ≡ record old.writer { phase = phase_heard frame old.writer.phase; pongs = pongs_heard frame old.writer.pongs; requests = new.writer.requests }
  pub info : new.info ≡ info_heard frame old.info
  pub unanswered : new.keep_alive.unanswered ≡ unanswered_heard frame old.keep_alive.unanswered

-- it means the same: no frame was taken
pub record IsSame (old new : Connection) : Type 0 where
  pub link : IsSameLink old.link new.link
  pub writer : new.writer ≡ old.writer
  pub info : new.info ≡ old.info
  pub unanswered : new.keep_alive.unanswered ≡ old.keep_alive.unanswered

-- frames were taken, one after another
abbrev pub TakesAll : List ServerFrame → Connection → Connection → Type 0
TakesAll [] old new = IsSame old new
TakesAll (frame ∷ frames) old new = (before : Connection) × (after : Connection) × IsSame old before × Takes frame before after × TakesAll frames after new

-- ---- a message alone, for functions that take no other frame

-- a message is brought; where the frame is none, nothing has changed
abbrev pub Messages : Result (Option Incoming) HeadersDamage → Connection → Connection → Type 0
Messages (Ok (Some message)) old new = (delivery : Delivery) × Brought delivery message old.link new.link × (new.writer.requests.items ≡ without delivery old.writer.requests.items)
Messages (Ok None) old new = (outbox_view new.link ≡ outbox_view old.link) × SendsNothing old.link new.link × (new.writer.requests.items ≡ old.writer.requests.items)
Messages (Err damage) old new = ⊥

-- nothing besides
pub record TakesMessage (frame : ServerFrame) (old new : Connection) : Type 0 where
  pub delivers : Messages (incoming frame) old new
  pub writer : new.writer ≡ record old.writer { requests = new.writer.requests }
  pub info : new.info ≡ old.info
  pub unanswered : new.keep_alive.unanswered ≡ old.keep_alive.unanswered

-- ---- why reading ends

-- a frame is not taken for this: its headers do not read, it is an INFO that does not read, or memory ran out
abbrev pub IsWhy : ConnectionError → ServerFrame → Type 0
IsWhy (failed.BadHeaders damage place) frame = incoming frame ≡ Err damage
IsWhy (failed.BadInfo place) frame = (json : List ℕ) × (frame ≡ frames.Info json) × (info_of json ≡ None)
IsWhy failed.Unread frame = Unit {0}
IsWhy (failed.Damaged damage place) frame = ⊥
IsWhy (failed.Refused text) frame = ⊥
IsWhy failed.Silent frame = ⊥
IsWhy (failed.Unwritable error) frame = ⊥
IsWhy failed.OutOfMemory frame = ⊥

-- an error that names a place names this one
abbrev pub IsAt : ConnectionError → ℕ → Type 0
IsAt (failed.BadHeaders damage place) here = place ≡ here
IsAt (failed.BadInfo place) here = place ≡ here
IsAt (failed.Damaged damage place) here = place ≡ here
IsAt failed.Unread here = Unit {0}
IsAt (failed.Refused text) here = Unit {0}
IsAt failed.Silent here = Unit {0}
IsAt (failed.Unwritable error) here = Unit {0}
IsAt failed.OutOfMemory here = Unit {0}

-- bytes begin with a frame that is not taken for this
abbrev pub BeginsWith : ConnectionError → ℕ → List ℕ → Type 0
BeginsWith error most bytes = (frame : ServerFrame) × (rest : List ℕ) × (next_frame most bytes ≡ Ok (Some (frame, rest))) × IsWhy error frame

-- why reading ends at these bytes: they are damaged, or begin with a frame that is not taken, and stay with their place; or the server refused something, whose frame is off them; or memory ran out
abbrev pub EndsBy : ConnectionError → ℕ → List ℕ → Connection → Type 0
EndsBy (failed.Damaged damage place) most bytes new = (next_frame most bytes ≡ Err damage) × (new.came ≡ bytes) × (place ≡ new.place)
EndsBy (failed.BadHeaders damage place) most bytes new = BeginsWith (failed.BadHeaders damage place) most bytes × (new.came ≡ bytes) × (place ≡ new.place)
EndsBy (failed.BadInfo place) most bytes new = BeginsWith (failed.BadInfo place) most bytes × (new.came ≡ bytes) × (place ≡ new.place)
EndsBy (failed.Refused text) most bytes new = next_frame most bytes ≡ Ok (Some (frames.Refused text, new.came))
EndsBy failed.Unread most bytes new = new.came ≡ bytes
EndsBy failed.Silent most bytes new = ⊥
EndsBy (failed.Unwritable error) most bytes new = ⊥
EndsBy failed.OutOfMemory most bytes new = ⊥

-- the place of bytes behind so many more, up to the type's end
abbrev pub place_after : ℕ → ℕ → ℕ
place_after place zero = place
place_after place (suc count) = min (place + suc count) (2 ^ 64 - 1)

-- ---- one frame

-- the next frame was read and taken; where none is there, or reading ends, nothing has changed
abbrev pub TakesNext : Result Bool ConnectionError → Connection → Connection → Type 0
TakesNext (Ok true) old new = (frame : ServerFrame) × (next_frame old.most old.came ≡ Ok (Some (frame, new.came))) × Takes frame old new
TakesNext (Ok false) old new = (next_frame old.most old.came ≡ Ok None) × (new.came ≡ old.came) × IsSame old new
TakesNext (Err error) old new = EndsBy error old.most old.came new × IsSame old new

-- ---- all that came

-- reading has ended: no whole frame is left, or for this error
abbrev pub Ends : {T : Type 0} → Result T ConnectionError → ℕ → List ℕ → Connection → Type 0
Ends (Ok done) most bytes new = (next_frame most bytes ≡ Ok None) × (new.came ≡ bytes)
Ends (Err error) most bytes new = EndsBy error most bytes new

-- frames were read off bytes and taken, one after another, until reading ended; the place is that of what is left
pub record Reads {T : Type 0} (result : Result T ConnectionError) (most : ℕ) (bytes : List ℕ) (old new : Connection) : Type 0 where
  pub taken : List ServerFrame
  pub left : List ℕ
  pub read : AreRead most bytes taken left
  pub takes : TakesAll taken old new
  pub ends : Ends result most left new
  pub place : new.place ≡ place_after old.place (length bytes - length new.came)

-- what came is read behind what was left; where there was no memory to keep it, nothing has changed
abbrev pub Receives : {T : Type 0} → Result T ConnectionError → List ℕ → Connection → Connection → Type 0
Receives {T} (Ok done) bytes old new = Reads {T = T} (Ok done) old.most (old.came ++ bytes) old new
Receives {T} (Err failed.OutOfMemory) bytes old new = new ≡ old
Receives {T} (Err error) bytes old new = Reads {T = T} (Err error) old.most (old.came ++ bytes) old new

-- the quiet time begins anew where bytes came and were kept
abbrev pub QuietAfter : {T : Type 0} → Result T ConnectionError → List ℕ → ℕ → Connection → Connection → Type 0
QuietAfter (Err failed.OutOfMemory) bytes now old new = new.keep_alive.quiet ≡ old.keep_alive.quiet
QuietAfter result bytes now old new = new.keep_alive.quiet ≡ quiet_after bytes now old.keep_alive.quiet
