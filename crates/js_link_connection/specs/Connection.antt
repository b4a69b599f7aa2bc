-- A connection: how it is made, kept alive and lost.
use Rattle.std.specs.Prelude.{ℕ, ◌≡◌, ◌+◌, ◌==◌, nat_le, Bool, true, false, not, List, [], ◌∷◌, filter, is_some, length, None, Result, Ok, Err, if◌then◌else◌, refl}
use Rattle.std.specs.Borrow.{Lends, MutBor, Fml}
use Rattle.js_base.specs.Clock.{is_due}
use Rattle.js_base.specs.declared.clock.Timer.{Timer}
use Rattle.js_base.specs.declared.message.State.{State}
use Rattle.js_link.specs.LinkView.{LinkView, Ended, put}
use Rattle.js_link_outbox.specs.Calls.{watch_after}
use Rattle.js_link_outbox.specs.NewOutbox.{IsOpened, front_of}
use Rattle.js_link_outbox.specs.Numbered.{at}
use Rattle.js_link_outbox.specs.Outbox.{front, outgoing}
use Rattle.js_link_outbox.specs.declared.outbox.OutboxLink.{OutboxLink}
use Rattle.js_link_outbox.specs.contracts.outbox.OutboxLink as link
use Rattle.js_link_wire.specs.declared.frame.ClientFrame.TheVariants as frames
use Rattle.js_link_connection.specs.declared.connection.Connection.{Connection}
use Rattle.js_link_connection.specs.contracts.connection.Connection as connections
use Rattle.js_link_connection.specs.declared.error.ConnectionError.{ConnectionError}
use Rattle.js_link_connection.specs.declared.error.ConnectionError.TheVariants as failed
use Rattle.js_link_connection.specs.declared.options.ConnectOptions.{ConnectOptions}
use Rattle.js_link_connection.specs.declared.keep_alive.Wake.{Wake}
use Rattle.js_link_connection.specs.declared.keep_alive.Wake.TheVariants.{Early, Ping, Silent}
use Rattle.js_link_connection.specs.declared.keep_alive.KeepAlive.{KeepAlive}
use Rattle.js_link_connection.specs.declared.keep_alive.TheConstants.{MOST_UNANSWERED}
use Rattle.js_link_connection.specs.declared.writer.Phase.{Phase}
use Rattle.js_link_connection.specs.declared.writer.Phase.TheVariants.{Lost, Awaiting, Greeting, Up}
use Rattle.js_link_connection.specs.ConnectText.{connect_text}

-- the bytes that are to be sent
abbrev pub to_send : Connection → List ℕ
to_send connection = connection.writer.out

-- the connection over another link
abbrev pub with_link : Connection → OutboxLink → Connection
with_link connection link = record connection { link = link }

-- it ends with what was made of its link
abbrev pub LendsLink : MutBor Connection → MutBor OutboxLink → Fml
LendsLink connection result = Lends connections.the_row link.the_row connection result (with_link connection.now)

-- ---- the time in which nothing comes

-- the quiet time begins anew where bytes came
abbrev pub quiet_after : List ℕ → ℕ → Timer → Timer
quiet_after bytes now quiet = if length bytes == 0 then quiet else record quiet { set = now }

-- what a moment asks for after CONNECT: nothing before the quiet time is over, then a PING, and an end where two had no answer
abbrev pub wake : KeepAlive → ℕ → Wake
wake keep now = if is_due keep.quiet now then (if nat_le MOST_UNANSWERED keep.unanswered then Silent else Ping) else Early

-- by how far the connection has come: without one nothing, and before INFO an end and no PING
abbrev pub wake_in : Phase → KeepAlive → ℕ → Wake
wake_in Lost keep now = Early
wake_in Awaiting keep now = if is_due keep.quiet now then Silent else Early
wake_in Greeting keep now = wake keep now
wake_in Up keep now = wake keep now

-- what is known after that: a PING more has no answer, and the time begins anew
abbrev pub after_wake : Wake → KeepAlive → ℕ → KeepAlive
after_wake Early keep now = keep
after_wake Ping keep now = record { quiet = record keep.quiet { set = now }; unanswered = keep.unanswered + 1 }
after_wake Silent keep now = keep

-- a PING is due then, or was before
abbrev pub ping_after : Wake → Bool → Bool
ping_after Early ping = ping
ping_after Ping ping = true
ping_after Silent ping = ping

-- a call fails exactly where the server does not answer
abbrev pub IsWoken : {T : Type 0} → Result T ConnectionError → Wake → Type 0
IsWoken (Ok done) Early = Unit {0}
IsWoken (Ok done) Ping = Unit {0}
IsWoken (Ok done) Silent = ⊥
IsWoken (Err failed.Silent) asked = asked ≡ Silent
IsWoken (Err error) asked = ⊥

-- there is a connection, and its quiet time is over
abbrev pub is_quiet : Phase → KeepAlive → ℕ → Bool
is_quiet Lost keep now = false
is_quiet Awaiting keep now = is_due keep.quiet now
is_quiet Greeting keep now = is_due keep.quiet now
is_quiet Up keep now = is_due keep.quiet now

-- worked: after a quiet time of five a PING, five later another, and five later an end
worked_first : wake (record { quiet = record { set = 0; wait = 5 }; unanswered = 0 }) 5 ≡ Ping
worked_first = refl

worked_second : wake (record { quiet = record { set = 5; wait = 5 }; unanswered = 1 }) 10 ≡ Ping
worked_second = refl

worked_end : wake (record { quiet = record { set = 10; wait = 5 }; unanswered = 2 }) 15 ≡ Silent
worked_end = refl

worked_early : wake (record { quiet = record { set = 5; wait = 5 }; unanswered = 1 }) 9 ≡ Early
worked_early = refl

-- ---- how it begins and ends

-- a link in which these requests have ended
abbrev pub ended_view : List ℕ → LinkView → LinkView
ended_view [] view = view
ended_view (number ∷ numbers) view = ended_view numbers (record view { status = put view.status number Ended; reply = put view.reply number None })

-- a link that is told this state: a closed one stays closed
abbrev pub in_state : State → LinkView → LinkView
in_state state view = record view { watch = watch_after view.watch state }

-- nothing is left of an earlier connection
pub record IsFresh (connection : Connection) : Type 0 where
  pub send : to_send connection ≡ []
  pub came : connection.came ≡ []
  pub place : connection.place ≡ 0
  pub info : connection.info ≡ None
  pub pongs : connection.writer.pongs ≡ 0
  pub ping : connection.writer.is_ping_due ≡ false
  pub resubscribed : connection.writer.resubscribed ≡ 0
  pub requests : connection.writer.requests.items ≡ []
  pub unanswered : connection.keep_alive.unanswered ≡ 0

-- what outlasts a connection: what the link has to send, the subscriptions that are open, and the settings
pub record Outlasts (old new : Connection) : Type 0 where
  pub items : outgoing new.link ≡ outgoing old.link
  pub same_front : front new.link ≡ front old.link
  pub taken : new.writer.taken ≡ old.writer.taken
  pub subscribed : new.writer.subscribed.items ≡ old.writer.subscribed.items
  pub connect : new.writer.connect ≡ old.writer.connect
  pub most : new.most ≡ old.most
  pub wait : new.keep_alive.quiet.wait ≡ old.keep_alive.quiet.wait

-- nothing came, nothing is to be sent but what a new link has to send, and it is not made yet
pub record IsNew (options : ConnectOptions) (connection : Connection) : Type 0 where
  pub link : IsOpened (front_of options.inbox_prefix options.inbox_token) connection.link
  pub fresh : IsFresh connection
  pub connect : connection.writer.connect ≡ frames.Connect (connect_text options)
  pub phase : connection.writer.phase ≡ Lost
  pub taken : connection.writer.taken ≡ None
  pub subscribed : connection.writer.subscribed.items ≡ []
  pub most : connection.most ≡ options.longest_body
  pub wait : connection.keep_alive.quiet.wait ≡ options.quiet_time

-- requests without one that ended
abbrev pub without_request : ℕ → List ℕ → List ℕ
without_request request requests = filter (λ number. not (number == request)) requests

-- requests without those that were given up over the link
abbrev pub those_open : OutboxLink → List ℕ → List ℕ
those_open link requests = filter (λ number. is_some (at link.requests number)) requests
