-- What a link in memory means.
use Rattle.std.specs.Prelude.{ℕ, zero, suc, ◌≡◌, ◌+◌, ◌<◌, ◌++◌, Bool, true, false, Option, Some, None, IfSome, List, [], ◌∷◌, length, slice_get, codes, refl}
use Rattle.std.specs.Fmt.{decimal}
use Rattle.std.specs.declared.collections.VecDeque.{VecDeque}
use Rattle.std.specs.declared.alloc.Global.{Global}
use Rattle.js_base.specs.declared.message.Message.{Message}
use Rattle.js_base.specs.declared.message.State.TheVariants.{Connected}
use Rattle.js_link.specs.declared.link.Watch.TheVariants as watch
use Rattle.js_link.specs.declared.memory.MemoryLink.{MemoryLink}
use Rattle.js_link.specs.declared.memory.Request.{Request}
use Rattle.js_link.specs.declared.memory.Request.TheVariants as requests
use Rattle.js_link.specs.LinkView.{LinkView, Numbers, Status, Waits, Answered, Ended, put}

-- the messages of an inbox
abbrev pub Queue : Type 0
Queue = VecDeque Message Global

-- an inbox that was opened and is not closed
abbrev pub is_open_at : Option (Option Queue) → Bool
is_open_at (Some (Some messages)) = true
is_open_at (Some None) = false
is_open_at None = false

-- the messages in it
abbrev pub messages_at : Option (Option Queue) → List Message
messages_at (Some (Some messages)) = messages.items
messages_at (Some None) = []
messages_at None = []

-- requests are numbered from 1
abbrev pub request_at : List Request → ℕ → Option Request
request_at requests zero = None
request_at requests (suc k) = slice_get requests k

-- what is told of a request
abbrev pub status_of : Option Request → Status
status_of None = Ended
status_of (Some requests.Waits) = Waits
status_of (Some (requests.Answered message)) = Answered
status_of (Some requests.Ended) = Ended

-- the answer that has come
abbrev pub reply_of : Option Request → Option Message
reply_of None = None
reply_of (Some requests.Waits) = None
reply_of (Some (requests.Answered message)) = Some message
reply_of (Some requests.Ended) = None

-- the subject of an inbox: the prefix, a dot and its number
unfoldable pub inbox_subject : List ℕ → ℕ → List ℕ
inbox_subject prefix number = prefix ++ (codes "." ++ decimal number)

-- a subject under which nothing is opened: the prefix, a dot, an `r` and a number
unfoldable pub fresh_subject : List ℕ → ℕ → List ℕ
fresh_subject prefix number = prefix ++ (codes ".r" ++ decimal number)

-- the numbers that it gives next
abbrev pub memory_numbers : MemoryLink → Numbers
memory_numbers m = record {
  inbox = length m.inboxes.items;
  request = length m.requests.items + 1;
  fresh = m.fresh;
  inbox_subject = inbox_subject m.prefix;
  fresh_subject = fresh_subject m.prefix;
}

-- what a link in memory means: it tells all
abbrev pub memory_view : MemoryLink → LinkView
memory_view m = record {
  faults = m.faults;
  up = Some m.up;
  numbers = Some (memory_numbers m);
  is_open = λ i. is_open_at (slice_get m.inboxes.items i);
  count = λ i. length (messages_at (slice_get m.inboxes.items i));
  status = λ r. status_of (request_at m.requests.items r);
  watch = m.watch;
  max_payload = m.max_payload;
  request_timeout = m.request_timeout;
  buffer = λ i. Some (messages_at (slice_get m.inboxes.items i));
  reply = λ r. reply_of (request_at m.requests.items r);
  sent = Some m.sent.items;
}

-- a new link: up and connected, with no inbox and no request, any body and ten seconds
abbrev pub new_view : List ℕ → LinkView
new_view prefix = record {
  faults = 0;
  up = Some true;
  numbers = Some (record { inbox = 0; request = 1; fresh = 0; inbox_subject = inbox_subject prefix; fresh_subject = fresh_subject prefix });
  is_open = λ _. false;
  count = λ _. 0;
  status = λ _. Ended;
  watch = watch.State Connected;
  max_payload = 18446744073709551615;
  request_timeout = Some 10_000_000_000;
  buffer = λ _. Some [];
  reply = λ _. None;
  sent = Some [];
}

-- the request has this reply, or waits where there is none
abbrev pub HasReply : ℕ → Option Message → LinkView → Type 0
HasReply number None view = (view.status number ≡ Waits) × (view.reply number ≡ None)
HasReply number (Some reply) view = (view.status number ≡ Answered) × (view.reply number ≡ Some reply)

-- a told list with one more at its end
abbrev pub with_last : Message → Option (List Message) → Option (List Message)
with_last message None = None
with_last message (Some messages) = Some (messages ++ message ∷ [])

-- an open inbox has one message more, and a message for another one is passed over
abbrev pub DeliversAs : Bool → ℕ → Message → LinkView → LinkView → Type 0
DeliversAs true inbox message old new =
    new ≡ record old { count = put old.count inbox (old.count inbox + 1); buffer = put old.buffer inbox (with_last message (old.buffer inbox)) }
DeliversAs false inbox message old new = new ≡ old

-- a message was put into an inbox
abbrev pub Delivers : ℕ → Message → LinkView → LinkView → Type 0
Delivers inbox message old new = DeliversAs (old.is_open inbox) inbox message old new

-- the request of the number waits, at the place
pub record WaitsAt (number : ℕ) (m : MemoryLink) (place : ℕ) : Type 0 where
  pub numbered : number ≡ place + 1
  pub within : place < length m.requests.items
  pub waits : slice_get m.requests.items place ≡ Some requests.Waits

-- a request that was answered, or whose replier is gone
abbrev pub request_after : Option Message → Request
request_after None = requests.Ended
request_after (Some reply) = requests.Answered reply

-- what is told of a request whose reply came, or whose replier is gone
abbrev pub answered_by : Option Message → Status
answered_by (Some reply) = Answered
answered_by None = Ended

-- a request that waits has its answer or is gone, and a reply to another one is passed over
abbrev pub RespondsAs : Status → ℕ → Option Message → LinkView → LinkView → Type 0
RespondsAs Waits number reply old new =
    new ≡ record old { status = put old.status number (answered_by reply); reply = put old.reply number reply }
RespondsAs Answered number reply old new = new ≡ old
RespondsAs Ended number reply old new = new ≡ old

-- a reply was given to a request, or its replier is gone
abbrev pub Responds : ℕ → Option Message → LinkView → LinkView → Type 0
Responds number reply old new = RespondsAs (old.status number) number reply old new

no_messages : (inbox : Option (Option Queue)) → is_open_at inbox ≡ false → length (messages_at inbox) ≡ 0
no_messages (Some (Some messages)) closed = cc
no_messages (Some None) closed = refl
no_messages None closed = refl

-- a closed inbox holds no message
pub closed_is_empty : (m : MemoryLink) (inbox : ℕ) → (memory_view m).is_open inbox ≡ false → (memory_view m).count inbox ≡ 0
closed_is_empty m inbox closed = no_messages (slice_get m.inboxes.items inbox) closed

-- a buffer has as many messages as are counted
pub counts_buffer : (m : MemoryLink) (inbox : ℕ) → IfSome ((memory_view m).buffer inbox) (λ messages. length messages ≡ (memory_view m).count inbox)
counts_buffer m inbox = refl
