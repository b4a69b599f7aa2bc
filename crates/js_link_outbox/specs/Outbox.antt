-- What the end of a connection means, and what it has to send.
use Rattle.std.specs.Prelude.{ℕ, ◌≡◌, ◌++◌, false, Option, Some, None, is_some, IfSome, refl, List, [], ◌∷◌, length, codes}
use Rattle.std.specs.Fmt.{decimal, digits}
use Rattle.std.specs.BTreeMap.{keys}
use Rattle.js_base.specs.declared.message.Message.{Message}
use Rattle.js_link.specs.declared.sent.Sent.{Sent}
use Rattle.js_link.specs.declared.sent.Sent.TheVariants as sents
use Rattle.js_link.specs.LinkView.{LinkView, Numbers, Status, Waits, Answered, Ended}
use Rattle.js_link_outbox.specs.declared.outgoing.Outgoing.{Outgoing}
use Rattle.js_link_outbox.specs.declared.outgoing.Outgoing.TheVariants.{Subscribe, Unsubscribe, Publish}
use Rattle.js_link_outbox.specs.declared.outbox.OutboxLink.{OutboxLink}
use Rattle.js_link_outbox.specs.Numbered.{at}
use Rattle.js_link_outbox.specs.Inboxes.{queues}

-- ---- its own subjects, behind a front that ends with a dot

-- the reply subject of a request
unfoldable pub answer_subject : List ℕ → ℕ → List ℕ
answer_subject front number = front ++ decimal number

-- the subject that stands for the reply subjects of all requests
unfoldable pub answers_subject : List ℕ → List ℕ
answers_subject front = front ++ codes "*"

-- the subject of an inbox, which the one for all answers does not match: it has a token more
unfoldable pub inbox_subject : List ℕ → ℕ → List ℕ
inbox_subject front number = front ++ (codes "i." ++ decimal number)

-- a subject under which nothing is opened
unfoldable pub fresh_subject : List ℕ → ℕ → List ℕ
fresh_subject front number = front ++ (codes "f." ++ decimal number)

-- ---- what it means

-- the messages of an inbox: a closed one has none
abbrev pub messages_in : Option (List Message) → List Message
messages_in None = []
messages_in (Some messages) = messages

-- what is told of a request
abbrev pub status_of : Option (Option Message) → Status
status_of None = Ended
status_of (Some None) = Waits
status_of (Some (Some reply)) = Answered

-- the answer that has come
abbrev pub reply_of : Option (Option Message) → Option Message
reply_of None = None
reply_of (Some reply) = reply

-- what a link tells to have sent by an item: an end of a subscription is not told
abbrev pub sent_by : Outgoing → List Sent
sent_by (Subscribe subscription subject group) = sents.Subscribe subscription subject group ∷ []
sent_by (Unsubscribe subscription) = []
sent_by (Publish subject reply headers payload None) = sents.Publish subject reply headers payload ∷ []
sent_by (Publish subject reply headers payload (Some request)) = sents.Request request.0 subject headers payload ∷ []

-- the same of all items
abbrev pub all_sent_by : List Outgoing → List Sent
all_sent_by [] = []
all_sent_by (item ∷ items) = sent_by item ++ all_sent_by items

-- what is to be sent, in order
abbrev pub outgoing : OutboxLink → List Outgoing
outgoing o = o.outgoing.items

-- what its own subjects begin with
abbrev pub front : OutboxLink → List ℕ
front o = o.front

-- the numbers of the open inboxes, and those of the requests that wait or have their answer: all that it keeps
abbrev pub open_inboxes : OutboxLink → List ℕ
open_inboxes o = keys o.inboxes.map

abbrev pub open_requests : OutboxLink → List ℕ
open_requests o = keys o.requests.map

-- the numbers that it gives next
abbrev pub numbers_of : OutboxLink → Numbers
numbers_of o = record {
  inbox = o.inboxes.next;
  request = o.requests.next;
  fresh = o.fresh;
  inbox_subject = inbox_subject o.front;
  fresh_subject = fresh_subject o.front;
}

-- what it means: it tells its numbers, its buffers, its answers, and of what it sent the part that was not taken yet
abbrev pub outbox_view : OutboxLink → LinkView
outbox_view o = record {
  faults = o.faults;
  up = None;
  numbers = Some (numbers_of o);
  is_open = λ i. is_some (queues o.inboxes i);
  count = λ i. length (messages_in (queues o.inboxes i));
  status = λ r. status_of (at o.requests r);
  watch = o.watch;
  max_payload = o.max_payload;
  request_timeout = o.request_timeout;
  buffer = λ i. Some (messages_in (queues o.inboxes i));
  reply = λ r. reply_of (at o.requests r);
  sent = Some (all_sent_by o.outgoing.items);
}

-- a closed inbox holds no message
no_messages : (inbox : Option (List Message)) → is_some inbox ≡ false → length (messages_in inbox) ≡ 0
no_messages None closed = refl
no_messages (Some messages) closed = cc

pub closed_is_empty : (o : OutboxLink) (inbox : ℕ) → (outbox_view o).is_open inbox ≡ false → (outbox_view o).count inbox ≡ 0
closed_is_empty o inbox closed = no_messages (queues o.inboxes inbox) closed

-- a buffer has as many messages as are counted
pub counts_buffer : (o : OutboxLink) (inbox : ℕ) → IfSome ((outbox_view o).buffer inbox) (λ messages. length messages ≡ (outbox_view o).count inbox)
counts_buffer o inbox = refl

-- worked: a subscription and a request are told, the end of a subscription is not
worked_told : all_sent_by (Subscribe 1 (codes "a.>") None ∷ Unsubscribe 1 ∷ Publish (codes "b") (Some (codes "_INBOX.c.1")) None [] (Some (record { 0 = 1 })) ∷ []) ≡ sents.Subscribe 1 (codes "a.>") None ∷ sents.Request 1 (codes "b") None [] ∷ []
worked_told = refl

-- worked: the reply subject of a request, and the subject of an inbox
worked_subjects : (answer_subject (codes "_INBOX.c.") 7 ≡ codes "_INBOX.c.7") × (inbox_subject (codes "_INBOX.c.") 7 ≡ codes "_INBOX.c.i.7")
unfolding answer_subject inbox_subject digits
worked_subjects = (refl, refl)
