-- What a link means after its inboxes, its requests or what it has to send have changed.
use Rattle.std.proofs.Common.{◌≡◌, ◌≢◌, ℕ, ◌+◌, true, Option, Some, None, List, [], ◌∷◌, ◌++◌, length, refl, sym, ap, subst, ◌∙◌, arith, append_assoc, length-append}
use Rattle.std.proofs.lemmas.List.{append-nil}
use Rattle.std.specs.Prelude.{is_some}
use Rattle.js_base.specs.declared.headers.Header.{Header}
use Rattle.js_base.specs.declared.message.Message.{Message}
use Rattle.js_link.specs.declared.sent.Sent.{Sent}
use Rattle.js_link.specs.declared.sent.Sent.TheVariants as sents
use Rattle.js_link.specs.declared.link.Taken.{Taken}
use Rattle.js_link.specs.declared.link.Taken.TheVariants as taken
use Rattle.js_link.specs.declared.link.Answer.{Answer}
use Rattle.js_link.specs.declared.link.Answer.TheVariants as answer
use Rattle.js_link.specs.LinkView.{LinkView, Numbers, Waits, Ended, put}
use Rattle.js_link.specs.Calls.{Opens, Closes, Takes, TakesOf, Asks, Answers, AnswersOf, Publishes}
use Rattle.js_link.specs.Memory.{Queue, with_last, DeliversAs, RespondsAs}
use Rattle.js_link_outbox.specs.declared.outgoing.Outgoing.{Outgoing}
use Rattle.js_link_outbox.specs.declared.outgoing.Outgoing.TheVariants as outs
use Rattle.js_link_outbox.specs.declared.numbered.Numbered.{Numbered}
use Rattle.js_link_outbox.specs.declared.outbox.OutboxLink.{OutboxLink}
use Rattle.js_link_outbox.specs.Numbered.{at}
use Rattle.js_link_outbox.specs.Inboxes.{items_of, queues, PutsInto, TakesFrom}
use Rattle.js_link_outbox.specs.Requests.{GivesAnswer, TakesAnswer}
use Rattle.js_link_outbox.specs.Outbox.{messages_in, status_of, reply_of, sent_by, all_sent_by, outbox_view, outgoing, inbox_subject, fresh_subject, answers_subject}
use Rattle.js_link_outbox.specs.NewOutbox.{opened_view}
use Rattle.js_link_outbox.specs.Calls.{Adds, KeepsRest}
use Rattle.js_link.proofs.Updates.{reads_put, put_same, put_here}

-- ---- what is told of items

all_sent_by-append : (xs ys : List Outgoing) → all_sent_by (xs ++ ys) ≡ all_sent_by xs ++ all_sent_by ys
all_sent_by-append [] ys = refl
all_sent_by-append (x ∷ xs) ys = ap (λ zs. sent_by x ++ zs) (all_sent_by-append xs ys) ∙ sym (append_assoc (sent_by x) (all_sent_by xs) (all_sent_by ys))

-- one item more
pub all_sent_by-push : (xs : List Outgoing) (x : Outgoing) → all_sent_by (xs ++ x ∷ []) ≡ all_sent_by xs ++ sent_by x
all_sent_by-push xs x = all_sent_by-append xs (x ∷ []) ∙ ap (λ ys. all_sent_by xs ++ ys) (append-nil (sent_by x))

-- the end of a subscription is not told
pub all_sent_by-end : (xs ys : List Outgoing) (n : ℕ) → ys ≡ xs ++ outs.Unsubscribe n ∷ [] → all_sent_by ys ≡ all_sent_by xs
all_sent_by-end xs ys n e = ap all_sent_by e ∙ (all_sent_by-push xs (outs.Unsubscribe n) ∙ append-nil (all_sent_by xs))

-- ---- what is read at numbers

reads : {A B : Type 0} (f : A → B) (q r : ℕ → A) (n : ℕ) (x : A) → r ≡ put q n x → (λ i. f (r i)) ≡ put (λ i. f (q i)) n (f x)
reads f q r n x e = rw e (reads_put f q n x)

here : {A : Type 0} (q r : ℕ → A) (n : ℕ) (x : A) → r ≡ put q n x → r n ≡ x
here q r n x e = rw e (put_here q n x)

-- the same, where the value is told by the changed one
reads_itself : {A B : Type 0} (f : A → B) (q r : ℕ → A) (n : ℕ) (x : A) → r ≡ put q n x → (λ i. f (r i)) ≡ put (λ i. f (q i)) n (f (r n))
reads_itself f q r n x e = reads f q r n x e ∙ ap (λ y. put (λ i. f (q i)) n (f y)) (sym (here q r n x e))

-- the same, where the value has not changed
reads_same : {A B : Type 0} (f : A → B) (q r : ℕ → A) (n : ℕ) (x : A) → r ≡ put q n x → f x ≡ f (q n) → ◌≡◌ {A = ℕ → B} (λ i. f (r i)) (λ i. f (q i))
reads_same f q r n x e s = reads f q r n x e ∙ put_same (λ i. f (q i)) n (f x) s

-- the queues of inboxes, once one has changed
pub queues_put : (old new : Numbered Queue) (n : ℕ) (x : Option Queue) → at new ≡ put (at old) n x → queues new ≡ put (queues old) n (items_of x)
queues_put old new n x e = reads items_of (at old) (at new) n x e

pub queues_same : (old new : Numbered Queue) → at new ≡ at old → queues new ≡ queues old
queues_same old new e = λ j i. items_of (e j i)

-- ---- inboxes

-- a view with these inboxes, and with that number for the next
abbrev with_inboxes : LinkView → Numbers → ℕ → (ℕ → Option (List Message)) → List Sent → LinkView
with_inboxes v k next q s = record v {
  numbers = Some (record k { inbox = next });
  is_open = λ i. is_some (q i);
  count = λ i. length (messages_in (q i));
  buffer = λ i. Some (messages_in (q i));
  sent = Some s;
}

-- an inbox was opened, and its subscription is to be sent
pub opens : (v : LinkView) (k : Numbers) (old next n : ℕ) (q r : ℕ → Option (List Message)) (s t : List Sent) (subject : List ℕ) (group : Option (List ℕ)) → v.up ≡ None → n ≡ old → next ≡ old + 1 → q old ≡ None → r ≡ put q old (Some []) → t ≡ s ++ sents.Subscribe n subject group ∷ [] → Opens n subject group (with_inboxes v k old q s) (with_inboxes v k next r t)
opens v k old next n q r s t subject group up is later unused e sent =
    let f : r ≡ put q n (Some []) = e ∙ ap (λ i. put q i (Some [])) (sym is) in
    record {
      not_down = rw up (λ d. cc);
      unused = ap is_some (ap q is ∙ unused);
      next = is;
      same = λ j. record v {
        numbers = Some (record k { inbox = later j });
        is_open = reads is_some q r n (Some []) f j;
        count = reads (λ o. length (messages_in o)) q r n (Some []) f j;
        buffer = reads_itself (λ o. Some (messages_in o)) q r n (Some []) f j;
        sent = Some (sent j);
      };
    }

-- the same, from what means the same
pub opens_after : (n : ℕ) (subject : List ℕ) (group : Option (List ℕ)) (u v w : LinkView) → v ≡ u → Opens n subject group v w → Opens n subject group u w
opens_after n subject group u v w e h = subst (λ (x : LinkView). Opens n subject group x w) e h

-- an inbox was closed
pub closes : (v : LinkView) (k : Numbers) (old next n : ℕ) (q r : ℕ → Option (List Message)) (s t : List Sent) → next ≡ old → r ≡ put q n None → t ≡ s → Closes n (with_inboxes v k old q s) (with_inboxes v k next r t)
closes v k old next n q r s t later e sent = record {
  same = λ j. record v {
    numbers = Some (record k { inbox = later j });
    is_open = reads is_some q r n None e j;
    count = reads (λ o. length (messages_in o)) q r n None e j;
    buffer = reads_itself (λ o. Some (messages_in o)) q r n None e j;
    sent = Some (sent j);
  };
}

-- the same inboxes
pub same_inboxes : (v : LinkView) (k : Numbers) (old next : ℕ) (q r : ℕ → Option (List Message)) (s : List Sent) → next ≡ old → r ≡ q → with_inboxes v k next r s ≡ with_inboxes v k old q s
same_inboxes v k old next q r s later e = λ j. with_inboxes v k (later j) (e j) s

-- the first message was taken
takes : (v : LinkView) (k : Numbers) (old next n : ℕ) (q r : ℕ → Option (List Message)) (s : List Sent) (message : Message) (rest : List Message) → next ≡ old → q n ≡ Some (message ∷ rest) → r ≡ put q n (Some rest) → Takes n message (with_inboxes v k old q s) (with_inboxes v k next r s)
takes v k old next n q r s message rest later was e =
    let now : r n ≡ Some rest = here q r n (Some rest) e in
    record {
      was_open = ap is_some was;
      one_less = rw (was, now) (omega arith);
      first = rw (was, now) refl;
      same = λ j. record v {
        numbers = Some (record k { inbox = later j });
        is_open = reads_same is_some q r n (Some rest) e (sym (ap is_some was)) j;
        count = reads_itself (λ o. length (messages_in o)) q r n (Some rest) e j;
        buffer = reads_itself (λ o. Some (messages_in o)) q r n (Some rest) e j;
        sent = Some s;
      };
    }

-- what a take gives
pub takes_of : (v : LinkView) (k : Numbers) (old new : Numbered Queue) (s : List Sent) (n : ℕ) (t : Taken) → new.next ≡ old.next → TakesFrom n t old new → TakesOf n t (with_inboxes v k old.next (queues old) s) (with_inboxes v k new.next (queues new) s)
takes_of v k old new s n (taken.Message message) later h = takes v k old.next new.next n (queues old) (queues new) s message h.0 later h.1 h.2
takes_of v k old new s n taken.Empty later h = (same_inboxes v k old.next new.next (queues old) (queues new) s later h.1, ap is_some h.0, ap (λ o. length (messages_in o)) h.0)
takes_of v k old new s n taken.Closed later h = (same_inboxes v k old.next new.next (queues old) (queues new) s later h.1, ap is_some h.0)

-- a message was put behind the others
pub delivers : (v : LinkView) (k : Numbers) (old new : Numbered Queue) (s : List Sent) (n : ℕ) (message : Message) → new.next ≡ old.next → PutsInto true n message old new → DeliversAs true n message (with_inboxes v k old.next (queues old) s) (with_inboxes v k new.next (queues new) s)
delivers v k old new s n message later h =
    let q : ℕ → Option (List Message) = queues old in
    let r : ℕ → Option (List Message) = queues new in
    let x : Option (List Message) = Some (h.0 ++ message ∷ []) in
    let long : length (messages_in x) ≡ length (messages_in (q n)) + 1 = length-append h.0 (message ∷ []) ∙ sym (ap (λ o. length (messages_in o) + 1) h.1) in
    let more : Some (messages_in x) ≡ with_last message (Some (messages_in (q n))) = sym (ap (λ o. Some (messages_in o ++ message ∷ [])) h.1) in
    λ j. record v {
      numbers = Some (record k { inbox = later j });
      is_open = reads_same is_some q r n x h.2 (sym (ap is_some h.1)) j;
      count = (reads (λ o. length (messages_in o)) q r n x h.2 ∙ ap (put (λ i. length (messages_in (q i))) n) long) j;
      buffer = (reads (λ o. Some (messages_in o)) q r n x h.2 ∙ ap (put (λ i. Some (messages_in (q i))) n) more) j;
      sent = Some s;
    }

-- ---- requests

-- a view with these requests, and with that number for the next
abbrev with_requests : LinkView → Numbers → ℕ → (ℕ → Option (Option Message)) → List Sent → LinkView
with_requests v k next q s = record v {
  numbers = Some (record k { request = next });
  status = λ i. status_of (q i);
  reply = λ i. reply_of (q i);
  sent = Some s;
}

-- a request was made
pub asks : (v : LinkView) (k : Numbers) (old next n : ℕ) (q r : ℕ → Option (Option Message)) (s t : List Sent) (subject : List ℕ) (headers : Option (List Header)) (payload : List ℕ) → v.up ≡ None → n ≡ old → next ≡ old + 1 → q old ≡ None → r ≡ put q old (Some None) → t ≡ s ++ sents.Request n subject headers payload ∷ [] → Asks n subject headers payload (with_requests v k old q s) (with_requests v k next r t)
asks v k old next n q r s t subject headers payload up is later unused e sent =
    let f : r ≡ put q n (Some None) = e ∙ ap (λ i. put q i (Some None)) (sym is) in
    record {
      not_down = rw up (λ d. cc);
      unused = ap status_of (ap q is ∙ unused);
      next = is;
      same = λ j. record v {
        numbers = Some (record k { request = later j });
        status = reads_itself status_of q r n (Some None) f j;
        reply = reads_itself reply_of q r n (Some None) f j;
        sent = Some (sent j);
      };
    }

-- the same, from what means the same
pub asks_after : (n : ℕ) (subject : List ℕ) (headers : Option (List Header)) (payload : List ℕ) (u v w : LinkView) → v ≡ u → Asks n subject headers payload v w → Asks n subject headers payload u w
asks_after n subject headers payload u v w e h = subst (λ (x : LinkView). Asks n subject headers payload x w) e h

-- it waits
pub waits : (q r : ℕ → Option (Option Message)) (old n : ℕ) → n ≡ old → r ≡ put q old (Some None) → status_of (r n) ≡ Waits
waits q r old n is e = ap (λ i. status_of (r i)) is ∙ ap status_of (here q r old (Some None) e)

-- the same requests
pub same_requests : (v : LinkView) (k : Numbers) (old next : ℕ) (q r : ℕ → Option (Option Message)) (s : List Sent) → next ≡ old → r ≡ q → with_requests v k next r s ≡ with_requests v k old q s
same_requests v k old next q r s later e = λ j. with_requests v k (later j) (e j) s

answers : (v : LinkView) (k : Numbers) (old next n : ℕ) (q r : ℕ → Option (Option Message)) (s : List Sent) (message : Message) → next ≡ old → q n ≡ Some (Some message) → r ≡ put q n None → Answers n message (with_requests v k old q s) (with_requests v k next r s)
answers v k old next n q r s message later was e = record {
  had_come = ap status_of was;
  told = rw was refl;
  same = λ j. record v {
    numbers = Some (record k { request = later j });
    status = reads status_of q r n None e j;
    reply = reads_itself reply_of q r n None e j;
    sent = Some s;
  };
}

-- what has become of a request
pub answers_of : (v : LinkView) (k : Numbers) (old new : Numbered (Option Message)) (s : List Sent) (n : ℕ) (a : Answer) → new.next ≡ old.next → TakesAnswer n a old new → AnswersOf n a (with_requests v k old.next (at old) s) (with_requests v k new.next (at new) s)
answers_of v k old new s n (answer.Got message) later h = answers v k old.next new.next n (at old) (at new) s message later h.0 h.1
answers_of v k old new s n answer.Waiting later h = (same_requests v k old.next new.next (at old) (at new) s later h.1, ap status_of h.0)
answers_of v k old new s n answer.Gone later h = (same_requests v k old.next new.next (at old) (at new) s later h.1, ap status_of h.0)

-- an answer was given
pub responds : (v : LinkView) (k : Numbers) (old new : Numbered (Option Message)) (s : List Sent) (n : ℕ) (message : Message) → new.next ≡ old.next → GivesAnswer true n message old new → RespondsAs Waits n (Some message) (with_requests v k old.next (at old) s) (with_requests v k new.next (at new) s)
responds v k old new s n message later h = λ j. record v {
  numbers = Some (record k { request = later j });
  status = reads status_of (at old) (at new) n (Some (Some message)) h.1 j;
  reply = reads reply_of (at old) (at new) n (Some (Some message)) h.1 j;
  sent = Some s;
}

-- a request that has no value waits not
pub waits_not : (o : Option (Option Message)) → o ≢ Some None → status_of o ≢ Waits
waits_not None isnt e = cc
waits_not (Some None) isnt e = isnt refl
waits_not (Some (Some message)) isnt e = cc

-- a request was forgotten
pub forgets : (v : LinkView) (k : Numbers) (old next n : ℕ) (q r : ℕ → Option (Option Message)) (s : List Sent) → next ≡ old → r ≡ put q n None → with_requests v k next r s ≡ record (with_requests v k old q s) { status = put (λ i. status_of (q i)) n Ended; reply = put (λ i. reply_of (q i)) n None }
forgets v k old next n q r s later e = λ j. record v {
  numbers = Some (record k { request = later j });
  status = reads status_of q r n None e j;
  reply = reads reply_of q r n None e j;
  sent = Some s;
}

-- ---- what is to be sent

-- only what is to be sent has changed
view_of : (o p : OutboxLink) (s : List Sent) → KeepsRest o p → all_sent_by p.outgoing.items ≡ s → outbox_view p ≡ record (outbox_view o) { sent = Some s }
view_of o p s k e = λ j. record {
  faults = k.faults j;
  up = None;
  numbers = Some (record {
    inbox = (k.inboxes j).next;
    request = (k.requests j).next;
    fresh = k.fresh j;
    inbox_subject = inbox_subject (k.same_front j);
    fresh_subject = fresh_subject (k.same_front j);
  });
  is_open = λ i. is_some (queues (k.inboxes j) i);
  count = λ i. length (messages_in (queues (k.inboxes j) i));
  status = λ r. status_of (at (k.requests j) r);
  watch = k.watch j;
  max_payload = k.max_payload j;
  request_timeout = k.request_timeout j;
  buffer = λ i. Some (messages_in (queues (k.inboxes j) i));
  reply = λ r. reply_of (at (k.requests j) r);
  sent = Some (e j);
}

-- nothing has changed
pub kept_view : (o p : OutboxLink) → KeepsRest o p → outgoing p ≡ outgoing o → outbox_view p ≡ outbox_view o
kept_view o p k e = view_of o p (all_sent_by o.outgoing.items) k (ap all_sent_by e)

-- a message was sent
pub publishes : (o p : OutboxLink) (subject : List ℕ) (reply : Option (List ℕ)) (headers : Option (List Header)) (payload : List ℕ) → KeepsRest o p → Adds (outs.Publish subject reply headers payload None) o p → Publishes subject reply headers payload (outbox_view o) (outbox_view p)
publishes o p subject reply headers payload k adds = record {
  not_down = λ d. cc;
  same = view_of o p _ k (ap all_sent_by adds.items ∙ all_sent_by-push o.outgoing.items (outs.Publish subject reply headers payload None));
}

-- a link that was just made
pub opened : (f g : List ℕ) (inboxes : Numbered Queue) (requests : Numbered (Option Message)) (xs : List Outgoing) → f ≡ g → at inboxes ≡ (λ _. None) → inboxes.next ≡ 1 → at requests ≡ (λ _. None) → requests.next ≡ 1 → xs ≡ outs.Subscribe 0 (answers_subject g) None ∷ [] → with_requests (with_inboxes (record (opened_view g) { numbers = Some (record { inbox = 1; request = 1; fresh = 0; inbox_subject = inbox_subject f; fresh_subject = fresh_subject f }) }) (record { inbox = 1; request = 1; fresh = 0; inbox_subject = inbox_subject f; fresh_subject = fresh_subject f }) inboxes.next (queues inboxes) (all_sent_by xs)) (record { inbox = inboxes.next; request = 1; fresh = 0; inbox_subject = inbox_subject f; fresh_subject = fresh_subject f }) requests.next (at requests) (all_sent_by xs) ≡ opened_view g
opened f g inboxes requests xs front q n r m e = λ j. record (opened_view g) {
  numbers = Some (record { inbox = n j; request = m j; fresh = 0; inbox_subject = inbox_subject (front j); fresh_subject = fresh_subject (front j) });
  is_open = λ i. is_some (items_of (q j i));
  count = λ i. length (messages_in (items_of (q j i)));
  status = λ i. status_of (r j i);
  buffer = λ i. Some (messages_in (items_of (q j i)));
  reply = λ i. reply_of (r j i);
  sent = Some (all_sent_by (e j));
}
