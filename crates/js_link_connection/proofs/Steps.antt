-- What is to be written, one frame at a time.
use Rattle.std.proofs.Common.{None, ◌≡◌, ℕ, zero, suc, ◌+◌, ◌-◌, ◌<◌, ◌≤◌, Bool, true, false, List, [], ◌∷◌, ◌++◌, length, drop, map, Some, Result, Ok, Err, refl, sym, ap, subst, ◌∙◌, append_assoc, arith}
use Rattle.std.proofs.lemmas.List.{append-nil, drop_more}
use Rattle.std.proofs.lemmas.List.Elements.{All-append, All-cons, All-nil}
use Rattle.std.proofs.Math.ListN.{drop_of_length-le}
use Rattle.std.proofs.lemmas.Option.{slice_get_within, get_or_from_slice_get}
use Rattle.std.specs.List.{slice_get}
use Rattle.js_link.specs.LinkView.{LinkView}
use Rattle.js_link_outbox.specs.Outbox.{outbox_view}
use Rattle.js_link_outbox.specs.declared.outbox.OutboxLink.{OutboxLink}
use Rattle.js_link_outbox.specs.declared.outgoing.Outgoing.{Outgoing}
use Rattle.js_link_wire.specs.declared.frame.ClientFrame.{ClientFrame}
use Rattle.js_link_wire.specs.declared.frame.ClientFrame.TheVariants as frames
use Rattle.js_link_wire.specs.Written.{refusal, written}
use Rattle.js_link_connection.specs.declared.error.ConnectionError.{ConnectionError}
use Rattle.js_link_connection.specs.declared.error.ConnectionError.TheVariants as failed
use Rattle.js_link_connection.specs.declared.writer.Item.{Item}
use Rattle.js_link_connection.specs.declared.writer.Phase.{Phase}
use Rattle.js_link_connection.specs.declared.writer.Phase.TheVariants as phases
use Rattle.js_link_connection.specs.declared.writer.Writer.{Writer}
use Rattle.js_link_connection.specs.Errors.{IsUnwritten}
use Rattle.js_link_connection.specs.Writer.{TakesItems, TakesOnly, Writes, WritesOne, WritesNone, WritesNext, WritesItem, after_connect, all_written, all_requests_after, all_subscribed_after, due, frame_of, in_phase, is_waiting, phase_after, pings, pongs, queue, requests_after, subscribed_after, up}

-- ---- texts, notes and phases of one more

all_then : (done : List ClientFrame) (frame : ClientFrame) → all_written (done ++ frame ∷ []) ≡ all_written done ++ written frame
all_then [] frame = append-nil (written frame)
all_then (first ∷ done) frame = ap (λ (text : List ℕ). written first ++ text) (all_then done frame) ∙ sym (append_assoc (written first) (all_written done) (written frame))

subscribed_then : (done more : List Item) (subscribed : List ClientFrame) → all_subscribed_after (done ++ more) subscribed ≡ all_subscribed_after more (all_subscribed_after done subscribed)
subscribed_then [] more subscribed = refl
subscribed_then (item ∷ done) more subscribed = subscribed_then done more (subscribed_after item.frame subscribed)

requests_then : (done more : List Item) (requests : List ℕ) → all_requests_after (done ++ more) requests ≡ all_requests_after more (all_requests_after done requests)
requests_then [] more requests = refl
requests_then (item ∷ done) more requests = requests_then done more (requests_after item.request requests)

up_twice : (phase : Phase) → up phase ≡ up (up phase)
up_twice phases.Lost = refl
up_twice phases.Awaiting = refl
up_twice phases.Greeting = refl
up_twice phases.Up = refl

phase_then : (done : List ClientFrame) (frame : ClientFrame) (phase : Phase) → phase_after (done ++ frame ∷ []) phase ≡ up (phase_after done phase)
phase_then [] frame phase = refl
phase_then (first ∷ done) frame phase = up_twice phase

nothing_waits : (phase : Phase) (connect : ClientFrame) (rest : List ClientFrame) → is_waiting phase ≡ true → in_phase phase connect rest ≡ []
nothing_waits phases.Lost connect rest e = refl
nothing_waits phases.Awaiting connect rest e = refl
nothing_waits phases.Greeting connect rest e = absurd cc
nothing_waits phases.Up connect rest e = absurd cc

-- ---- items of the link

takes_then : (done more : List Item) (old middle new : Writer) (items middle_items new_items : List Outgoing) → TakesItems done old items middle middle_items → TakesItems more middle middle_items new new_items
    → TakesItems (done ++ more) old items new new_items
takes_then done more old middle new items middle_items new_items h k = record {
  queue_is = h.queue_is ∙ ap (λ (later : List Item). done ++ later) k.queue_is ∙ sym (append_assoc done more (queue new.taken new_items));
  subscribed = k.subscribed ∙ ap (all_subscribed_after more) h.subscribed ∙ sym (subscribed_then done more old.subscribed.items);
  requests = k.requests ∙ ap (all_requests_after more) h.requests ∙ sym (requests_then done more old.requests.items);
}

-- what is taken is taken one after another
pub takes_only : (a b c : OutboxLink) → TakesOnly a b → TakesOnly b c → TakesOnly a c
takes_only a b c h k = record { view = k.view ∙ ap (λ (v : LinkView). record v { sent = (outbox_view c).sent }) h.view; same_front = k.same_front ∙ h.same_front }

-- ---- frames after frames

pub none_written : (writer : Writer) (items : List Outgoing) → Writes writer items writer items
none_written writer items = record {
  done = [];
  due_is = refl;
  out_is = sym (append-nil writer.out);
  allowed = All-nil (λ (frame : ClientFrame). refusal frame ≡ None);
  items_done = [];
  takes = record { queue_is = refl; subscribed = refl; requests = refl };
  phase = refl;
  connect = refl;
  waits = λ _. (refl, refl);
}

-- where no INFO has come, nothing is due
nothing_due : (old middle : Writer) (items more : List Outgoing) → Writes old items middle more → is_waiting old.phase ≡ true → due middle more ≡ []
nothing_due old middle items more h waiting =
    let same = h.waits waiting in
    nothing_waits middle.phase middle.connect _ (ap (λ (w : Writer). is_waiting w.phase) same.0 ∙ waiting)

first_of_none : (frame : ClientFrame) (later : List ClientFrame) → frame ∷ later ≡ [] → ⊥
first_of_none frame later e = cc

pub one_written : (old middle new : Writer) (items more last : List Outgoing) → Writes old items middle more → WritesOne middle more new last → Writes old items new last
one_written old middle new items more last h k = record {
  done = h.done ++ k.frame ∷ [];
  due_is = h.due_is ∙ ap (λ (later : List ClientFrame). h.done ++ later) k.due_is ∙ sym (append_assoc h.done (k.frame ∷ []) (due new last));
  out_is = k.out_is ∙ ap (λ (text : List ℕ). text ++ written k.frame) h.out_is ∙ append_assoc old.out (all_written h.done) (written k.frame) ∙ ap (λ (text : List ℕ). old.out ++ text) (sym (all_then h.done k.frame));
  allowed = All-append (λ (frame : ClientFrame). refusal frame ≡ None) h.done (k.frame ∷ []) h.allowed (All-cons (λ (frame : ClientFrame). refusal frame ≡ None) k.frame [] k.allowed (All-nil (λ (frame : ClientFrame). refusal frame ≡ None)));
  items_done = h.items_done ++ k.done;
  takes = takes_then h.items_done k.done old middle new items more last h.takes k.takes;
  phase = k.phase ∙ ap up h.phase ∙ sym (phase_then h.done k.frame old.phase);
  connect = k.connect ∙ h.connect;
  waits = λ waiting. absurd (first_of_none k.frame (due new last) (sym k.due_is ∙ nothing_due old middle items more h waiting));
}

true_is_false : true ≡ false → ⊥
true_is_false e = cc

-- the same is to be written
pub none_more : (error : ConnectionError) (old middle new : Writer) (items more last : List Outgoing) → Writes old items middle more → WritesNone error middle more new last → Writes old items new last
none_more error old middle new items more last h k = record {
  done = h.done;
  due_is = h.due_is ∙ ap (λ (later : List ClientFrame). h.done ++ later) (sym k.due_is);
  out_is = k.out_is ∙ h.out_is;
  allowed = h.allowed;
  items_done = h.items_done ++ [];
  takes = takes_then h.items_done [] old middle new items more last h.takes k.takes;
  phase = k.phase ∙ h.phase;
  connect = k.connect ∙ h.connect;
  waits = λ waiting. absurd (true_is_false (sym waiting ∙ ap (λ (w : Writer). is_waiting w.phase) (sym (h.waits waiting).0) ∙ k.begun));
}

pub cause_stays : (error : ConnectionError) (old new : Writer) (items new_items : List Outgoing) → WritesNone error old items new new_items → IsUnwritten error (due new new_items)
cause_stays error old new items new_items k = subst (IsUnwritten error) (sym k.due_is) k.cause

-- ---- what each frame does

pub one_pong : (n : ℕ) → 0 < n → pongs n ≡ frames.Pong ∷ pongs (n - 1)
one_pong zero h = absurd (omega (arith, h))
one_pong (suc n) h = let e : n ≡ suc n - 1 = omega arith in ap (λ (k : ℕ). frames.Pong ∷ pongs k) e

-- what keeps a frame from being written keeps it where others follow
pub first_of : (error : ConnectionError) (frame : ClientFrame) (later : List ClientFrame) → IsUnwritten error (frame ∷ []) → IsUnwritten error (frame ∷ later)
first_of (failed.Damaged damage place) frame later h = h
first_of (failed.BadHeaders damage place) frame later h = h
first_of (failed.BadInfo place) frame later h = h
first_of (failed.Refused text) frame later h = h
first_of failed.Silent frame later h = h
first_of (failed.Unwritable error) frame later h = h
first_of failed.OutOfMemory frame later h = h
first_of failed.Unread frame later h = h

-- ---- what each frame does after CONNECT

due_up : (writer : Writer) (items : List Outgoing) → writer.phase ≡ phases.Up
    → due writer items ≡ after_connect writer.pongs writer.is_ping_due (drop writer.resubscribed writer.subscribed.items) (queue writer.taken items)
due_up writer items is-up = ap (λ (phase : Phase). in_phase phase writer.connect (after_connect writer.pongs writer.is_ping_due (drop writer.resubscribed writer.subscribed.items) (queue writer.taken items))) is-up

-- no PONG and no PING is to be written
due_own : (writer : Writer) (items : List Outgoing) → writer.phase ≡ phases.Up → writer.pongs ≡ 0 → writer.is_ping_due ≡ false
    → due writer items ≡ drop writer.resubscribed writer.subscribed.items ++ map frame_of (queue writer.taken items)
due_own writer items is-up none still =
    due_up writer items is-up
    ∙ ap (λ (count : ℕ). after_connect count writer.is_ping_due (drop writer.resubscribed writer.subscribed.items) (queue writer.taken items)) none
    ∙ ap (λ (ping : Bool). after_connect 0 ping (drop writer.resubscribed writer.subscribed.items) (queue writer.taken items)) still

-- nothing but what the link has to send is to be written
due_items : (writer : Writer) (items : List Outgoing) → writer.phase ≡ phases.Up → writer.pongs ≡ 0 → writer.is_ping_due ≡ false → length writer.subscribed.items ≤ writer.resubscribed
    → due writer items ≡ map frame_of (queue writer.taken items)
due_items writer items is-up none still all =
    due_own writer items is-up none still
    ∙ ap (λ (subscriptions : List ClientFrame). subscriptions ++ map frame_of (queue writer.taken items)) (drop_of_length-le writer.subscribed.items all)

stays_up : (phase : Phase) → phase ≡ phases.Up → phase ≡ up phase
stays_up phases.Lost e = absurd cc
stays_up phases.Awaiting e = absurd cc
stays_up phases.Greeting e = absurd cc
stays_up phases.Up e = refl

begun_up : (phase : Phase) → phase ≡ phases.Up → is_waiting phase ≡ false
begun_up phase e = ap is_waiting e

pub pong_writes : (old new : Writer) (items : List Outgoing) → old.phase ≡ phases.Up → 0 < old.pongs → new ≡ record old { out = old.out ++ written frames.Pong; pongs = old.pongs - 1 } → WritesOne old items new items
pong_writes old new items is-up some e =
    let after : Writer = record old { out = old.out ++ written frames.Pong; pongs = old.pongs - 1 } in
    let later : List ClientFrame = pings old.is_ping_due ++ (drop old.resubscribed old.subscribed.items ++ map frame_of (queue old.taken items)) in
    subst (λ (w : Writer). WritesOne old items w items) (sym e) (record {
      frame = frames.Pong;
      done = [];
      due_is = due_up old items is-up ∙ ap (λ (ps : List ClientFrame). ps ++ later) (one_pong old.pongs some) ∙ ap (λ (fs : List ClientFrame). frames.Pong ∷ fs) (sym (due_up after items is-up));
      out_is = refl;
      allowed = refl;
      takes = record { queue_is = refl; subscribed = refl; requests = refl };
      phase = stays_up old.phase is-up;
      connect = refl;
    })

pub ping_writes : (old new : Writer) (items : List Outgoing) → old.phase ≡ phases.Up → old.pongs ≡ 0 → old.is_ping_due ≡ true → new ≡ record old { out = old.out ++ written frames.Ping; is_ping_due = false }
    → WritesOne old items new items
ping_writes old new items is-up none ping e =
    let after : Writer = record old { out = old.out ++ written frames.Ping; is_ping_due = false } in
    let subscriptions : List ClientFrame = drop old.resubscribed old.subscribed.items in
    let items-left : List Item = queue old.taken items in
    subst (λ (w : Writer). WritesOne old items w items) (sym e) (record {
      frame = frames.Ping;
      done = [];
      due_is = due_up old items is-up
          ∙ ap (λ (count : ℕ). after_connect count old.is_ping_due subscriptions items-left) none
          ∙ ap (λ (due-ping : Bool). after_connect 0 due-ping subscriptions items-left) ping
          ∙ ap (λ (fs : List ClientFrame). frames.Ping ∷ fs) (sym (due_own after items is-up none refl));
      out_is = refl;
      allowed = refl;
      takes = record { queue_is = refl; subscribed = refl; requests = refl };
      phase = stays_up old.phase is-up;
      connect = refl;
    })

drop_at : (xs : List ClientFrame) (k : ℕ) (frame : ClientFrame) → slice_get xs k ≡ Some frame → drop k xs ≡ frame ∷ drop (k + 1) xs
drop_at xs k frame e = drop_more xs k frame (slice_get_within xs k frame e) ∙ ap (λ (f : ClientFrame). f ∷ drop (k + 1) xs) (get_or_from_slice_get xs k frame frame e)

-- the next open subscription is due first
due_subscribed : (old : Writer) (items : List Outgoing) (frame : ClientFrame) → old.phase ≡ phases.Up → old.pongs ≡ 0 → old.is_ping_due ≡ false → slice_get old.subscribed.items old.resubscribed ≡ Some frame
    → due old items ≡ frame ∷ (drop (old.resubscribed + 1) old.subscribed.items ++ map frame_of (queue old.taken items))
due_subscribed old items frame is-up none still at =
    due_own old items is-up none still ∙ ap (λ (fs : List ClientFrame). fs ++ map frame_of (queue old.taken items)) (drop_at old.subscribed.items old.resubscribed frame at)

pub subscribed_writes : (old new : Writer) (items : List Outgoing) (frame : ClientFrame) → old.phase ≡ phases.Up → old.pongs ≡ 0 → old.is_ping_due ≡ false → slice_get old.subscribed.items old.resubscribed ≡ Some frame
    → new ≡ record old { out = old.out ++ written frame; resubscribed = old.resubscribed + 1 } → refusal frame ≡ None → WritesOne old items new items
subscribed_writes old new items frame is-up none still at e fine =
    let after : Writer = record old { out = old.out ++ written frame; resubscribed = old.resubscribed + 1 } in
    subst (λ (w : Writer). WritesOne old items w items) (sym e) (record {
      frame = frame;
      done = [];
      due_is = due_subscribed old items frame is-up none still at ∙ ap (λ (fs : List ClientFrame). frame ∷ fs) (sym (due_own after items is-up none still));
      out_is = refl;
      allowed = fine;
      takes = record { queue_is = refl; subscribed = refl; requests = refl };
      phase = stays_up old.phase is-up;
      connect = refl;
    })

pub subscribed_stays : (error : ConnectionError) (old new : Writer) (items : List Outgoing) (frame : ClientFrame) → old.phase ≡ phases.Up → old.pongs ≡ 0 → old.is_ping_due ≡ false
    → slice_get old.subscribed.items old.resubscribed ≡ Some frame → IsUnwritten error (frame ∷ []) → new ≡ old → WritesNone error old items new items
subscribed_stays error old new items frame is-up none still at cause e =
    subst (λ (w : Writer). WritesNone error old items w items) (sym e) (record {
      due_is = refl;
      out_is = refl;
      cause = subst (IsUnwritten error) (sym (due_subscribed old items frame is-up none still at)) (first_of error frame _ cause);
      takes = record { queue_is = refl; subscribed = refl; requests = refl };
      phase = refl;
      connect = refl;
      begun = begun_up old.phase is-up;
    })

-- what the link has to send next
pub item_writes : (result : Result Bool ConnectionError) (old new : Writer) (items new_items : List Outgoing) → old.phase ≡ phases.Up → old.pongs ≡ 0 → old.is_ping_due ≡ false → length old.subscribed.items ≤ old.resubscribed
    → WritesItem result old items new new_items → WritesNext result old items new new_items
item_writes (Ok true) old new items new_items is-up none still all h =
    let own = h.3.own in
    let new-all : length new.subscribed.items ≤ new.resubscribed = subst (λ (k : ℕ). length new.subscribed.items ≤ k) (sym h.3.resubscribed) (omega arith) in
    record {
      frame = h.0.frame;
      done = h.0 ∷ [];
      due_is = due_items old items is-up none still all ∙ ap (map frame_of) h.1
          ∙ ap (λ (fs : List ClientFrame). h.0.frame ∷ fs) (sym (due_items new new_items (own.phase ∙ is-up) (own.pongs ∙ none) (own.ping ∙ still) new-all));
      out_is = h.2;
      allowed = h.4;
      takes = record { queue_is = h.1; subscribed = h.3.subscribed; requests = h.3.requests };
      phase = own.phase ∙ stays_up old.phase is-up;
      connect = own.connect;
    }
item_writes (Ok false) old new items new_items is-up none still all h = (due_items old items is-up none still all ∙ ap (map frame_of) h.0, h.1, h.2)
item_writes (Err error) old new items new_items is-up none still all h =
    let own = h.5.own in
    let new-all : length new.subscribed.items ≤ new.resubscribed = subst (λ (k : ℕ). length new.subscribed.items ≤ k) (sym h.5.resubscribed) (subst (λ (fs : List ClientFrame). length fs ≤ old.resubscribed) (sym h.5.subscribed) all) in
    record {
      due_is = due_items new new_items (own.phase ∙ is-up) (own.pongs ∙ none) (own.ping ∙ still) new-all ∙ ap (map frame_of) h.3 ∙ sym (due_items old items is-up none still all);
      out_is = h.4;
      cause = subst (IsUnwritten error) (sym (due_items old items is-up none still all ∙ ap (map frame_of) h.2)) (first_of error h.0.frame _ h.6);
      takes = record { queue_is = sym h.3; subscribed = h.5.subscribed; requests = h.5.requests };
      phase = own.phase;
      connect = own.connect;
      begun = begun_up old.phase is-up;
    }
