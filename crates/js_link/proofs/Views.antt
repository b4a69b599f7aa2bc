-- What a link in memory means after each change of its lists.
use mathlib.Core.Path.{fun_ext}
use Rattle.std.proofs.Common.{◌≡◌, ◌≢◌, ℕ, zero, suc, ◌+◌, ◌-◌, ◌<◌, ◌≤◌, Bool, true, false, List, [], ◌∷◌, ◌++◌, drop, Option, Some, None, length, refl, sym, ◌∙◌, ap, subst, arith, length-drop, length-append}
use Rattle.std.proofs.Math.Dec.{eqb-zero-suc, eqb-suc-suc}
use Rattle.std.proofs.Math.ListN.{length-set}
use Rattle.std.specs.Prelude.{slice_get, slice_set}
use Rattle.std.specs.Vec.{with_item}
use Rattle.std.specs.Global.{Vec}
use Rattle.js_base.specs.declared.headers.Header.{Header}
use Rattle.js_base.specs.declared.message.Message.{Message}
use Rattle.js_link.specs.declared.memory.MemoryLink.{MemoryLink}
use Rattle.js_link.specs.declared.memory.Request.{Request}
use Rattle.js_link.specs.declared.memory.Request.TheVariants as requests
use Rattle.js_link.specs.declared.sent.Sent.{Sent}
use Rattle.js_link.specs.declared.sent.Sent.TheVariants as sents
use Rattle.js_link.specs.declared.link.Taken.TheVariants as taken
use Rattle.js_link.specs.LinkView.{LinkView, Numbers, Status, Waits, put}
use Rattle.js_link.specs.Calls.{Takes, TakesOf, Closes, Opens, Asks, Answers, EndsRequest}
use Rattle.js_link.specs.Memory.{Queue, is_open_at, messages_at, request_at, status_of, reply_of, request_after, answered_by, memory_numbers, memory_view, Delivers, DeliversAs, Responds, RespondsAs}
use Rattle.js_link.proofs.Places.{reads_set, reads_push, get_set, get_past, get_push, set_back}
use Rattle.js_link.proofs.Updates.{put_same}

-- a link that is up is not down
pub not_down : (up : Bool) → up ≡ true → Some up ≢ Some false
not_down up e down = cc

-- the same numbers where the lists are as long
same_numbers : (n : Numbers) (i j r s : ℕ) → i ≡ j → r ≡ s → Some (record n { inbox = i; request = r }) ≡ Some (record n { inbox = j; request = s })
same_numbers n i j r s e f = λ k. Some (record n { inbox = e k; request = f k })

-- two links that differ in their inboxes alone
same_inboxes : (v : LinkView) (k k' : Option Numbers) (o o' : ℕ → Bool) (c c' : ℕ → ℕ) (b b' : ℕ → Option (List Message)) (s : Option (List Sent)) → k ≡ k' → o ≡ o' → c ≡ c' → b ≡ b' → record v { numbers = k; is_open = o; count = c; buffer = b; sent = s } ≡ record v { numbers = k'; is_open = o'; count = c'; buffer = b'; sent = s }
same_inboxes v k k' o o' c c' b b' s n p q r = λ j. record v { numbers = n j; is_open = p j; count = q j; buffer = r j; sent = s }

-- one inbox in place of another leaves the numbers
numbers_set : (m : MemoryLink) (i : ℕ) (v : Option Queue) → (memory_view (record m { inboxes = with_item m.inboxes i v })).numbers ≡ (memory_view m).numbers
numbers_set m i v = same_numbers (memory_numbers m) _ _ _ _ (length-set m.inboxes.items i v) refl

-- a message was taken from the front of a queue
pub takes_front : (m : MemoryLink) (i : ℕ) (q q' : Queue) (message : Message) → i < length m.inboxes.items → slice_get m.inboxes.items i ≡ Some (Some q) → q.items ≡ message ∷ q'.items → Takes i message (memory_view m) (memory_view (record m { inboxes = with_item m.inboxes i (Some q') }))
takes_front m i q q' message l at items =
    let xs = m.inboxes.items in
    let now : slice_get (slice_set xs i (Some q')) i ≡ Some (Some q') = get_set xs i (Some q') l in
    record {
      was_open = ap is_open_at at;
      one_less = rw (at, now, items) (omega arith);
      first = rw (at, now, items) refl;
      same = same_inboxes (memory_view m) _ _ _ _ _ _ _ _ _
          (numbers_set m i (Some q'))
          (reads_set is_open_at xs i (Some q') l ∙ put_same (λ n. is_open_at (slice_get xs n)) i true (sym (ap is_open_at at)))
          (reads_set (λ o. length (messages_at o)) xs i (Some q') l ∙ ap (λ o. put (λ n. length (messages_at (slice_get xs n))) i (length (messages_at o))) (sym now))
          (reads_set (λ o. Some (messages_at o)) xs i (Some q') l ∙ ap (λ o. put (λ n. Some (messages_at (slice_get xs n))) i (Some (messages_at o))) (sym now));
    }

shorter_is_empty : (xs ys : List Message) → xs ≡ ys → ys ≡ drop 1 xs → length xs ≡ 0
shorter_is_empty xs ys e d = omega (arith, ap length (e ∙ d), length-drop 1 xs)

-- a queue with the same messages in place of another
pub same_queue : (m : MemoryLink) (i : ℕ) (q q' : Queue) → i < length m.inboxes.items → slice_get m.inboxes.items i ≡ Some (Some q) → q'.items ≡ q.items → memory_view (record m { inboxes = with_item m.inboxes i (Some q') }) ≡ memory_view m
same_queue m i q q' l at items =
    let xs = m.inboxes.items in
    same_inboxes (memory_view m) _ _ _ _ _ _ _ _ _
    (numbers_set m i (Some q'))
    (reads_set is_open_at xs i (Some q') l ∙ put_same (λ n. is_open_at (slice_get xs n)) i true (sym (ap is_open_at at)))
    (reads_set (λ o. length (messages_at o)) xs i (Some q') l ∙ put_same (λ n. length (messages_at (slice_get xs n))) i (length q'.items) (ap length items ∙ sym (ap (λ o. length (messages_at o)) at)))
    (reads_set (λ o. Some (messages_at o)) xs i (Some q') l ∙ put_same (λ n. Some (messages_at (slice_get xs n))) i (Some q'.items) (ap Some items ∙ sym (ap (λ o. Some (messages_at o)) at)))

-- an empty queue was looked at
pub finds_empty : (m : MemoryLink) (i : ℕ) (q q' : Queue) → i < length m.inboxes.items → slice_get m.inboxes.items i ≡ Some (Some q) → q.items ≡ q'.items → q'.items ≡ drop 1 q.items → TakesOf i taken.Empty (memory_view m) (memory_view (record m { inboxes = with_item m.inboxes i (Some q') }))
finds_empty m i q q' l at items rest = (
  same_queue m i q q' l at (sym items),
  ap is_open_at at,
  ap (λ o. length (messages_at o)) at ∙ shorter_is_empty q.items q'.items items rest,
)

-- an inbox was closed
pub closes_set : (m : MemoryLink) (i : ℕ) → i < length m.inboxes.items → Closes i (memory_view m) (memory_view (record m { inboxes = with_item m.inboxes i None }))
closes_set m i l =
    let xs = m.inboxes.items in
    record {
      same = same_inboxes (memory_view m) _ _ _ _ _ _ _ _ _
          (numbers_set m i None)
          (reads_set is_open_at xs i None l)
          (reads_set (λ o. length (messages_at o)) xs i None l)
          (reads_set (λ o. Some (messages_at o)) xs i None l ∙ ap (λ o. put (λ n. Some (messages_at (slice_get xs n))) i (Some (messages_at o))) (sym (get_set xs i None l)));
    }

-- an inbox that was never given
pub closes_none : (m : MemoryLink) (i : ℕ) → length m.inboxes.items ≤ i → Closes i (memory_view m) (memory_view m)
closes_none m i l =
    let xs = m.inboxes.items in
    let past : slice_get xs i ≡ None = get_past xs i l in
    record {
      same = same_inboxes (memory_view m) _ _ _ _ _ _ _ _ _
          refl
          (sym (put_same (λ n. is_open_at (slice_get xs n)) i false (sym (ap is_open_at past))))
          (sym (put_same (λ n. length (messages_at (slice_get xs n))) i 0 (sym (ap (λ o. length (messages_at o)) past))))
          (sym (put_same (λ n. Some (messages_at (slice_get xs n))) i _ refl));
    }

-- an inbox was pushed behind the others
pub opens_push : (m : MemoryLink) (inboxes : Vec (Option Queue)) (sent : Vec Sent) (q : Queue) (n : ℕ) (subject : List ℕ) (group : Option (List ℕ)) → m.up ≡ true → inboxes.items ≡ m.inboxes.items ++ Some q ∷ [] → q.items ≡ [] → sent.items ≡ m.sent.items ++ sents.Subscribe n subject group ∷ [] → n ≡ length m.inboxes.items → Opens n subject group (memory_view m) (memory_view (record m { inboxes = inboxes; sent = sent }))
opens_push m inboxes sent q n subject group up items empty told at =
    let xs = m.inboxes.items in
    record {
      not_down = not_down m.up up;
      unused = ap is_open_at (get_past xs n (omega (arith, at)));
      next = at;
      same = rw (items, told, at) (same_inboxes (memory_view m) _ _ _ _ _ _ _ _ _
          (same_numbers (memory_numbers m) _ _ _ _ (length-append xs (Some q ∷ [])) refl)
          (reads_push is_open_at xs (Some q))
          (reads_push (λ o. length (messages_at o)) xs (Some q) ∙ ap (put (λ k. length (messages_at (slice_get xs k))) (length xs)) (ap length empty))
          (reads_push (λ o. Some (messages_at o)) xs (Some q) ∙ ap (λ o. put (λ k. Some (messages_at (slice_get xs k))) (length xs) (Some (messages_at o))) (sym (get_push xs (Some q)))));
    }

-- a message was put behind the others
pub delivers_back : (m : MemoryLink) (i : ℕ) (q q' : Queue) (message : Message) → i < length m.inboxes.items → slice_get m.inboxes.items i ≡ Some (Some q) → q'.items ≡ q.items ++ message ∷ [] → Delivers i message (memory_view m) (memory_view (record m { inboxes = with_item m.inboxes i (Some q') }))
delivers_back m i q q' message l at items =
    let xs = m.inboxes.items in
    let long : length q'.items ≡ length q.items + 1 = ap length items ∙ length-append q.items (message ∷ []) in
    subst (λ (b : Bool). DeliversAs b i message (memory_view m) (memory_view (record m { inboxes = with_item m.inboxes i (Some q') }))) (sym (ap is_open_at at))
    (same_inboxes (memory_view m) _ _ _ _ _ _ _ _ _
    (numbers_set m i (Some q'))
    (reads_set is_open_at xs i (Some q') l ∙ put_same (λ n. is_open_at (slice_get xs n)) i true (sym (ap is_open_at at)))
    (reads_set (λ o. length (messages_at o)) xs i (Some q') l ∙ ap (put (λ n. length (messages_at (slice_get xs n))) i) (long ∙ sym (ap (λ o. length (messages_at o) + 1) at)))
    (reads_set (λ o. Some (messages_at o)) xs i (Some q') l ∙ ap (put (λ n. Some (messages_at (slice_get xs n))) i) (ap Some items ∙ sym (ap (λ o. Some (messages_at o ++ message ∷ [])) at))))

-- a message for an inbox that is not open
pub delivers_none : (m : MemoryLink) (i : ℕ) (message : Message) → is_open_at (slice_get m.inboxes.items i) ≡ false → Delivers i message (memory_view m) (memory_view m)
delivers_none m i message closed = subst (λ (b : Bool). DeliversAs b i message (memory_view m) (memory_view m)) (sym closed) refl

-- a message for a closed inbox
pub delivers_closed : (m : MemoryLink) (i : ℕ) (v : Option Queue) (message : Message) → slice_get m.inboxes.items i ≡ Some v → v ≡ None → Delivers i message (memory_view m) (memory_view (record m { inboxes = with_item m.inboxes i v }))
delivers_closed m i v message at closed =
    let e : slice_set m.inboxes.items i v ≡ m.inboxes.items = set_back m.inboxes.items i v at in
    subst (λ (b : Bool). DeliversAs b i message (memory_view m) (memory_view (record m { inboxes = with_item m.inboxes i v }))) (sym (ap is_open_at (at ∙ ap Some closed)))
    (same_inboxes (memory_view m) _ _ _ _ _ _ _ _ _
    (numbers_set m i v)
    (fun_ext (λ n. ap (λ (ys : List (Option Queue)). is_open_at (slice_get ys n)) e))
    (fun_ext (λ n. ap (λ (ys : List (Option Queue)). length (messages_at (slice_get ys n))) e))
    (fun_ext (λ n. ap (λ (ys : List (Option Queue)). Some (messages_at (slice_get ys n))) e)))

-- what f reads of each request after one is set, and after one is pushed
request_set : {B : Type 0} (f : Option Request → B) (xs : List Request) (k : ℕ) (v : Request) → k < length xs → (r : ℕ) → f (request_at (slice_set xs k v) r) ≡ put (λ n. f (request_at xs n)) (suc k) (f (Some v)) r
request_set f xs k v l zero = rw (eqb-zero-suc k) refl
request_set f xs k v l (suc r) = rw (eqb-suc-suc r k) (ap (λ (g : ℕ → _). g r) (reads_set f xs k v l))

request_push : {B : Type 0} (f : Option Request → B) (xs : List Request) (v : Request) (r : ℕ) → f (request_at (xs ++ v ∷ []) r) ≡ put (λ n. f (request_at xs n)) (suc (length xs)) (f (Some v)) r
request_push f xs v zero = rw (eqb-zero-suc (length xs)) refl
request_push f xs v (suc r) = rw (eqb-suc-suc r (length xs)) (ap (λ (g : ℕ → _). g r) (reads_push f xs v))

-- two links that differ in their requests alone
same_requests : (v : LinkView) (k k' : Option Numbers) (t t' : ℕ → Status) (r r' : ℕ → Option Message) (s : Option (List Sent)) → k ≡ k' → t ≡ t' → r ≡ r' → record v { numbers = k; status = t; reply = r; sent = s } ≡ record v { numbers = k'; status = t'; reply = r'; sent = s }
same_requests v k k' t t' r r' s n p q = λ j. record v { numbers = n j; status = p j; reply = q j; sent = s }

-- one request in place of another leaves the numbers
numbers_request_set : (m : MemoryLink) (k : ℕ) (v : Request) → (memory_view (record m { requests = with_item m.requests k v })).numbers ≡ (memory_view m).numbers
numbers_request_set m k v = same_numbers (memory_numbers m) _ _ _ _ refl (ap (λ n. n + 1) (length-set m.requests.items k v))

-- a request was pushed behind the others
pub asks_push : (m : MemoryLink) (made : Vec Request) (sent : Vec Sent) (v : Request) (n : ℕ) (subject : List ℕ) (headers : Option (List Header)) (payload : List ℕ) → m.up ≡ true → made.items ≡ m.requests.items ++ v ∷ [] → sent.items ≡ m.sent.items ++ sents.Request n subject headers payload ∷ [] → n ≡ suc (length m.requests.items) → Asks n subject headers payload (memory_view m) (memory_view (record m { requests = made; sent = sent }))
asks_push m made sent v n subject headers payload up items told at =
    let xs = m.requests.items in
    let now : slice_get (xs ++ v ∷ []) (length xs) ≡ Some v = get_push xs v in
    record {
      not_down = not_down m.up up;
      unused = rw at (ap status_of (get_past xs (length xs) (omega arith)));
      next = omega (arith, at);
      same = rw (items, told, at) (same_requests (memory_view m) _ _ _ _ _ _ _
          (same_numbers (memory_numbers m) _ _ _ _ refl (ap (λ k. k + 1) (length-append xs (v ∷ []))))
          (fun_ext (request_push status_of xs v) ∙ ap (λ o. put (λ k. status_of (request_at xs k)) (suc (length xs)) (status_of o)) (sym now))
          (fun_ext (request_push reply_of xs v) ∙ ap (λ o. put (λ k. reply_of (request_at xs k)) (suc (length xs)) (reply_of o)) (sym now)));
    }

-- the request that was pushed waits
pub waits_push : (xs ys : List Request) (n : ℕ) → ys ≡ xs ++ requests.Waits ∷ [] → n ≡ suc (length xs) → (status_of (request_at ys n) ≡ Waits) × (reply_of (request_at ys n) ≡ None)
waits_push xs ys n e at =
    let now : slice_get (xs ++ requests.Waits ∷ []) (length xs) ≡ Some requests.Waits = get_push xs requests.Waits in
    rw (e, at) (ap status_of now, ap reply_of now)

-- an answer was taken
answers_set : (m : MemoryLink) (k : ℕ) (message : Message) → k < length m.requests.items → slice_get m.requests.items k ≡ Some (requests.Answered message) → Answers (suc k) message (memory_view m) (memory_view (record m { requests = with_item m.requests k requests.Ended }))
answers_set m k message l at =
    let xs = m.requests.items in
    record {
      had_come = ap status_of at;
      told = rw at refl;
      same = same_requests (memory_view m) _ _ _ _ _ _ _
          (numbers_request_set m k requests.Ended)
          (fun_ext (request_set status_of xs k requests.Ended l))
          (fun_ext (request_set reply_of xs k requests.Ended l) ∙ ap (λ o. put (λ n. reply_of (request_at xs n)) (suc k) (reply_of o)) (sym (get_set xs k requests.Ended l)));
    }

-- the same, at a request's number
pub answers_at : (m : MemoryLink) (r : ℕ) (dest : Request) (message : Message) → dest ≡ requests.Ended → r ≡ suc (r - 1) → r - 1 < length m.requests.items → slice_get m.requests.items (r - 1) ≡ Some (requests.Answered message) → Answers r message (memory_view m) (memory_view (record m { requests = with_item m.requests (r - 1) dest }))
answers_at m r dest message e n l at =
    let view = λ (d : Request). memory_view (record m { requests = with_item m.requests (r - 1) d }) in
    subst (λ (d : Request). Answers r message (memory_view m) (view d)) (sym e)
    (subst (λ (x : ℕ). Answers x message (memory_view m) (view requests.Ended)) (sym n) (answers_set m (r - 1) message l at))

-- a request was given up
ends_set : (m : MemoryLink) (k : ℕ) → k < length m.requests.items → EndsRequest (suc k) (memory_view m) (memory_view (record m { requests = with_item m.requests k requests.Ended }))
ends_set m k l =
    let xs = m.requests.items in
    same_requests (memory_view m) _ _ _ _ _ _ _
    (numbers_request_set m k requests.Ended)
    (fun_ext (request_set status_of xs k requests.Ended l))
    (fun_ext (request_set reply_of xs k requests.Ended l))

-- the same, at a request's number
pub ends_at : (m : MemoryLink) (r : ℕ) (dest : Request) → dest ≡ requests.Ended → r ≡ suc (r - 1) → r - 1 < length m.requests.items → EndsRequest r (memory_view m) (memory_view (record m { requests = with_item m.requests (r - 1) dest }))
ends_at m r dest e n l =
    let view = λ (d : Request). memory_view (record m { requests = with_item m.requests (r - 1) d }) in
    subst (λ (d : Request). EndsRequest r (memory_view m) (view d)) (sym e)
    (subst (λ (x : ℕ). EndsRequest x (memory_view m) (view requests.Ended)) (sym n) (ends_set m (r - 1) l))

-- what is told of a request that was answered
status_after : (reply : Option Message) → status_of (Some (request_after reply)) ≡ answered_by reply
status_after None = refl
status_after (Some message) = refl

reply_after : (reply : Option Message) → reply_of (Some (request_after reply)) ≡ reply
reply_after None = refl
reply_after (Some message) = refl

-- a request that waited was answered
responds_set : (m : MemoryLink) (k : ℕ) (reply : Option Message) → k < length m.requests.items → slice_get m.requests.items k ≡ Some requests.Waits → Responds (suc k) reply (memory_view m) (memory_view (record m { requests = with_item m.requests k (request_after reply) }))
responds_set m k reply l at =
    let xs = m.requests.items in
    let v = request_after reply in
    subst (λ (s : Status). RespondsAs s (suc k) reply (memory_view m) (memory_view (record m { requests = with_item m.requests k v }))) (sym (ap status_of at))
    (same_requests (memory_view m) _ _ _ _ _ _ _
    (numbers_request_set m k v)
    (fun_ext (request_set status_of xs k v l) ∙ ap (put (λ n. status_of (request_at xs n)) (suc k)) (status_after reply))
    (fun_ext (request_set reply_of xs k v l) ∙ ap (put (λ n. reply_of (request_at xs n)) (suc k)) (reply_after reply)))

-- the same, at a request's number
pub responds_at : (m : MemoryLink) (r i : ℕ) (v : Request) (reply : Option Message) → v ≡ request_after reply → r ≡ suc i → i < length m.requests.items → slice_get m.requests.items i ≡ Some requests.Waits → Responds r reply (memory_view m) (memory_view (record m { requests = with_item m.requests i v }))
responds_at m r i v reply e n l at =
    let view = λ (d : Request). memory_view (record m { requests = with_item m.requests i d }) in
    subst (λ (d : Request). Responds r reply (memory_view m) (view d)) (sym e)
    (subst (λ (x : ℕ). Responds x reply (memory_view m) (view (request_after reply))) (sym n) (responds_set m i reply l at))
