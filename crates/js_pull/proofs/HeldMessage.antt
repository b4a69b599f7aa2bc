-- A message that is held counts as unread: what a row does to a link it does to the link that is seen.
use Rattle.std.proofs.Common.{◌≡◌, ℕ, ◌+◌, Bool, true, false, List, Option, Some, None, refl, sym, ◌∙◌, ap, subst}
use Rattle.js_base.specs.declared.message.Message.{Message}
use Rattle.js_link.specs.LinkView.{LinkView, put, with_first}
use Rattle.js_link.specs.Calls.{Takes}
use Rattle.js_link.specs.declared.wish.Wish.TheVariants as wishes
use Rattle.js_link.specs.declared.wish.Met.TheVariants as meetings
use Rattle.js_link.specs.declared.wish.Met.{Met}
use Rattle.js_link.specs.Meets.{Meets}
use Rattle.js_link.proofs.Updates.{put_here, put_put, put_same}
use Rattle.js_pull.specs.HeldMessage.{put_back, seen, seen_open}

-- ---- a call that leaves inboxes alone

pub watch_is_seen : (met : Met) (held : Option Message) (inbox : ℕ) (v u : LinkView) → Meets wishes.Watches met v u → Meets wishes.Watches met (seen held inbox v) (seen held inbox u)
watch_is_seen (meetings.Stands state) held inbox v u m = (ap (seen held inbox) m.0, same_watch held inbox v ∙ m.1)
  where
    at_open : (b : Bool) (message : Message) (inbox : ℕ) (v : LinkView) → (seen_open b message inbox v).watch ≡ v.watch
    at_open true message inbox v = refl
    at_open false message inbox v = refl

    same_watch : (held : Option Message) (inbox : ℕ) (v : LinkView) → (seen held inbox v).watch ≡ v.watch
    same_watch None inbox v = refl
    same_watch (Some message) inbox v = at_open (v.is_open inbox) message inbox v
watch_is_seen meetings.WatchOver held inbox v u m = (ap (seen held inbox) m.0, same_watch held inbox v ∙ m.1)
  where
    at_open : (b : Bool) (message : Message) (inbox : ℕ) (v : LinkView) → (seen_open b message inbox v).watch ≡ v.watch
    at_open true message inbox v = refl
    at_open false message inbox v = refl

    same_watch : (held : Option Message) (inbox : ℕ) (v : LinkView) → (seen held inbox v).watch ≡ v.watch
    same_watch None inbox v = refl
    same_watch (Some message) inbox v = at_open (v.is_open inbox) message inbox v
watch_is_seen met held inbox v u m = absurd m

-- ---- a look at the inbox

same_inbox : (v : LinkView) (c d : ℕ → ℕ) (b a : ℕ → Option (List Message)) → c ≡ d → b ≡ a → record v { count = c; buffer = b } ≡ record v { count = d; buffer = a }
same_inbox v c d b a e f = λ k. record v { count = e k; buffer = f k }

-- the view after a message was taken differs in the inbox alone
taken_as : (inbox : ℕ) (message : Message) (v u : LinkView) → Takes inbox message v u → (c : ℕ → ℕ) (b : ℕ → Option (List Message))
    → record u { count = c; buffer = b } ≡ record v { count = c; buffer = b }
taken_as inbox message v u t c b = ap (λ (w : LinkView). record w { count = c; buffer = b }) t.same

seen_when_open : (message : Message) (inbox : ℕ) (v : LinkView) → v.is_open inbox ≡ true → seen (Some message) inbox v ≡ put_back inbox message v
seen_when_open message inbox v e = ap (λ (b : Bool). seen_open b message inbox v) e

seen_when_shut : (message : Message) (inbox : ℕ) (v : LinkView) → v.is_open inbox ≡ false → seen (Some message) inbox v ≡ v
seen_when_shut message inbox v e = ap (λ (b : Bool). seen_open b message inbox v) e

-- a message that was taken and is held is still there
pub held_is_unread : (inbox : ℕ) (message : Message) (v u : LinkView) → Takes inbox message v u → seen (Some message) inbox u ≡ v
held_is_unread inbox message v u t =
    let count : put u.count inbox (u.count inbox + 1) ≡ v.count =
    ap (λ (f : ℕ → ℕ). put f inbox (u.count inbox + 1)) (ap (λ (w : LinkView). w.count) t.same) ∙ put_put v.count inbox (u.count inbox) (u.count inbox + 1)
    ∙ put_same v.count inbox (u.count inbox + 1) (sym t.one_less) in
    let buffer : put u.buffer inbox (with_first message (u.buffer inbox)) ≡ v.buffer =
    ap (λ (f : ℕ → Option (List Message)). put f inbox (with_first message (u.buffer inbox))) (ap (λ (w : LinkView). w.buffer) t.same)
    ∙ put_put v.buffer inbox (u.buffer inbox) (with_first message (u.buffer inbox)) ∙ put_same v.buffer inbox (with_first message (u.buffer inbox)) (sym t.first) in
    seen_when_open message inbox u (ap (λ (w : LinkView). w.is_open inbox) t.same ∙ t.was_open)
    ∙ taken_as inbox message v u t (put u.count inbox (u.count inbox + 1)) (put u.buffer inbox (with_first message (u.buffer inbox)))
    ∙ same_inbox v _ v.count _ v.buffer count buffer

-- a message that was held is taken, where no other lies behind it
takes_back : (inbox : ℕ) (message : Message) (v : LinkView) → v.is_open inbox ≡ true → Takes inbox message (put_back inbox message v) v
takes_back inbox message v is_open = record {
  was_open = is_open;
  one_less = put_here v.count inbox (v.count inbox + 1);
  first = put_here v.buffer inbox (with_first message (v.buffer inbox));
  same = sym (same_inbox v _ v.count _ v.buffer
      (put_put v.count inbox (v.count inbox + 1) (v.count inbox) ∙ put_same v.count inbox (v.count inbox) refl)
      (put_put v.buffer inbox (with_first message (v.buffer inbox)) (v.buffer inbox) ∙ put_same v.buffer inbox (v.buffer inbox) refl));
}

pub held_is_last : (inbox : ℕ) (message : Message) (v u : LinkView) → (u ≡ v) × (v.is_open inbox ≡ true) × (v.count inbox ≡ 0) → Takes inbox message (seen (Some message) inbox v) u
held_is_last inbox message v u m =
    subst (λ (w : LinkView). Takes inbox message w u) (sym (seen_when_open message inbox v m.1))
    (subst (λ (w : LinkView). Takes inbox message (put_back inbox message v) w) (sym m.0) (takes_back inbox message v m.1))

-- and where the next one is held in its place
takes_over : (inbox : ℕ) (message next : Message) (v u : LinkView) → Takes inbox next v u → Takes inbox message (put_back inbox message v) (put_back inbox next u)
takes_over inbox message next v u t =
    let c1 = u.count inbox + 1 in
    let b1 = with_first next (u.buffer inbox) in
    let count : put u.count inbox c1 ≡ put (put v.count inbox (v.count inbox + 1)) inbox (put u.count inbox c1 inbox) =
    ap (λ (f : ℕ → ℕ). put f inbox c1) (ap (λ (w : LinkView). w.count) t.same) ∙ put_put v.count inbox (u.count inbox) c1
    ∙ sym (put_put v.count inbox (v.count inbox + 1) (put u.count inbox c1 inbox) ∙ ap (put v.count inbox) (put_here u.count inbox c1)) in
    let buffer : put u.buffer inbox b1 ≡ put (put v.buffer inbox (with_first message (v.buffer inbox))) inbox (put u.buffer inbox b1 inbox) =
    ap (λ (f : ℕ → Option (List Message)). put f inbox b1) (ap (λ (w : LinkView). w.buffer) t.same) ∙ put_put v.buffer inbox (u.buffer inbox) b1
    ∙ sym (put_put v.buffer inbox (with_first message (v.buffer inbox)) (put u.buffer inbox b1 inbox) ∙ ap (put v.buffer inbox) (put_here u.buffer inbox b1)) in
    record {
      was_open = t.was_open;
      one_less = put_here v.count inbox (v.count inbox + 1) ∙ ap (λ (n : ℕ). n + 1) (t.one_less ∙ sym (put_here u.count inbox c1));
      first = put_here v.buffer inbox (with_first message (v.buffer inbox)) ∙ ap (with_first message) (t.first ∙ sym (put_here u.buffer inbox b1));
      same = taken_as inbox next v u t (put u.count inbox c1) (put u.buffer inbox b1) ∙ same_inbox v _ _ _ _ count buffer;
    }

pub held_is_replaced : (inbox : ℕ) (message next : Message) (v u : LinkView) → Takes inbox next v u → Takes inbox message (seen (Some message) inbox v) (seen (Some next) inbox u)
held_is_replaced inbox message next v u t =
    subst (λ (w : LinkView). Takes inbox message w (seen (Some next) inbox u)) (sym (seen_when_open message inbox v t.was_open))
    (subst (λ (w : LinkView). Takes inbox message (put_back inbox message v) w)
    (sym (seen_when_open next inbox u (ap (λ (w : LinkView). w.is_open inbox) t.same ∙ t.was_open))) (takes_over inbox message next v u t))

-- with its inbox it is lost
pub held_is_lost : (inbox : ℕ) (message : Message) (v u : LinkView) → (u ≡ v) × (v.is_open inbox ≡ false)
    → Meets (wishes.Reads inbox) meetings.Shut (seen (Some message) inbox v) u
held_is_lost inbox message v u m =
    subst (λ (w : LinkView). Meets (wishes.Reads inbox) meetings.Shut w u) (sym (seen_when_shut message inbox v m.1)) m
