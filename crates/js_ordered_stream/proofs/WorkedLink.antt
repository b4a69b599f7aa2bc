-- What a worked link gives is what the row asked for.
use Rattle.std.proofs.Common.{◌≡◌, ℕ, ◌+◌, ◌-◌, zero, suc, Bool, true, false, List, [], ◌∷◌, Option, Some, None, refl, sym, ap, ◌∙◌, subst, arith}
use Rattle.std.specs.Prelude.{◌≢◌, ◌&&◌, not, nat_lt, IfSome}
use Rattle.std.proofs.lemmas.Bool.{eqb-true}
use Rattle.js_base.specs.declared.message.Message.{Message}
use Rattle.js_link.specs.declared.link.Watch.{Watch}
use Rattle.js_link.specs.declared.link.Watch.TheVariants as watch
use Rattle.js_link.specs.declared.wish.Wish.{Wish}
use Rattle.js_link.specs.declared.wish.Wish.TheVariants.{Nothing, Publishes, Requests, OpensInbox, Drops, Reads, Awaits, Watches}
use Rattle.js_link.specs.LinkView.{LinkView, Numbers, Status, Waits, Answered, Ended, put, with_first}
use Rattle.js_link.specs.Meets.{Meets}
use Rattle.js_link.specs.Offer.{given, got, took}
use Rattle.js_link.specs.Wish.{is_shut, watch_met}
use Rattle.js_link.proofs.Updates.{put_here, put_same}
use Rattle.js_ordered_stream.specs.WorkedLink.{answer_in, count_in, ended_by, first_in, is_able, is_answer_told, is_counted, is_ended, is_up, left_by, numbers_in, offer_of, rest_in, status_by, view_after}

pub both_left : (a b : Bool) → a && b ≡ true → a ≡ true
both_left true b both = refl
both_left false b both = both

pub both_right : (a b : Bool) → a && b ≡ true → b ≡ true
both_right true b both = both
both_right false b both = absurd (let h = both in cc)

not_down : (up : Option Bool) → is_up up ≡ true → up ≢ Some false
not_down None is = absurd (let h = is in cc)
not_down (Some true) is = λ e. let h = e in cc
not_down (Some false) is = absurd (let h = is in cc)

not_true : (b : Bool) → not b ≡ true → b ≡ false
not_true true is = absurd (let h = is in cc)
not_true false is = refl

has_ended : (status : Status) → is_ended status ≡ true → status ≡ Ended
has_ended Waits is = absurd (let h = is in cc)
has_ended Answered is = absurd (let h = is in cc)
has_ended Ended is = refl

next_request : (numbers : Option Numbers) → IfSome numbers (λ n. (numbers_in numbers).request ≡ n.request)
next_request None = tt
next_request (Some n) = refl

next_inbox : (numbers : Option Numbers) → IfSome numbers (λ n. (numbers_in numbers).inbox ≡ n.inbox)
next_inbox None = tt
next_inbox (Some n) = refl

next_subject : (numbers : Option Numbers) → IfSome numbers (λ n. (numbers_in numbers).inbox_subject (numbers_in numbers).inbox ≡ n.inbox_subject (numbers_in numbers).inbox)
next_subject None = tt
next_subject (Some n) = refl

-- ---- views that are the same

with_buffer : (v : LinkView) {a b : ℕ → ℕ} {x y : ℕ → Option (List Message)} → a ≡ b → x ≡ y → record v { count = a; buffer = x } ≡ record v { count = b; buffer = y }
with_buffer v e f = λ k. record v { count = e k; buffer = f k }

with_reply : (v : LinkView) {a b : ℕ → Status} {x y : ℕ → Option Message} → a ≡ b → x ≡ y → record v { status = a; reply = x } ≡ record v { status = b; reply = y }
with_reply v e f = λ k. record v { status = e k; reply = f k }

-- ---- each wish

reads_by : (v : LinkView) (inbox : ℕ) (buffer : Option (List Message)) → v.is_open inbox ≡ true → v.buffer inbox ≡ buffer → is_counted buffer (v.count inbox) ≡ true
    → Meets (Reads inbox) (took (first_in buffer)) v (record v { count = put v.count inbox (count_in buffer (v.count inbox)); buffer = put v.buffer inbox (rest_in buffer) })
reads_by v inbox None opened is counted = absurd (let h = counted in cc)
reads_by v inbox (Some []) opened is counted =
    (with_buffer v (put_same v.count inbox (v.count inbox) refl) (put_same v.buffer inbox (Some []) (sym is)), opened, eqb-true (v.count inbox) 0 counted)
reads_by v inbox (Some (message ∷ rest)) opened is counted =
    let one : put v.count inbox (v.count inbox - 1) inbox ≡ v.count inbox - 1 = put_here v.count inbox (v.count inbox - 1) in
    let left : put v.buffer inbox (Some rest) inbox ≡ Some rest = put_here v.buffer inbox (Some rest) in
    record {
      was_open = opened;
      one_less = some (v.count inbox) counted ∙ ap (λ (n : ℕ). n + 1) (sym one);
      first = is ∙ ap (λ (buffer : Option (List Message)). with_first message buffer) (sym left);
      same = with_buffer v (ap (λ (n : ℕ). put v.count inbox n) (sym one)) (ap (λ (buffer : Option (List Message)). put v.buffer inbox buffer) (sym left));
    }
  where
    some : (n : ℕ) → nat_lt 0 n ≡ true → n ≡ (n - 1) + 1
    some zero is = absurd (let h = is in cc)
    some (suc n) is = omega arith

awaits_by : (v : LinkView) (request : ℕ) (status : Status) (reply : Option Message) → v.status request ≡ status → v.reply request ≡ reply → is_answer_told status reply ≡ true
    → Meets (Awaits request) (got (answer_in status reply)) v (record v { status = put v.status request (ended_by status); reply = put v.reply request (left_by status reply) })
awaits_by v request Waits reply is told able = (with_reply v (put_same v.status request Waits (sym is)) (put_same v.reply request reply (sym told)), is)
awaits_by v request Ended reply is told able = (with_reply v (put_same v.status request Ended (sym is)) (put_same v.reply request reply (sym told)), is)
awaits_by v request Answered None is told able = absurd (let h = able in cc)
awaits_by v request Answered (Some reply) is told able = record {
  had_come = is;
  told = subst (λ (o : Option Message). IfSome o (λ m. m ≡ reply)) (sym told) refl;
  same = with_reply v refl (ap (λ (o : Option Message). put v.reply request o) (sym (put_here v.reply request None)));
}

watches_by : (v : LinkView) (watch : Watch) → v.watch ≡ watch → Meets Watches (watch_met watch) v v
watches_by v (watch.State state) is = (refl, is)
watches_by v watch.Ended is = (refl, is)

-- what is given is met, where the link is able to
pub meets_able : (script : ℕ → Option Message) (v : LinkView) (wish : Wish) → is_able v wish ≡ true → Meets wish (given (offer_of v) wish) v (view_after script wish v)
meets_able script v Nothing able = refl
meets_able script v (Publishes subject reply payload) able = record { not_down = not_down v.up able; same = refl }
meets_able script v (Requests subject payload) able =
    let number : ℕ = (numbers_in v.numbers).request in
    record {
      not_down = not_down v.up (both_left (is_up v.up) (is_ended (v.status number)) able);
      unused = has_ended (v.status number) (both_right (is_up v.up) (is_ended (v.status number)) able);
      next = next_request v.numbers;
      same = with_reply (view_after script (Requests subject payload) v)
          (ap (λ (s : Status). put v.status number s) (sym (put_here v.status number (status_by (script number)))))
          (ap (λ (o : Option Message). put v.reply number o) (sym (put_here v.reply number (script number))));
    }
meets_able script v OpensInbox able =
    let inbox : ℕ = (numbers_in v.numbers).inbox in
    record {
      opens = record {
        not_down = not_down v.up (both_left (is_up v.up) (not (v.is_open inbox)) able);
        unused = not_true (v.is_open inbox) (both_right (is_up v.up) (not (v.is_open inbox)) able);
        next = next_inbox v.numbers;
        same = with_buffer (view_after script OpensInbox v) refl (ap (λ (buffer : Option (List Message)). put v.buffer inbox buffer) (sym (put_here v.buffer inbox (Some []))));
      };
      named = next_subject v.numbers;
    }
meets_able script v (Drops inbox) able = record {
  same = with_buffer (view_after script (Drops inbox) v) refl (ap (λ (buffer : Option (List Message)). put v.buffer inbox buffer) (sym (put_here v.buffer inbox (Some []))));
}
meets_able script v (Reads inbox) able =
    let opened : Bool = v.is_open inbox in
    let counted : Bool = is_counted (v.buffer inbox) (v.count inbox) in
    reads_by v inbox (v.buffer inbox) (both_left opened counted able) refl (both_right opened counted able)
meets_able script v (Awaits request) able = awaits_by v request (v.status request) (v.reply request) refl refl able
meets_able script v Watches able = watches_by v v.watch refl

-- and it is never a closed inbox

took_open : (message : Option Message) → is_shut (took message) ≡ false
took_open None = refl
took_open (Some message) = refl

got_open : (reply : Option (Option Message)) → is_shut (got reply) ≡ false
got_open None = refl
got_open (Some None) = refl
got_open (Some (Some reply)) = refl

watch_open : (watch : Watch) → is_shut (watch_met watch) ≡ false
watch_open (watch.State state) = refl
watch_open watch.Ended = refl

pub given_open : (v : LinkView) (wish : Wish) → is_shut (given (offer_of v) wish) ≡ false
given_open v Nothing = refl
given_open v (Publishes subject reply payload) = refl
given_open v (Requests subject payload) = refl
given_open v OpensInbox = refl
given_open v (Drops inbox) = refl
given_open v (Reads inbox) = took_open (first_in (v.buffer inbox))
given_open v (Awaits request) = got_open (answer_in (v.status request) (v.reply request))
given_open v Watches = watch_open v.watch
