-- A link in memory as a worked life polls it: it is up, tells all, and has the answer to a request at once, as a scripted server has it.
use Rattle.std.specs.Prelude.{◌≡◌, refl, ℕ, ◌+◌, ◌-◌, ◌==◌, Bool, true, false, ◌&&◌, not, nat_lt, List, [], ◌∷◌, Option, Some, None, codes}
use Rattle.js_base.specs.declared.message.Message.{Message}
use Rattle.js_link.specs.declared.sent.Sent.TheVariants.{Request, Publish, Subscribe}
use Rattle.js_link.specs.declared.wish.Wish.{Wish}
use Rattle.js_link.specs.declared.wish.Wish.TheVariants.{Nothing, Publishes, Requests, OpensInbox, Drops, Reads, Awaits, Watches}
use Rattle.js_link.specs.LinkView.{LinkView, Numbers, Status, Waits, Answered, Ended, after, past_inbox, past_request, put}
use Rattle.js_link.specs.Memory.{new_view, with_last}
use Rattle.js_link.specs.Offer.{Offer}
use Rattle.js_link.specs.Wish.{watch_met}

-- the numbers that are given next
abbrev pub numbers_in : Option Numbers → Numbers
numbers_in (Some numbers) = numbers
numbers_in None = record { inbox = 0; request = 0; fresh = 0; inbox_subject = λ inbox. []; fresh_subject = λ number. [] }

-- the first message of a told list
abbrev pub first_in : Option (List Message) → Option Message
first_in (Some (message ∷ rest)) = Some message
first_in buffer = None

-- the list without it
abbrev pub rest_in : Option (List Message) → Option (List Message)
rest_in (Some (message ∷ rest)) = Some rest
rest_in buffer = buffer

-- one message less, where there is one
abbrev pub count_in : Option (List Message) → ℕ → ℕ
count_in (Some (message ∷ rest)) count = count - 1
count_in buffer count = count

-- what became of a request
abbrev pub answer_in : Status → Option Message → Option (Option Message)
answer_in Waits reply = None
answer_in Answered reply = Some reply
answer_in Ended reply = Some None

-- what there is at the link
abbrev pub offer_of : LinkView → Offer
offer_of v =
    let numbers = numbers_in v.numbers in
    record {
      passing = record { now = 0; up = true; request = numbers.request; inbox = numbers.inbox; subject = numbers.inbox_subject numbers.inbox };
      answers = λ request. answer_in (v.status request) (v.reply request);
      arrivals = λ inbox. first_in (v.buffer inbox);
      watch = watch_met v.watch;
    }

-- a request waits, or is answered at once where the script has a reply
abbrev pub status_by : Option Message → Status
status_by None = Waits
status_by (Some reply) = Answered

-- a request is no more once its answer was given
abbrev pub ended_by : Status → Status
ended_by Waits = Waits
ended_by Answered = Ended
ended_by Ended = Ended

abbrev pub left_by : Status → Option Message → Option Message
left_by Answered reply = None
left_by status reply = reply

-- the link after a wish; the script has the replies by the numbers of their requests
abbrev pub view_after : (ℕ → Option Message) → Wish → LinkView → LinkView
view_after script Nothing v = v
view_after script (Publishes subject reply payload) v = record v { sent = after v.sent (Publish subject reply None payload ∷ []) }
view_after script (Requests subject payload) v =
    let number = (numbers_in v.numbers).request in
    record v {
      numbers = past_request v.numbers;
      status = put v.status number (status_by (script number));
      reply = put v.reply number (script number);
      sent = after v.sent (Request number subject None payload ∷ []);
    }
view_after script OpensInbox v =
    let numbers = numbers_in v.numbers in
    record v {
      numbers = past_inbox v.numbers;
      is_open = put v.is_open numbers.inbox true;
      count = put v.count numbers.inbox 0;
      buffer = put v.buffer numbers.inbox (Some []);
      sent = after v.sent (Subscribe numbers.inbox (numbers.inbox_subject numbers.inbox) None ∷ []);
    }
view_after script (Drops inbox) v = record v { is_open = put v.is_open inbox false; count = put v.count inbox 0; buffer = put v.buffer inbox (Some []) }
view_after script (Reads inbox) v = record v { count = put v.count inbox (count_in (v.buffer inbox) (v.count inbox)); buffer = put v.buffer inbox (rest_in (v.buffer inbox)) }
view_after script (Awaits request) v = record v { status = put v.status request (ended_by (v.status request)); reply = put v.reply request (left_by (v.status request) (v.reply request)) }
view_after script Watches v = v

-- a message comes for an open inbox
abbrev pub with_arrival : ℕ → Message → LinkView → LinkView
with_arrival inbox message v = record v { count = put v.count inbox (v.count inbox + 1); buffer = put v.buffer inbox (with_last message (v.buffer inbox)) }

-- ---- the link can do so

-- it is known to be up
abbrev pub is_up : Option Bool → Bool
is_up (Some up) = up
is_up None = false

-- as many messages are counted as are told
abbrev pub is_counted : Option (List Message) → ℕ → Bool
is_counted None count = false
is_counted (Some []) count = count == 0
is_counted (Some (message ∷ rest)) count = nat_lt 0 count

-- the number was given to no request that is still there
abbrev pub is_ended : Status → Bool
is_ended Ended = true
is_ended status = false

-- an answer that has come is told
abbrev pub is_answer_told : Status → Option Message → Bool
is_answer_told Answered None = false
is_answer_told status reply = true

abbrev pub is_able : LinkView → Wish → Bool
is_able v Nothing = true
is_able v (Publishes subject reply payload) = is_up v.up
is_able v (Requests subject payload) = is_up v.up && is_ended (v.status (numbers_in v.numbers).request)
is_able v OpensInbox = is_up v.up && not (v.is_open (numbers_in v.numbers).inbox)
is_able v (Drops inbox) = true
is_able v (Reads inbox) = v.is_open inbox && is_counted (v.buffer inbox) (v.count inbox)
is_able v (Awaits request) = is_answer_told (v.status request) (v.reply request)
is_able v Watches = true

-- worked: a new link can open an inbox, and has no inbox to read
worked_able : (is_able (new_view (codes "_INBOX.t")) OpensInbox ≡ true) × (is_able (new_view (codes "_INBOX.t")) (Reads 0) ≡ false)
worked_able = (refl, refl)
