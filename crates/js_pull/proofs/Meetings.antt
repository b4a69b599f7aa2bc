-- What a row meets, seen by one who holds a message.
use Rattle.std.proofs.Common.{◌≡◌, ℕ, true, false, Option, Some, None, sym, ◌∙◌, ap, subst}
use Rattle.std.specs.Prelude.{Result, Ok, Err, IfOk}
use Rattle.js_base.specs.declared.message.Message.{Message}
use Rattle.js_link.specs.LinkView.{LinkView}
use Rattle.js_link.specs.Calls.{Takes}
use Rattle.js_link.specs.Wish.{message_of}
use Rattle.js_link.specs.declared.wish.Wish.{Wish}
use Rattle.js_link.specs.declared.wish.Wish.TheVariants.{Reads}
use Rattle.js_link.specs.declared.wish.Met.{Met}
use Rattle.js_link.specs.declared.wish.Met.TheVariants.{Took, Empty, Shut}
use Rattle.js_link.specs.Meets.{Meets}
use Rattle.js_pull.specs.declared.reader.Reader.{Reader}
use Rattle.js_pull.specs.declared.rows.Due.{Due}
use Rattle.js_pull.specs.declared.rows.Due.TheVariants as due_of
use Rattle.js_pull.specs.Reader as rows
use Rattle.js_pull.specs.Rows.{row_of, IsInformed, pin_brought}
use Rattle.js_pull.specs.declared.arrivals.Meeting.{Meeting}
use Rattle.js_pull.specs.Stream.{IsMeeting}
use Rattle.js_pull.specs.HeldMessage.{seen}
use Rattle.js_pull.proofs.HeldMessage.{held_is_unread, held_is_last, held_is_replaced, held_is_lost}

-- what was asked for is what the row wishes
pub asked_for : (due : Due) (reply : Option Message) (r : Reader) (m : Meeting) (asked : Wish) (v u : LinkView) → (due ≡ due_of.CheckArrival → ⊥)
    → asked ≡ rows.wish (row_of reply due) r → IsInformed (row_of reply due) m.spare.informed → Meets asked m.met v u → IsMeeting due reply r m v u
asked_for due reply r m asked v u other is informed meets = record {
  meets = subst (λ (w : Wish). Meets w m.met v u) is meets;
  informed = informed;
  pin = λ e. absurd (other e);
}

-- ---- arrivals

-- a look at the inbox
pub arrival_met : (reply : Option Message) (r : Reader) (m : Meeting) (held : Option Message) (v u : LinkView) → held ≡ None
    → Meets (Reads r.source.inbox) m.met v u → m.spare.pin ≡ pin_brought r.source.pinned (message_of m.met)
    → IsMeeting due_of.CheckArrival reply r m v (seen held r.source.inbox u)
arrival_met reply r m held v u none meets pin = rw none (record { meets = meets; informed = tt; pin = λ _. pin })

pub arrival_due : (due : Due) (reply : Option Message) (r : Reader) (m : Meeting) (v u : LinkView) → due ≡ due_of.CheckArrival
    → IsMeeting due_of.CheckArrival reply r m v u → IsMeeting due reply r m v u
arrival_due due reply r m v u is h = subst (λ (d : Due). IsMeeting d reply r m v u) (sym is) h

-- a message that was taken and is held is still there
pub unread : (inbox : ℕ) (met : Met) (v u : LinkView) → Meets (Reads inbox) met v u → seen (message_of met) inbox u ≡ v
unread inbox (Took message) v u m = held_is_unread inbox message v u m
unread inbox Empty v u m = m.0
unread inbox Shut v u m = m.0
unread inbox met v u m = absurd m

pub unread_as : (inbox : ℕ) (met : Met) (held : Option Message) (v u : LinkView) → held ≡ message_of met → Meets (Reads inbox) met v u → seen held inbox u ≡ v
unread_as inbox met held v u is m = ap (λ (x : Option Message). seen x inbox u) is ∙ unread inbox met v u m

-- a message that was held
pub held_heard : (inbox : ℕ) (message : Message) (held : Option Message) (v u : LinkView) → held ≡ None
    → (u ≡ v) × (v.is_open inbox ≡ true) × (v.count inbox ≡ 0) → Meets (Reads inbox) (Took message) (seen (Some message) inbox v) (seen held inbox u)
held_heard inbox message held v u none empty = rw none (held_is_last inbox message v u empty)

pub held_passed : (inbox : ℕ) (message next : Message) (held : Option Message) (v u : LinkView) → held ≡ Some next
    → Takes inbox next v u → Meets (Reads inbox) (Took message) (seen (Some message) inbox v) (seen held inbox u)
held_passed inbox message next held v u is takes = rw is (held_is_replaced inbox message next v u takes)

pub held_shut : (inbox : ℕ) (message : Message) (held : Option Message) (v u : LinkView) → held ≡ None
    → (u ≡ v) × (v.is_open inbox ≡ false) → Meets (Reads inbox) Shut (seen (Some message) inbox v) (seen held inbox u)
held_shut inbox message held v u none shut = rw none (held_is_lost inbox message v u shut)

-- it is met again
pub held_met : (reply : Option Message) (r : Reader) (m : Meeting) (v u : LinkView)
    → Meets (Reads r.source.inbox) m.met v u → m.spare.pin ≡ pin_brought r.source.pinned (message_of m.met)
    → IsMeeting due_of.CheckArrival reply r m v u
held_met reply r m v u meets pin = record { meets = meets; informed = tt; pin = λ _. pin }

-- ---- results

pub due_met : {E : Type 0} (result : Result Meeting E) (due : Due) (reply : Option Message) (r : Reader) (v w u : LinkView) → due ≡ due_of.CheckArrival → w ≡ v
    → IfOk result (λ m. (reply : Option Message) → IsMeeting due_of.CheckArrival reply r m w u) → IfOk result (λ m. IsMeeting due reply r m v u)
due_met (Ok m) due reply r v w u is same h = arrival_due due reply r m v u is (subst (λ (x : LinkView). IsMeeting due_of.CheckArrival reply r m x u) same (h reply))
due_met (Err e) due reply r v w u is same h = h

-- who held nothing sees the link
pub held_none : (held : Option Message) (inbox : ℕ) (v : LinkView) → held ≡ None → v ≡ seen held inbox v
held_none held inbox v is = sym (ap (λ (x : Option Message). seen x inbox v) is)

pub held_some : (held : Option Message) (message : Message) (inbox : ℕ) (v : LinkView) → held ≡ Some message → seen (Some message) inbox v ≡ seen held inbox v
held_some held message inbox v is = sym (ap (λ (x : Option Message). seen x inbox v) is)
