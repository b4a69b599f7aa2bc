-- What a row asks of its link, and what it meets there: the one place at which rows and links are joined.
use Rattle.std.specs.Prelude.{◌≡◌, ℕ, Bool, true, false, List, [], Option, Some, None, unwrap_or}
use Rattle.js_base.specs.declared.message.Message.{Message}
use Rattle.js_link.specs.RowInput.{RowInput}
use Rattle.js_link.specs.declared.link.Watch.{Watch}
use Rattle.js_link.specs.declared.link.Watch.TheVariants as watch
pub use Rattle.js_link.specs.declared.wish.Wish.{Wish}
pub use Rattle.js_link.specs.declared.wish.Wish.TheVariants.{Nothing, Publishes, Requests, OpensInbox, Drops, Reads, Awaits, Watches}
pub use Rattle.js_link.specs.declared.wish.Met.{Met}
pub use Rattle.js_link.specs.declared.wish.Met.TheVariants.{Unasked, GoneOut, Refused, Dropped, Requested, Opened, Empty, Shut, Took, Waiting, Gone, Got, Stands, WatchOver}

-- how a row is passed that met this at a moment
abbrev pub row_input : ℕ → Met → RowInput
row_input now (Requested number) = record { now = now; up = true; request = number; inbox = 0; subject = [] }
row_input now (Opened inbox subject) = record { now = now; up = true; request = 0; inbox = inbox; subject = subject }
row_input now Refused = record { now = now; up = false; request = 0; inbox = 0; subject = [] }
row_input now met = record { now = now; up = true; request = 0; inbox = 0; subject = [] }

-- the message that was taken
abbrev pub message_of : Met → Option Message
message_of (Took message) = Some message
message_of met = None

-- the answer that came, which is none where the replier is gone
abbrev pub reply_of : Met → Option (Option Message)
reply_of (Got reply) = Some (Some reply)
reply_of Gone = Some None
reply_of met = None

-- where the connection stands, as what is met
abbrev pub watch_met : Watch → Met
watch_met (watch.State state) = Stands state
watch_met watch.Ended = WatchOver

-- the send of a row went through with this number, or it was refused
abbrev pub GoesAs : Option ℕ → Met → Type 0
GoesAs None met = (now : ℕ) → (row_input now met).up ≡ false
GoesAs (Some number) met = (now : ℕ) → ((row_input now met).up ≡ true) × ((row_input now met).request ≡ number)

-- the inbox that was looked at is closed
abbrev pub is_shut : Met → Bool
is_shut Shut = true
is_shut met = false

-- the reply that was met, which is none where the replier is gone
abbrev pub reply_met : Met → Option Message
reply_met met = unwrap_or (reply_of met) None

-- at the end of a walk an inbox is found closed, by a row that would read it, or nothing more is asked
abbrev pub IsClosing : {V : Type 0} → (Wish → Met → V → V → Type 0) → Wish → Bool → V → V → Type 0
IsClosing meets wish false before after = after ≡ before
IsClosing meets (Reads inbox) true before after = meets (Reads inbox) Shut before after
IsClosing meets wish true before after = ⊥
