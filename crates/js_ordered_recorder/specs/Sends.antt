-- How what a recorder sends goes to its link.
use Rattle.std.specs.Prelude.{◌≡◌, refl, ℕ, ◌+◌, min, Bool, true, false, List, [], ◌∷◌, Option, Some, None, is_some, ⊤, length}
use Rattle.js_base.specs.declared.message.Message.{Message}
use Rattle.js_link.specs.Calls as calls
use Rattle.js_link.specs.LinkView.{LinkView}
use Rattle.js_link.specs.declared.sent.InboxId.{InboxId}
use Rattle.js_link.specs.declared.sent.RequestId.{RequestId}
use Rattle.js_ordered_recorder.specs.declared.sends.Asked.{Asked}
use Rattle.js_ordered_recorder.specs.declared.sends.LinkNumbers.{LinkNumbers}
use Rattle.js_ordered_recorder.specs.declared.output_delivery.Worked.{Worked}
use Rattle.js_ordered_recorder.specs.declared.output_delivery.Worked.TheVariants as worked
use Rattle.js_ordered_table.specs.declared.run.ItemKind.{ItemKind}
use Rattle.js_ordered_table.specs.declared.run.ItemKind.TheVariants as item
use Rattle.js_ordered_table.specs.declared.run.Output.{Output}
use Rattle.js_ordered_table.specs.declared.run.Output.TheVariants as out

-- one lost send more, where it failed; the last count of all stays
abbrev pub lost_by : Bool → ℕ → ℕ
lost_by true lost = lost
lost_by false lost = min (lost + 1) 18446744073709551615

-- the request went out with this number, or could not
abbrev pub AsksAs : Option RequestId → List ℕ → List ℕ → LinkView → LinkView → Type 0
AsksAs (Some request) subject payload before after = calls.Asks request.0 subject None payload before after
AsksAs None subject payload before after = calls.FailsToSend before after

-- a request goes to the link, and the link's number of it is kept
pub record Asks (number : ℕ) (subject payload : List ℕ) (old new : LinkNumbers) (before after : LinkView) : Type 0 where
  pub request : Option RequestId
  pub goes : AsksAs request subject payload before after
  pub kept : new ≡ record old { asked = Some (record { number = number; request = request }) }

-- the message was sent, or could not be
abbrev pub PublishesAs : Bool → List ℕ → Option (List ℕ) → List ℕ → LinkView → LinkView → Type 0
PublishesAs true subject reply payload before after = calls.Publishes subject reply None payload before after
PublishesAs false subject reply payload before after = calls.FailsToSend before after

-- a message goes to the link; one that could not be sent counts as lost
pub record Publishes (subject : List ℕ) (reply : Option (List ℕ)) (payload : List ℕ) (old new : LinkNumbers) (before after : LinkView) : Type 0 where
  pub sent : Bool
  pub goes : PublishesAs sent subject reply payload before after
  pub kept : new ≡ record old { lost = lost_by sent old.lost }

-- the inbox was opened under this subject, or could not be
abbrev pub OpensAs : Option InboxId → List ℕ → LinkView → LinkView → Type 0
OpensAs (Some inbox) subject before after = calls.Opens inbox.0 subject None before after
OpensAs None subject before after = calls.FailsToSend before after

-- an inbox is closed, where there is one
abbrev pub ClosesAt : Option InboxId → LinkView → LinkView → Type 0
ClosesAt (Some inbox) before after = calls.Closes inbox.0 before after
ClosesAt None before after = after ≡ before

-- the next inbox is opened under its subject, and the one before it is closed
pub record Moves (number : ℕ) (subject : List ℕ) (old new : LinkNumbers) (before after : LinkView) : Type 0 where
  pub opened : Option InboxId
  pub between : LinkView
  pub opens : OpensAs opened subject before between
  pub closes : ClosesAt old.inbox between after
  pub kept : new ≡ record old { number = number; inbox = opened; lost = lost_by (is_some opened) old.lost }

-- ---- an output

-- a message of which only the subject and the payload are known
abbrev pub bare_message : List ℕ → List ℕ → Message
bare_message subject payload = record { subject = subject; reply = None; payload = payload; headers = None; status = None; description = None; length = length payload }

-- the message of a yield: the one that was taken from the link for this turn, whole; no life comes
-- to a yield where there is none
abbrev pub yielded : List ℕ → List ℕ → Option Message → Option Message
yielded subject payload None = Some (bare_message subject payload)
yielded subject payload (Some kept) = Some kept

-- worked: the message that was taken is handed out with its reply subject
worked_whole : yielded (97 ∷ []) (98 ∷ []) (Some (record (bare_message (97 ∷ []) (98 ∷ [])) { reply = Some (99 ∷ []) })) ≡ Some (record (bare_message (97 ∷ []) (98 ∷ [])) { reply = Some (99 ∷ []) })
worked_whole = refl

-- what stands at the link, and the message that was taken last
pub record Outgoing : Type 0 where
  pub sends : LinkNumbers
  pub message : Option Message
  pub link : LinkView

-- an output goes to the link, or it is for the user, or nothing is done at it
abbrev pub GoesTo : Output → Outgoing → Outgoing → Type 0
GoesTo (out.Request number subject payload) old new = Asks number subject payload old.sends new.sends old.link new.link × (new.message ≡ old.message)
GoesTo (out.Publish subject reply payload) old new = Publishes subject reply payload old.sends new.sends old.link new.link × (new.message ≡ old.message)
GoesTo (out.Subscribe inbox subject) old new = Moves inbox subject old.sends new.sends old.link new.link × (new.message ≡ old.message)
GoesTo (out.Yield stream_sequence consumer_sequence subject payload) old new =
    (new.sends ≡ old.sends) × (new.link ≡ old.link) × (new.message ≡ yielded subject payload old.message)
GoesTo (out.Item kind) old new = new ≡ old
GoesTo (out.Recreate recreation_count start) old new = new ≡ old

-- the message that is left after an error: that of a limit gives its text
abbrev pub left_by : ItemKind → Option Message → Option Message
left_by item.RequestLimitExceeded kept = None
left_by kind kept = kept

-- what an output has for the user
abbrev pub worked_as : Output → Worked
worked_as (out.Yield stream_sequence consumer_sequence subject payload) = worked.Message
worked_as (out.Item kind) = worked.Error kind
worked_as other = worked.Silent

-- the message of a yield is there
abbrev pub HasMessage : Worked → Option Message → Type 0
HasMessage worked.Message message = is_some message ≡ true
HasMessage other message = ⊤
