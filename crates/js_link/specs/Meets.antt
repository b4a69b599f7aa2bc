-- What a link did between two of its views, where a row wished for something and met something.
use Rattle.std.specs.Prelude.{◌≡◌, true, false, None}
use Rattle.js_link.specs.LinkView.{LinkView, Waits, Ended}
use Rattle.js_link.specs.Calls as calls
use Rattle.js_link.specs.Wish.{Wish, Met, Nothing, OpensInbox, Watches, Publishes, Requests, Drops, Reads, Awaits, Unasked, GoneOut, Refused, Dropped, Requested, Opened, Empty, Shut, Took, Waiting, Gone, Got, Stands, WatchOver}
use Rattle.js_link.specs.declared.link.Watch.TheVariants as watch

-- the link gave it, between these two views
abbrev pub Meets : Wish → Met → LinkView → LinkView → Type 0
Meets Nothing Unasked old new = new ≡ old
Meets (Publishes subject reply payload) GoneOut old new = calls.Publishes subject reply None payload old new
Meets (Publishes subject reply payload) Refused old new = calls.FailsToSend old new
Meets (Requests subject payload) (Requested number) old new = calls.Asks number subject None payload old new
Meets (Requests subject payload) Refused old new = calls.FailsToSend old new
Meets OpensInbox (Opened inbox subject) old new = calls.OpensOwn inbox subject old new
Meets OpensInbox Refused old new = calls.FailsToSend old new
Meets (Drops inbox) Dropped old new = calls.Closes inbox old new
Meets (Reads inbox) (Took message) old new = calls.Takes inbox message old new
Meets (Reads inbox) Empty old new = (new ≡ old) × (old.is_open inbox ≡ true) × (old.count inbox ≡ 0)
Meets (Reads inbox) Shut old new = (new ≡ old) × (old.is_open inbox ≡ false)
Meets (Awaits number) (Got reply) old new = calls.Answers number reply old new
Meets (Awaits number) Gone old new = (new ≡ old) × (old.status number ≡ Ended)
Meets (Awaits number) Waiting old new = (new ≡ old) × (old.status number ≡ Waits)
Meets Watches (Stands state) old new = (new ≡ old) × (old.watch ≡ watch.State state)
Meets Watches WatchOver old new = (new ≡ old) × (old.watch ≡ watch.Ended)
Meets wish met old new = ⊥
