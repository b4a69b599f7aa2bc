-- What has become of open requests: none has its answer yet where the value is none.
use Rattle.std.specs.Prelude.{ℕ, ◌≡◌, ◌≢◌, Bool, true, false, Option, Some, None}
use Rattle.js_base.specs.declared.message.Message.{Message}
use Rattle.js_link.specs.declared.link.Answer.{Answer}
use Rattle.js_link.specs.declared.link.Answer.TheVariants as answer
use Rattle.js_link.specs.LinkView.{put}
use Rattle.js_link_outbox.specs.declared.numbered.Numbered.{Numbered}
use Rattle.js_link_outbox.specs.Numbered.{at}

-- a request that waited has its answer; for another one, nothing has changed
abbrev pub GivesAnswer : Bool → ℕ → Message → Numbered (Option Message) → Numbered (Option Message) → Type 0
GivesAnswer true number message old new = (at old number ≡ Some None) × (at new ≡ put (at old) number (Some (Some message)))
GivesAnswer false number message old new = (at old number ≢ Some None) × (at new ≡ at old)

-- the answer was taken, and the request is no more; where none has come, nothing has changed
abbrev pub TakesAnswer : ℕ → Answer → Numbered (Option Message) → Numbered (Option Message) → Type 0
TakesAnswer number (answer.Got message) old new = (at old number ≡ Some (Some message)) × (at new ≡ put (at old) number None)
TakesAnswer number answer.Waiting old new = (at old number ≡ Some None) × (at new ≡ at old)
TakesAnswer number answer.Gone old new = (at old number ≡ None) × (at new ≡ at old)
