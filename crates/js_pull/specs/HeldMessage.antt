-- A message that was taken from an inbox, and is held since there was no memory for what it brings: it counts as unread.
use Rattle.std.specs.Prelude.{ℕ, ◌+◌, Bool, true, false, Option, Some, None}
use Rattle.js_base.specs.declared.message.Message.{Message}
use Rattle.js_link.specs.LinkView.{LinkView, put, with_first}

-- a link with a message more, in front of all others of an inbox
abbrev pub put_back : ℕ → Message → LinkView → LinkView
put_back inbox message v = record v { count = put v.count inbox (v.count inbox + 1); buffer = put v.buffer inbox (with_first message (v.buffer inbox)) }

abbrev pub seen_open : Bool → Message → ℕ → LinkView → LinkView
seen_open true message inbox v = put_back inbox message v
seen_open false message inbox v = v

-- A link as one sees it who holds a message of an inbox. With the inbox it is lost.
abbrev pub seen : Option Message → ℕ → LinkView → LinkView
seen None inbox v = v
seen (Some message) inbox v = seen_open (v.is_open inbox) message inbox v
