-- What lies in open inboxes.
use Rattle.std.specs.Prelude.{ℕ, ◌≡◌, ◌++◌, Bool, true, false, Option, Some, None, List, [], ◌∷◌}
use Rattle.js_base.specs.declared.message.Message.{Message}
use Rattle.js_link.specs.declared.link.Taken.{Taken}
use Rattle.js_link.specs.declared.link.Taken.TheVariants as taken
use Rattle.js_link.specs.LinkView.{put}
use Rattle.js_link.specs.Memory.{Queue}
use Rattle.js_link_outbox.specs.declared.numbered.Numbered.{Numbered}
use Rattle.js_link_outbox.specs.Numbered.{at}

-- the messages of an open inbox
abbrev pub items_of : Option Queue → Option (List Message)
items_of None = None
items_of (Some queue) = Some queue.items

-- the messages of each open inbox
abbrev pub queues : Numbered Queue → ℕ → Option (List Message)
queues inboxes i = items_of (at inboxes i)

-- the same inboxes are open, and the same lies in them
abbrev pub Keeps : Numbered Queue → Numbered Queue → Type 0
Keeps old new = queues new ≡ queues old

-- a message was put behind the others of an open inbox; for one that is not open, nothing has changed
abbrev pub PutsInto : Bool → ℕ → Message → Numbered Queue → Numbered Queue → Type 0
PutsInto true inbox message old new =
    (before : List Message) × (queues old inbox ≡ Some before) × (queues new ≡ put (queues old) inbox (Some (before ++ message ∷ [])))
PutsInto false inbox message old new = (queues old inbox ≡ None) × Keeps old new

-- the first message was taken from an inbox; where it is closed or empty, nothing has changed
abbrev pub TakesFrom : ℕ → Taken → Numbered Queue → Numbered Queue → Type 0
TakesFrom inbox (taken.Message message) old new =
    (rest : List Message) × (queues old inbox ≡ Some (message ∷ rest)) × (queues new ≡ put (queues old) inbox (Some rest))
TakesFrom inbox taken.Empty old new = (queues old inbox ≡ Some []) × Keeps old new
TakesFrom inbox taken.Closed old new = (queues old inbox ≡ None) × Keeps old new
