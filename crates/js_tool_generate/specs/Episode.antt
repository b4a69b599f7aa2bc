-- The events of a generated transcript, episode after episode: some messages in order, a gap, and the recreation that it brings.
use Rattle.std.specs.Prelude.{ℕ, zero, suc, ◌+◌, ◌*◌, ◌%◌, List, [], ◌∷◌, ◌++◌, length, Some, None, codes, decimal}
use Rattle.js_base.specs.declared.message.Message.{Message}
use Rattle.js_ordered_table.specs.declared.event.EventKind.{EventKind}
use Rattle.js_ordered_table.specs.declared.event.EventKind.TheVariants as what

-- ---- the numbers

-- the random numbers of a seed
abbrev pub draw : ℕ → ℕ → ℕ
draw seed zero = 1 + seed % 2_147_483_646
draw seed (suc episode) = 48_271 * draw seed episode % 2_147_483_647

-- how many messages an episode delivers in order
abbrev pub delivered : ℕ → ℕ → ℕ
delivered seed episode = 1 + draw seed (suc episode) % 8

-- how many the episodes before it delivered in order, which is the last sequence that was yielded before it
abbrev pub before : ℕ → ℕ → ℕ
before seed zero = 0
before seed (suc episode) = before seed episode + delivered seed episode

-- ---- texts

-- the acknowledgement subject of a message
abbrev pub reply : ℕ → ℕ → List ℕ
reply sequence number = codes "$JS.ACK.events.gen.1." ++ (decimal sequence ++ (codes "." ++ (decimal number ++ codes ".0.0")))

-- what the server tells of the consumer with this name
abbrev pub info_text : List ℕ → List ℕ
info_text name =
    codes "{\"ack_floor\":{\"consumer_seq\":0,\"stream_seq\":0},\"config\":{\"deliver_policy\":\"all\"},\"created\":\"2026-01-01T00:00:00Z\",\"delivered\":{\"consumer_seq\":0,\"stream_seq\":0},\"name\":\""
    ++ name
    ++ codes "\",\"num_ack_pending\":0,\"num_pending\":0,\"num_redelivered\":0,\"num_waiting\":0,\"stream_name\":\"events\"}"

-- the name of the consumer that the recreation with this count of recreations makes
abbrev pub name_of : ℕ → List ℕ
name_of recreation_count = codes "gen_" ++ decimal recreation_count

-- ---- what happens

-- a message with nothing but this payload
abbrev pub plain : List ℕ → Message
plain payload = record { subject = []; reply = None; payload = payload; headers = None; status = None; description = None; length = length payload }

-- the message with this number on an inbox that starts after some sequence
abbrev pub delivery : ℕ → ℕ → ℕ → EventKind
delivery inbox before number =
    what.Arrival inbox (record (plain (decimal (before + number))) { reply = Some (reply (before + number) number) })

-- so many of them, from a number on
abbrev pub deliveries : ℕ → ℕ → ℕ → ℕ → List EventKind
deliveries inbox before number zero = []
deliveries inbox before number (suc left) = delivery inbox before number ∷ deliveries inbox before (number + 1) left

-- the answer to a request
abbrev pub answer : ℕ → List ℕ → EventKind
answer request payload = what.Answer request (Some (plain payload))

-- The message after the last in order is missing, and the one behind it shows the gap. Then the old consumer is deleted and a new one made; and the missing message comes late.
abbrev pub recovery : ℕ → ℕ → ℕ → List EventKind
recovery episode before delivered =
    delivery episode before (delivered + 2)
    ∷ answer (2 * episode + 1) (codes "{\"success\":true}")
    ∷ answer (2 * episode + 2) (info_text (name_of (episode + 1)))
    ∷ delivery episode before (delivered + 1)
    ∷ []

-- all of an episode
abbrev pub happens : ℕ → ℕ → List EventKind
happens seed episode =
    deliveries episode (before seed episode) 1 (delivered seed episode)
    ++ recovery episode (before seed episode) (delivered seed episode)

-- so many episodes, from one on
abbrev pub episodes : ℕ → ℕ → ℕ → List EventKind
episodes seed episode zero = []
episodes seed episode (suc left) = happens seed episode ++ episodes seed (episode + 1) left
