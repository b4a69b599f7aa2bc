-- A reader that hands out rising stream sequences, or ends.
use Rattle.std.specs.Prelude.{◌≡◌, ◌<◌, ℕ, Bool, false, nat_lt, if◌then◌else◌, List, [], ◌∷◌, ◌++◌, codes, Option, Some, None, IfSome, Result, Ok, Err, ⊤, refl}
use Rattle.std.specs.Fmt.{decimal, digits}
use Rattle.std.specs.List.Sorted.{IsStrictlyIncreasing}
use Rattle.js_base.specs.declared.turn.Next.{Next}
use Rattle.js_base.specs.declared.turn.Next.TheVariants as next
use Rattle.js_link.specs.LinkView.{LinkView}
use Rattle.js_message.specs.AckSubject.{Place, readable_as}
use Rattle.js_message.specs.declared.message.Message.{Message}
use Rattle.js_readers.specs.declared.ordered.breach.Breach.{Breach}
use Rattle.js_readers.specs.declared.ordered.breach.RisingError.{RisingError}
use Rattle.js_readers.specs.declared.ordered.breach.RisingError.TheVariants as error
use Rattle.js_readers.specs.declared.ordered.rising.Rising.{Rising}

-- ---- errors

-- how a breach is printed
abbrev pub breach_text : Breach → List ℕ
breach_text breach = codes "stream sequence " ++ (decimal breach.came ++ (codes " came after " ++ decimal breach.last))

-- how an error is printed
abbrev pub error_text : {E : Type 0} → (E → Option (List ℕ)) → RisingError E → Option (List ℕ)
error_text text (error.Reader e) = text e
error_text text (error.Breach breach) = Some (breach_text breach)

-- ---- what is handed on

-- what a poll of the reader answers, where its errors are of this type
abbrev pub Told : Type 0 → Type 0
Told E = Next (Result Message (RisingError E))

-- the breach of a message with this stream sequence: it is not above the last one, where there is one
abbrev pub breach_at : Option ℕ → ℕ → Option Breach
breach_at None came = None
breach_at (Some last) came = if nat_lt last came then None else Some (record { last = last; came = came })

-- the breach of a message at this place. One that tells no place has no sequence, and is none
abbrev pub breach_in : Option ℕ → Option Place → Option Breach
breach_in last None = None
breach_in last (Some place) = breach_at last place.sequence

-- a message is handed on as it is, or its breach in its place
abbrev pub handed_on : {E : Type 0} → Option Breach → Message → Told E
handed_on None message = next.Item (Ok message)
handed_on (Some breach) message = next.Item (Err (error.Breach breach))

-- what the reader below answers is handed on as it is, but for a message that is a breach
abbrev pub told_of : {E : Type 0} → Option ℕ → Next (Result Message E) → Told E
told_of last (next.Item (Ok message)) = handed_on (breach_in last (readable_as message.message.reply)) message
told_of last (next.Item (Err e)) = next.Item (Err (error.Reader e))
told_of last next.Pending = next.Pending
told_of last next.End = next.End
told_of last next.OutOfMemory = next.OutOfMemory

-- the last sequence after a message at this place
abbrev pub last_at : Option ℕ → Option Place → Option ℕ
last_at last None = last
last_at last (Some place) = Some place.sequence

-- the last sequence that was handed out, after an answer
abbrev pub last_after : {E : Type 0} → Option ℕ → Told E → Option ℕ
last_after last (next.Item (Ok message)) = last_at last (readable_as message.message.reply)
last_after last told = last

-- the breach that an answer tells
abbrev pub breach_told : {E : Type 0} → Told E → Option Breach
breach_told (next.Item (Err (error.Breach breach))) = Some breach
breach_told told = None

-- worked: after 100 the stream was made anew, and 1 came. 101 would be handed out, and 100 again is a breach too
worked_breach : (breach_at (Some 100) 1 ≡ Some (record { last = 100; came = 1 })) × (breach_at (Some 100) 101 ≡ None) × (breach_at (Some 100) 100 ≡ Some (record { last = 100; came = 100 }))
worked_breach = (refl, refl, refl)

-- worked: the first message is no breach, whatever its sequence
worked_first : (came : ℕ) → breach_at None came ≡ None
worked_first came = refl

-- worked: how that is printed
worked_text : breach_text (record { last = 100; came = 1 }) ≡ codes "stream sequence 1 came after 100"
unfolding digits
worked_text = refl

-- ---- a poll

-- what a poll of a reader does
abbrev pub ReaderPolls : Type 0 → Type 0 → Type 1
ReaderPolls R E = ℕ → R → R → LinkView → LinkView → Next (Result Message E) → Type 0

-- the reader below is polled once, and what it answers is handed on. Nothing else of the link is touched
pub record PollsReader {R E : Type 0} (polls : ReaderPolls R E) (now : ℕ) (old new : Rising R) (before after : LinkView) (told : Told E) : Type 0 where
  pub answer : Next (Result Message E)
  pub polled : polls now old.reader new.reader before after answer
  pub handed : told ≡ told_of old.last answer
  pub last : new.last ≡ last_after old.last told
  pub breach : new.breach ≡ breach_told told

-- without a breach the reader below is polled; after one it has ended, and nothing is polled
abbrev pub PollsUnless : {R E : Type 0} → Option Breach → ReaderPolls R E → ℕ → Rising R → Rising R → LinkView → LinkView → Told E → Type 0
PollsUnless None polls now old new before after told = PollsReader polls now old new before after told
PollsUnless (Some breach) polls now old new before after told = (told ≡ next.End) × (new ≡ old) × (after ≡ before)

-- what a poll does
abbrev pub PollsRising : {R E : Type 0} → ReaderPolls R E → ℕ → Rising R → Rising R → LinkView → LinkView → Told E → Type 0
PollsRising polls now old new before after told = PollsUnless old.breach polls now old new before after told

-- a message that tells its place stands above the last one that was handed out, where there is one
abbrev pub IsAbove : {E : Type 0} → Option ℕ → Told E → Type 0
IsAbove (Some last) (next.Item (Ok message)) = IfSome (readable_as message.message.reply) (λ place. last < place.sequence)
IsAbove last told = ⊤

-- when it has something to do by itself: never after a breach, else when the reader below has
abbrev pub due_unless : Option Breach → Bool → Bool
due_unless None due = due
due_unless (Some breach) due = false

abbrev pub rising_due : {R : Type 0} → (ℕ → R → Bool) → ℕ → Rising R → Bool
rising_due due now o = due_unless o.breach (due now o.reader)

-- there was no breach, and nothing has come for the reader below
pub record IsRisingQuiet {R : Type 0} (quiet : R → LinkView → Type 0) (o : Rising R) (v : LinkView) : Type 0 where
  pub none : o.breach ≡ None
  pub below : quiet o.reader v

-- ---- all polls

-- the sequence at a place
abbrev pub sequence_at : Option Place → List ℕ
sequence_at None = []
sequence_at (Some place) = place.sequence ∷ []

-- the sequence of the message that an answer hands out, where it tells one
abbrev pub sequence_told : {E : Type 0} → Told E → List ℕ
sequence_told (next.Item (Ok message)) = sequence_at (readable_as message.message.reply)
sequence_told told = []

-- the sequences of the messages that are handed out, in order
abbrev pub sequences_of : {E : Type 0} → List (Told E) → List ℕ
sequences_of [] = []
sequences_of (told ∷ more) = sequence_told told ++ sequences_of more

-- polls that answer so, each from where the one before it stopped; between two polls the link may change as it likes
abbrev pub ArePolls : {R E : Type 0} → ReaderPolls R E → Rising R → List (Told E) → Type 0
ArePolls polls from [] = ⊤
ArePolls {R = R} polls from (told ∷ more) =
    (now : ℕ) × (to : Rising R) × (before : LinkView) × (after : LinkView) × PollsRising polls now from to before after told × ArePolls polls to more

-- however it is polled from here on, and whatever the reader below and the server do, the sequences that it hands out strictly rise
abbrev pub IsRisingFrom : {R E : Type 0} → ReaderPolls R E → Rising R → Type 0
IsRisingFrom {E = E} polls from = (answers : List (Told E)) → ArePolls polls from answers → IsStrictlyIncreasing (sequences_of answers)
