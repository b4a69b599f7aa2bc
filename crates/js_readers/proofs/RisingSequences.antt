-- The sequences that a rising reader hands out strictly rise, by induction over its polls.
use Rattle.std.proofs.Common.{◌≡◌, ◌<◌, ◌+◌, ℕ, zero, suc, Bool, true, false, cond, nat_lt, List, [], ◌∷◌, ◌++◌, length, Option, Some, None, Result, Ok, Err, refl, sym, ap, ◌∙◌, subst, arith, add-one}
use Rattle.std.specs.Prelude.{IfSome, slice_index, if◌then◌else◌, ⊤}
use Rattle.std.proofs.lemmas.Bool.{ltb-true}
use Rattle.std.specs.List.Sorted.{IsStrictlyIncreasing}
use Rattle.js_base.specs.declared.turn.Next.{Next}
use Rattle.js_base.specs.declared.turn.Next.TheVariants as next
use Rattle.js_link.specs.LinkView.{LinkView}
use Rattle.js_message.specs.AckSubject.{Place, readable_as}
use Rattle.js_message.specs.declared.message.Message.{Message}
use Rattle.js_readers.specs.declared.ordered.breach.Breach.{Breach}
use Rattle.js_readers.specs.declared.ordered.breach.RisingError.{RisingError}
use Rattle.js_readers.specs.declared.ordered.breach.RisingError.TheVariants as error
use Rattle.js_readers.specs.declared.ordered.rising.Rising.{Rising}
use Rattle.js_readers.specs.Rising.{Told, ReaderPolls, ArePolls, IsRisingFrom, PollsUnless, breach_at, breach_in, handed_on, told_of, last_at, last_after, sequence_at, sequence_told, sequences_of}

-- each sequence is above the one before it, and the first above this one, where there is one
abbrev Rises : Option ℕ → List ℕ → Type 0
Rises last [] = ⊤
Rises last (x ∷ xs) = IfSome last (λ l. l < x) × Rises (Some x) xs

rises_strictly : (last : Option ℕ) (xs : List ℕ) → Rises last xs → IsStrictlyIncreasing xs
rises_strictly last [] r k l = absurd (omega arith)
rises_strictly last (x ∷ []) r k l = absurd (omega arith)
rises_strictly last (x ∷ y ∷ xs) r zero l = r.1.0
rises_strictly last (x ∷ y ∷ xs) r (suc k) l = let later = rises_strictly (Some x) (y ∷ xs) r.1 k (omega arith) in rw add-one (rw add-one at later)

-- ---- one poll

-- a sequence that is no breach is above the last one
above_by : (l came : ℕ) (breach : Breach) (b : Bool) → nat_lt l came ≡ b → (if b then None else Some breach) ≡ None → l < came
above_by l came breach true is none = ltb-true l came is
above_by l came breach false is none = cc

above_at : (last : Option ℕ) (came : ℕ) → breach_at last came ≡ None → IfSome last (λ l. l < came)
above_at None came none = tt
above_at (Some l) came none = above_by l came (record { last = l; came = came }) (nat_lt l came) refl none

above_in : (last : Option ℕ) (place : Option Place) → breach_in last place ≡ None → Rises last (sequence_at place)
above_in last None none = tt
above_in last (Some place) none = (above_at last place.sequence none, tt)

above_handed : (E : Type 0) (last : Option ℕ) (message : Message) (b : Option Breach) → breach_in last (readable_as message.message.reply) ≡ b
    → Rises last (sequence_told {E = E} (handed_on b message))
above_handed E last message None is = above_in last (readable_as message.message.reply) is
above_handed E last message (Some breach) is = tt

-- what is handed on is above the last one
above_told : {E : Type 0} (last : Option ℕ) (answer : Next (Result Message E)) → Rises last (sequence_told (told_of last answer))
above_told {E = E} last (next.Item (Ok message)) = above_handed E last message (breach_in last (readable_as message.message.reply)) refl
above_told last (next.Item (Err e)) = tt
above_told last next.Pending = tt
above_told last next.End = tt
above_told last next.OutOfMemory = tt

joined_at : (last : Option ℕ) (place : Option Place) (rest : List ℕ) → Rises last (sequence_at place) → Rises (last_at last place) rest → Rises last (sequence_at place ++ rest)
joined_at last None rest first later = later
joined_at last (Some place) rest first later = (first.0, later)

joined : {E : Type 0} (last : Option ℕ) (told : Told E) (rest : List ℕ) → Rises last (sequence_told told) → Rises (last_after last told) rest → Rises last (sequence_told told ++ rest)
joined last (next.Item (Ok message)) rest first later = joined_at last (readable_as message.message.reply) rest first later
joined last (next.Item (Err e)) rest first later = later
joined last next.Pending rest first later = later
joined last next.End rest first later = later
joined last next.OutOfMemory rest first later = later

-- one poll more, before those that rise from where it stopped
one_more : {R E : Type 0} (polls : ReaderPolls R E) (now : ℕ) (from to : Rising R) (before after : LinkView) (told : Told E) (rest : List ℕ) (b : Option Breach)
    → PollsUnless b polls now from to before after told → Rises to.last rest → Rises from.last (sequence_told told ++ rest)
one_more polls now from to before after told rest None poll later =
    joined from.last told rest
    (subst (λ t. Rises from.last (sequence_told t)) (sym poll.handed) (above_told from.last poll.answer))
    (subst (λ last. Rises last rest) poll.last later)
one_more {R = R} polls now from to before after told rest (Some breach) ended later =
    subst (λ t. Rises from.last (sequence_told t ++ rest)) (sym ended.0) (subst (λ (o : Rising R). Rises o.last rest) ended.1 later)

-- ---- all polls

polls_rise : {R E : Type 0} (polls : ReaderPolls R E) (from : Rising R) (answers : List (Told E)) → ArePolls polls from answers → Rises from.last (sequences_of answers)
polls_rise polls from [] are = tt
polls_rise polls from (told ∷ more) (now, to, before, after, poll, are) =
    one_more polls now from to before after told (sequences_of more) from.breach poll (polls_rise polls to more are)

-- however a rising reader is polled
pub rising_from : {R E : Type 0} (polls : ReaderPolls R E) (from : Rising R) → IsRisingFrom polls from
rising_from polls from answers are = rises_strictly from.last (sequences_of answers) (polls_rise polls from answers are)
