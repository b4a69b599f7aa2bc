-- What a row meets is fixed by a link that tells what the row asks for. What the link is after it is not: a request that is made may be answered at once or not.
use Rattle.std.proofs.Common.{◌≡◌, ℕ, Bool, true, false, List, [], ◌∷◌, length, Option, Some, None, refl, sym, ap, ap₂, ◌∙◌, subst, arith}
use Rattle.std.specs.Prelude.{◌≢◌, ⊤, IfSome, slice_get}
use Rattle.js_base.specs.declared.message.Message.{Message}
use Rattle.js_link.specs.declared.memory.MemoryLink.{MemoryLink}
use Rattle.js_link.specs.declared.memory.Request.{Request}
use Rattle.js_link.specs.declared.memory.Request.TheVariants as requests
use Rattle.js_link.specs.declared.wish.Met.{Met}
use Rattle.js_link.specs.declared.wish.Met.TheVariants.{Unasked, GoneOut, Refused, Dropped, Requested, Opened, Empty, Shut, Took, Waiting, Gone, Got, Stands, WatchOver}
use Rattle.js_link.specs.declared.wish.Wish.{Wish}
use Rattle.js_link.specs.declared.wish.Wish.TheVariants.{Nothing, Publishes, Requests, OpensInbox, Drops, Reads, Awaits, Watches}
use Rattle.js_link.specs.LinkView.{LinkView, Numbers, Status, Answered, with_first}
use Rattle.js_link.specs.Meets.{Meets}
use Rattle.js_link.specs.Memory.{memory_numbers, memory_view, messages_at, reply_of, request_at, status_of}
use Rattle.js_link.specs.Offer.{got, took}
use Rattle.js_link.specs.RowInput.{RowInput}
use Rattle.js_link.specs.Wish.{row_input, watch_met}
use Rattle.js_ordered_table.specs.Consumer.{Matter}
use Rattle.js_ordered_table.specs.Poll.{IsMet, poll_wish}
use Rattle.js_ordered_table.specs.Walk.{IsStride, Position, Stride, handed, step, walk}
use Rattle.js_ordered_table.specs.Wishes.{matter_of}
use Rattle.js_ordered_table.specs.declared.consumer.ReplayInput.{ReplayInput}
use Rattle.js_ordered_stream.specs.FixedRows.{FixesRows, IsCounted, TellsAll, TellsAlong, TellsFor, links_before, links_of}
use Rattle.js_ordered_stream.specs.WorkedLink.{answer_in, first_in, numbers_in}

-- what goes through where the link is up
abbrev by_up : Option Bool → Met → Met
by_up (Some true) met = met
by_up up met = Refused

abbrev by_open : Bool → Met → Met
by_open true met = met
by_open false met = Shut

-- what is met then
abbrev fixed_met : Wish → LinkView → Met
fixed_met Nothing v = Unasked
fixed_met (Publishes subject reply payload) v = by_up v.up GoneOut
fixed_met (Requests subject payload) v = by_up v.up (Requested (numbers_in v.numbers).request)
fixed_met OpensInbox v = by_up v.up (Opened (numbers_in v.numbers).inbox ((numbers_in v.numbers).inbox_subject (numbers_in v.numbers).inbox))
fixed_met (Drops inbox) v = Dropped
fixed_met (Reads inbox) v = by_open (v.is_open inbox) (took (first_in (v.buffer inbox)))
fixed_met (Awaits request) v = got (answer_in (v.status request) (v.reply request))
fixed_met Watches v = watch_met v.watch

goes_up : (up : Option Bool) (met : Met) → up ≢ None → up ≢ Some false → met ≡ by_up up met
goes_up None met told other = absurd (told refl)
goes_up (Some true) met told other = refl
goes_up (Some false) met told other = absurd (other refl)

goes_down : (up : Option Bool) (met : Met) → up ≢ Some true → Refused ≡ by_up up met
goes_down None met other = refl
goes_down (Some true) met other = absurd (other refl)
goes_down (Some false) met other = refl

next_request : (numbers : Option Numbers) (number : ℕ) → numbers ≢ None → IfSome numbers (λ n. number ≡ n.request) → number ≡ (numbers_in numbers).request
next_request None number told next = absurd (told refl)
next_request (Some n) number told next = next

next_inbox : (numbers : Option Numbers) (inbox : ℕ) → numbers ≢ None → IfSome numbers (λ n. inbox ≡ n.inbox) → inbox ≡ (numbers_in numbers).inbox
next_inbox None inbox told next = absurd (told refl)
next_inbox (Some n) inbox told next = next

next_subject : (numbers : Option Numbers) (inbox : ℕ) (subject : List ℕ) → numbers ≢ None → IfSome numbers (λ n. subject ≡ n.inbox_subject inbox) → subject ≡ (numbers_in numbers).inbox_subject inbox
next_subject None inbox subject told named = absurd (told refl)
next_subject (Some n) inbox subject told named = named

-- of a buffer that is told, the first message is taken
first_taken : (buffer rest : Option (List Message)) (message : Message) → buffer ≢ None → buffer ≡ with_first message rest → Took message ≡ took (first_in buffer)
first_taken buffer None message told is = absurd (told is)
first_taken buffer (Some rest) message told is = ap (λ (b : Option (List Message)). took (first_in b)) (sym is)

some_told : (reply : Option Message) (message : Message) → reply ≢ None → IfSome reply (λ m. m ≡ message) → Got message ≡ got (Some reply)
some_told None message told is = absurd (told refl)
some_told (Some other) message told is = ap (λ (m : Message). Got m) (sym is)

-- what is met is that
met_fixed : (wish : Wish) (met : Met) (old new : LinkView) → IsCounted old → TellsFor wish old → Meets wish met old new → met ≡ fixed_met wish old
met_fixed Nothing Unasked old new counted told h = refl
met_fixed (Publishes subject reply payload) GoneOut old new counted told h = goes_up old.up GoneOut told h.not_down
met_fixed (Publishes subject reply payload) Refused old new counted told h = goes_down old.up GoneOut h.not_up
met_fixed (Requests subject payload) (Requested number) old new counted told h =
    ap (λ (n : ℕ). Requested n) (next_request old.numbers number told.1 h.next) ∙ goes_up old.up (Requested (numbers_in old.numbers).request) told.0 h.not_down
met_fixed (Requests subject payload) Refused old new counted told h = goes_down old.up _ h.not_up
met_fixed OpensInbox (Opened inbox subject) old new counted told h =
    let is : inbox ≡ (numbers_in old.numbers).inbox = next_inbox old.numbers inbox told.1 h.opens.next in
    ap (λ (name : List ℕ). Opened inbox name) (next_subject old.numbers inbox subject told.1 h.named)
    ∙ ap (λ (i : ℕ). Opened i ((numbers_in old.numbers).inbox_subject i)) is
    ∙ goes_up old.up (Opened (numbers_in old.numbers).inbox ((numbers_in old.numbers).inbox_subject (numbers_in old.numbers).inbox)) told.0 h.opens.not_down
met_fixed OpensInbox Refused old new counted told h = goes_down old.up _ h.not_up
met_fixed (Drops inbox) Dropped old new counted told h = refl
met_fixed (Reads inbox) (Took message) old new counted told h =
    first_taken (old.buffer inbox) (new.buffer inbox) message told h.first ∙ ap (λ (b : Bool). by_open b (took (first_in (old.buffer inbox)))) (sym h.was_open)
met_fixed (Reads inbox) Empty old new counted told h =
    ap took (sym (counted inbox h.2)) ∙ ap (λ (b : Bool). by_open b (took (first_in (old.buffer inbox)))) (sym h.1)
met_fixed (Reads inbox) Shut old new counted told h = ap (λ (b : Bool). by_open b (took (first_in (old.buffer inbox)))) (sym h.1)
met_fixed (Awaits request) (Got reply) old new counted told h =
    some_told (old.reply request) reply (told h.had_come) h.told ∙ ap (λ (s : Status). got (answer_in s (old.reply request))) (sym h.had_come)
met_fixed (Awaits request) Gone old new counted told h = ap (λ (s : Status). got (answer_in s (old.reply request))) (sym h.1)
met_fixed (Awaits request) Waiting old new counted told h = ap (λ (s : Status). got (answer_in s (old.reply request))) (sym h.1)
met_fixed Watches (Stands state) old new counted told h = ap watch_met (sym h.1)
met_fixed Watches WatchOver old new counted told h = ap watch_met (sym h.1)
met_fixed _ met old new counted told h = absurd h

-- so two links that do what one row asks, from one view, give it the same
pub meets_same : (wish : Wish) (one other : Met) (old new after : LinkView) → IsCounted old → TellsFor wish old → Meets wish one old new → Meets wish other old after → one ≡ other
meets_same wish one other old new after counted told first second = met_fixed wish one old new counted told first ∙ sym (met_fixed wish other old after counted told second)

-- ---- a walk

-- these rows are passed one after the other, where the link was these before each of them
abbrev IsWalkOver : ReplayInput → ℕ → List LinkView → List Stride → Position → Type 0
IsWalkOver g now [] [] at = ⊤
IsWalkOver g now (v ∷ views) (stride ∷ strides) at =
    ((met : Met) × (after : LinkView) × IsStride now (poll_wish g at) met stride × Meets (poll_wish g at) met v after)
    × IsWalkOver g now views strides (step g stride at).position
IsWalkOver g now views strides at = ⊥

-- what a poll meets is a walk over the links that it found
met_over : (g : ReplayInput) (now : ℕ) (strides : List Stride) (at : Position) (before after : LinkView) (met : IsMet g now Meets strides at before after)
    → IsWalkOver g now (links_before g now Meets strides at before after met) strides at
met_over g now [] at before after met = tt
met_over g now (stride ∷ strides) at before after met = ((met.0, met.1, met.2, met.4), met_over g now strides (step g stride at).position met.1 after met.5)

stride_same : (now : ℕ) (wish : Wish) (one other : Met) (first second : Stride) → one ≡ other → IsStride now wish one first → IsStride now wish other second → first ≡ second
stride_same now wish one other first second same is_first is_second =
    ap₂ (λ (p : RowInput) (m : Matter). record { passing = p; matter = m })
    (is_first.passing ∙ ap (row_input now) same ∙ sym is_second.passing)
    (is_first.matter ∙ ap (matter_of wish) same ∙ sym is_second.matter)

-- two walks over the same links are the same
walks_same : (g : ReplayInput) (now : ℕ) (views : List LinkView) (first second : List Stride) (at : Position)
    → TellsAlong g views first at → IsWalkOver g now views first at → IsWalkOver g now views second at → first ≡ second
walks_same g now [] [] [] at told one other = refl
walks_same g now [] [] (stride ∷ strides) at told one other = absurd other
walks_same g now [] (stride ∷ strides) second at told one other = absurd one
walks_same g now (v ∷ views) [] second at told one other = absurd one
walks_same g now (v ∷ views) (stride ∷ strides) [] at told one other = absurd other
walks_same g now (v ∷ views) (stride ∷ strides) (twin ∷ twins) at (counted, tells, told) ((met, after, is, meets), rest) ((met', after', is', meets'), rest') =
    let same : stride ≡ twin = stride_same now (poll_wish g at) met met' stride twin (meets_same (poll_wish g at) met met' v after after' counted tells meets meets') is is' in
    let more : strides ≡ twins = walks_same g now views strides twins (step g stride at).position told rest (subst (λ (s : Stride). IsWalkOver g now views twins (step g s at).position) (sym same) rest') in
    ap₂ (λ (s : Stride) (rows : List Stride). s ∷ rows) same more

-- so two polls that found the same links passed the same rows, and handed out the same
pub rows_fixed : (g : ReplayInput) → FixesRows g
rows_fixed g now old one two before after start end first second poll other links told =
    let there : IsWalkOver g now (links_of g now Meets old two start end second other) other.strides old = met_over g now other.strides old start other.between other.met in
    let same : poll.strides ≡ other.strides =
    walks_same g now (links_of g now Meets old one before after first poll) poll.strides other.strides old told
    (met_over g now poll.strides old before poll.between poll.met)
    (subst (λ (views : List LinkView). IsWalkOver g now views other.strides old) (sym links) there) in
    (same, sym poll.out ∙ ap (λ (strides : List Stride). handed (walk g strides old).outputs) same ∙ other.out)

-- ---- a link in memory

memory_counted : (m : MemoryLink) → IsCounted (memory_view m)
memory_counted m inbox none = no_first (messages_at (slice_get m.inboxes.items inbox)) none
  where
    no_first : (messages : List Message) → length messages ≡ 0 → first_in (Some messages) ≡ None
    no_first [] none = refl
    no_first (message ∷ messages) none = absurd (omega (arith, none))

reply_there : (request : Option Request) → status_of request ≡ Answered → reply_of request ≢ None
reply_there None answered = λ e. let h = answered in cc
reply_there (Some requests.Waits) answered = λ e. let h = answered in cc
reply_there (Some (requests.Answered message)) answered = λ e. let h = e in cc
reply_there (Some requests.Ended) answered = λ e. let h = answered in cc

is_some : {A : Type 0} (x : A) → Some x ≢ None
is_some x e = cc

-- it tells whatever a row may ask for
pub memory_tells : (m : MemoryLink) → TellsAll (memory_view m)
memory_tells m = (memory_counted m, tells)
  where
    tells : (wish : Wish) → TellsFor wish (memory_view m)
    tells (Publishes subject reply payload) = is_some m.up
    tells (Requests subject payload) = (is_some m.up, is_some (memory_numbers m))
    tells OpensInbox = (is_some m.up, is_some (memory_numbers m))
    tells (Reads inbox) = is_some (messages_at (slice_get m.inboxes.items inbox))
    tells (Awaits request) = reply_there (request_at m.requests.items request)
    tells Nothing = tt
    tells (Drops inbox) = tt
    tells Watches = tt
