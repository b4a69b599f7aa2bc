-- The acts of a worker follow each other in turn, by induction over its calls.
use Rattle.std.proofs.Common.{◌≡◌, ℕ, Bool, true, false, List, [], ◌∷◌, ◌++◌, Option, Some, None, Result, Ok, Err, refl, sym, ◌∙◌, ap, subst, inl, inr, ◌⊎◌, ⊎_elim}
use Rattle.std.specs.List.{AllByRecursion}
use Rattle.js_base.specs.declared.turn.Next.{Next}
use Rattle.js_base.specs.declared.turn.Next.TheVariants as next
use Rattle.js_link.specs.LinkView.{LinkView}
use Rattle.js_message.specs.declared.ack_kind.AckKind.{AckKind}
use Rattle.js_message.specs.declared.acker.AckError.{AckError}
use Rattle.js_message.specs.declared.acker.AckError.TheVariants as ack
use Rattle.js_message.specs.declared.message.Message.{Message}
use Rattle.js_readers_worker.specs.Worker.{ExtendsIf, PollsAt, ReaderPolls, SettlesAt, Told, after_extension, has_job, job_after, job_due, job_left, message_of, settled_by, told_of}
use Rattle.js_readers_worker.specs.WorkerRuns.{Act, Took, Extended, Released, Settled, IsFinal, InTurn, polled_acts, settled_acts, released_acts, extension_due, IsPolled, IsSettled, IsReleased, IsStopped, IsCall, Runs, joined, SettlesInTurn, is_taking, TakesNothing}
use Rattle.js_readers_worker.specs.declared.job.Job.{Job}
use Rattle.js_readers_worker.specs.declared.worker.Worker.{Worker}

-- ---- acts after acts

turn_then : (has : Option Message) (xs ys : List Act) (middle last : Option Message) → InTurn has xs middle → InTurn middle ys last → InTurn has (xs ++ ys) last
turn_then has [] ys middle last first then = subst (λ (m : Option Message). InTurn m ys last) first then
turn_then None (Took m ∷ xs) ys middle last first then = turn_then (Some m) xs ys middle last first then
turn_then (Some n) (Extended m ∷ xs) ys middle last (same, first) then = (same, turn_then (Some n) xs ys middle last first then)
turn_then (Some n) (Settled m kind ∷ xs) ys middle last (same, final, first) then = (same, final, turn_then None xs ys middle last first then)
turn_then (Some n) (Released m ∷ xs) ys middle last (same, first) then = (same, turn_then None xs ys middle last first then)
turn_then has (act ∷ xs) ys middle last first then = absurd first

-- ---- a poll

same_message : (told : Option AckError) (now ack_wait : ℕ) (job : Job) → (after_extension told now ack_wait job).message ≡ job.message
same_message None now ack_wait job = refl
same_message (Some ack.OutOfMemory) now ack_wait job = refl
same_message (Some e) now ack_wait job = refl

still_that : (due : Bool) (now ack_wait : ℕ) (old new : Job) (told : Option AckError) (v u : LinkView) → ExtendsIf due now ack_wait old new told v u → new.message ≡ old.message
still_that true now ack_wait old new told v u is = ap (λ (j : Job). j.message) is.1 ∙ same_message told now ack_wait old
still_that false now ack_wait old new told v u is = ap (λ (j : Job). j.message) is.1

extended_turn : {E : Type 0} (due : Bool) (told : Told E) (job later : Job) → later.message ≡ job.message → InTurn (Some job.message) (polled_acts (Some job) (Some later) due told) (Some later.message)
extended_turn true next.Pending job later same = (refl, ap Some same)
extended_turn true (next.Item item) job later same = ap Some same
extended_turn true next.End job later same = ap Some same
extended_turn true next.OutOfMemory job later same = ap Some same
extended_turn false told job later same = ap Some same

taken_turn : {E : Type 0} (answer : Next (Result Message E)) (now ack_wait : ℕ) (due : Bool) (told : Told E) (job : Option Job) → job ≡ job_after now ack_wait answer
    → InTurn None (polled_acts None job due told) (message_of job)
taken_turn {E = E} answer now ack_wait due told job is = subst (λ (j : Option Job). InTurn None (polled_acts None j due told) (message_of j)) (sym is) (by_answer answer)
  where
    by_answer : (answer : Next (Result Message E)) → InTurn None (polled_acts None (job_after now ack_wait answer) due told) (message_of (job_after now ack_wait answer))
    by_answer (next.Item (Ok message)) = refl
    by_answer (next.Item (Err e)) = refl
    by_answer next.Pending = refl
    by_answer next.End = refl
    by_answer next.OutOfMemory = refl

none_turn : {E : Type 0} (due : Bool) (told : Told E) (job : Option Job) → job ≡ None → InTurn None (polled_acts None job due told) (message_of job)
none_turn due told job is = subst (λ (j : Option Job). InTurn None (polled_acts None j due told) (message_of j)) (sym is) refl

polled_turn : {R E : Type 0} (polls : ReaderPolls R E) (had : Option Job) (is_stopped : Bool) (now : ℕ) (old : Worker R) (told : Told E) (new : Worker R) (v u : LinkView) → old.job ≡ had
    → PollsAt had is_stopped polls now old told new v u → InTurn (message_of had) (polled_acts had new.job (extension_due now had) told) (message_of new.job)
polled_turn {R = R} polls (Some job) is_stopped now old told new v u is e =
    subst (λ (j : Option Job). InTurn (Some job.message) (polled_acts (Some job) j (job_due now job) told) (message_of j)) (sym (ap (λ (w : Worker R). w.job) e.keeps))
    (extended_turn (job_due now job) told job e.later (still_that (job_due now job) now old.ack_wait job e.later e.refused v u e.extends))
polled_turn {R = R} polls None true now old told new v u is ended = none_turn false told new.job (ap (λ (w : Worker R). w.job) ended.1 ∙ is)
polled_turn {R = R} polls None false now old told new v u is takes = taken_turn takes.answer now old.ack_wait false told new.job (ap (λ (w : Worker R). w.job) takes.begins)

-- ---- a call that settles

left_turn : (kind : AckKind) (result : Result (Unit {0}) AckError) (job : Job) → IsFinal kind → InTurn (Some job.message) (settled_acts kind (Some job) (settled_by result)) (message_of (job_left result job))
left_turn kind (Ok done) job final = (refl, final, refl)
left_turn kind (Err ack.NoReply) job final = (refl, refl)
left_turn kind (Err e) job final = refl

settled_turn : {R : Type 0} (had : Option Job) (kind : AckKind) (old : Worker R) (result : Result Bool AckError) (new : Worker R) (v u : LinkView) → old.job ≡ had → IsFinal kind
    → SettlesAt had kind old result new v u → InTurn (message_of had) (settled_acts kind had result) (message_of new.job)
settled_turn {R = R} None kind old result new v u is final none =
    subst (λ (j : Option Job). message_of j ≡ None) (sym (ap (λ (w : Worker R). w.job) none.1 ∙ is)) refl
settled_turn {R = R} (Some job) kind old result new v u is final s =
    subst (λ (j : Option Job). InTurn (Some job.message) (settled_acts kind (Some job) result) (message_of j)) (sym (ap (λ (w : Worker R). w.job) s.leaves))
    (subst (λ (r : Result Bool AckError). InTurn (Some job.message) (settled_acts kind (Some job) r) (message_of (job_left s.ack job))) (sym s.told) (left_turn kind s.ack job final))

released_turn : (had : Option Job) → InTurn (message_of had) (released_acts had) None
released_turn None = refl
released_turn (Some job) = (refl, refl)

-- ---- each call

call_turn : {R E : Type 0} (polls : ReaderPolls R E) (acts : List Act) (old new : Worker R) → IsCall polls acts old new → InTurn (message_of old.job) acts (message_of new.job)
call_turn {R = R} {E = E} polls acts old new call = ⊎_elim by_poll (λ more. ⊎_elim by_settling (λ others. ⊎_elim by_release by_stop others) more) call
  where
    by_poll : IsPolled polls acts old new → InTurn (message_of old.job) acts (message_of new.job)
    by_poll p = subst (λ (a : List Act). InTurn (message_of old.job) a (message_of new.job)) (sym p.did) (polled_turn polls old.job old.is_stopped p.now old p.told new p.before p.after refl p.poll)

    by_settling : IsSettled acts old new → InTurn (message_of old.job) acts (message_of new.job)
    by_settling s = subst (λ (a : List Act). InTurn (message_of old.job) a (message_of new.job)) (sym s.did) (settled_turn old.job s.kind old s.result new s.before s.after refl s.final s.settles)

    by_release : IsReleased acts old new → InTurn (message_of old.job) acts (message_of new.job)
    by_release r =
        subst (λ (a : List Act). InTurn (message_of old.job) a (message_of new.job)) (sym r.did)
        (subst (λ (j : Option Job). InTurn (message_of old.job) (released_acts old.job) (message_of j)) (sym (ap (λ (w : Worker R). w.job) r.releases.leaves)) (released_turn old.job))

    by_stop : IsStopped acts old new → InTurn (message_of old.job) acts (message_of new.job)
    by_stop s =
        subst (λ (a : List Act). InTurn (message_of old.job) a (message_of new.job)) (sym s.did)
        (ap (λ (w : Worker R). message_of w.job) s.stops)

-- however a worker is called
pub settles_in_turn : {R E : Type 0} (polls : ReaderPolls R E) (first : Worker R) → SettlesInTurn polls first
settles_in_turn {R = R} polls first calls last runs = from first calls runs
  where
    from : (first : Worker R) (calls : List (List Act)) → Runs polls calls first last → InTurn (message_of first.job) (joined calls) (message_of last.job)
    from first [] same = ap (λ (w : Worker R). message_of w.job) same
    from first (acts ∷ calls) (middle, call, rest) =
        turn_then (message_of first.job) acts (joined calls) (message_of middle.job) (message_of last.job) (call_turn polls acts first middle call) (from middle calls rest)

-- ---- after it was stopped

-- no act is a taking
abbrev NoTaking : List Act → Type 0
NoTaking acts = AllByRecursion (λ act. is_taking act ≡ false) acts

no_taking_then : (xs ys : List Act) → NoTaking xs → NoTaking ys → NoTaking (xs ++ ys)
no_taking_then [] ys first then = then
no_taking_then (x ∷ xs) ys first then = (first.0, no_taking_then xs ys first.1 then)

extended_none : {E : Type 0} (due : Bool) (told : Told E) (job : Job) (later : Option Job) → NoTaking (polled_acts (Some job) later due told)
extended_none true next.Pending job later = (refl, tt)
extended_none true (next.Item item) job later = tt
extended_none true next.End job later = tt
extended_none true next.OutOfMemory job later = tt
extended_none false told job later = tt

polled_none : {R E : Type 0} (polls : ReaderPolls R E) (had : Option Job) (is_stopped : Bool) (now : ℕ) (old : Worker R) (told : Told E) (new : Worker R) (v u : LinkView) → old.job ≡ had → is_stopped ≡ true
    → PollsAt had is_stopped polls now old told new v u → NoTaking (polled_acts had new.job (extension_due now had) told) × (new.is_stopped ≡ old.is_stopped)
polled_none {R = R} polls (Some job) is_stopped now old told new v u is stopped e = (extended_none (job_due now job) told job new.job, ap (λ (w : Worker R). w.is_stopped) e.keeps)
polled_none {R = R} polls None true now old told new v u is stopped ended = (
  subst (λ (j : Option Job). NoTaking (polled_acts None j false told)) (sym (ap (λ (w : Worker R). w.job) ended.1 ∙ is)) tt,
  ap (λ (w : Worker R). w.is_stopped) ended.1,
)
polled_none polls None false now old told new v u is stopped takes = absurd (let never : false ≡ true = stopped in cc)

settled_none : (kind : AckKind) (had : Option Job) (result : Result Bool AckError) → NoTaking (settled_acts kind had result)
settled_none kind None result = tt
settled_none kind (Some job) (Ok done) = (refl, tt)
settled_none kind (Some job) (Err ack.NoReply) = (refl, tt)
settled_none kind (Some job) (Err e) = tt

settled_still : {R : Type 0} (had : Option Job) (kind : AckKind) (old : Worker R) (result : Result Bool AckError) (new : Worker R) (v u : LinkView) → SettlesAt had kind old result new v u → new.is_stopped ≡ old.is_stopped
settled_still {R = R} None kind old result new v u none = ap (λ (w : Worker R). w.is_stopped) none.1
settled_still {R = R} (Some job) kind old result new v u s = ap (λ (w : Worker R). w.is_stopped) s.leaves

released_none : (had : Option Job) → NoTaking (released_acts had)
released_none None = tt
released_none (Some job) = (refl, tt)

call_none : {R E : Type 0} (polls : ReaderPolls R E) (acts : List Act) (old new : Worker R) → old.is_stopped ≡ true → IsCall polls acts old new → NoTaking acts × (new.is_stopped ≡ true)
call_none {R = R} {E = E} polls acts old new stopped call = ⊎_elim by_poll (λ more. ⊎_elim by_settling (λ others. ⊎_elim by_release by_stop others) more) call
  where
    by_poll : IsPolled polls acts old new → NoTaking acts × (new.is_stopped ≡ true)
    by_poll p =
        let none = polled_none polls old.job old.is_stopped p.now old p.told new p.before p.after refl stopped p.poll in
        (subst NoTaking (sym p.did) none.0, none.1 ∙ stopped)

    by_settling : IsSettled acts old new → NoTaking acts × (new.is_stopped ≡ true)
    by_settling s = (subst NoTaking (sym s.did) (settled_none s.kind old.job s.result), settled_still old.job s.kind old s.result new s.before s.after s.settles ∙ stopped)

    by_release : IsReleased acts old new → NoTaking acts × (new.is_stopped ≡ true)
    by_release r = (subst NoTaking (sym r.did) (released_none old.job), ap (λ (w : Worker R). w.is_stopped) r.releases.leaves ∙ stopped)

    by_stop : IsStopped acts old new → NoTaking acts × (new.is_stopped ≡ true)
    by_stop s = (subst NoTaking (sym s.did) tt, ap (λ (w : Worker R). w.is_stopped) s.stops)

-- however a worker that was stopped is called
pub takes_nothing : {R E : Type 0} (polls : ReaderPolls R E) (first : Worker R) → first.is_stopped ≡ true → TakesNothing polls first
takes_nothing {R = R} polls first stopped calls last runs = from first calls stopped runs
  where
    from : (first : Worker R) (calls : List (List Act)) → first.is_stopped ≡ true → Runs polls calls first last → NoTaking (joined calls)
    from first [] stopped same = tt
    from first (acts ∷ calls) stopped (middle, call, rest) =
        let one = call_none polls acts first middle stopped call in
        no_taking_then acts (joined calls) one.0 (from middle calls one.1 rest)
