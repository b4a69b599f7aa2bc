-- What a worker's poll does to its link, and that a poll that may as well not be made does nothing.
use Rattle.std.proofs.Common.{◌≡◌, ℕ, Bool, true, false, List, Option, Some, None, Result, Ok, Err, refl, sym, ◌∙◌, ap, subst, inl, inr, ◌⊎◌, ⊎_elim}
use Rattle.js_base.specs.declared.turn.Next.{Next}
use Rattle.js_base.specs.declared.turn.Next.TheVariants as next
use Rattle.js_link.specs.LinkView.{LinkView}
use Rattle.js_message.specs.Acknowledgement.{Acks, ack_body}
use Rattle.js_message.specs.declared.ack_kind.AckKind.TheVariants.{Progress}
use Rattle.js_message.specs.declared.acker.AckError.{AckError}
use Rattle.js_message.specs.declared.acker.AckError.TheVariants as ack
use Rattle.js_message.specs.declared.message.Message.{Message}
use Rattle.js_readers.specs.Subscription.{Idles, IdlesIfQuiet, KeepsConnection}
use Rattle.js_readers.proofs.KeptConnections.{keeps_fails, keeps_publishes, keeps_same}
use Rattle.js_readers.proofs.IdlePolls.{false_true, idle_true, is_idle, is_pending, pending_true, stays_idle}
use Rattle.js_readers_worker.specs.Worker.{ExtendsIf, IsQuietAt, IsWorkerQuiet, ReaderPolls, TakesNext, Told, ack_of, due_at, job_after, job_due, told_by_ack, told_of, worker_due}
use Rattle.js_readers_worker.specs.declared.job.Job.{Job}
use Rattle.js_readers_worker.specs.declared.worker.Worker.{Worker}

-- ---- what it does to its link

acks_keep : (reply : Option (List ℕ)) (body : List ℕ) (result : Result (Unit {0}) AckError) (v u : LinkView) → Acks reply body result v u → KeepsConnection v u
acks_keep None body (Err ack.NoReply) v u same = keeps_same v u same
acks_keep (Some subject) body (Ok done) v u sends = keeps_publishes subject None body v u sends
acks_keep (Some subject) body (Err ack.LinkFailed) v u fails = keeps_fails v u fails
acks_keep (Some subject) body (Err ack.OutOfMemory) v u same = keeps_same v u same
acks_keep reply body result v u never = absurd never

pub extension_keeps : (due : Bool) (now ack_wait : ℕ) (old new : Job) (told : Option AckError) (v u : LinkView) → ExtendsIf due now ack_wait old new told v u → KeepsConnection v u
extension_keeps true now ack_wait old new told v u sends = acks_keep old.message.message.reply (ack_body Progress) (ack_of told) v u sends.0
extension_keeps false now ack_wait old new told v u none = keeps_same v u none.2

-- ---- with a message

idle_extension : (due : Bool) (now ack_wait : ℕ) (old new : Job) (told : Option AckError) (v u : LinkView) → due ≡ false → ExtendsIf due now ack_wait old new told v u
    → (told ≡ None) × (new ≡ old) × (u ≡ v)
idle_extension true now ack_wait old new told v u early sends = absurd (let never : true ≡ false = early in cc)
idle_extension false now ack_wait old new told v u early none = none

pub job_idles : {R E : Type 0} (due : ℕ → R → Bool) (quiet : R → LinkView → Type 0) (now : ℕ) (job later : Job) (old new : Worker R) (refused : Option AckError) (v u : LinkView) (told : Told E)
    → old.job ≡ Some job → ExtendsIf (job_due now job) now old.ack_wait job later refused v u → told ≡ told_by_ack refused → new ≡ record old { job = Some later }
    → IdlesIfQuiet (worker_due due) (IsWorkerQuiet quiet) now old new v u told
job_idles {R = R} {E = E} due quiet now job later old new refused v u told is extends told_is keeps early left =
    let early_job : job_due now job ≡ false = sym (ap (λ (j : Option Job). due_at j old.is_stopped now (due now old.reader)) is) ∙ early in
    let none = idle_extension (job_due now job) now old.ack_wait job later refused v u early_job extends in
    let same : new ≡ old = keeps ∙ ap (λ (j : Option Job). record old { job = j }) (ap Some none.1 ∙ sym is) in
    stays_idle (worker_due due) (IsWorkerQuiet quiet) old new v u told (told_is ∙ ap (told_by_ack {E = E}) none.0) same none.2 left

-- ---- without one

idle_told : {E : Type 0} (answer : Next (Result Message E)) → is_idle answer ≡ true → (told_of answer ≡ next.Pending) ⊎ (told_of answer ≡ next.OutOfMemory)
idle_told next.Pending is = inl refl
idle_told next.OutOfMemory is = inr refl
idle_told next.End is = absurd (false_true is)
idle_told (next.Item item) is = absurd (false_true is)

idle_below : {E : Type 0} (answer : Next (Result Message E)) → is_idle answer ≡ true → is_pending (told_of answer) ≡ true → answer ≡ next.Pending
idle_below next.Pending is e = refl
idle_below next.OutOfMemory is e = absurd (false_true e)
idle_below next.End is e = absurd (false_true is)
idle_below (next.Item item) is e = absurd (false_true is)

no_job : {E : Type 0} (now ack_wait : ℕ) (answer : Next (Result Message E)) → answer ≡ next.Pending → job_after now ack_wait answer ≡ None
no_job {E = E} now ack_wait answer is = ap (job_after {E = E} now ack_wait) is

-- what the subscription answered was told
pub take_polls : {R E : Type 0} (polls : ReaderPolls R E) (now : ℕ) (old new : Worker R) (reader : R) (v u : LinkView) (answer : Next (Result Message E)) (told : Told E)
    → polls now old.reader reader v u answer → told ≡ told_of answer → new ≡ record old { reader = reader; job = job_after now old.ack_wait answer } → TakesNext polls now old told new v u
take_polls {R = R} polls now old new reader v u answer told polled told_is begins =
    let is : new.reader ≡ reader = ap (λ (w : Worker R). w.reader) begins in
    record {
      answer = answer;
      polled = subst (λ (r : R). polls now old.reader r v u answer) (sym is) polled;
      is_told = told_is;
      begins = begins ∙ ap (λ (r : R). record old { reader = r; job = job_after now old.ack_wait answer }) (sym is);
    }

pub take_idles : {R E : Type 0} (due : ℕ → R → Bool) (quiet : R → LinkView → Type 0) (now : ℕ) (old new : Worker R) (reader : R) (v u : LinkView) (answer : Next (Result Message E)) (told : Told E)
    → old.job ≡ None → old.is_stopped ≡ false → IdlesIfQuiet due quiet now old.reader reader v u answer → told ≡ told_of answer
    → new ≡ record old { reader = reader; job = job_after now old.ack_wait answer } → IdlesIfQuiet (worker_due due) (IsWorkerQuiet quiet) now old new v u told
take_idles {R = R} {E = E} due quiet now old new reader v u answer told none goes_on idles told_is begins early left =
    let place : (d : Bool) → due_at old.job old.is_stopped now d ≡ d = λ d. ap (λ (j : Option Job). due_at j old.is_stopped now d) none ∙ ap (λ (s : Bool). due_at None s now d) goes_on in
    let left_below : quiet old.reader v =
    subst (λ (s : Bool). IsQuietAt None s (quiet old.reader v)) goes_on (subst (λ (j : Option Job). IsQuietAt j old.is_stopped (quiet old.reader v)) none left) in
    let below = idles (sym (place (due now old.reader)) ∙ early) left_below in
    let idle : is_idle answer ≡ true = idle_true answer below.answers in
    let waits : told ≡ next.Pending → answer ≡ next.Pending = λ e. idle_below answer idle (pending_true (told_of answer) (sym told_is ∙ e)) in
    let same : told ≡ next.Pending → new ≡ record old { reader = reader; job = None } = λ e.
    begins ∙ ap (λ (j : Option Job). record old { reader = reader; job = j }) (no_job now old.ack_wait answer (waits e)) in
    record {
      answers = subst (λ (t : Told E). (t ≡ next.Pending) ⊎ (t ≡ next.OutOfMemory)) (sym told_is) (idle_told answer idle);
      silent = below.silent;
      same = λ e. below.same (waits e);
      still_quiet = λ e.
          subst (λ (w : Worker R). IsWorkerQuiet quiet w u) (sym (same e))
          (subst (λ (s : Bool). IsQuietAt None s (quiet reader u)) (sym goes_on) (below.still_quiet (waits e)));
      still_due = λ e moment.
          ap (λ (w : Worker R). worker_due due moment w) (same e)
          ∙ ap (λ (s : Bool). due_at None s moment (due moment reader)) goes_on
          ∙ below.still_due (waits e) moment
          ∙ sym (ap (λ (j : Option Job). due_at j old.is_stopped moment (due moment old.reader)) none ∙ ap (λ (s : Bool). due_at None s moment (due moment old.reader)) goes_on);
    }

-- one that was stopped and has no message is at its end
pub ended_idles : {R E : Type 0} (due : ℕ → R → Bool) (quiet : R → LinkView → Type 0) (now : ℕ) (old new : Worker R) (v u : LinkView) (told : Told E) → old.job ≡ None → old.is_stopped ≡ true
    → IdlesIfQuiet (worker_due due) (IsWorkerQuiet quiet) now old new v u told
ended_idles due quiet now old new v u told none stopped early left =
    absurd (subst (λ (s : Bool). IsQuietAt None s (quiet old.reader v)) stopped (subst (λ (j : Option Job). IsQuietAt j old.is_stopped (quiet old.reader v)) none left))
