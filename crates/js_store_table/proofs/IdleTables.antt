-- A table that is left alone waits exactly where its reader does.
use Rattle.std.proofs.Common.{◌≡◌, ℕ, Bool, true, false, Option, Some, None, Result, Ok, Err, refl, sym, ◌∙◌, ap, subst, inl, inr, ◌⊎◌}
use Rattle.js_base.specs.declared.message.Message.{Message}
use Rattle.js_base.specs.declared.turn.Next.{Next}
use Rattle.js_base.specs.declared.turn.Next.TheVariants as next
use Rattle.js_link.specs.LinkView.{LinkView}
use Rattle.js_message.specs.declared.message.Message as delivered
use Rattle.js_readers.specs.Subscription.{IdlesIfQuiet}
use Rattle.js_readers.proofs.IdlePolls.{false_true, is_idle, is_pending, idle_true}
use Rattle.js_store_table.specs.declared.table.Table.{Table}
use Rattle.js_store_table.specs.declared.table_rows.BucketKeys.{BucketKeys}
use Rattle.js_store_table.specs.Table.{IsTableQuiet, ReaderPolls, ReadsNext, TellsAnswer, Told, due_with, table_due}

-- what is told where the reader waits or lacks memory, and no message is kept then
record TellsNothing {E : Type 0} (answer : Next (Result delivered.Message E)) (kept : Option Message) (told : Told E) : Type 0 where
  answers : (told ≡ next.Pending) ⊎ (told ≡ next.OutOfMemory)
  waits : told ≡ next.Pending → answer ≡ next.Pending
  none : kept ≡ None

lacks_no_wait : {T U : Type 0} (told : Next T) (answer : Next U) → told ≡ next.OutOfMemory → told ≡ next.Pending → answer ≡ next.Pending
lacks_no_wait told answer lacks waits = absurd (false_true (ap is_pending (sym lacks ∙ waits)))

told_same : {E : Type 0} (bucket : BucketKeys) (answer : Next (Result delivered.Message E)) (kept : Option Message) (told : Told E)
    → is_idle answer ≡ true → TellsAnswer bucket answer kept told → TellsNothing answer kept told
told_same bucket next.Pending kept told is tells = record { answers = inl tells.0; waits = λ e. refl; none = tells.1 }
told_same bucket next.OutOfMemory kept told is tells = record { answers = inr tells.0; waits = lacks_no_wait told next.OutOfMemory tells.0; none = tells.1 }
told_same bucket next.End kept told is tells = absurd (false_true is)
told_same bucket (next.Item item) kept told is tells = absurd (false_true is)

pub table_idles : {R E : Type 0} (due : ℕ → R → Bool) (quiet : R → LinkView → Type 0) (now : ℕ) (old new : Table R) (reader : R) (v u : LinkView)
    (answer : Next (Result delivered.Message E)) (told : Told E) → old.unread ≡ None → IdlesIfQuiet due quiet now old.reader reader v u answer → new.reader ≡ reader
    → TellsAnswer old.rows.bucket answer new.unread told → IdlesIfQuiet (table_due due) (IsTableQuiet quiet) now old new v u told
table_idles {R = R} due quiet now old new reader v u answer told none idles is tells early left =
    let below = idles (sym (ap (λ (m : Option Message). due_with m (due now old.reader)) none) ∙ early) left in
    let nothing = told_same old.rows.bucket answer new.unread told (idle_true answer below.answers) tells in
    record {
      answers = nothing.answers;
      silent = below.silent;
      same = λ e. below.same (nothing.waits e);
      still_quiet = λ e. subst (λ (r : R). quiet r u) (sym is) (below.still_quiet (nothing.waits e));
      still_due = λ e moment.
          ap (λ (m : Option Message). due_with m (due moment new.reader)) nothing.none
          ∙ ap (due moment) is
          ∙ below.still_due (nothing.waits e) moment
          ∙ sym (ap (λ (m : Option Message). due_with m (due moment old.reader)) none);
    }

-- one that keeps a message is due
pub kept_is_due : {R A : Type 0} (due : ℕ → R → Bool) (quiet : R → LinkView → Type 0) (now : ℕ) (old new : Table R) (v u : LinkView) (told : Next A) (message : Message)
    → old.unread ≡ Some message → IdlesIfQuiet (table_due due) (IsTableQuiet quiet) now old new v u told
kept_is_due due quiet now old new v u told message kept early left =
    absurd (false_true (sym early ∙ ap (λ (m : Option Message). due_with m (due now old.reader)) kept))

-- one that keeps no message is what it was, once that is looked at
pub idles_as : {R A : Type 0} (due : ℕ → R → Bool) (quiet : R → LinkView → Type 0) (now : ℕ) (old looked new : Table R) (v u : LinkView) (told : Next A)
    → looked.reader ≡ old.reader → looked.unread ≡ old.unread → IdlesIfQuiet (table_due due) (IsTableQuiet quiet) now looked new v u told
    → IdlesIfQuiet (table_due due) (IsTableQuiet quiet) now old new v u told
idles_as {R = R} due quiet now old looked new v u told reader unread idles early left =
    let same_due : (moment : ℕ) → table_due due moment looked ≡ table_due due moment old = λ moment.
    ap (λ (m : Option Message). due_with m (due moment looked.reader)) unread ∙ ap (λ (r : R). due_with old.unread (due moment r)) reader in
    let one = idles (same_due now ∙ early) (subst (λ (r : R). quiet r v) (sym reader) left) in
    record {
      answers = one.answers;
      silent = one.silent;
      same = one.same;
      still_quiet = one.still_quiet;
      still_due = λ e moment. one.still_due e moment ∙ same_due moment;
    }

-- what the reader answered was told
pub table_reads : {R E : Type 0} (polls : ReaderPolls R E) (now : ℕ) (old new : Table R) (reader : R) (v u : LinkView) (answer : Next (Result delivered.Message E)) (told : Told E)
    → polls now old.reader reader v u answer → new.reader ≡ reader → TellsAnswer old.rows.bucket answer new.unread told → ReadsNext polls now old new v u told
table_reads {R = R} polls now old new reader v u answer told polled is tells =
    (answer, subst (λ (r : R). polls now old.reader r v u answer) (sym is) polled, tells)
