-- What is noted of yields, with one more.
use Rattle.std.proofs.Common.{◌≡◌, ℕ, ◌+◌, ◌==◌, Bool, true, false, List, [], ◌∷◌, ◌++◌, length, Option, Some, None, refl, sym, ap, subst, ◌∙◌, length-append, append_assoc, take, get_or, ◌<◌, arith}
use Rattle.std.proofs.lemmas.List.{take_more}
use Rattle.std.proofs.lemmas.List.Folds.{list_any-append}
use Rattle.std.specs.Prelude.{◌||◌, if◌then◌else◌, IfOk, Result, Ok, Err}
use Rattle.js_pull.specs.Reader.{u64_max}
use Rattle.js_ordered_table.specs.declared.run.Output.{Output}
use Rattle.js_ordered_table.specs.declared.run.Output.TheVariants as out
use Rattle.js_ordered_table.specs.Gapless.{Entry, yields}
use Rattle.js_event_log_sessions.specs.declared.mark.Mark.{Mark}
use Rattle.js_event_log_sessions.specs.Bookmark.{bookmark, has_last}
use Rattle.js_event_log_sessions.specs.SessionReplay.{after_yield, bookmark_within, mark_of}
use Rattle.js_event_log_sessions.proofs.Saves.{yields_append}
use Rattle.js_event_log_sessions.proofs.NextSession.{bookmark_append}

next_after : (had is : Bool) (at sequence : ℕ) → (sequence == u64_max) ≡ is → after_yield (if had then None else Some at) sequence ≡ (if had || (is || false) then None else Some (sequence + 1))
next_after true is at sequence same = refl
next_after false true at sequence same = ap (λ (b : Bool). if b then None else Some (sequence + 1)) same
next_after false false at sequence same = ap (λ (b : Bool). if b then None else Some (sequence + 1)) same

within_grows : (next : ℕ) (entries : List Entry) (entry : Entry) → after_yield (bookmark_within next entries) entry.sequence ≡ bookmark_within next (entries ++ entry ∷ [])
within_grows next entries entry =
    next_after (has_last entries) (entry.sequence == u64_max) (bookmark next entries) entry.sequence refl
    ∙ ap (λ (b : Bool). if b then None else Some (entry.sequence + 1)) (sym (list_any-append (λ (e : Entry). e.sequence == u64_max) entries (entry ∷ [])))
    ∙ ap (λ (at : ℕ). if has_last (entries ++ entry ∷ []) then None else Some at) (sym (bookmark_append next entries (entry ∷ [])))

one_more : (entries : List Entry) (entry : Entry) → length entries + 1 ≡ length (entries ++ entry ∷ [])
one_more entries entry = sym (simp length-append (omega arith))

-- one yield more
pub mark_grows : (next : ℕ) (entries : List Entry) (entry : Entry) (mark : Mark) → mark ≡ mark_of next entries
    → record { count = mark.count + 1; next = after_yield mark.next entry.sequence } ≡ mark_of next (entries ++ entry ∷ [])
mark_grows next entries entry mark is =
    ap (λ (m : Mark). record { count = m.count + 1; next = after_yield m.next entry.sequence }) is
    ∙ ap (λ (n : ℕ). record { count = n; next = after_yield (bookmark_within next entries) entry.sequence }) (one_more entries entry)
    ∙ ap (λ (at : Option ℕ). record { count = length (entries ++ entry ∷ []); next = at }) (within_grows next entries entry)

-- the yields of one output more
pub taken_more : (entries : List Entry) (outputs : List Output) (i : ℕ) (output : Output) → i < length outputs → output ≡ get_or outputs i output
    → (entries ++ yields (take i outputs)) ++ yields (output ∷ []) ≡ entries ++ yields (take (i + 1) outputs)
taken_more entries outputs i output within is =
    append_assoc entries (yields (take i outputs)) (yields (output ∷ []))
    ∙ ap (λ (more : List Entry). entries ++ more)
    (sym (yields_append (take i outputs) (output ∷ []))
    ∙ ap yields (sym (take_more outputs i output within ∙ ap (λ (o : Output). take i outputs ++ o ∷ []) (sym is))))

-- the same of a call that may find no memory
pub mark_after : {E : Type 0} (next : ℕ) (entries : List Entry) (entry : Entry) (mark : Mark) (result : Result Mark E) → mark ≡ mark_of next entries
    → IfOk result (λ m. m ≡ record { count = mark.count + 1; next = after_yield mark.next entry.sequence }) → IfOk result (λ m. m ≡ mark_of next (entries ++ entry ∷ []))
mark_after next entries entry mark (Ok m) is made = made ∙ mark_grows next entries entry mark is
mark_after next entries entry mark (Err e) is made = tt

pub mark_yield : {E : Type 0} (next : ℕ) (entries : List Entry) (output : Output) (sequence number : ℕ) (subject payload : List ℕ) (mark : Mark) (result : Result Mark E) → output ≡ out.Yield sequence number subject payload
    → mark ≡ mark_of next entries → IfOk result (λ m. m ≡ record { count = mark.count + 1; next = after_yield mark.next sequence }) → IfOk result (λ m. m ≡ mark_of next (entries ++ yields (output ∷ [])))
mark_yield {E} next entries output sequence number subject payload mark result yielded is made =
    let P : Output → Type 0 = λ (o : Output). IfOk result (λ m. m ≡ mark_of next (entries ++ yields (o ∷ []))) in
    subst P (sym yielded) (mark_after next entries (record { subject = subject; sequence = sequence; payload = payload }) mark result is made)
