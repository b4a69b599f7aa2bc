-- Answers that are made of others, one step after another.
use Rattle.std.proofs.Common.{◌≡◌, ℕ, Bool, true, false, Option, Some, None, Result, Ok, Err, is_some, refl, sym, ap, ◌∙◌, subst}
use Rattle.std.specs.Prelude.{ℤ, IsSome, if◌then◌else◌}
use Rattle.js_base.specs.declared.message.StatusCode.{StatusCode}
use Rattle.js_json_members.specs.Member.{Fails}
use Rattle.js_json_members.specs.declared.error.ReadError.{ReadError}
use Rattle.js_json_members.specs.declared.error.ReadError.TheVariants as faults
use Rattle.js_store_keys.specs.declared.entry.Entry.{Entry}
use Rattle.js_store_keys.specs.declared.get_error.GetError.{GetError}
use Rattle.js_store_keys.specs.declared.get_error.GetError.TheVariants.{Refused, Unreadable, OutOfMemory}
use Rattle.js_store_keys.specs.declared.stored_message.Stored.{Stored}
use Rattle.js_store_keys.specs.Answer.{Answers, AnswersAs, AnswersWhere, NeedsEntry, and_then, by_status, readable, status_or, unread_value}

answers_itself : {A : Type 0} (told : Result A GetError) → Answers told told
answers_itself (Ok value) = refl
answers_itself (Err (Refused code err_code)) = refl
answers_itself (Err Unreadable) = refl
answers_itself (Err OutOfMemory) = tt

-- what is told is answered
pub answers_same : {A : Type 0} (told result : Result A GetError) → result ≡ told → Answers told result
answers_same told result is = subst (λ r. Answers told r) (sym is) (answers_itself told)

-- an error of the first step is the answer
pub answers_err : {A B : Type 0} (told : Result A GetError) (next : A → Result B GetError) (e : GetError) → Answers told (Err e) → Answers (and_then told next) (Err e)
answers_err told next (Refused code err_code) is = ap (λ t. and_then t next) is
answers_err told next Unreadable is = ap (λ t. and_then t next) is
answers_err told next OutOfMemory is = tt

-- and its value goes to the next one
pub answers_next : {A B : Type 0} (told : Result A GetError) (next : A → Result B GetError) (value : A) (result : Result B GetError) → told ≡ Ok value → Answers (next value) result
    → Answers (and_then told next) result
answers_next told next value result is answers = subst (λ t. Answers (and_then t next) result) (sym is) answers

-- the same where the first step is seen by a view
pub answers_seen : {A B : Type 0} (view : A → B) (told : Result B GetError) (e : GetError) → AnswersAs view told (Err e) → Answers told (Err e)
answers_seen view told (Refused code err_code) is = is
answers_seen view told Unreadable is = is
answers_seen view told OutOfMemory is = tt

pub answers_seen_err : {A B C : Type 0} (view : A → B) (told : Result B GetError) (next : B → Result C GetError) (e : GetError) → AnswersAs view told (Err e)
    → Answers (and_then told next) (Err e)
answers_seen_err view told next e is = answers_err told next e (answers_seen view told e is)

-- what was told is another value's answer
pub answers_for : {A : Type 0} (told other result : Result A GetError) → told ≡ other → Answers other result → Answers told result
answers_for told other result is answers = subst (λ t. Answers t result) (sym is) answers

-- a fault of reading is unreadable, unless memory ran out
pub answers_fault : {A B : Type 0} (read : Result A ReadError) (by : Result A ReadError → Result B GetError) (fault : ReadError)
    → ((e : ReadError) → by (Err e) ≡ Err Unreadable) → Fails fault read → Answers (by read) (Err (unread_value fault))
answers_fault read by (faults.Missing key) unreadable is = ap by is ∙ unreadable (faults.Missing key)
answers_fault read by (faults.WrongKind key) unreadable is = ap by is ∙ unreadable (faults.WrongKind key)
answers_fault read by (faults.OutOfRange key) unreadable is = ap by is ∙ unreadable (faults.OutOfRange key)
answers_fault read by faults.Float unreadable is = ap by is ∙ unreadable faults.Float
answers_fault read by faults.NotJson unreadable is = ap by is ∙ unreadable faults.NotJson
answers_fault read by faults.OutOfMemory unreadable is = tt

-- ---- where memory is needed

-- it may be needed in any case
pub answers_where : {A : Type 0} (needs : Type 0) (told result : Result A GetError) → AnswersWhere needs told result → Answers told result
answers_where needs told (Ok value) is = is
answers_where needs told (Err (Refused code err_code)) is = is
answers_where needs told (Err Unreadable) is = is
answers_where needs told (Err OutOfMemory) is = tt

-- a value needs memory
pub put_needs_entry : (b : Bool) (entry : Entry) → b ≡ true → NeedsEntry (if b then Ok (Some entry) else Ok None)
put_needs_entry b entry is = subst (λ b. NeedsEntry (if b then Ok (Some entry) else Ok None)) (sym is) tt

-- ---- a direct answer

abbrev Direct : Result (Option Entry) GetError → Result (Option Entry) GetError → Type 0
Direct told result = AnswersWhere (NeedsEntry told) told result

by_test : (b : Bool) (code : ℕ) → Direct (if b then Ok None else Err (Refused code 0)) (if b then Ok None else Err (Refused code 0))
by_test true code = refl
by_test false code = refl

-- a status is told without memory
pub status_answers : (found : Option StatusCode) (status : StatusCode) (told result : Result (Option Entry) GetError) → found ≡ Some status → result ≡ by_status status
    → Direct (status_or found told) result
status_answers found status told result is answer =
    subst (λ o. Direct (status_or o told) result) (sym is) (subst (λ r. Direct (by_status status) r) (sym answer) (by_test _ status.0))

-- and a message as the entry that it is
pub stored_answers : (found : Option StatusCode) (read : Option Stored) (stored : Stored) (next : Stored → Result (Option Entry) GetError) (result : Result (Option Entry) GetError)
    → found ≡ None → read ≡ Some stored → Direct (next stored) result → Direct (status_or found (and_then (readable read) next)) result
stored_answers found read stored next result none is answers =
    subst (λ o. Direct (status_or o (and_then (readable read) next)) result) (sym none) (subst (λ s. Direct (and_then (readable s) next) result) (sym is) answers)

-- ---- an answer in JSON

-- a message that says where it stands
pub placed_answers : (read : Option (ℕ × ℤ)) (place : ℕ × ℤ) (next : ℕ × ℤ → Result (Option Entry) GetError) (result : Result (Option Entry) GetError) → read ≡ Some place
    → Answers (next place) result → AnswersWhere (IsSome read) (and_then (readable read) next) result
placed_answers read place next (Ok value) is answers = ap (λ p. and_then (readable p) next) is ∙ answers
placed_answers read place next (Err (Refused code err_code)) is answers = ap (λ p. and_then (readable p) next) is ∙ answers
placed_answers read place next (Err Unreadable) is answers = ap (λ p. and_then (readable p) next) is ∙ answers
placed_answers read place next (Err OutOfMemory) is answers = ap is_some is
