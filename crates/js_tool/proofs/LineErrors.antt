-- Why a line does not read, as one line after another is passed.
use Rattle.std.proofs.Common.{◌≡◌, ℕ, List, [], ◌∷◌, ◌++◌, refl, subst, ◌∙◌}
use Rattle.std.specs.Prelude.{Option, Some, None, Result, Ok, Err}
use Rattle.js_json_members.specs.declared.error.ReadError.{ReadError}
use Rattle.js_tool_transcript.specs.declared.transcript.Unread.{Unread}
use Rattle.js_tool_transcript.specs.declared.transcript.Unread.TheVariants as unread
use Rattle.js_tool_transcript.specs.declared.transcript.lines.Lines.{Lines}
use Rattle.js_tool_transcript.specs.Event.{event_line_in}
use Rattle.js_tool.specs.Progress.{error_or, event_error, TellsError}

-- ---- a line before others

-- where it reads, the error is that of the others
pub goes_on : {A : Type 0} (r : Result A ReadError) (first rest behind : Option ReadError) → (first ≡ None → rest ≡ behind) → error_or r first ≡ None → error_or r rest ≡ behind
goes_on (Ok said) first rest behind onward none = onward none
goes_on (Err e) first rest behind onward never = absurd (cc)

-- and where it does not, it is its own
pub stays : {A : Type 0} (r : Result A ReadError) (first rest : Option ReadError) (e : ReadError) → (first ≡ Some e → rest ≡ Some e) → error_or r first ≡ Some e → error_or r rest ≡ Some e
stays (Ok said) first rest e onward is = onward is
stays (Err f) first rest e onward is = is

-- ---- lines before others

errors_go : (form : Lines) (front rest : List (List ℕ)) → event_error form front ≡ None → event_error form (front ++ rest) ≡ event_error form rest
errors_go form [] rest none = refl
errors_go form (line ∷ front) rest none = goes_on (event_line_in form line) (event_error form front) (event_error form (front ++ rest)) (event_error form rest) (errors_go form front rest) none

errors_stay : (form : Lines) (front rest : List (List ℕ)) (e : ReadError) → event_error form front ≡ Some e → event_error form (front ++ rest) ≡ Some e
errors_stay form [] rest e never = absurd (cc)
errors_stay form (line ∷ front) rest e is = stays (event_line_in form line) (event_error form front) (event_error form (front ++ rest)) e (errors_stay form front rest e) is

-- the lines in front read, so the error of all is that of those behind them
pub error_behind : (form : Lines) (all front rest : List (List ℕ)) → event_error form all ≡ event_error form (front ++ rest) → event_error form front ≡ None → event_error form all ≡ event_error form rest
error_behind form all front rest same none = same ∙ errors_go form front rest none

-- one of the lines in front does not read, so it is the first of all
pub error_in_front : (A B : Type 0) (form : Lines) (all front rest : List (List ℕ)) (told : Option ReadError) (u : Unread) → event_error form all ≡ event_error form (front ++ rest)
    → TellsError {A = A} (event_error form front) told (Err u) → TellsError {A = B} (event_error form all) told (Err u)
error_in_front A B form all front rest told unread.OutOfMemory same tells = tt
error_in_front A B form all front rest told (unread.BadLine n) same (e, is, error) = (e, is, same ∙ errors_stay form front rest e error)

-- a line that does not read tells its error
pub told_by : (A : Type 0) (error told : Option ReadError) (r : Result A Unread) (n : ℕ) → r ≡ Err (unread.BadLine n) → TellsError {A = A} error told r → (e : ReadError) × (told ≡ Some e) × (error ≡ Some e)
told_by A error told r n is tells = subst (λ (v : Result A Unread). TellsError {A = A} error told v) is tells
