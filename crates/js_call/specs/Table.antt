-- The rows of the table of calls.
use Rattle.std.specs.Prelude.{ℕ, List, Option, Some, None, Result, Err}
use Rattle.js_json_members.specs.Member.{Gives}
use Rattle.js_json_members.specs.declared.error.ReadError.{ReadError}
use Rattle.js_base.specs.declared.error.Source.{Source}
use Rattle.js_call.specs.declared.failure.Failure.{Failure}

-- a call's row
pub record Table (Self Reply Answer : Type 0) : Type 1 where
  pub refused : Self → Option Answer  -- what its arguments are refused with
  pub reads : List ℕ → Result Reply ReadError → Type 0  -- what a reply's body reads as
  pub means : Self → Reply → Answer  -- what the call answers to a reply
  pub fails : Self → Failure → Source → Answer  -- what it answers to a failure, and to its text as the source

-- a reply reads as a definition says
abbrev pub reads_as : {A : Type 0} → (List ℕ → Result A ReadError) → List ℕ → Result A ReadError → Type 0
reads_as definition payload read = Gives read (definition payload)

-- a refusal as an answer
abbrev pub refused_by : {A E : Type 0} → Option E → Option (Result A E)
refused_by None = None
refused_by (Some error) = Some (Err error)
