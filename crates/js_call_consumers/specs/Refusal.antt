-- What names are refused with, before anything is sent.
use Rattle.std.specs.Prelude.{ℕ, ◌&&◌, Option, Some, None, List, if◌then◌else◌}
use Rattle.js_codes.specs.Name.{is_name}
use Rattle.js_call_consumers.specs.declared.error.ConsumerErrorKind.{ConsumerErrorKind}
use Rattle.js_call_consumers.specs.declared.error.ConsumerErrorKind.TheVariants.{InvalidName, Other}

-- where a consumer is got, either name is an invalid one
abbrev pub get_refusal : List ℕ → List ℕ → Option ConsumerErrorKind
get_refusal consumer stream = if is_name consumer && is_name stream then None else Some InvalidName

-- where one is deleted, its own name is tested first, and the stream's name is refused with another kind
abbrev pub delete_refusal : List ℕ → List ℕ → Option ConsumerErrorKind
delete_refusal consumer stream =
    if is_name consumer then (if is_name stream then None else Some Other) else Some InvalidName
