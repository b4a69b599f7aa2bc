-- What arguments are refused with, before anything is sent.
use Rattle.std.specs.Prelude.{ℕ, Bool, true, false, Option, Some, None, List, [], ◌∷◌, if◌then◌else◌}
use Rattle.js_codes.specs.Name.{is_name}
use Rattle.js_call_streams.specs.declared.error.GetStreamErrorKind.{GetStreamErrorKind}
use Rattle.js_call_streams.specs.declared.error.GetStreamErrorKind.TheVariants as gets
use Rattle.js_call_streams.specs.declared.error.CreateStreamErrorKind.{CreateStreamErrorKind}
use Rattle.js_call_streams.specs.declared.error.CreateStreamErrorKind.TheVariants as creates

-- what a name is refused with where a stream is got or deleted
abbrev pub get_refusal : List ℕ → Option GetStreamErrorKind
get_refusal [] = Some gets.EmptyName
get_refusal (c ∷ cs) = if is_name (c ∷ cs) then None else Some gets.InvalidStreamName

-- what a name is refused with where a stream is made or changed
abbrev pub name_refusal : List ℕ → Option CreateStreamErrorKind
name_refusal [] = Some creates.EmptyStreamName
name_refusal (c ∷ cs) = if is_name (c ∷ cs) then None else Some creates.InvalidStreamName

-- what a name is refused with, and then two places for one copied stream
abbrev pub create_refusal : Option CreateStreamErrorKind → Bool → Option CreateStreamErrorKind
create_refusal (Some kind) two_places = Some kind
create_refusal None true = Some creates.DomainAndExternalSet
create_refusal None false = None
