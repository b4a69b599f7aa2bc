-- Finding the stream that stores a subject: a row of the table of calls.
use Rattle.std.specs.Prelude.{ℕ, ◌≡◌, Option, Some, None, option_map, List, ◌++◌, codes, Result, Ok, Err, if◌then◌else◌}
use Rattle.serde_json.specs.Data.{Data}
use Rattle.js_base.specs.Error.{plain, caused}
use Rattle.js_base.specs.Subject.{is_valid_subject}
use Rattle.js_base.specs.declared.error.Error.{Error}
use Rattle.js_codes.specs.Errors.{api_source, error_text}
use Rattle.js_json_members.specs.Member.{float_free, text}
use Rattle.js_json_members.specs.Rows.{text_of}
use Rattle.js_json_members.specs.declared.error.ReadError.{ReadError}
use Rattle.js_json.specs.Response.{response_of}
use Rattle.js_json.specs.declared.response.Response.{Response}
use Rattle.js_json.specs.declared.response.Response.TheVariants as response
use Rattle.js_json_stream_bodies.specs.Page.{page_fields, names_request_value}
use Rattle.js_json_stream_bodies.specs.declared.stream.page.Page.{Page}
use Rattle.js_call.specs.declared.call.Call.{Call}
use Rattle.js_call.specs.declared.scope.ApiScope.{ApiScope}
use Rattle.js_call.specs.Call.{calling}
use Rattle.js_call.specs.Scope.{asking}
use Rattle.js_call.specs.Table.{Table, reads_as, refused_by}
use Rattle.js_call_streams.specs.declared.list_error.GetStreamByNameErrorKind.{GetStreamByNameErrorKind}
use Rattle.js_call_streams.specs.declared.list_error.GetStreamByNameErrorKind.TheVariants.{Request, NotFound, InvalidSubject, JetStream}
use Rattle.js_call_streams.specs.declared.find.SearchingStream.{SearchingStream}
use Rattle.js_call_streams.specs.Page.{items_of, first_given}

-- how a refusal is printed
abbrev pub find_text : GetStreamByNameErrorKind → List ℕ
find_text Request = codes "request error"
find_text NotFound = codes "stream not found"
find_text InvalidSubject = codes "invalid subject"
find_text (JetStream error) = codes "jetstream error: " ++ error_text error

-- what a subject is refused with, before anything is sent
abbrev pub find_refusal : List ℕ → Option GetStreamByNameErrorKind
find_refusal subject = if is_valid_subject subject then None else Some InvalidSubject

-- the first item, if there is one
abbrev pub first_or_none : Option (List ℕ) → Result (List ℕ) (Error GetStreamByNameErrorKind)
first_or_none (Some name) = Ok name
first_or_none None = Err (plain NotFound)

-- the first item of the list; an error of the API makes it an error item, and is its source
abbrev pub found : Response (Page (List ℕ)) → Result (List ℕ) (Error GetStreamByNameErrorKind)
found (response.Ok page) = first_or_none (first_given (items_of page.streams))
found (response.Err error) = Err (caused Request (api_source error))

-- the row of `stream_by_subject`
abbrev pub lookup_table : Table SearchingStream (Response (Page (List ℕ))) (Result (List ℕ) (Error GetStreamByNameErrorKind))
lookup_table = record {
  refused = λ s. refused_by (option_map plain (find_refusal s.subject));
  reads = reads_as (response_of (float_free (page_fields text)));
  means = λ s reply. found reply;
  fails = λ s failure source. Err (caused Request source);
}

-- what asks for the first page of the names of streams that store a subject
abbrev pub finding_request : List ℕ → Result Data ReadError
finding_request subject = names_request_value (record { offset = 0; subject = Some subject })

-- the call, which is not sent
pub record Finds (scope : ApiScope) (subject : List ℕ) (call : Call SearchingStream) : Type 0 where
  pub body : List ℕ
  pub asks : text_of (finding_request subject) ≡ Ok body
  pub same : call ≡ calling (record { subject = subject }) (asking scope (codes "STREAM.NAMES") body)
