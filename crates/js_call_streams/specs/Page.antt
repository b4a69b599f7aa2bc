-- The pages of a list: how each is asked for, and what its reply means.
use Rattle.std.specs.Prelude.{ℕ, ◌≡◌, Option, Some, None, List, [], ◌∷◌, reverse, codes, Result, Ok, Err, refl}
use Rattle.serde_json.specs.Data.{Data, object}
use Rattle.js_base.specs.Error.{caused}
use Rattle.js_base.specs.declared.error.Error.{Error}
use Rattle.js_codes.specs.Errors.{api_source}
use Rattle.js_json_members.specs.Member.{Reads, float_free}
use Rattle.js_json_members.specs.Rows.{text_of, object_of, with_row, always, or_null}
use Rattle.js_json_members.specs.declared.error.ReadError.{ReadError}
use Rattle.js_json.specs.Response.{response_of}
use Rattle.js_json.specs.declared.response.Response.{Response}
use Rattle.js_json.specs.declared.response.Response.TheVariants as response
use Rattle.js_json_stream_bodies.specs.Page.{page_fields, names_request_value, list_request_value}
use Rattle.js_json_stream_bodies.specs.declared.stream.page.Page.{Page}
use Rattle.js_call.specs.declared.call.Call.{Call}
use Rattle.js_call.specs.declared.error.RequestErrorKind.{RequestErrorKind}
use Rattle.js_call.specs.declared.error.RequestErrorKind.TheVariants.{Other}
use Rattle.js_call.specs.declared.scope.ApiScope.{ApiScope}
use Rattle.js_call.specs.Call.{calling}
use Rattle.js_call.specs.Scope.{asking}
use Rattle.js_call.specs.Table.{Table, reads_as}
use Rattle.js_call_streams.specs.RequestBody.{HasJson}
use Rattle.js_call_streams.specs.declared.page.AskingPage.{AskingPage}

-- how the pages of a list are asked for: by which words, and by which body at an offset
pub record Lists : Type 0 where
  pub words : List ℕ
  pub request : ℕ → Result Data ReadError

-- the names of all streams
abbrev pub names_list : Lists
names_list = record {
  words = codes "STREAM.NAMES";
  request = λ offset. names_request_value (record { offset = offset; subject = None });
}

-- what the server knows of all streams
abbrev pub infos_list : Lists
infos_list = record {
  words = codes "STREAM.LIST";
  request = λ offset. list_request_value (record { offset = offset });
}

-- each page of either list has a request
pub names_are_asked : (offset : ℕ) → HasJson (names_list.request offset)
unfolding names_request_value object_of with_row always or_null
names_are_asked offset = (object _, refl)

pub infos_are_asked : (offset : ℕ) → HasJson (infos_list.request offset)
unfolding list_request_value object_of with_row always
infos_are_asked offset = (object _, refl)

-- the items of a page, of which a server may leave out all
abbrev pub items_of : {A : Type 0} → Option (List A) → List A
items_of None = []
items_of (Some items) = items

-- the first of a list
abbrev pub head_of : {A : Type 0} → List A → Option A
head_of [] = None
head_of (x ∷ xs) = Some x

-- the first item that a page hands out: pages are handed out from their ends
abbrev pub first_given : {A : Type 0} → List A → Option A
first_given items = head_of (reverse items)

-- a page; an error of the API is another error, and its source
abbrev pub page_in : {A : Type 0} → Response (Page A) → Result (Page A) (Error RequestErrorKind)
page_in (response.Ok page) = Ok page
page_in (response.Err error) = Err (caused Other (api_source error))

-- the row of the request for a page; whatever it fails with is another error, and its source
abbrev pub page_row : {A : Type 0} → Reads A → Table (AskingPage A) (Response (Page A)) (Result (Page A) (Error RequestErrorKind))
page_row reads = record {
  refused = λ s. None;
  reads = reads_as (response_of (float_free (page_fields reads)));
  means = λ s reply. page_in reply;
  fails = λ s failure source. Err (caused Other source);
}

-- the request for the page that begins at an offset, which is not sent
pub record AsksPage {A : Type 0} (lists : Lists) (scope : ApiScope) (offset : ℕ) (call : Call (AskingPage A)) : Type 0 where
  pub body : List ℕ
  pub text : text_of (lists.request offset) ≡ Ok body
  pub same : call ≡ calling (record { of = record {} }) (asking scope lists.words body)
