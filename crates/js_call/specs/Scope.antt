-- Where requests go, and how long they are waited for.
use Rattle.std.specs.Prelude.{ℕ, ◌≡◌, Bool, true, false, Option, Some, None, List, [], ◌++◌, codes}
use Rattle.serde_json.specs.Data.{Data}
use Rattle.serde_json.specs.Written.{has_float, compact_text}
use Rattle.js_call.specs.declared.raw_call.RawCall.{RawCall}
use Rattle.js_call.specs.declared.raw_request.RawRequest.{RawRequest}
use Rattle.js_call.specs.declared.scope.ApiScope.{ApiScope}

-- a subject under a prefix
abbrev pub under : List ℕ → List ℕ → List ℕ
under prefix subject = prefix ++ (codes "." ++ subject)

-- the context's timeout as one of a request's own
abbrev pub own_of : Option ℕ → Option (Option ℕ)
own_of None = None
own_of (Some wait) = Some (Some wait)

abbrev pub context_timeout : ApiScope → Option (Option ℕ)
context_timeout scope = own_of scope.timeout

-- a request's own timeout, and else its context's
abbrev pub own_or : Option (Option ℕ) → Option (Option ℕ) → Option (Option ℕ)
own_or None context = context
own_or (Some own) context = Some own

-- the request with its context's timeout, where it has none of its own
abbrev pub applied : ApiScope → RawRequest → RawRequest
applied scope request = record request { timeout = own_or request.timeout (context_timeout scope) }

-- the context's timeout, or none where only the connection has one, or else ten seconds
abbrev pub recovery_timeout : Option ℕ → Option ℕ → Option ℕ
recovery_timeout (Some own) connection = Some own
recovery_timeout None (Some wait) = None
recovery_timeout None None = Some 10_000_000_000

-- a body, which is empty where there is none
abbrev pub body_of : Option (List ℕ) → List ℕ
body_of None = []
body_of (Some body) = body

-- a request under the prefix with a body, which is not sent
abbrev pub asking : ApiScope → List ℕ → List ℕ → RawCall
asking scope subject body = record {
  subject = under scope.prefix subject;
  headers = None;
  payload = body;
  timeout = context_timeout scope;
  is_tested = true;
  sent = None;
}

-- a request on a subject that stands for itself, which is not sent
abbrev pub raw_asking : ApiScope → List ℕ → RawRequest → RawCall
raw_asking scope subject request = record {
  subject = subject;
  headers = request.headers;
  payload = body_of request.payload;
  timeout = own_or request.timeout (context_timeout scope);
  is_tested = true;
  sent = None;
}

-- the bytes are the compact text of a value; how a float is written is left open
abbrev pub IsTextOf : Data → List ℕ → Type 0
IsTextOf value text = has_float value ≡ false → text ≡ compact_text value

-- a request under the prefix whose body is a value's text, which is not sent
pub record Calling (scope : ApiScope) (subject : List ℕ) (value : Data) (tested : Bool) (call : RawCall) : Type 0 where
  pub body : IsTextOf value call.payload
  pub same : call ≡ record (asking scope subject call.payload) { is_tested = tested }
