-- Asking for an account: a row of the table of calls.
use Rattle.std.specs.Prelude.{None, codes, Result, Ok, Err}
use Rattle.js_base.specs.Error.{plain}
use Rattle.js_base.specs.declared.error.Error.{Error}
use Rattle.js_json_members.specs.Member.{float_free}
use Rattle.js_json.specs.Account.{account_fields}
use Rattle.js_json.specs.Response.{response_of}
use Rattle.js_json.specs.declared.account.Account.{Account}
use Rattle.js_json.specs.declared.response.Response.{Response}
use Rattle.js_json.specs.declared.response.Response.TheVariants as response
use Rattle.js_call.specs.declared.call.Call.{Call}
use Rattle.js_call.specs.declared.scope.ApiScope.{ApiScope}
use Rattle.js_call.specs.Call.{calling}
use Rattle.js_call.specs.Scope.{asking}
use Rattle.js_call.specs.Table.{Table, reads_as}
use Rattle.js_call_streams.specs.declared.account_error.AccountErrorKind.{AccountErrorKind}
use Rattle.js_call_streams.specs.declared.account_error.AccountErrorKind.TheVariants.{JetStream}
use Rattle.js_call_streams.specs.declared.account.QueryingAccount.{QueryingAccount}
use Rattle.js_call_streams.specs.AccountError.{account_failure}

-- the account, or the API's error
abbrev pub account_in : Response Account → Result Account (Error AccountErrorKind)
account_in (response.Ok account) = Ok account
account_in (response.Err error) = Err (plain (JetStream error))

-- the row of `query_account`
abbrev pub account_row : Table QueryingAccount (Response Account) (Result Account (Error AccountErrorKind))
account_row = record {
  refused = λ s. None;
  reads = reads_as (response_of (float_free account_fields));
  means = λ s reply. account_in reply;
  fails = λ s failure source. Err (account_failure failure source);
}

-- the call, which is not sent: it asks on `INFO` with an empty list
abbrev pub querying : ApiScope → Call QueryingAccount
querying scope = calling (record {}) (asking scope (codes "INFO") (codes "[]"))
