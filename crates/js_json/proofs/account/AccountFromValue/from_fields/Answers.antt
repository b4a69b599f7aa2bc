use Rattle.std.proofs.Common.{◌≡◌, rules}
use Rattle.std.specs.Prelude.{Err}
use Rattle.js_json_members.proofs.Gathered.{gathered_5}
use Rattle.js_json.specs.Account.{account_fields}
use Rattle.js_json.proofs.account.AccountFromValue.from_fields.Goals as goal

pub returns-in_err-used : goal.returns-in_err-used
unfolding account_fields
returns-in_err-used c =
    let is : c.from_residual.result ≡ Err c.in_err-used.field-0.0 = search rules in
    rw (is) (gathered_5 _ _ _ _ _ _ _ _ _ _ _ c.in_err-used.ensures.first c.read.ensures c.optional.ensures c.required.ensures c.required-2.ensures c.defaulted.ensures _)
