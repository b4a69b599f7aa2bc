use Rattle.std.proofs.Common.{rules, sym}
use Rattle.serde_json.specs.View.{view}
use Rattle.js_json_members.proofs.ValueCases.{value_found, value_floats, value_refused}
use Rattle.js_json_members.proofs.value.value_of.Goals as goal

pub returns-in-Err : goal.returns-in-Err
returns-in-Err c = value_refused c.args.bytes.now (λ utf8. c.in-Err.ensures.err (search rules) utf8)

pub returns-then-has_float : goal.returns-then-has_float
returns-then-has_float c = value_floats c.args.bytes.now (view c.in-Ok.value) c.in-Ok.ensures.ok.0 c.in-Ok.ensures.ok.1
    (sym c.if-has_float.ensures)

pub returns : goal.returns
returns c = value_found c.args.bytes.now (view c.in-Ok.value) c.in-Ok.ensures.ok.0 c.in-Ok.ensures.ok.1
    (sym c.if-has_float.ensures)
