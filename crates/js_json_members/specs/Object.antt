-- What an object holds while it is built.
use Rattle.std.specs.Prelude.{Result}
use Rattle.serde_json.specs.Data.{Members}
use Rattle.serde_json.specs.View.{members_view}
use Rattle.serde_json.specs.Written.{members_have_float}
use Rattle.js_json_members.specs.declared.error.ReadError.{ReadError}
use Rattle.js_json_members.specs.declared.object.Object.{Object}
use Rattle.js_json_members.specs.Rows.{ShowsAs}

-- It holds these members, in which no float stands, or it failed as they do.
abbrev pub Holds : Object → Result Members ReadError → Type 0
Holds o rows = ShowsAs (λ m. members_view m.entries) members_have_float o.members rows
