-- The answer to a deletion.
use Rattle.std.specs.Prelude.{Result, Ok}
use Rattle.serde_json.specs.Data.{Data}
use Rattle.js_json_members.specs.declared.key.Key.TheVariants as key
use Rattle.js_json_members.specs.declared.error.ReadError.{ReadError}
use Rattle.js_json_members.specs.Member.{◌>>=◌, required, truth}
use Rattle.js_json_stream_bodies.specs.declared.stream.delete_status.DeleteStatus.{DeleteStatus}

-- from its member
unfoldable pub delete_status_fields : Data → Result DeleteStatus ReadError
delete_status_fields d = required truth key.Success d >>= λ success. Ok (record { success = success })
