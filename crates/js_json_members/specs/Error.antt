-- The texts of read errors.
use Rattle.std.specs.Prelude.{ℕ, List, ◌++◌, Option, Some, None, codes}
use Rattle.js_json_members.specs.declared.key.Key.{Key}
use Rattle.js_json_members.specs.Key.{key_name}
use Rattle.js_json_members.specs.declared.error.ReadError.{ReadError}
use Rattle.js_json_members.specs.declared.error.ReadError.TheVariants.{Missing, WrongKind, OutOfRange, Float, NotJson}
use Rattle.js_json_members.specs.declared.error.ReadError.TheVariants.{OutOfMemory}

-- the key that an error names
abbrev pub key_of : ReadError → Option Key
key_of (Missing key) = Some key
key_of (WrongKind key) = Some key
key_of (OutOfRange key) = Some key
key_of Float = None
key_of NotJson = None
key_of OutOfMemory = None

-- what is wrong, without the key
abbrev pub message_of : ReadError → List ℕ
message_of (Missing key) = codes "missing"
message_of (WrongKind key) = codes "of the wrong kind"
message_of (OutOfRange key) = codes "out of range"
message_of Float = codes "a number is no 64-bit integer"
message_of NotJson = codes "not JSON"
message_of OutOfMemory = codes "out of memory"

-- the name of a key before a text
abbrev pub after_key : Option Key → List ℕ → List ℕ
after_key None text = text
after_key (Some key) text = key_name key ++ codes ": " ++ text

-- what an error prints
abbrev pub error_text : ReadError → List ℕ
error_text e = after_key (key_of e) (message_of e)
