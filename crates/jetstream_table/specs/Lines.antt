-- The lines that the program writes to standard output.
use Rattle.std.specs.Prelude.{◌≡◌, ℕ, List, ◌++◌, codes, pos, refl}
use Rattle.std.specs.Fmt.{decimal, digits}
use Rattle.js_store_keys.specs.declared.entry.Entry.{Entry}
use Rattle.js_store_keys.specs.declared.operation.Operation.{Operation}
use Rattle.js_store_keys.specs.declared.operation.Operation.TheVariants.{Put, Delete, Purge}

-- the word of an operation
abbrev pub operation_word : Operation → List ℕ
operation_word Put = codes "put"
operation_word Delete = codes "delete"
operation_word Purge = codes "purge"

-- what stands before the value
abbrev pub line_head : ℕ → List ℕ → List ℕ → List ℕ
line_head revision operation key = decimal revision ++ (codes " " ++ (operation ++ (codes " " ++ (key ++ codes " "))))

-- an entry: its revision, what it does, its key, and its value as it came
abbrev pub entry_line : Entry → List ℕ
entry_line entry = (line_head entry.revision (operation_word entry.operation) entry.key ++ entry.value) ++ codes "\n"

-- `mode` is deleted by the message 41
deleted_mode : entry_line (record {
  bucket = codes "config";
  key = codes "mode";
  value = codes "";
  revision = 41;
  operation = Delete;
  created = pos 0;
  delta = 0;
}) ≡ codes "41 delete mode \n"
unfolding digits
deleted_mode = refl
