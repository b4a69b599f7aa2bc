-- What a write asks of the server.
use Rattle.std.specs.Prelude.{ℕ, Option, Some, None}
use Rattle.jetstream_table.specs.declared.words.Write.{Write}
use Rattle.jetstream_table.specs.declared.words.Write.TheVariants as write

-- the revision that a key's last entry is expected to have: 0 where it is to have no entry, and any where the write says none
abbrev pub expected_by : Write → Option ℕ
expected_by (write.Put value) = None
expected_by (write.Create value) = Some 0
expected_by (write.Update value revision) = Some revision
expected_by write.Delete = None
expected_by write.Purge = None
