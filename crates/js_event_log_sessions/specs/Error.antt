-- What a refusal of sessions prints.
use Rattle.std.specs.Prelude.{ℕ, List, ◌++◌, codes, decimal}
use Rattle.js_ordered_table.specs.declared.run.Field.{Field}
use Rattle.js_ordered_table.specs.declared.run.Field.TheVariants as field
use Rattle.js_ordered_table.specs.declared.run.ReplayError.{ReplayError}
use Rattle.js_ordered_table.specs.declared.run.ReplayError.TheVariants as replay
use Rattle.js_event_log_sessions.specs.declared.error.SessionsError.{SessionsError}
use Rattle.js_event_log_sessions.specs.declared.error.SessionsError.TheVariants as error

-- a field in words
abbrev pub field_text : Field → List ℕ
field_text field.StreamName = codes "stream name"
field_text field.Name = codes "consumer name"
field_text field.ApiPrefix = codes "API prefix"
field_text field.InboxPrefix = codes "inbox prefix"
field_text field.FilterSubject = codes "filter subject"
field_text field.DeliverSubject = codes "deliver subject"

-- why a replay was refused
abbrev pub replay_text : ℕ → ReplayError → List ℕ
replay_text session replay.NoDeliverSubject = codes "session " ++ decimal session ++ codes " has no deliver subject"
replay_text session (replay.BadSettings field) = codes "session " ++ decimal session ++ (codes " has no valid " ++ field_text field)
replay_text session (replay.BadEvent place) = codes "session " ++ decimal session ++ (codes " has an event before its time at place " ++ decimal place)
replay_text session (replay.SequenceEnd place) = codes "session " ++ decimal session ++ (codes " has no sequence to go on from at place " ++ decimal place)
replay_text session replay.OutOfMemory = codes "out of memory"

-- what an error prints
abbrev pub error_text : SessionsError → List ℕ
error_text (error.WrongStart session next) = codes "session " ++ decimal session ++ (codes " does not start at " ++ decimal next)
error_text (error.WrongFilter session) = codes "session " ++ decimal session ++ codes " does not read what the first one reads"
error_text (error.Replay session refusal) = replay_text session refusal
error_text (error.BookmarkEnd session) = codes "session " ++ decimal session ++ codes " commits the last of all sequences"
error_text error.OutOfMemory = codes "out of memory"
