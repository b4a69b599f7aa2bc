-- The exit status of the program, by what ended it.
use Rattle.std.specs.Prelude.{ℕ}
use Rattle.js_link_connection.specs.declared.error.ConnectionError.{ConnectionError}
use Rattle.js_link_connection.specs.declared.error.ConnectionError.TheVariants as error
use Rattle.js_pipe.specs.declared.failure.Failure.{Failure}
use Rattle.js_pipe.specs.declared.failure.Failure.TheVariants as failure

-- the exit status that each failure ends the program with
abbrev pub exit_code : Failure → ℕ
exit_code failure.Lost = 1
exit_code failure.Usage = 2
exit_code failure.Refused = 3
exit_code failure.Fault = 4
exit_code failure.OutOfMemory = 5
exit_code failure.Unrecorded = 6

-- an error of the connection: after damaged bytes, and where the server does not answer, another connection may serve
abbrev pub failure_of : ConnectionError → Failure
failure_of (error.Damaged damage place) = failure.Lost
failure_of (error.BadHeaders damage place) = failure.Lost
failure_of (error.BadInfo place) = failure.Lost
failure_of error.Silent = failure.Lost
failure_of (error.Refused text) = failure.Refused
failure_of (error.Unwritable cause) = failure.Refused
failure_of error.OutOfMemory = failure.OutOfMemory
failure_of error.Unread = failure.OutOfMemory
