-- The statuses of a call, as numbers and as texts.
use Rattle.std.specs.Prelude.{ℕ, List, ◌++◌, codes, decimal}
use Rattle.js_tool.specs.declared.status.Status.{Status}
use Rattle.js_tool.specs.declared.status.Status.TheVariants as status

-- the exit status of the program
abbrev pub exit_code : Status → ℕ
exit_code status.Done = 0
exit_code status.ReadFault = 1
exit_code status.Usage = 2
exit_code (status.BadLine line) = 3
exit_code status.WriteFault = 4
exit_code status.OutOfMemory = 5
exit_code status.Refused = 6
exit_code status.TooLong = 7

-- the name, with the line's number where there is one
abbrev pub status_text : Status → List ℕ
status_text status.Done = codes "Done"
status_text status.ReadFault = codes "ReadFault"
status_text status.Usage = codes "Usage"
status_text (status.BadLine line) = codes "BadLine " ++ decimal line
status_text status.WriteFault = codes "WriteFault"
status_text status.OutOfMemory = codes "OutOfMemory"
status_text status.Refused = codes "Refused"
status_text status.TooLong = codes "TooLong"
