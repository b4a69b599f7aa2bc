-- Why a call of a connection fails, how it is printed, and why frames are not written.
use Rattle.std.specs.Prelude.{◌≡◌, ℕ, List, [], ◌∷◌, ◌++◌, Option, Some, None, codes, decimal, refl}
use Rattle.js_link_wire.specs.declared.frame.ClientFrame.{ClientFrame}
use Rattle.js_link_wire.specs.declared.frame.ClientFrame.TheVariants.{Publish, Ping}
use Rattle.js_link_wire.specs.declared.refusals.WriteError.{WriteError}
use Rattle.js_link_wire.specs.declared.refusals.WriteError.TheVariants as refused
use Rattle.js_link_wire.specs.Written.{refusal}
use Rattle.js_link_connection.specs.declared.error.ConnectionError.{ConnectionError}
use Rattle.js_link_connection.specs.declared.error.ConnectionError.TheVariants as failed

-- how an error is printed: what is wrong, and after how many bytes
abbrev pub connection_text : ConnectionError → List ℕ
connection_text (failed.Damaged damage place) = codes "damaged bytes at byte " ++ decimal place
connection_text (failed.BadHeaders damage place) = codes "damaged headers at byte " ++ decimal place
connection_text (failed.BadInfo place) = codes "bad INFO at byte " ++ decimal place
connection_text (failed.Refused text) = text
connection_text failed.Silent = codes "no answer to PING"
connection_text (failed.Unwritable cause) = codes "a frame cannot be written"
connection_text failed.OutOfMemory = codes "out of memory"
connection_text failed.Unread = codes "out of memory"

-- what a connection fails by where a frame is not written: want of memory, or a refusal
abbrev pub error_of : WriteError → ConnectionError
error_of refused.OutOfMemory = failed.OutOfMemory
error_of refused.BadConnect = failed.Unwritable refused.BadConnect
error_of refused.BadSubject = failed.Unwritable refused.BadSubject
error_of refused.BadQueueGroup = failed.Unwritable refused.BadQueueGroup
error_of refused.BadReply = failed.Unwritable refused.BadReply
error_of refused.BadHeaders = failed.Unwritable refused.BadHeaders

-- what keeps the first of some frames from being written
abbrev pub first_refusal : List ClientFrame → Option WriteError
first_refusal [] = None
first_refusal (frame ∷ frames) = refusal frame

-- why the first of some frames is not written: memory ran out, or it is refused for this
abbrev pub IsUnwritten : ConnectionError → List ClientFrame → Type 0
IsUnwritten failed.OutOfMemory frames = Unit {0}
IsUnwritten (failed.Unwritable cause) frames = first_refusal frames ≡ Some cause
IsUnwritten (failed.Damaged damage place) frames = ⊥
IsUnwritten (failed.BadHeaders damage place) frames = ⊥
IsUnwritten (failed.BadInfo place) frames = ⊥
IsUnwritten (failed.Refused text) frames = ⊥
IsUnwritten failed.Silent frames = ⊥
IsUnwritten failed.Unread frames = ⊥

-- worked: a subject with a blank is what keeps the first frame from being written
worked : IsUnwritten (failed.Unwritable refused.BadSubject) (Publish (codes "a b") None [] ∷ Ping ∷ [])
worked = refl
