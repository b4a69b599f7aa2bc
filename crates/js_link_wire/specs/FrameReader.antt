-- Frames are read off bytes that come in pieces.
use Rattle.std.specs.Prelude.{◌≡◌, ℕ, List, [], ◌∷◌, drop, Option, Some, None, Result, Ok, Err}
use Rattle.js_link_wire.specs.declared.damage.Damage.{Damage}
use Rattle.js_link_wire.specs.declared.frame.ServerFrame.{ServerFrame}
use Rattle.js_link_wire.specs.declared.frame_reader.FrameError.{FrameError}
use Rattle.js_link_wire.specs.declared.frame_reader.FrameError.TheVariants as errors
use Rattle.js_link_wire.specs.declared.first_frame.Reading.{Reading}
use Rattle.js_link_wire.specs.declared.first_frame.Reading.TheVariants as readings
use Rattle.js_link_wire.specs.FirstFrame.{read}

-- bytes of which no frame was read, and how many bytes a body has at most
pub record Coming : Type 0 where
  pub left : List ℕ
  pub most : ℕ

-- the frame that bytes begin with, and what is left of them
abbrev pub taken_off : List ℕ → Reading → Result (Option (ServerFrame × List ℕ)) Damage
taken_off bytes readings.More = Ok None
taken_off bytes (readings.Whole frame count) = Ok (Some (frame, drop count bytes))
taken_off bytes (readings.Damaged damage) = Err damage

-- the first frame of bytes, and what is left of them, or none where more are wanted
unfoldable pub next_frame : ℕ → List ℕ → Result (Option (ServerFrame × List ℕ)) Damage
next_frame most bytes = taken_off bytes (read most bytes)

-- what a call read: the first frame, which is then off the bytes, or nothing, which leaves them as they were
abbrev pub Reads : Coming → Coming → Result (Option ServerFrame) FrameError → Type 0
Reads old new (Ok (Some frame)) = next_frame old.most old.left ≡ Ok (Some (frame, new.left))
Reads old new (Ok None) = (next_frame old.most old.left ≡ Ok None) × (new.left ≡ old.left)
Reads old new (Err (errors.Damaged damage)) = (next_frame old.most old.left ≡ Err damage) × (new.left ≡ old.left)
Reads old new (Err errors.OutOfMemory) = new.left ≡ old.left

-- these frames are read off bytes, one after another, and this is what is left
abbrev pub AreRead : ℕ → List ℕ → List ServerFrame → List ℕ → Type 0
AreRead most bytes [] left = bytes ≡ left
AreRead most bytes (frame ∷ frames) left = (rest : List ℕ) × (next_frame most bytes ≡ Ok (Some (frame, rest))) × AreRead most rest frames left
