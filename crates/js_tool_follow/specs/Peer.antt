-- What a peer is seen by: what is left to be read, what was taken, and its calls.
use Rattle.std.specs.Prelude.{◌≡◌, ◌≤◌, ℕ, List, [], ◌∷◌, ◌++◌, take, Option, Some, None, Result, Ok, Err, ⊤}
use Rattle.std.specs.Io.{ReadsAtMost, WritesAtMost}
use Rattle.std.specs.Io.KnownBytes.{ReadConsumes, WriteAppends}
use Rattle.js_tool_io.specs.Causes.{HasCause, HasWriteCause}
use Rattle.js_tool_follow.specs.declared.peer.PeerCall.{PeerCall}
use Rattle.js_tool_follow.specs.declared.peer.PeerCall.TheVariants as turn
use base.Fml.{GName}

-- The bytes that are left to be read, those that were taken, and the calls, of which the last stands first, each where the peer tells it. How often reads
-- and writes have failed. Where it keeps a source and a sink that are borrowed, so that their owner finds them again.
pub record Dialogue : Type 0 where
  pub left : Option (List ℕ)
  pub taken : Option (List ℕ)
  pub turns : Option (List PeerCall)
  pub read_faults : ℕ
  pub write_faults : ℕ
  pub place : Option (GName × GName)

-- ---- calls

-- the bytes of a call, of which there are none where it failed
abbrev pub bytes_of : {E : Type 0} → Result ℕ E → List ℕ → List ℕ
bytes_of (Ok n) bytes = take n bytes
bytes_of (Err e) bytes = []

-- a call was made after the others
abbrev pub Takes : Option (List PeerCall) → Option (List PeerCall) → PeerCall → Type 0
Takes None after call = ⊤
Takes (Some before) None call = ⊥
Takes (Some before) (Some after) call = after ≡ call ∷ before

-- bytes were read
abbrev pub TakesRead : Option (List PeerCall) → Option (List PeerCall) → List ℕ → Type 0
TakesRead before after bytes = Takes before after (turn.Read bytes)

-- all was flushed, or a flush failed, which passes nothing on
abbrev pub flush_turn : {T E : Type 0} → Result T E → PeerCall
flush_turn (Ok done) = turn.Flushed
flush_turn (Err e) = turn.Wrote []

-- a read changes nothing of the other end
pub record HasRead (old new : Dialogue) : Type 0 where
  pub taken : new.taken ≡ old.taken
  pub write_faults : new.write_faults ≡ old.write_faults
  pub place : new.place ≡ old.place
  pub later : old.read_faults ≤ new.read_faults

-- nor does a write
pub record HasWritten (old new : Dialogue) : Type 0 where
  pub left : new.left ≡ old.left
  pub read_faults : new.read_faults ≡ old.read_faults
  pub place : new.place ≡ old.place
  pub later : old.write_faults ≤ new.write_faults

pub record Reads {E : Type 0} (old new : Dialogue) (result : Result ℕ E) (buf : List ℕ) : Type 0 where
  pub bound : ReadsAtMost result buf
  pub bytes : ReadConsumes old.left new.left result buf
  pub call : Takes old.turns new.turns (turn.Read (bytes_of result buf))
  pub cause : HasCause old.read_faults new.read_faults result
  pub taken : new.taken ≡ old.taken
  pub write_faults : new.write_faults ≡ old.write_faults
  pub place : new.place ≡ old.place

pub record Writes {E : Type 0} (old new : Dialogue) (result : Result ℕ E) (piece : List ℕ) : Type 0 where
  pub bound : WritesAtMost result piece
  pub bytes : WriteAppends old.taken new.taken result piece
  pub call : Takes old.turns new.turns (turn.Wrote (bytes_of result piece))
  pub cause : HasWriteCause old.write_faults new.write_faults piece result
  pub left : new.left ≡ old.left
  pub read_faults : new.read_faults ≡ old.read_faults
  pub place : new.place ≡ old.place

pub record Flushes {T E : Type 0} (old new : Dialogue) (result : Result T E) : Type 0 where
  pub call : Takes old.turns new.turns (flush_turn result)
  pub cause : HasCause old.write_faults new.write_faults result
  pub taken : new.taken ≡ old.taken
  pub left : new.left ≡ old.left
  pub read_faults : new.read_faults ≡ old.read_faults
  pub place : new.place ≡ old.place

-- ---- what the calls come to

-- all that was read
abbrev pub heard : List PeerCall → List ℕ
heard [] = []
heard (turn.Read bytes ∷ before) = heard before ++ bytes
heard (turn.Wrote bytes ∷ before) = heard before
heard (turn.Flushed ∷ before) = heard before

-- all that was taken
abbrev pub written : List PeerCall → List ℕ
written [] = []
written (turn.Read bytes ∷ before) = written before
written (turn.Wrote bytes ∷ before) = written before ++ bytes
written (turn.Flushed ∷ before) = written before

-- all that was taken and passed on
abbrev pub flushed : List PeerCall → List ℕ
flushed [] = []
flushed (turn.Read bytes ∷ before) = flushed before
flushed (turn.Wrote bytes ∷ before) = flushed before
flushed (turn.Flushed ∷ before) = written before
