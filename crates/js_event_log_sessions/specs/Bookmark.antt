-- The lines of a session: what is committed of its run, and the bookmark after it.
use Rattle.std.specs.Prelude.{ℕ, suc, ◌+◌, ◌==◌, Bool, List, [], ◌∷◌, ◌++◌, take, Option, Some, None, option_map, unwrap_or}
use Rattle.std.specs.List.{list_any}
use Rattle.js_pull.specs.Reader.{u64_max}
use Rattle.js_ordered_table.specs.declared.event.Event.{Event}
use Rattle.js_ordered_table.specs.declared.run.Run.{Run}
use Rattle.js_ordered_table.specs.Gapless.{Entry, yields, joined}
use Rattle.js_event_log_sessions.specs.declared.session.Line.{Line}
use Rattle.js_event_log_sessions.specs.declared.session.Line.TheVariants as line

-- the events, without the saves between them
abbrev pub events_of : List Line → List Event
events_of [] = []
events_of (line.Event event ∷ lines) = event ∷ events_of lines
events_of (line.Save ∷ lines) = events_of lines

-- how many events come before the last save, and none where there is no save
abbrev pub saved : List Line → Option ℕ
saved [] = None
saved (line.Event event ∷ lines) = option_map suc (saved lines)
saved (line.Save ∷ lines) = Some (unwrap_or (saved lines) 0)

-- what the opening and so many first events have yielded
abbrev pub yields_up_to : ℕ → Run → List Entry
yields_up_to events run = yields (run.opening.outputs ++ joined (take events run.steps))

-- What is committed of a run: what was yielded before the last save, and nothing where there is no save. A body that commits what is yielded after
-- the last save is refused by it.
abbrev pub committed_of : Option ℕ → Run → List Entry
committed_of None run = []
committed_of (Some events) run = yields_up_to events run

-- The last committed sequence plus one, or the bookmark before where nothing is committed. A body that goes on after the last yield is refused by
-- it, since a yield after the last save is not committed.
abbrev pub bookmark : ℕ → List Entry → ℕ
bookmark before [] = before
bookmark before (entry ∷ entries) = bookmark (entry.sequence + 1) entries

-- the last of all sequences is among them, after which there is no bookmark
abbrev pub has_last : List Entry → Bool
has_last entries = list_any (λ (entry : Entry). entry.sequence == u64_max) entries
