-- Worked examples, which the definitions compute.
use Rattle.std.specs.Prelude.{◌≡◌, ℕ, List, [], ◌∷◌, Some, true, false, refl, codes}
use Rattle.js_ordered_table.specs.declared.run.Output.{Output}
use Rattle.js_ordered_table.specs.declared.run.Output.TheVariants as out
use Rattle.js_ordered_table.specs.declared.run.Run.{Run}
use Rattle.js_ordered_table.specs.Gapless.{Entry}
use Rattle.js_ordered_table.specs.Worked.{run_of, tick}
use Rattle.js_event_log_sessions.specs.declared.session.Line.{Line}
use Rattle.js_event_log_sessions.specs.declared.session.Line.TheVariants as line
use Rattle.js_event_log_sessions.specs.Bookmark.{saved, committed_of, bookmark, has_last}

abbrev yielded : ℕ → List Output
yielded sequence = out.Yield sequence sequence (codes "a.x") [] ∷ []

abbrev entry : ℕ → Entry
entry sequence = record { subject = codes "a.x"; sequence = sequence; payload = [] }

-- three events, which yield 1, 2 and 3, and a save before the third
abbrev first : List Line
first = line.Event (tick 1) ∷ line.Event (tick 2) ∷ line.Save ∷ line.Event (tick 3) ∷ []

abbrev first_run : Run
first_run = run_of [] (yielded 1 ∷ yielded 2 ∷ yielded 3 ∷ []) false

-- a body that commits what is yielded after the last save has three here
commits_two : committed_of (saved first) first_run ≡ entry 1 ∷ entry 2 ∷ []
commits_two = refl

-- a body that goes on after the last yield goes on at 4 here
goes_on_at_three : bookmark 1 (committed_of (saved first) first_run) ≡ 3
goes_on_at_three = refl

-- the next session yields 3 again, and saves it
commits_one : committed_of (saved (line.Event (tick 1) ∷ line.Save ∷ [])) (run_of [] (yielded 3 ∷ []) false) ≡ entry 3 ∷ []
commits_one = refl

goes_on_at_four : bookmark 3 (entry 3 ∷ []) ≡ 4
goes_on_at_four = refl

-- without a save nothing is committed, and the bookmark stays
commits_none : committed_of (saved (line.Event (tick 1) ∷ [])) (run_of [] (yielded 1 ∷ []) false) ≡ []
commits_none = refl

stays_at_one : bookmark 1 [] ≡ 1
stays_at_one = refl

-- a save before the first event commits what the opening yields, which is nothing
saves_nothing : committed_of (saved (line.Save ∷ line.Event (tick 1) ∷ [])) (run_of [] (yielded 1 ∷ []) false) ≡ []
saves_nothing = refl

-- the last save counts
saves_twice : saved (line.Event (tick 1) ∷ line.Save ∷ line.Event (tick 2) ∷ line.Save ∷ line.Event (tick 3) ∷ []) ≡ Some 2
saves_twice = refl

-- the last of all sequences has none behind it
ends_there : has_last (entry 18_446_744_073_709_551_615 ∷ entry 1 ∷ []) ≡ true
ends_there = refl
