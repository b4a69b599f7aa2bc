-- Worked examples, which the definitions compute.
use Rattle.std.specs.Prelude.{◌≡◌, ℕ, List, [], ◌∷◌, Some, None, refl, codes}
use Rattle.js_base.specs.declared.message.Entry.{Entry}
use Rattle.js_ordered_table.specs.declared.run.ReplayError.TheVariants.{BadEvent}
use Rattle.js_ordered_table.specs.declared.setup.OrderedSetup.{OrderedSetup}
use Rattle.js_tool.specs.LogCommand.{Project, Mirror, Relay, sessions_bookmark, bookmark_number, wanted_of, project_of, project_up_to, relay_of, three_words}
use Rattle.js_tool_event_log.specs.declared.replay_entries.Ending.TheVariants as ending
use Rattle.js_tool_event_log.specs.declared.report.Report.TheVariants as report
use Rattle.js_tool_event_log.specs.LogTexts.{no_start_text, not_rising_text, hole_text}
use Rattle.js_tool_event_log.specs.Report.{log_report, report_from}

abbrev entry : ℕ → List ℕ → List ℕ → Entry
entry sequence subject payload = record { subject = subject; sequence = sequence; payload = payload }

-- ---- words

one_filter : wanted_of (codes "project" ∷ codes "a.*" ∷ []) ≡ Some (Project (codes "a.*") None)
unfolding project_of
one_filter = refl

-- a body that takes any word for a filter answers a command here
no_filter : wanted_of (codes "project" ∷ codes ".a" ∷ []) ≡ None
unfolding project_of
no_filter = refl

up_to_two : wanted_of (codes "project" ∷ codes ">" ∷ codes "02" ∷ []) ≡ Some (Project (codes ">") (Some 2))
unfolding project_of project_up_to three_words
up_to_two = refl

two_names : wanted_of (codes "relay" ∷ codes "events" ∷ codes "c1" ∷ []) ≡ Some (Relay (codes "events") (codes "c1"))
unfolding relay_of three_words
two_names = refl

-- a body that takes any words for names answers a command here
no_name : wanted_of (codes "relay" ∷ codes "events" ∷ codes "c.1" ∷ []) ≡ None
unfolding relay_of three_words
no_name = refl

from_one : sessions_bookmark (codes "sessions" ∷ codes "1" ∷ []) ≡ Some 1
unfolding bookmark_number
from_one = refl

-- a body that takes any number for a bookmark answers a command here
from_nothing : sessions_bookmark (codes "sessions" ∷ codes "0" ∷ []) ≡ None
unfolding bookmark_number
from_nothing = refl

-- ---- refusals

-- a body that tells of the replay's refusal first answers another line
no_start_first : (setup : OrderedSetup) → report_from Mirror setup None (ending.Refused (BadEvent 3)) ≡ report.Refused no_start_text
no_start_first setup = refl

-- a body that lets an equal sequence pass answers a text
equal : (setup : OrderedSetup) → log_report (Project (codes ">") None) setup 1 (entry 5 [] [] ∷ entry 5 [] [] ∷ []) ≡ report.Refused (not_rising_text 5)
equal setup = refl

-- a mirror's first sequence is at its start or past it: a body that lets any first one pass answers a text
below : (setup : OrderedSetup) → log_report Mirror setup 5 (entry 3 [] [] ∷ entry 5 [] [] ∷ []) ≡ report.Refused (not_rising_text 4)
below setup = refl

-- and a transcript begins there too
below_relayed : (setup : OrderedSetup) → log_report (Relay (codes "events") (codes "c1")) setup 5 (entry 3 [] [] ∷ entry 5 [] [] ∷ []) ≡ report.Refused (not_rising_text 4)
below_relayed setup = refl

-- ---- holes

-- a body that takes neighbours for a hole writes a line
no_hole : hole_text 4 5 ≡ []
no_hole = refl
