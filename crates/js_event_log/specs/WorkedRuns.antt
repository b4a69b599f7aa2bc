-- Worked runs of honest servers: one whose removed entry was overtaken, and one whose removed entry was not.
use Rattle.std.specs.Prelude.{◌≡◌, ℕ, List, [], ◌∷◌, Some, codes}
use Rattle.std.specs.Global.{Global}
use Rattle.js_base.specs.declared.message.Entry.{Entry}
use Rattle.js_event_log.specs.Projection.{last_sequence, table}
use Rattle.js_ordered_table.specs.declared.consumer.ReplayInput.{ReplayInput}
use Rattle.js_ordered_table.specs.declared.event.Event.{Event}
use Rattle.js_ordered_table.specs.Fold.{fold}
use Rattle.js_ordered_table.specs.Texts.{configured_start}
use Rattle.js_ordered_table.specs.Gapless.{Server, IsHonest, all_outputs}
use Rattle.js_ordered_table.specs.Worked.{pull_from, arrives_on}
use Rattle.js_event_log.specs.RunProjection.{yielded}
use Rattle.js_event_log.specs.LogTable.{matching_between, AreOvertaken}

-- a consumer of all messages from sequence 1 on
abbrev pub from_one : ReplayInput
from_one = pull_from 1

-- it is sent two messages, of which the second has sequence 3
abbrev pub two_messages : Global → List Event
two_messages heap = arrives_on heap (codes "a.x") 1 0 1 1 (codes "1") ∷ arrives_on heap (codes "a.x") 2 0 2 3 (codes "3") ∷ []

-- the sequences that are left
abbrev pub left : List ℕ
left = 1 ∷ 3 ∷ []

-- a server that has removed sequence 2, which had this subject
abbrev pub server_with : List ℕ → Server
server_with subject = record {
  log = record { subject = codes "a.x"; payload = codes "1" }
      ∷ record { subject = subject; payload = codes "2" }
      ∷ record { subject = codes "a.x"; payload = codes "3" }
      ∷ [];
  removed = 2 ∷ [];
  starts = λ inbox. 1;
  lists = λ inbox. left;
}

-- sequence 2 was overtaken by 3
abbrev pub overtaken : Server
overtaken = server_with (codes "a.x")

-- it was the one entry of its subject
abbrev pub left_behind : Server
left_behind = server_with (codes "a.y")

-- an entry of the log
abbrev pub entry : ℕ → List ℕ → List ℕ → Entry
entry sequence subject payload = record { subject = subject; sequence = sequence; payload = payload }

-- the server is honest in the run of these events, whose yields have one table, and the log another
pub record HasTables (s : Server) (g : ReplayInput) (es : Global → List Event) (start last : ℕ) (of_yields of_log : List Entry) : Type 0 where
  pub honest : (heap : Global) → IsHonest s g.setup (es heap) (fold g 0 (es heap))
  pub starts : configured_start g.setup ≡ Some start
  pub ends : (heap : Global) → last_sequence (yielded (all_outputs (fold g 0 (es heap)))) ≡ last
  pub yields_table : (heap : Global) → table (yielded (all_outputs (fold g 0 (es heap)))) ≡ of_yields
  pub logs_table : table (matching_between g.setup s.log start last) ≡ of_log

-- what was removed was overtaken, and the two tables are one
pub record IsTheLogs (s : Server) (g : ReplayInput) (es : Global → List Event) (start last : ℕ) (rows : List Entry) : Type 0 where
  pub tables : HasTables s g es start last rows rows
  pub overtaken : AreOvertaken g.setup s start last

-- it was not, and the log has another table
pub record IsAnother (s : Server) (g : ReplayInput) (es : Global → List Event) (start last : ℕ) (of_yields of_log : List Entry) : Type 0 where
  pub tables : HasTables s g es start last of_yields of_log
  pub left_behind : AreOvertaken g.setup s start last → ⊥
