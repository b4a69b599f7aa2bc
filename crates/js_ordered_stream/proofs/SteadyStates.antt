-- A polled consumer stays as it has to be between two rows.
use Rattle.std.proofs.Common.{◌≡◌, ℕ, true, false, [], ◌∷◌, ◌++◌, map, sym, ap, ◌∙◌, subst}
use Rattle.std.specs.Prelude.{Ok, Err}
use Rattle.js_link.specs.LinkView.{LinkView}
use Rattle.js_pull.specs.Reader.{opening}
use Rattle.js_ordered_table.specs.Consumer.{Matter}
use Rattle.js_ordered_table.specs.Tasks.{next_rows}
use Rattle.js_ordered_table.specs.declared.consumer.Consumer.{Consumer}
use Rattle.js_ordered_table.specs.declared.consumer.Phase.TheVariants.{Ended}
use Rattle.js_ordered_table.specs.declared.consumer.ReplayInput.{ReplayInput}
use Rattle.js_ordered_table.specs.declared.row.Row.TheVariants.{Arm, Read}
use Rattle.js_ordered_table.specs.declared.setup.OrderedSetup.{OrderedSetup}
use Rattle.js_ordered_stream.specs.declared.remaining_rows.RemainingRows.{RemainingRows}
use Rattle.js_ordered_stream.specs.declared.remaining_rows.Seen.{Seen}
use Rattle.js_ordered_stream.specs.declared.remaining_rows.TaskQueue.{TaskQueue}
use Rattle.js_ordered_stream.specs.declared.remaining_rows.TaskQueue.TheVariants as todo
use Rattle.js_ordered_stream.specs.declared.rows.Stepped.{Stepped}
use Rattle.js_ordered_stream.specs.declared.rows.Stop.TheVariants as stop
use Rattle.js_ordered_stream.specs.Ordered.{PassesFirst}
use Rattle.js_ordered_stream.specs.Opening.{ListensFirst, OpensConsumer}
use Rattle.js_ordered_stream.specs.Polled.{IsSteady, is_plain, is_turn}
use Rattle.js_ordered_stream.specs.Rows.{FirstStands, is_first_held, is_first_idle, kept_if, later_of, left_rows, read_in, todo_rows}
use Rattle.js_ordered_stream.proofs.FollowingRows.{Settles, settles}

-- the message that was looked at is taken out
pub taken_steady : (setup : OrderedSetup) (c : Consumer) (left after : RemainingRows) → after.todo ≡ left.todo → read_in after.seen ≡ read_in left.seen → IsSteady setup c left → IsSteady setup c after
taken_steady setup c left after same reads steady = record {
  plain = steady.plain;
  turn = ap (λ (m : Matter). is_turn setup (todo_rows m after.todo)) reads ∙ ap (λ (t : TaskQueue). is_turn setup (todo_rows (read_in left.seen) t)) same ∙ steady.turn;
  stands = ap (λ (m : Matter). is_first_idle m after.todo) reads ∙ ap (λ (t : TaskQueue). is_first_idle (read_in left.seen) t) same ∙ steady.stands;
  held = ap is_first_held same ∙ steady.held;
}

-- its inbox is closed
pub closed_steady : (setup : OrderedSetup) (c : Consumer) (left : RemainingRows) → c.phase ≡ Ended → left.todo ≡ todo.Nothing → IsSteady setup c left
closed_steady setup c left over none = record {
  plain = ap (is_plain setup) over;
  turn = ap (λ (t : TaskQueue). is_turn setup (todo_rows (read_in left.seen) t)) none;
  stands = ap (λ (t : TaskQueue). is_first_idle (read_in left.seen) t) none;
  held = ap is_first_held none;
}

-- there was no memory
pub lacks_steady : (g h : ReplayInput) (now : ℕ) (left after : RemainingRows) (c d : Consumer) (v u : LinkView) (kept : Seen) → h ≡ g → PassesFirst g now left c d v u kept (Err stop.OutOfMemory) → after ≡ left
    → IsSteady g.setup c left → IsSteady h.setup d after
lacks_steady g h now left after c d v u kept same (stays, view) rest steady =
    subst (λ (x : ReplayInput). IsSteady x.setup d after) (sym same) (subst (λ (x : Consumer). IsSteady g.setup x after) (sym stays) (subst (λ (l : RemainingRows). IsSteady g.setup c l) (sym rest) steady))

-- the next row was passed
pub settles_at : (g h : ReplayInput) (now : ℕ) (left after : RemainingRows) (c d : Consumer) (v u : LinkView) (kept : Seen) (done : Stepped) → h ≡ g → after.todo ≡ left.todo → IsSteady g.setup c left
    → PassesFirst g now left c d v u kept (Ok done) → Settles h.setup after d kept done
settles_at g h now left after c d v u kept done same rest steady passes =
    let s : Settles g.setup left d kept done = settles g now left c d v u kept done steady passes in
    subst (λ (x : ReplayInput). Settles x.setup after d kept done) (sym same)
    (record {
      plain = s.plain;
      turn = ap (λ (t : TaskQueue). is_turn g.setup (next_rows (read_in kept) done.next ++ later_of t)) rest ∙ s.turn;
      held = s.held;
    })

-- and what follows it takes its place
pub settled_steady : (setup : OrderedSetup) (c : Consumer) (left after : RemainingRows) (done : Stepped) → is_plain setup c.phase ≡ true
    → is_turn setup (next_rows (read_in (kept_if done.looked left.seen)) done.next ++ later_of left.todo) ≡ true
    → left_rows after ≡ next_rows (read_in (kept_if done.looked left.seen)) done.next ++ later_of left.todo
    → FirstStands (read_in after.seen) after.todo → is_first_held after.todo ≡ false → IsSteady setup c after
settled_steady setup c left after done plain turn rows stands held = record { plain = plain; turn = ap (is_turn setup) rows ∙ turn; stands = stands; held = held }

-- ---- the beginning

pub pull_steady : (g given : ReplayInput) (c : Consumer) (left : RemainingRows) (v u : LinkView) → OpensConsumer (Ok c) g v u → left_rows left ≡ map Read opening → FirstStands (read_in left.seen) left.todo
    → is_first_held left.todo ≡ false → IsSteady given.setup c left
pull_steady g given c left v u (inbox, subject, opens, is) rows stands held =
    record { plain = ap (λ (x : Consumer). is_plain given.setup x.phase) is; turn = ap (is_turn given.setup) rows; stands = stands; held = held }

pub push_steady : (g given : ReplayInput) (c : Consumer) (left : RemainingRows) (v u : LinkView) → ListensFirst (Ok c) g v u → left_rows left ≡ Arm ∷ [] → FirstStands (read_in left.seen) left.todo
    → is_first_held left.todo ≡ false → IsSteady given.setup c left
push_steady g given c left v u (inbox, opens, is) rows stands held =
    record { plain = ap (λ (x : Consumer). is_plain given.setup x.phase) is; turn = ap (is_turn given.setup) rows; stands = stands; held = held }
