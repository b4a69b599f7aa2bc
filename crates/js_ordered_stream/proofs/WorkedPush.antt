-- The worked push life: what the promise of a life asks for holds of it.
use Rattle.std.proofs.Common.{◌≡◌, true, false, [], ◌∷◌, Some, None, refl}
use Rattle.std.specs.Prelude.{codes}
use Rattle.js_link.specs.Calls.{Opens}
use Rattle.js_link.specs.Memory.{new_view}
use Rattle.js_ordered_stream.specs.WorkedLife.{AreWorkedPolls, IsWorkedLife, Standing, after_poll, answers_of, before_poll, first_poll, last_poll, prefix, push_first, push_input, push_polls, push_replies, second_poll, server, third_poll}
use Rattle.js_ordered_table.specs.Poll.{Lacks, Waits}
use Rattle.js_ordered_stream.proofs.Opening.{listens_gapless}
use Rattle.js_ordered_stream.proofs.WorkedPolls.{computed_poll, past}
use Rattle.js_ordered_table.proofs.OnLiterals.{replays_on_literals}
use Rattle.js_ordered_stream.proofs.WorkedLife.{Computed, Honest, again_delivered, first_delivered, lacks_wait, lists, served_polls, some_rows, third_delivered, yields_wait}

abbrev push_second : Standing
push_second = after_poll push_input push_replies (first_poll 4) push_first

abbrev push_third : Standing
push_third = after_poll push_input push_replies (second_poll 18) push_second

abbrev push_last : Standing
push_last = after_poll push_input push_replies third_poll push_third

push_first_computed : Computed push_input push_replies (first_poll 4) push_first
unfolding replays_on_literals
push_first_computed = record { able = refl; silent = refl; out = refl; taken = refl; on = refl; began = refl; alive = refl; waits = λ e. absurd (yields_wait _ e) }

-- it finds the gap in its third row, opens an inbox in its eighth, and ends with a quiet turn of three
push_second_computed : Computed push_input push_replies (second_poll 18) push_second
unfolding replays_on_literals
push_second_computed = record {
  able = refl;
  silent = refl;
  out = refl;
  taken = tt;
  on = refl;
  began = refl;
  alive = refl;
  waits = λ e. record {
    first = 15;
    last = 3;
    all = refl;
    quiet = (refl, some_rows _ _, refl, (record { untaken = refl; unstarted = refl }, (record { untaken = refl; unstarted = refl }, (record { untaken = refl; unstarted = refl }, tt))));
  };
}

push_third_computed : Computed push_input push_replies third_poll push_third
unfolding replays_on_literals
push_third_computed = record { able = refl; silent = refl; out = refl; taken = tt; on = refl; began = refl; alive = refl; waits = λ e. absurd (lacks_wait e) }

push_last_computed : Computed push_input push_replies (last_poll 1 3) push_last
unfolding replays_on_literals
push_last_computed = record { able = refl; silent = refl; out = refl; taken = refl; on = refl; began = refl; alive = refl; waits = λ e. absurd (yields_wait _ e) }

push_first_honest : Honest push_input push_replies 0 (first_poll 4) push_first
unfolding replays_on_literals
push_first_honest = past (past (first_delivered push_input.setup, tt, past tt))

push_second_honest : Honest push_input push_replies 0 (second_poll 18) push_second
unfolding replays_on_literals
push_second_honest =
    past (
      third_delivered push_input.setup,
      tt,
      past (past (past (past (past
          (tt, (refl, tt), past (past (past (past (past (past (past (past (past (past tt)))))))))))))),
    )

push_last_honest : Honest push_input push_replies 1 (last_poll 1 3) push_last
unfolding replays_on_literals
push_last_honest = past (again_delivered push_input.setup 1, tt, past tt)

push_worked : AreWorkedPolls server push_input push_replies 0 push_first push_polls
unfolding replays_on_literals
push_worked = (
  computed_poll push_input push_replies 1 4 (before_poll (first_poll 4) push_first) (first_poll 4).answer push_first_computed,
  push_first_honest,
  (
    computed_poll push_input push_replies 2 18 (before_poll (second_poll 18) push_second) Waits push_second_computed,
    push_second_honest,
    (
      computed_poll push_input push_replies 3 0 (before_poll third_poll push_third) Lacks push_third_computed,
      tt,
      (computed_poll push_input push_replies 4 3 (before_poll (last_poll 1 3) push_last) (last_poll 1 3).answer push_last_computed, push_last_honest, tt),
    ),
  ),
)

-- it begins with the inbox that `open` opens
pub push_opens : Opens 0 (codes "d.in") None (new_view prefix) push_first.view
push_opens = record { not_down = λ e. up_down e; unused = refl; next = refl; same = refl }
  where
    up_down : Some true ≡ Some false → ⊥
    up_down e = cc

-- all that the promise asks for holds, and it yields 1 and 3
pub push_life : IsWorkedLife server push_input push_replies push_first push_polls (1 ∷ 3 ∷ [])
unfolding replays_on_literals
push_life = record {
  lists = lists push_input.setup refl;
  first = tt;
  polled = push_worked;
  yields_these = refl;
  gapless = listens_gapless push_input.settings _ push_input.first 0 server (lists push_input.setup refl) tt (answers_of push_polls)
      (served_polls server push_input push_replies 0 push_first push_polls push_worked);
}
