-- The worked pull life: what the promise of a life asks for holds of it.
use Rattle.std.proofs.Common.{◌≡◌, true, false, [], ◌∷◌, Some, refl}
use Rattle.js_link.specs.Calls.{OpensOwn}
use Rattle.js_link.specs.Memory.{inbox_subject, new_view}
use Rattle.js_ordered_stream.specs.WorkedLife.{AreWorkedPolls, IsWorkedLife, Standing, after_poll, answers_of, before_poll, first_poll, last_poll, prefix, pull_first, pull_input, pull_polls, pull_replies, second_poll, server, third_poll}
use Rattle.js_ordered_table.specs.Poll.{Lacks, Waits}
use Rattle.js_ordered_stream.proofs.Opening.{opened_gapless}
use Rattle.js_ordered_stream.proofs.WorkedPolls.{computed_poll, past}
use Rattle.js_ordered_table.proofs.OnLiterals.{replays_on_literals}
use Rattle.js_ordered_stream.proofs.WorkedLife.{Computed, Honest, again_delivered, first_delivered, lacks_wait, lists, served_polls, some_rows, third_delivered, yields_wait}

abbrev pull_second : Standing
pull_second = after_poll pull_input pull_replies (first_poll 6) pull_first

abbrev pull_third : Standing
pull_third = after_poll pull_input pull_replies (second_poll 21) pull_second

abbrev pull_last : Standing
pull_last = after_poll pull_input pull_replies third_poll pull_third

pull_first_computed : Computed pull_input pull_replies (first_poll 6) pull_first
unfolding replays_on_literals
pull_first_computed = record { able = refl; silent = refl; out = refl; taken = refl; on = refl; began = refl; alive = refl; waits = λ e. absurd (yields_wait _ e) }

-- it finds the gap in its fourth row, opens an inbox in its fourteenth, and ends with a quiet turn of four
pull_second_computed : Computed pull_input pull_replies (second_poll 21) pull_second
unfolding replays_on_literals
pull_second_computed = record {
  able = refl;
  silent = refl;
  out = refl;
  taken = tt;
  on = refl;
  began = refl;
  alive = refl;
  waits = λ e. record {
    first = 17;
    last = 4;
    all = refl;
    quiet = (refl, some_rows _ _, refl, (record { untaken = refl; unstarted = refl }, (record { untaken = refl; unstarted = refl }, (record { untaken = refl; unstarted = refl }, (record { untaken = refl; unstarted = refl }, tt)))));
  };
}

pull_third_computed : Computed pull_input pull_replies third_poll pull_third
unfolding replays_on_literals
pull_third_computed = record { able = refl; silent = refl; out = refl; taken = tt; on = refl; began = refl; alive = refl; waits = λ e. absurd (lacks_wait e) }

pull_last_computed : Computed pull_input pull_replies (last_poll 1 3) pull_last
unfolding replays_on_literals
pull_last_computed = record { able = refl; silent = refl; out = refl; taken = refl; on = refl; began = refl; alive = refl; waits = λ e. absurd (yields_wait _ e) }

pull_first_honest : Honest pull_input pull_replies 0 (first_poll 6) pull_first
unfolding replays_on_literals
pull_first_honest = past (past (past (past (past (first_delivered pull_input.setup, tt, tt)))))

pull_second_honest : Honest pull_input pull_replies 0 (second_poll 21) pull_second
unfolding replays_on_literals
pull_second_honest =
    past (past (past (
      third_delivered pull_input.setup,
      tt,
      past (past (past (past (past (past (past (past (past
          (tt, (refl, tt), past (past (past (past (past (past (past tt))))))))))))))),
    )))

pull_last_honest : Honest pull_input pull_replies 1 (last_poll 1 3) pull_last
unfolding replays_on_literals
pull_last_honest = past (past (again_delivered pull_input.setup 1, tt, tt))

pull_worked : AreWorkedPolls server pull_input pull_replies 0 pull_first pull_polls
unfolding replays_on_literals
pull_worked = (
  computed_poll pull_input pull_replies 1 6 (before_poll (first_poll 6) pull_first) (first_poll 6).answer pull_first_computed,
  pull_first_honest,
  (
    computed_poll pull_input pull_replies 2 21 (before_poll (second_poll 21) pull_second) Waits pull_second_computed,
    pull_second_honest,
    (
      computed_poll pull_input pull_replies 3 0 (before_poll third_poll pull_third) Lacks pull_third_computed,
      tt,
      (computed_poll pull_input pull_replies 4 3 (before_poll (last_poll 1 3) pull_last) (last_poll 1 3).answer pull_last_computed, pull_last_honest, tt),
    ),
  ),
)

-- it begins with the inbox that `open` opens
pub pull_opens : OpensOwn 0 (inbox_subject prefix 0) (new_view prefix) pull_first.view
pull_opens = record { opens = record { not_down = λ e. up_down e; unused = refl; next = refl; same = refl }; named = refl }
  where
    up_down : Some true ≡ Some false → ⊥
    up_down e = cc

-- all that the promise asks for holds, and it yields 1 and 3
pub pull_life : IsWorkedLife server pull_input pull_replies pull_first pull_polls (1 ∷ 3 ∷ [])
unfolding replays_on_literals
pull_life = record {
  lists = lists pull_input.setup refl;
  first = refl;
  polled = pull_worked;
  yields_these = refl;
  gapless = opened_gapless pull_input.settings _ pull_input.first 0 (inbox_subject prefix 0) server (lists pull_input.setup refl) refl (answers_of pull_polls)
      (served_polls server pull_input pull_replies 0 pull_first pull_polls pull_worked);
}
