-- The worked pull life over a link that gives the number of a closed inbox again.
use Rattle.std.proofs.Common.{arith, ◌≤◌, ◌≡◌, true, false, [], ◌∷◌, Some, None, refl}
use Rattle.std.specs.Prelude.{codes}
use Rattle.js_link.specs.Calls.{OpensOwn}
use Rattle.js_link.specs.Memory.{new_view}
use Rattle.js_ordered_stream.specs.WorkedLife.{AreWorkedPolls, IsWorkedLife, Standing, after_poll, again_first, again_polls, again_replies, answers_of, before_poll, first_poll, last_poll, prefix, pull_input, second_poll, server, third_poll}
use Rattle.js_ordered_stream.specs.Life.{serving}
use Rattle.js_ordered_table.specs.Gapless.{IsDelivery, IsHonestArrival}
use Rattle.js_ordered_table.specs.Poll.{Lacks, Waits}
use Rattle.js_ordered_table.specs.Worked.{numbered}
use Rattle.js_ordered_stream.proofs.Opening.{opened_gapless}
use Rattle.js_ordered_stream.proofs.WorkedPolls.{computed_poll, past}
use Rattle.js_ordered_table.proofs.OnLiterals.{replays_on_literals}
use Rattle.js_ordered_stream.proofs.WorkedLife.{Computed, Honest, again_delivered, first_delivered, lacks_wait, lists, served_polls, some_rows, third_delivered, yields_wait}

abbrev again_second : Standing
again_second = after_poll pull_input again_replies (first_poll 6) again_first

abbrev again_third : Standing
again_third = after_poll pull_input again_replies (second_poll 21) again_second

abbrev again_last : Standing
again_last = after_poll pull_input again_replies third_poll again_third

again_first_computed : Computed pull_input again_replies (first_poll 6) again_first
unfolding replays_on_literals
again_first_computed = record { able = refl; silent = refl; out = refl; taken = refl; on = refl; began = refl; alive = refl; waits = λ e. absurd (yields_wait _ e) }

-- it finds the gap in its fourth row, opens an inbox in its fourteenth, and ends with a quiet turn of four
again_second_computed : Computed pull_input again_replies (second_poll 21) again_second
unfolding replays_on_literals
again_second_computed = record {
  able = refl;
  silent = refl;
  out = refl;
  taken = tt;
  on = refl;
  began = refl;
  alive = refl;
  waits = λ e. record {
    first = 17;
    last = 4;
    all = refl;
    quiet = (refl, some_rows _ _, refl, (record { untaken = refl; unstarted = refl }, (record { untaken = refl; unstarted = refl }, (record { untaken = refl; unstarted = refl }, (record { untaken = refl; unstarted = refl }, tt)))));
  };
}

again_third_computed : Computed pull_input again_replies third_poll again_third
unfolding replays_on_literals
again_third_computed = record { able = refl; silent = refl; out = refl; taken = tt; on = refl; began = refl; alive = refl; waits = λ e. absurd (lacks_wait e) }

again_last_computed : Computed pull_input again_replies (last_poll 0 3) again_last
unfolding replays_on_literals
again_last_computed = record { able = refl; silent = refl; out = refl; taken = refl; on = refl; began = refl; alive = refl; waits = λ e. absurd (yields_wait _ e) }

again_first_honest : Honest pull_input again_replies 0 (first_poll 6) again_first
unfolding replays_on_literals
again_first_honest = past (past (past (past (past (first_delivered pull_input.setup, tt, tt)))))

again_second_honest : Honest pull_input again_replies 0 (second_poll 21) again_second
unfolding replays_on_literals
again_second_honest =
    past (past (past (
      third_delivered pull_input.setup,
      tt,
      past (past (past (past (past (past (past (past (past
          (tt, (refl, tt), past (past (past (past (past (past (past tt))))))))))))))),
    )))

again_last_honest : Honest pull_input again_replies 1 (last_poll 0 3) again_last
unfolding replays_on_literals
again_last_honest = past (past (again_delivered pull_input.setup 0, tt, tt))

again_worked : AreWorkedPolls server pull_input again_replies 0 again_first again_polls
unfolding replays_on_literals
again_worked = (
  computed_poll pull_input again_replies 1 6 (before_poll (first_poll 6) again_first) (first_poll 6).answer again_first_computed,
  again_first_honest,
  (
    computed_poll pull_input again_replies 2 21 (before_poll (second_poll 21) again_second) Waits again_second_computed,
    again_second_honest,
    (
      computed_poll pull_input again_replies 3 0 (before_poll third_poll again_third) Lacks again_third_computed,
      tt,
      (computed_poll pull_input again_replies 4 3 (before_poll (last_poll 0 3) again_last) (last_poll 0 3).answer again_last_computed, again_last_honest, tt),
    ),
  ),
)

-- it begins with the inbox that `open` opens
pub again_opens : OpensOwn 0 [] (record (new_view prefix) { numbers = None }) again_first.view
again_opens = record { opens = record { not_down = λ e. up_down e; unused = refl; next = tt; same = refl }; named = tt }
  where
    up_down : Some true ≡ Some false → ⊥
    up_down e = cc

-- all that the promise asks for holds, and it yields 1 and 3
pub again_life : IsWorkedLife server pull_input again_replies again_first again_polls (1 ∷ 3 ∷ [])
unfolding replays_on_literals
again_life = record {
  lists = lists pull_input.setup refl;
  first = refl;
  polled = again_worked;
  yields_these = refl;
  gapless = opened_gapless pull_input.settings _ pull_input.first 0 [] server (lists pull_input.setup refl) refl (answers_of again_polls)
      (served_polls server pull_input again_replies 0 again_first again_polls again_worked);
}

-- refused: what the first inbox was sent comes once the second was opened under the same number
pub stale_refused : IsHonestArrival pull_input.setup (serving server 1) (record { inbox = 0; message = numbered 3 3 (codes "c") }) → ⊥
unfolding replays_on_literals
stale_refused honest =
    let delivery : IsDelivery (serving server 1) 0 3 (record { subject = []; sequence = 3; payload = codes "c" }) = honest (record { sequence = 3; number = 3 }) refl refl in
    let within : 3 ≤ 1 = delivery.within in
    omega (arith, within)
