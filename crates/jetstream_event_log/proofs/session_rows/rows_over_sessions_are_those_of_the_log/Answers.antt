use Rattle.std.specs.Prelude.{[], ◌∷◌}
use Rattle.js_event_log_sessions.specs.GaplessSessions.{last_removed}
use Rattle.js_event_log_sessions.specs.Runs.{all_committed}
use Rattle.jetstream_event_log.specs.SessionRows.{in_the_end}
use Rattle.jetstream_event_log.proofs.SessionYields.{joined_gapless}
use Rattle.jetstream_event_log.proofs.session_rows.rows_over_sessions_are_those_of_the_log.Goals as goal

pub returns : goal.returns
returns c = λ log servers next first others history rows told prefix changes joined configured bucket tells over is.
    let removed = last_removed [] servers in
    let yields = all_committed (first ∷ others) in
    c.rows_are_those_of_the_log.ensures.rows (in_the_end log removed) first.setup yields history rows told prefix next changes
    (joined_gapless first.setup log removed next yields configured joined) configured bucket tells over is
