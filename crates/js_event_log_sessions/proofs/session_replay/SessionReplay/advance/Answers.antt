use Rattle.std.proofs.Common.{refl, ap, ◌∙◌, ◌++◌, List}
use Rattle.js_ordered_table.specs.declared.run.Output.{Output}
use Rattle.js_ordered_table.specs.Gapless.{yields}
use Rattle.js_event_log_sessions.specs.Bookmark.{events_of}
use Rattle.js_event_log_sessions.specs.SessionReplay.{mark_of}
use Rattle.js_event_log_sessions.specs.Runs.{replay_input_of}
use Rattle.js_event_log_sessions.proofs.ReplayProgress.{comes_event}
use Rattle.js_event_log_sessions.proofs.session_replay.SessionReplay.advance.Goals as goal

pub returns-clause-passed : goal.returns-clause-passed
returns-clause-passed c = λ next done s come.
    comes_event next done s c.args.event.now c.args.self.now _ come refl refl refl
    (c.in_ok-advance.ensures.passed (replay_input_of s) s.start (events_of s.lines) come.replay)
    (λ at entries is. c.in_ok-self.ensures at entries is ∙ ap (λ (outputs : List Output). mark_of at (entries ++ yields outputs)) c.outputs.ensures)
    refl refl
