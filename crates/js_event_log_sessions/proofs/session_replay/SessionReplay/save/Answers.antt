use Rattle.std.proofs.Common.{refl}
use Rattle.js_event_log_sessions.proofs.ReplayProgress.{comes_save}
use Rattle.js_event_log_sessions.proofs.session_replay.SessionReplay.save.Goals as goal

pub returns : goal.returns
returns c = λ next done s come. comes_save next done s c.args.self.now _ come refl refl refl refl refl refl refl
