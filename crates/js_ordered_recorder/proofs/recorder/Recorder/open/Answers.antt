use Rattle.std.proofs.Common.{[], refl, sym, subst}
use Rattle.js_ordered.specs.IncrementalReplay.{HasCome}
use Rattle.js_ordered.specs.declared.incremental_replay.IncrementalReplay.{IncrementalReplay}
use Rattle.js_tool_transcript.specs.TranscriptReplay.{replay_input}
use Rattle.js_ordered_recorder.proofs.RecorderStates.{opens_at}
use Rattle.js_ordered_recorder.proofs.recorder.Recorder.open.Goals as goal

pub returns-clause-stands : goal.returns-clause-stands
returns-clause-stands c = opens_at (replay_input c.args.setup.now) c.args.setup.now.start _ c.in_ok-replay.replay c.in_ok-replay.ensures c.in_ok-new.ensures.ok refl refl refl

pub returns-clause-new : goal.returns-clause-new
returns-clause-new c =
    let S : IncrementalReplay → Type 0 = λ x. HasCome (replay_input c.args.setup.now) c.args.setup.now.start [] x in
    record {
      stands = opens_at (replay_input c.args.setup.now) c.args.setup.now.start _ c.in_ok-replay.replay c.in_ok-replay.ensures c.in_ok-new.ensures.ok refl refl refl;
      come = subst S (sym c.in_ok-new.ensures.ok) c.in_ok-replay.ensures;
      taken = refl;
      event = refl;
      worked = refl;
      fault = refl;
    }
