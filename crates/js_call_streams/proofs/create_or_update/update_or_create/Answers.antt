use Rattle.std.proofs.Common.{◌≡◌, Result, Ok, Err, subst}
use Rattle.std.specs.Prelude.{IfOk}
use Rattle.js_base.specs.declared.memory.OutOfMemory.{OutOfMemory}
use Rattle.js_call.specs.declared.call.Call.{Call}
use Rattle.js_call.specs.declared.scope.ApiScope.{ApiScope}
use Rattle.js_call.specs.declared.call_sequence.Then.{Then}
use Rattle.js_json_stream_bodies.specs.declared.stream.config.Config.{Config}
use Rattle.js_call_streams.specs.declared.create_or_update.CreatingInfo.{CreatingInfo}
use Rattle.js_call_streams.specs.declared.create_or_update.IfNotFound.{IfNotFound}
use Rattle.js_call_streams.specs.declared.update.UpdatingStream.{UpdatingStream}
use Rattle.js_call_streams.specs.Update.{OrCreates, Updates, UpdatesOrCreates}
use Rattle.js_call_streams.proofs.create_or_update.update_or_create.Goals as goal

-- a first call that changes the stream, and then the one that makes it
updates : (first : Call UpdatingStream) (scope : ApiScope) (config : Config) (r : Result (Then (Call UpdatingStream) (Call CreatingInfo) IfNotFound) OutOfMemory)
    → Updates scope config first → IfOk r (λ calls. OrCreates first scope config calls)
    → IfOk r (λ calls. UpdatesOrCreates scope config calls)
updates first scope config (Ok calls) is h = (first, h.0, is, h.1, h.2)
updates first scope config (Err e) is h = tt

pub returns : goal.returns
returns g c =
    updates c.in_ok-first.first c.args.scope.now (g.C.Placing.config c.args.config) c.or_create.result
    (subst (λ (config : Config). Updates c.args.scope.now config c.in_ok-first.first) c.config.ensures c.in_ok-first.ensures) c.or_create.ensures
