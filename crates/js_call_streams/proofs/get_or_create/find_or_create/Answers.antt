use Rattle.std.proofs.Common.{◌≡◌, Result, Ok, Err, ◌∙◌, ap}
use Rattle.std.specs.Prelude.{IfOk}
use Rattle.js_base.specs.declared.memory.OutOfMemory.{OutOfMemory}
use Rattle.js_call.specs.declared.call.Call.{Call}
use Rattle.js_call.specs.declared.scope.ApiScope.{ApiScope}
use Rattle.js_call.specs.declared.call_sequence.IfAbsent.{IfAbsent}
use Rattle.js_call.specs.declared.call_sequence.Then.{Then}
use Rattle.js_call.specs.declared.call_sequence.Then.TheVariants.{First}
use Rattle.js_json_stream_bodies.specs.declared.stream.config.Config.{Config}
use Rattle.js_call_streams.specs.declared.create.CreatingStream.{CreatingStream}
use Rattle.js_call_streams.specs.declared.get_or_create.StreamLookup.{StreamLookup}
use Rattle.js_call_streams.specs.Create.{lookup, FindsOrCreates, OrCreates}
use Rattle.js_call_streams.proofs.get_or_create.find_or_create.Goals as goal

-- a first call that finds the stream, and then the one that makes it
finds : (first : Call StreamLookup) (scope : ApiScope) (config : Config) (r : Result (Then (Call StreamLookup) (Call CreatingStream) IfAbsent) OutOfMemory)
    → first ≡ lookup scope config.name → IfOk r (λ calls. OrCreates first scope config calls)
    → IfOk r (λ calls. FindsOrCreates scope config calls)
finds first scope config (Ok calls) is h =
    (h.0, h.1, h.2 ∙ ap (λ (f : Call StreamLookup). First f h.0 (record {})) is)
finds first scope config (Err e) is h = tt

pub returns : goal.returns
returns g c =
    finds c.in_ok-first.first c.args.scope.now (g.C.Placing.config c.args.config) c.or_create.result
    (c.in_ok-first.ensures ∙ ap (lookup c.args.scope.now) (c.as_str.ensures ∙ ap (λ (config : Config). config.name) c.config.ensures)) c.or_create.ensures
