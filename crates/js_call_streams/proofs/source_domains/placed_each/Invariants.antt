use Rattle.std.proofs.Common.{◌≡◌, take, map}
use Rattle.js_call_streams.specs.SourceDomains.{placed}
use Rattle.js_call_streams.proofs.source_domains.placed_each.Given as goal

abbrev pub invariant-loop-source : goal.invariant-loop-source
invariant-loop-source l = l.there.items ≡ map placed (take l.source-index l.sources)
