use Rattle.std.proofs.Common.{length}
use Rattle.js_link_outbox.specs.Outbox.{outgoing}
use Rattle.jetstream_testing.proofs.server.TestServer.serve.Given as goal

abbrev pub decreases-items : goal.decreases-items
decreases-items l = length (outgoing l.link)
